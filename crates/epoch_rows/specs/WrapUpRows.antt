-- Accesses of a wrap-up: the announcement of the operation's begin stands until the reply, so what its wrap-up loads isn't recycled before. Two
-- callers run the text of a root that is swapped, with two slots; and a text whose wrap-up loads before it replies or begins again.
use Rattle.std.specs.Prelude.{◌≡◌, ℕ, List, [], ◌∷◌, ◌++◌, Some}
use Rattle.norm_lang.specs.declared.reply.SourceReply.TheVariants as replies
use Rattle.oa_words.specs.Words.{Word, Phase, Warning, Status, FieldOf, Cell}
use Rattle.target_code.specs.declared.target.Target.{Target}
use Rattle.target_code.specs.Bare.{bare}
use Rattle.caller_parts.specs.declared.setting.Reclamation.TheVariants.{Epochs}
use Rattle.caller_parts.specs.Settings.{Setting}
use Rattle.caller_steps.specs.Signs.{Begins, Accesses}
use Rattle.core_runs.specs.Machine.{CoreEvent}
use Rattle.core_rows.specs.Short.{call_of, setting_of, no_slots}
use Rattle.core_rows.specs.SmallTexts.{swap_text, tally_text}
use Rattle.core_rows.specs.Stories.{Line, Load, Store, Exchange, gives, silent, story, lines_after, left_after, steps, calls, reads, puts, exchanges, draws, looks, takes, retires, raises, finds, frees, pushes}
use Rattle.epoch_rows.specs.EpochStories.{enters, enters_again, withdraws, leaves, heeds, reads_last, gives_up, word_after}

-- ---- lines

-- an exchange of a wrap-up after which local code comes to its end
abbrev pub exchanges_last : Word → ℕ → ℕ → Line
exchanges_last w expected replacement = gives (Exchange w expected replacement expected) (Accesses ∷ Accesses ∷ [])

-- ---- a node that is read by a wrap-up. The root holds the node in slot 1, whose number is 40

abbrev pub swap_code : Target
swap_code = bare swap_text

abbrev pub swap_setting : Setting
swap_setting = record (setting_of 2 2 1 2 1 1000) { reclamation = Epochs }

-- `peek` of caller 1 has nothing to exchange: with its announcement its generator ends, and its wrap-up loads the root. It stands before
-- the load of the node's number
abbrev pub peek_begun : List Line
peek_begun = silent (Load Phase 1) ∷ gives (Store (Warning 1) 1) (Begins (call_of 1 0) ∷ Accesses ∷ []) ∷ reads (Cell 0) 2 ∷ []

-- the wrap-up of a `swap`: it loads the root, and notes in the second root what it found
abbrev pub noted : ℕ → ℕ → List Line
noted reference before = reads (Cell 0) reference ∷ reads (Cell 1) before ∷ exchanges_last (Cell 1) before reference ∷ leaves 0 ∷ []

-- `swap 7` of caller 0 puts a node in slot 2 into the root, and retires that in slot 1 in phase 1
abbrev pub seven_in : List Line
seven_in = story (
    enters 0 1 (call_of 0 7)
    ∷ (reads (Cell 0) 2 ∷ [])
    ∷ takes 2 8194 0 8192 5
    ∷ (draws 2 0 ∷ puts (FieldOf 2 0) 7 ∷ exchanges (Cell 0) 2 4 2 ∷ [])
    ∷ retires 1 1 6
    ∷ noted 4 0
    ∷ [])

-- its `swap 9` sweeps twice. Phase 1 is announced, in which slot 1 was retired
abbrev pub nine_refused : List Line
nine_refused = story (
    enters 0 1 (call_of 0 9)
    ∷ (reads (Cell 0) 4 ∷ looks 8192 ∷ withdraws 0 ∷ [])
    ∷ raises 1 2
    ∷ (heeds 0 0 ∷ heeds 1 1 ∷ finds 2 5 ∷ finds 1 6 ∷ looks 8192 ∷ [])
    ∷ raises 2 3
    ∷ (heeds 0 0 ∷ heeds 1 1 ∷ finds 2 5 ∷ finds 1 6 ∷ gives_up 8192 ∷ [])
    ∷ [])

abbrev pub peeks : List CoreEvent
peeks = calls 1 (call_of 1 0) 3

abbrev pub swapped : List CoreEvent
swapped = peeks ++ calls 0 (call_of 0 7) 16

abbrev pub held : List CoreEvent
held = swapped ++ calls 0 (call_of 0 9) 19

-- caller 1 reads the node that was taken out, and withdraws its announcement with the reply. Now a sweep makes slot 1 ready
abbrev pub peek_ends : List Line
peek_ends = reads_last (FieldOf 1 0) 40 ∷ leaves 1 ∷ []

abbrev pub nine_in : List Line
nine_in = story (
    enters 0 3 (call_of 0 9)
    ∷ (reads (Cell 0) 4 ∷ looks 8192 ∷ withdraws 0 ∷ [])
    ∷ raises 3 4
    ∷ (heeds 0 0 ∷ heeds 1 0 ∷ finds 2 5 ∷ finds 1 6 ∷ frees 1 6 16 ∷ [])
    ∷ pushes 1 8192 0 32769
    ∷ takes 1 32769 0 32768 17
    ∷ enters_again 0 4
    ∷ (reads (Cell 0) 4 ∷ draws 1 0 ∷ puts (FieldOf 1 0) 9 ∷ exchanges (Cell 0) 4 2 4 ∷ [])
    ∷ retires 2 4 18
    ∷ noted 2 4
    ∷ [])

abbrev pub peeked : List CoreEvent
peeked = held ++ steps 1 2

abbrev pub nine_there : List CoreEvent
nine_there = peeked ++ calls 0 (call_of 0 9) 31

pub record WrapUpRows : Type 0 where
  pub begins : lines_after swap_code swap_setting [] peeks ≡ peek_begun
  pub swaps : lines_after swap_code swap_setting peeks (calls 0 (call_of 0 7) 16) ≡ seven_in
  pub refuses : lines_after swap_code swap_setting swapped (calls 0 (call_of 0 9) 19) ≡ nine_refused
  pub announced : word_after swap_code swap_setting held (Warning 1) ≡ Some 1
  pub retired : word_after swap_code swap_setting held (Status 1) ≡ Some 6
  pub reads : lines_after swap_code swap_setting held (steps 1 2) ≡ peek_ends
  pub swaps_again : lines_after swap_code swap_setting peeked (calls 0 (call_of 0 9) 31) ≡ nine_in
  pub left : left_after swap_code swap_setting nine_there 0
      ≡ Some (record { replies = replies.Number 8 ∷ replies.Full ∷ replies.Number 10 ∷ []; cradles = no_slots; restarts = 1; claims = 2 })
  pub other_left : left_after swap_code swap_setting nine_there 1 ≡ Some (record { replies = replies.Number 40 ∷ []; cradles = no_slots; restarts = 0; claims = 0 })

-- ---- a wrap-up that loads the total once more, before it replies it or begins the operation again

abbrev pub tally_code : Target
tally_code = bare tally_text

abbrev pub tally_setting : Setting
tally_setting = record (setting_of 2 2 1 1 0 1000) { reclamation = Epochs }

-- caller 0 has loaded the total for its `tally 5`, and caller 1 makes a whole `tally 3`
abbrev pub loaded : List CoreEvent
loaded = calls 0 (call_of 0 5) 3

abbrev pub three_added : List Line
three_added = story (enters 1 1 (call_of 0 3) ∷ (reads (Cell 0) 0 ∷ exchanges (Cell 0) 0 3 0 ∷ reads_last (Cell 0) 3 ∷ leaves 1 ∷ []) ∷ [])

-- its exchange fails, and its wrap-up loads what caller 1 has put, before the operation begins again
abbrev pub five_again : List Line
five_again = story (
    (exchanges (Cell 0) 0 5 3 ∷ reads_last (Cell 0) 3 ∷ [])
    ∷ enters_again 0 1
    ∷ (reads (Cell 0) 3 ∷ exchanges (Cell 0) 3 8 3 ∷ [])
    ∷ [])

-- before the load of its second wrap-up caller 1 adds 2: the reply is what was loaded, and not its own sum
abbrev pub disturbed : List CoreEvent
disturbed = loaded ++ calls 1 (call_of 0 3) 6

abbrev pub exchanged : List CoreEvent
exchanged = disturbed ++ steps 0 6

abbrev pub two_more : List CoreEvent
two_more = exchanged ++ calls 1 (call_of 0 2) 6

pub record TallyRows : Type 0 where
  pub other : lines_after tally_code tally_setting loaded (calls 1 (call_of 0 3) 6) ≡ three_added
  pub again : lines_after tally_code tally_setting disturbed (steps 0 6) ≡ five_again
  pub stands : word_after tally_code tally_setting two_more (Warning 0) ≡ Some 1
  pub ends : lines_after tally_code tally_setting two_more (steps 0 2) ≡ reads_last (Cell 0) 10 ∷ leaves 0 ∷ []
  pub left : left_after tally_code tally_setting (two_more ++ steps 0 2) 0 ≡ Some (record { replies = replies.Number 10 ∷ []; cradles = no_slots; restarts = 0; claims = 0 })
  pub other_left : left_after tally_code tally_setting (two_more ++ steps 0 2) 1
      ≡ Some (record { replies = replies.Number 3 ∷ replies.Number 10 ∷ []; cradles = no_slots; restarts = 0; claims = 0 })
