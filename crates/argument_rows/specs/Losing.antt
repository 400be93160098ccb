-- What can be an argument, and a text that would lose its node to one that can't.
use Rattle.std.specs.Prelude.{◌≡◌, ℕ, Bool, true, false, List, [], ◌∷◌, Some, None, codes}
use Rattle.norm_lang.specs.declared.text.Reg.TheVariants.{Num, Ref}
use Rattle.norm_lang.specs.declared.text.Start.TheVariants as starts
use Rattle.norm_lang.specs.declared.text.Instr.TheVariants as instr
use Rattle.norm_lang.specs.declared.text.Text.{Text}
use Rattle.norm_lang.specs.LineWords.{item_kind}
use Rattle.norm_lang.specs.Shipped.{number_field, reference_root, root_entry, retiring}
use Rattle.source_machine.specs.declared.event.SourceEvent.{SourceEvent}
use Rattle.source_machine.specs.declared.event.SourceEvent.TheVariants.{Begin, Access}
use Rattle.norm_lang.specs.declared.reply.SourceReply.TheVariants as replies
use Rattle.source_machine.specs.declared.state.Value.TheVariants.{Node}
use Rattle.source_machine.specs.declared.state.SourceMachine.{SourceMachine}
use Rattle.source_machine.specs.State.{source_start}
use Rattle.source_machine.specs.Run.{is_enabled, source_step, source_run}
use Rattle.source_machine.specs.MethodRuns.{MethodRun}
use Rattle.source_machine.specs.Proper.{IsProperState}

-- the operation retires the node in the root, and leaves it there, if its argument is more than the greatest word
abbrev pub losing : Text
losing = record {
  kinds = item_kind ∷ [];
  fields = number_field (codes "v") ∷ [];
  roots = reference_root (codes "h") 1 ∷ [];
  nodes = record { owner = 0; values = starts.Value 5 ∷ [] } ∷ [];
  ops = record {
    name = codes "lose";
    args = 1;
    generator =
        instr.Set (Num 1) 18446744073709551615
        ∷ instr.IfLess (Num 1) (Num 0) 3
        ∷ instr.Commit []
        ∷ instr.LoadRoot (Ref 0) 0
        ∷ instr.Commit (retiring (root_entry 0 (Ref 0) (Ref 0)) (Ref 0) ∷ [])
        ∷ [];
    wrapup = instr.ReturnNone ∷ [];
  } ∷ [];
}

-- whether the operation begins with these arguments
abbrev pub takes : List ℕ → Bool
takes args = is_enabled losing (source_start losing 1) (Begin 0 0 args)

-- the state after events, each made whether it is enabled or not
abbrev pub stepped : Text → List SourceEvent → SourceMachine → SourceMachine
stepped text [] state = state
stepped text (event ∷ events) state = stepped text events (source_step text state event)

-- what would come of an argument of 2^64
abbrev pub lost : SourceMachine
lost = stepped losing (Begin 0 0 (18446744073709551616 ∷ 0 ∷ 0 ∷ 0 ∷ []) ∷ Access 0 0 ∷ Access 0 0 ∷ []) (source_start losing 1)

-- the state with this reply of the one caller, and with nothing retired
abbrev pub kept : SourceMachine
kept = record (source_start losing 1) { callers = record { replies = replies.Nothing ∷ []; running = None } ∷ [] }

pub record ArgumentRows : Type 0 where
  pub greatest_word : takes (18446744073709551615 ∷ 0 ∷ 0 ∷ 0 ∷ []) ≡ true
  pub one_more : takes (18446744073709551616 ∷ 0 ∷ 0 ∷ 0 ∷ []) ≡ false
  pub past_the_count : takes (5 ∷ 1 ∷ 0 ∷ 0 ∷ []) ≡ false
  pub last_past_the_count : takes (5 ∷ 0 ∷ 0 ∷ 1 ∷ []) ≡ false
  pub none : takes [] ≡ false
  pub three : takes (5 ∷ 0 ∷ 0 ∷ []) ≡ false
  pub five : takes (5 ∷ 0 ∷ 0 ∷ 0 ∷ 0 ∷ []) ≡ false
  -- with the greatest word nothing is retired
  pub keeps : source_run losing (Begin 0 0 (18446744073709551615 ∷ 0 ∷ 0 ∷ 0 ∷ []) ∷ Access 0 0 ∷ []) (source_start losing 1) ≡ Some kept
  -- With one more, if it could be given, the steps would retire the node that the root leads to: a text would be improper for a
  -- call that no caller can make
  pub would_retire : lost.memory.retired ≡ 1 ∷ []
  pub would_stay : lost.memory.roots ≡ Node (record { node = 1; marked = false }) ∷ []
  pub would_be_improper : (runs : ℕ → MethodRun) → ¬ IsProperState lost runs
