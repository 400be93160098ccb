-- A `new`: from its clear on, and through the accesses of its claim.
use Rattle.std.proofs.Common.{◌≡◌, ℕ, zero, suc, ◌+◌, ◌<◌, ◌^◌, true, false, not, List, [], ◌∷◌, length, Option, Some, None, ◌==◌, refl, sym, ◌∙◌, ap, subst, arith, ⊎_elim, inl, inr}
use Rattle.std.specs.Prelude.{nat_lt, slice_get}
use Rattle.std.proofs.lemmas.Bool.Decides.{nat_tests}
use Rattle.norm_lang.specs.declared.text.Reg.TheVariants.{Ref}
use Rattle.target_code.specs.declared.target.TargetInstr.{TargetInstr}
use Rattle.target_code.specs.declared.target.Target.{Target}
use Rattle.oa_words.specs.Words.{Sizes}
use Rattle.phase_pools.specs.declared.access.ClaimEnd.{ClaimEnd}
use Rattle.phase_pools.specs.declared.access.ClaimEnd.TheVariants as ends
use Rattle.phase_pools.specs.declared.stages.Scheme.TheVariants.{Warned}
use Rattle.phase_pools.specs.Accesses.{WordAccess, Loads, Stores, Exchanges, Raises}
use Rattle.phase_pools.specs.Pools.{Claim, ClaimTurn, claim_begun, claim_wants, claim_accepts}
use Rattle.caller_parts.specs.declared.setting.Reclamation.TheVariants.{Optimistic}
use Rattle.caller_parts.specs.declared.routine.Routine.TheVariants.{Claims}
use Rattle.caller_parts.specs.KindCounts.{field_count}
use Rattle.caller_parts.specs.Operands.{kind_made}
use Rattle.caller_parts.specs.Settings.{Setting, Fits, IsSetting}
use Rattle.caller_steps.specs.Entries.{Entry, new_number, cradle_of}
use Rattle.caller_steps.specs.After.{after, with_routine, new_begun, new_on, claim_on}
use Rattle.caller_steps.specs.Lawful.{MayBeTold}
use Rattle.c_language.specs.declared.lines.Answer.TheVariants as answers
use Rattle.c_language.specs.declared.lines.Line.{Line}
use Rattle.c_language.specs.Steps.{Pool, Kept, Frame, Stop, stop, set, with_local, onward, goes_to, has_cradle}
use Rattle.c_language.specs.Steps as steps
use Rattle.c_language.specs.Runs.{Comes}
use Rattle.c_language.specs.Threads.{Waiting, Thread, turn, turn_of, lines_of, frame_begun, with_frame}
use Rattle.c_language.specs.Threads as threads
use Rattle.c_language.proofs.Walking.{here, goes_if, leads}
use Rattle.c_runtime.specs.KindLines.{HasLines}
use Rattle.c_runtime.specs.ClaimLines.{claim_lines}
use Rattle.c_runtime.specs.ClaimFrames as frames
use Rattle.c_runtime.specs.Laws.{claim_code, answer_of, Arrives, FitsOn, GetsOn}
use Rattle.c_runtime.specs.Laws as claiming
use Rattle.c_runtime.proofs.Claims.{claims_are_made}
use Rattle.c_runtime.proofs.Fitting as fitting
use Rattle.c_emission.specs.Ends.{cradle_block}
use Rattle.emission_laws.specs.Hands.{StandsFor, known_of}
use Rattle.emission_laws.specs.Making.{RunsFor}
use Rattle.emission_laws.proofs.Frames.{scratched, moved_to}
use Rattle.emission_laws.proofs.Sides.{line_is, wants_by, after_by, slots_small}
use Rattle.exchange_laws.proofs.Steps.{isnt_zero, is_defined, stands_by}
use Rattle.c_calls.specs.Turns.{Leads, MakesTurn, WaitsTurn, Asks}
use Rattle.c_calls.specs.News.{AtNew, HasCleared, StandsZeroing, waiting_frame, StandsClaiming, EndsWith, NewGoes, ClaimGoes, claiming_on, IsFit, NewsAreMade}
use Rattle.c_calls.proofs.Turning.{stays, moves, thread_of, lifted, walked, by_parts, also}
use Rattle.c_calls.proofs.Zeroing.{cradle_part}
use Rattle.c_calls.proofs.Zeroing as zeroing
use Rattle.c_calls.proofs.Fitting.{claim_fits, claim_told, claim_kind}
use Rattle.c_calls.proofs.Claiming.{with_quiet, wants_same, goes_same, number_small, full, over, claimed}

-- the claim of a kind is the function of that number
kind_lines_are : (pool : Pool) (functions : List (List Line)) (target : Target) (setting : Setting) (kind : ℕ) → pool.sizes ≡ setting.sizes → Fits target setting
    → lines_of functions kind ≡ claim_lines kind (length target.kinds) → lines_of functions kind ≡ claim_code pool kind
kind_lines_are pool functions target setting kind sizes fits is = is ∙ ap (claim_lines kind) (sym fits.kinds ∙ ap (λ (n : Sizes). length n.kinds) (sym sizes))

-- the operation that waits, while the claim's frame is one with the same cradles
waits_still : (e : Entry) (base : ℕ) (locals : ℕ → ℕ) (from to : Kept) → to.cradles ≡ from.cradles → StandsFor e e.hand.registers (base + 27) (waiting_frame base locals from)
    → StandsFor e e.hand.registers (base + 27) (waiting_frame base locals to)
waits_still e base locals from to same stands =
    with_quiet (known_of e) e.hand.registers (base + 27) (waiting_frame base locals from) (record to { noted = λ j. false }) (λ k. ap (λ (c : ℕ → ℕ). c k) same) (λ j some. refl) stands

-- ---- an access of the claim

module _ (pool : Pool) (functions : List (List Line)) (target : Target) (setting : Setting) (e : Entry) (claim : Claim) (d kind op base : ℕ)
    (runs : RunsFor pool target setting e) (callers : setting.sizes.callers < 2 ^ 64) (fits : Fits target setting) (new : AtNew functions target e d kind op base)
    (at : e.routine ≡ Claims claim) (fit : IsFit target setting e) where
  kind_is : claim.kind ≡ kind
  kind_is = claim_kind pool target setting e claim runs callers at fit d kind new.is

  fitting_claim : claiming.Fits pool claim
  fitting_claim = claim_fits pool target setting e claim runs callers at fit

  lines_are : lines_of functions kind ≡ claim_code pool kind
  lines_are = kind_lines_are pool functions target setting kind runs.sizes fits new.claims

  abbrev waiting : (ℕ → ℕ) → Waiting
  waiting locals = record { function = op; at = base + 27; locals = locals; result = 30 }

  small : new_number target e < 16
  small = number_small target setting e d kind runs.is_setting fits (let low = fitting_claim.kind in let same = kind_is in let sizes = ap (λ (n : Sizes). length n.kinds) runs.sizes in let count = fits.kinds in omega (arith, low, same, sizes, count)) new.is new.few

  -- where its lines arrive
  arrived : (word : ℕ) (next : Claim) (ended : Option ClaimEnd) (locals : ℕ → ℕ) (from : Kept) (f : Frame)
      → after target setting e word ≡ (claim_on Optimistic target next ended (claiming_on setting e claim word)).entry → FitsOn pool next ended
      → Comes pool (claim_code pool kind) f (Arrives pool kind next ended) → f.kept.cradles ≡ from.cradles
      → StandsFor e e.hand.registers (base + 27) (waiting_frame base locals from) → HasCleared e
      → Leads pool functions (thread_of kind (waiting locals ∷ []) f) (ClaimGoes pool functions target (after target setting e word) (claiming_on setting e claim word) kind op base next ended)
  arrived word next None locals from f is fitting comes same stands cleared =
      walked pool functions kind (waiting locals ∷ []) (claim_code pool kind) comes.count f comes.frame (ClaimGoes pool functions target (after target setting e word) (claiming_on setting e claim word) kind op base next None) lines_are comes.goes
      (stays (
        is,
        record {
          function = refl;
          claims = comes.there;
          locals = locals;
          waits = refl;
          stands = waits_still e base locals from comes.frame.kept (goes_same pool kind comes.count f comes.frame comes.goes ∙ same) stands;
          cleared = cleared;
        },
      ))
  arrived word next (Some end) locals from f is fitting comes same stands cleared =
      walked pool functions kind (waiting locals ∷ []) (claim_code pool kind) comes.count f comes.frame (ClaimGoes pool functions target (after target setting e word) (claiming_on setting e claim word) kind op base next (Some end)) lines_are comes.goes
      (moves (thread_of op [] (record { at = base + 27; locals = set locals 30 (answer_of end); kept = comes.frame.kept }))
      (ap (λ (code : List Line). turn_of (thread_of kind (waiting locals ∷ []) comes.frame) (stop pool code comes.frame)) lines_are ∙ ap (turn_of (thread_of kind (waiting locals ∷ []) comes.frame)) comes.there.returns)
      (by_end end is fitting (waits_still e base locals from comes.frame.kept (goes_same pool kind comes.count f comes.frame comes.goes ∙ same) stands) comes.there.quiet))
    where
      here_new : AtNew functions target (claiming_on setting e claim word) d kind op base
      here_new = record { is = new.is; low = new.low; few = new.few; has = new.has; claims = new.claims }

      by_end : (end : ClaimEnd) → after target setting e word ≡ (claim_on Optimistic target next (Some end) (claiming_on setting e claim word)).entry → FitsOn pool next (Some end)
          → StandsFor e e.hand.registers (base + 27) (waiting_frame base locals comes.frame.kept) → frames.Quiet comes.frame.kept
          → Leads pool functions (thread_of op [] (record { at = base + 27; locals = set locals 30 (answer_of end); kept = comes.frame.kept }))
          (ClaimGoes pool functions target (after target setting e word) (claiming_on setting e claim word) kind op base next (Some end))
      by_end (ends.Claimed j) settled bounds standing quiet =
          also (claimed pool functions target (claiming_on setting e claim word) d kind op base here_new small runs.belongs.cradles.count locals comes.frame.kept quiet standing cleared j bounds.0
          (let high = bounds.1 in let sizes = ap (λ (n : Sizes). n.slots) runs.sizes in let few = slots_small pool target setting e runs in omega (arith, high, sizes, few)))
          (λ t there. (settled, there.0, there.1))
      by_end ends.Full settled bounds standing quiet =
          also (full pool functions target (claiming_on setting e claim word) d kind op base here_new small runs.belongs.cradles.count locals comes.frame.kept quiet standing cleared) (λ t there. (settled, there))
      by_end (ends.PhasesOver p) settled bounds standing quiet =
          also (over pool functions target (claiming_on setting e claim word) d kind op base here_new small runs.belongs.cradles.count locals comes.frame.kept quiet standing cleared)
          (λ t there. (settled, subst (λ (x : ℕ). EndsWith pool functions (claiming_on setting e claim word) answers.Phases x t) (sym bounds) there))

  -- the claim waits: it stands as it stood
  gets_on : (word : ℕ) (a : WordAccess) (f : Frame) → GetsOn pool kind claim word a f → Comes pool (claim_code pool kind) f (frames.Stands pool.sizes claim)
  gets_on word (Loads w) f on = leads on.1 (λ g before. before.stands)
  gets_on word (Exchanges w expected replacement) f on = leads on.1 (λ g before. before.stands)
  gets_on word (Stores w x) f on = absurd on
  gets_on word (Raises w x) f on = absurd on

  turn_is : (word : ℕ) → claim_accepts pool.sizes pool.last claim word ≡ claim_accepts setting.sizes setting.last claim word
  turn_is word = ap (λ (n : Sizes). claim_accepts n pool.last claim word) runs.sizes ∙ ap (λ (last : ℕ). claim_accepts setting.sizes last claim word) runs.last

  pub claim_made : (first : Thread) → StandsClaiming pool e claim kind op base first
      → Asks pool functions target setting e (StandsClaiming pool e claim kind op base)
      (λ word. ClaimGoes pool functions target (after target setting e word) (claiming_on setting e claim word) kind op base
      (claim_accepts setting.sizes setting.last claim word).claim (claim_accepts setting.sizes setting.last claim word).ended) first
  claim_made first stands = record {
    access = step.access;
    next = λ word. with_frame first (step.next word);
    stops = ap (λ (k : ℕ). turn_of first (stop pool (lines_of functions k) first.frame)) stands.function
        ∙ (ap (λ (code : List Line). turn_of first (stop pool code first.frame)) lines_are ∙ ap (turn_of first) step.wants);
    wanted = claim_wants claim;
    wants = wants_by target e (Claims claim) at;
    same = step.same;
    each = λ word told. ⊎_elim (λ (made : claiming.Makes pool kind claim step.access word (step.next word)). inl (makes word told made)) (λ (waits : claiming.Waits pool kind claim step.access word (step.next word)). inr (stands_still word waits))
        (step.each word (claim_told pool target setting e claim runs callers at fit word told));
  } where
    step : claiming.Steps pool kind claim first.frame
    step = subst (λ (k : ℕ). claiming.Steps pool k claim first.frame) kind_is (claims_are_made.steps pool claim first.frame fitting_claim stands.claims)

    same_after : (word : ℕ) → (step.next word).kept.cradles ≡ first.frame.kept.cradles
    same_after word = wants_same pool kind first.frame step.access step.next step.wants word

    makes : (word : ℕ) → MayBeTold target setting (Some (claim_wants claim)) word → claiming.Makes pool kind claim step.access word (step.next word)
        → MakesTurn pool functions step.access (claim_wants claim) word (ClaimGoes pool functions target (after target setting e word) (claiming_on setting e claim word) kind op base
        (claim_accepts setting.sizes setting.last claim word).claim (claim_accepts setting.sizes setting.last claim word).ended) (with_frame first (step.next word))
    makes word told made = record {
      leaves = made.leaves;
      leads = by_parts pool functions kind (waiting stands.locals ∷ []) (with_frame first (step.next word))
          (ClaimGoes pool functions target (after target setting e word) (claiming_on setting e claim word) kind op base (claim_accepts setting.sizes setting.last claim word).claim (claim_accepts setting.sizes setting.last claim word).ended)
          stands.function stands.waits
          (arrived word (claim_accepts setting.sizes setting.last claim word).claim (claim_accepts setting.sizes setting.last claim word).ended stands.locals first.frame.kept (step.next word)
          (after_by target setting e word (Claims claim) runs.by at)
          (subst (λ (t : ClaimTurn). FitsOn pool t.claim t.ended) (turn_is word) (fitting.claims_fit.keeps pool claim word fitting_claim (claim_told pool target setting e claim runs callers at fit word told)))
          (subst (λ (t : ClaimTurn). Comes pool (claim_code pool kind) (step.next word) (Arrives pool kind t.claim t.ended)) (turn_is word) made.follows)
          (same_after word) stands.stands stands.cleared);
    }

    stands_still : (word : ℕ) → claiming.Waits pool kind claim step.access word (step.next word)
        → WaitsTurn pool functions step.access (claim_wants claim) word (StandsClaiming pool e claim kind op base) (with_frame first (step.next word))
    stands_still word waits = record {
      caller = waits.caller;
      phase = claim.sweep.bound;
      raises = waits.raises;
      leaves = waits.leaves;
      leads =
          let comes = gets_on word step.access (step.next word) waits.on in
          by_parts pool functions kind (waiting stands.locals ∷ []) (with_frame first (step.next word)) (StandsClaiming pool e claim kind op base) stands.function stands.waits
          (walked pool functions kind (waiting stands.locals ∷ []) (claim_code pool kind) comes.count (step.next word) comes.frame (StandsClaiming pool e claim kind op base) lines_are comes.goes
          (stays (record {
            function = refl;
            claims = comes.there;
            locals = stands.locals;
            waits = refl;
            stands = waits_still e base stands.locals first.frame.kept comes.frame.kept (goes_same pool kind comes.count (step.next word) comes.frame comes.goes ∙ same_after word) stands.stands;
            cleared = stands.cleared;
          })));
    }

-- ---- from the clear on

module _ (pool : Pool) (functions : List (List Line)) (target : Target) (setting : Setting) (e : Entry) (d kind op base : ℕ)
    (sizes : pool.sizes ≡ setting.sizes) (valid : IsSetting setting) (fits : Fits target setting) (low : kind < length target.kinds) (new : AtNew functions target e d kind op base)
    (cleared : HasCleared e) (f : Frame) (stands : StandsFor e e.hand.registers (base + 24) f) where
  cradle : ℕ
  cradle = new_number target e

  lines_here : HasLines (lines_of functions op) (base + 24) (cradle_block (base + 24) kind (new_number target e))
  lines_here = cradle_part (lines_of functions op) base (Ref d) kind (new_number target e) (field_count target.fields kind) new.has

  few : new_number target e < 16
  few = number_small target setting e d kind valid fits low new.is new.few

  got : Frame
  got = with_local 30 (f.kept.cradles (new_number target e)) f

  standing : StandsFor e e.hand.registers (base + 25) (with_local 30 (f.kept.cradles (new_number target e)) f)
  standing = scratched (known_of e) e.hand.registers (base + 24) (base + 25) f 30 (f.kept.cradles (new_number target e)) (omega arith) (omega arith) (omega arith) stands

  held : f.kept.cradles (new_number target e) ≡ cradle_of e (new_number target e)
  held = stands.carried.cradles (new_number target e) few

  line_in : (g : Frame) (i : ℕ) → i < 8 → g.at ≡ base + 24 + i → stop pool (lines_of functions op) g ≡ steps.stop_at pool g (slice_get (cradle_block (base + 24) kind (new_number target e)) i)
  line_in g i lt at = line_is pool (lines_of functions op) (base + 24) (cradle_block (base + 24) kind (new_number target e)) g i lines_here lt at

  settled : ℕ → Entry
  settled j = new_on Warned setting.sizes kind (new_number target e) j e

  settled_is : (j : ℕ) → cradle_of e (new_number target e) ≡ j → new_begun Warned target setting.sizes e ≡ new_on Warned setting.sizes kind (new_number target e) j e
  settled_is j is = ap (λ (i : Option TargetInstr). new_on Warned setting.sizes (kind_made i) (new_number target e) (cradle_of e (new_number target e)) e) new.is ∙ ap (λ (x : ℕ). new_on Warned setting.sizes kind (new_number target e) x e) is

  abbrev There : Thread → Type 0
  There t = NewGoes pool target (new_begun Warned target setting.sizes e) e kind op base t

  -- the cradle has a slot
  full_cradle : (j : ℕ) → cradle_of e (new_number target e) ≡ suc j → Leads pool functions (thread_of op [] (with_local 30 (f.kept.cradles (new_number target e)) f)) (NewGoes pool target (new_begun Warned target setting.sizes e) e kind op base)
  full_cradle j is =
      lifted pool functions op [] (lines_of functions op) (with_local 30 (f.kept.cradles (new_number target e)) f) (StandsZeroing e (new_number target e) 0 base) (NewGoes pool target (new_begun Warned target setting.sizes e) e kind op base) refl
      (goes_if {pool = pool} {code = lines_of functions op} {f = with_local 30 (f.kept.cradles (new_number target e)) f} (not (f.kept.cradles (new_number target e) == 0)) true (base + 24 + 8)
      (line_in (with_local 30 (f.kept.cradles (new_number target e)) f) 1 (omega arith) (standing.at ∙ omega arith)) (ap not (ap (λ (x : ℕ). x == 0) (held ∙ is) ∙ isnt_zero j))
      (here (record {
        stands = stands_by (known_of e) e.hand.registers (base + 24 + 8) (base + 32 + 0) (goes_to (base + 24 + 8) (with_local 30 (f.kept.cradles (new_number target e)) f)) (omega arith)
            (moved_to (known_of e) e.hand.registers (base + 25) (base + 24 + 8) (with_local 30 (f.kept.cradles (new_number target e)) f) standing);
        slot = held;
        cleared = cleared;
      })))
      (λ g there. stays (record {
        claims = λ none. let no : suc j ≡ 0 = sym is ∙ none in absurd (omega (arith, no));
        zeroes = λ some. (settled_is (suc j) is, record { function = refl; alone = refl }, there);
      }))

  -- the cradle is empty: a claim is called
  empty_cradle : cradle_of e (new_number target e) ≡ 0 → Leads pool functions (thread_of op [] (with_local 30 (f.kept.cradles (new_number target e)) f)) (NewGoes pool target (new_begun Warned target setting.sizes e) e kind op base)
  empty_cradle none =
      lifted pool functions op [] (lines_of functions op) (with_local 30 (f.kept.cradles (new_number target e)) f) (λ (g : Frame). g ≡ onward (with_local 30 (f.kept.cradles (new_number target e)) f)) (NewGoes pool target (new_begun Warned target setting.sizes e) e kind op base) refl
      (goes_if {pool = pool} {code = lines_of functions op} {f = with_local 30 (f.kept.cradles (new_number target e)) f} (not (f.kept.cradles (new_number target e) == 0)) false (base + 24 + 8)
      (line_in (with_local 30 (f.kept.cradles (new_number target e)) f) 1 (omega arith) (standing.at ∙ omega arith)) (ap not (ap (λ (x : ℕ). x == 0) (held ∙ none)))
      (here refl))
      (λ g same. subst (λ (h : Frame). Leads pool functions (thread_of op [] h) (NewGoes pool target (new_begun Warned target setting.sizes e) e kind op base)) (sym same) calls)
    where
      calling : Frame
      calling = onward (with_local 30 (f.kept.cradles (new_number target e)) f)

      waits_here : Waiting
      waits_here = record { function = op; at = base + 27; locals = set f.locals 30 (f.kept.cradles (new_number target e)); result = 30 }

      called_is : (at : ℕ) → at ≡ base + 27
          → threads.Goes (record { function = kind; frame = frame_begun [] f.kept; waiting = record { function = op; at = at; locals = set f.locals 30 (f.kept.cradles (new_number target e)); result = 30 } ∷ [] })
          ≡ threads.Goes (thread_of kind (record { function = op; at = base + 27; locals = set f.locals 30 (f.kept.cradles (new_number target e)); result = 30 } ∷ []) (frame_begun [] f.kept))
      called_is at is = ap (λ (x : ℕ). threads.Goes (record { function = kind; frame = frame_begun [] f.kept; waiting = record { function = op; at = x; locals = set f.locals 30 (f.kept.cradles (new_number target e)); result = 30 } ∷ [] })) is

      begun : Comes pool (claim_code pool kind) (frame_begun [] f.kept) (frames.Stands pool.sizes (claim_begun pool.sizes kind Warned))
      begun = claims_are_made.begins pool kind (frame_begun [] f.kept) refl stands.carried.quiet

      lines_are : lines_of functions kind ≡ claim_code pool kind
      lines_are = kind_lines_are pool functions target setting kind sizes fits new.claims

      waiting_stands : StandsFor e e.hand.registers (base + 27) (waiting_frame base (set f.locals 30 (f.kept.cradles (new_number target e))) f.kept)
      waiting_stands = with_quiet (known_of e) e.hand.registers (base + 27) (goes_to (base + 27) (with_local 30 (f.kept.cradles (new_number target e)) f)) (record f.kept { noted = λ j. false }) (λ k. refl) (λ j some. refl)
          (moved_to (known_of e) e.hand.registers (base + 25) (base + 27) (with_local 30 (f.kept.cradles (new_number target e)) f) standing)

      calls : Leads pool functions (thread_of op [] (onward (with_local 30 (f.kept.cradles (new_number target e)) f))) (NewGoes pool target (new_begun Warned target setting.sizes e) e kind op base)
      calls =
          moves (thread_of kind (waits_here ∷ []) (frame_begun [] f.kept))
          (ap (turn_of (thread_of op [] (onward (with_local 30 (f.kept.cradles (new_number target e)) f)))) (line_in (onward (with_local 30 (f.kept.cradles (new_number target e)) f)) 2 (omega arith) (let at = standing.at in omega (arith, at)))
          ∙ called_is (f.at + 1 + 1 + 1) (let at = stands.at in omega (arith, at)))
          (walked pool functions kind (waits_here ∷ []) (claim_code pool kind) begun.count (frame_begun [] f.kept) begun.frame (NewGoes pool target (new_begun Warned target setting.sizes e) e kind op base) lines_are begun.goes
          (stays (record {
            claims = λ empty. (
              settled_is 0 none ∙ ap (λ (n : Sizes). with_routine e (Claims (claim_begun n kind Warned))) (sym sizes),
              record {
                function = refl;
                claims = begun.there;
                locals = set f.locals 30 (f.kept.cradles (new_number target e));
                waits = refl;
                stands = waits_still e base (set f.locals 30 (f.kept.cradles (new_number target e))) f.kept begun.frame.kept (goes_same pool kind begun.count (frame_begun [] f.kept) begun.frame begun.goes) waiting_stands;
                cleared = cleared;
              },
            );
            zeroes = λ some. absurd (some none);
          })))

  pub begun_made : Leads pool functions (thread_of op [] f) (NewGoes pool target (new_begun Warned target setting.sizes e) e kind op base)
  begun_made = walked_get (of (cradle_of e (new_number target e)) refl) where
    of : (j : ℕ) → cradle_of e (new_number target e) ≡ j → Leads pool functions (thread_of op [] (with_local 30 (f.kept.cradles (new_number target e)) f)) (NewGoes pool target (new_begun Warned target setting.sizes e) e kind op base)
    of zero none = empty_cradle none
    of (suc j) is = full_cradle j is

    walked_get : Leads pool functions (thread_of op [] (with_local 30 (f.kept.cradles (new_number target e)) f)) (NewGoes pool target (new_begun Warned target setting.sizes e) e kind op base)
        → Leads pool functions (thread_of op [] f) (NewGoes pool target (new_begun Warned target setting.sizes e) e kind op base)
    walked_get more =
        moves (thread_of op [] (with_local 30 (f.kept.cradles (new_number target e)) f))
        (ap (turn_of (thread_of op [] f)) (line_in f 0 (omega arith) (stands.at ∙ omega arith)
        ∙ is_defined (has_cradle (new_number target e)) (steps.Goes (with_local 30 (f.kept.cradles (new_number target e)) f)) (let there : nat_lt (new_number target e) 16 ≡ true = grind (arith, few, nat_tests) in there)))
        more

pub news_are_made : NewsAreMade
news_are_made = record {
  begins = λ pool functions target setting e d kind op base first sizes valid fits low new cleared runs stands.
      by_parts pool functions op [] first (NewGoes pool target (new_begun Warned target setting.sizes e) e kind op base) runs.function runs.alone
      (begun_made pool functions target setting e d kind op base sizes valid fits low new cleared first.frame stands);
  claims = λ pool functions target setting e claim d kind op base first runs callers fits new at fit stands.
      claim_made pool functions target setting e claim d kind op base runs callers fits new at fit first stands;
  zeroes = λ pool functions target setting e d kind op k field base first runs new at stands.
      zeroing.made pool functions target setting e d kind op k field base first runs new at stands;
}
