-- Where local code stops.
use Rattle.std.proofs.Common.{◌≡◌, ℕ, zero, suc, ◌+◌, Bool, true, List, [], ◌∷◌, ◌++◌, Option, Some, None, refl, sym, ap, subst}
use Rattle.norm_lang.specs.declared.text.Reg.{Reg}
use Rattle.norm_lang.specs.declared.text.Instr.{Instr}
use Rattle.norm_lang.specs.declared.text.Instr.TheVariants as instr
use Rattle.norm_lang.specs.declared.reply.SourceReply.TheVariants as replies
use Rattle.norm_lang.specs.Registers.{number_in}
use Rattle.target_code.specs.declared.target.TargetInstr.{TargetInstr}
use Rattle.target_code.specs.declared.target.TargetInstr.TheVariants.{Plain, Check, Guard}
use Rattle.target_code.specs.declared.target.Target.{Target}
use Rattle.oa_words.specs.Words.{Sizes}
use Rattle.guard_words.specs.Guards.{IsRow, next_to_clear}
use Rattle.phase_pools.specs.declared.stages.Scheme.TheVariants.{Warned}
use Rattle.caller_parts.specs.declared.setting.Reclamation.TheVariants.{Optimistic}
use Rattle.caller_parts.specs.declared.routine.AfterClear.{AfterClear}
use Rattle.caller_parts.specs.declared.routine.AfterClear.TheVariants as clears
use Rattle.caller_parts.specs.declared.routine.Routine.TheVariants.{At}
use Rattle.caller_parts.specs.Spared.{none_spared, then_spares}
use Rattle.caller_steps.specs.Entries.{Entry, instr_in, op_of, new_kind, new_number, cradle_of}
use Rattle.caller_steps.specs.Clearing.{clear_next}
use Rattle.caller_steps.specs.After.{stopped, stops, plain_stop, cleared, clear_on, then_goes, new_on, wrap_up_hand, with_hand, with_routine}
use Rattle.caller_steps.specs.Belongs.{has_access}
use Rattle.c_language.specs.declared.lines.Line.{Line}
use Rattle.c_language.specs.Steps.{Pool, Frame}
use Rattle.c_language.specs.Runs.{Comes}
use Rattle.c_language.proofs.Walking.{leads}
use Rattle.c_runtime.specs.KindLines.{HasLines}
use Rattle.c_language.specs.declared.lines.Operand.TheVariants.{Number, Local}
use Rattle.c_language.specs.declared.lines.Value.TheVariants as values
use Rattle.c_language.specs.declared.lines.Answer.TheVariants as answers
use Rattle.c_language.specs.declared.lines.Line.TheVariants as lines
use Rattle.c_emission.specs.Blocks.{local_of, clear_lines}
use Rattle.c_emission.specs.Ends.{cradle_block, field_lines}
use Rattle.emission_laws.specs.Hands.{StandsFor}
use Rattle.emission_laws.specs.Clears.{StandsClearing, ClearsFrom}
use Rattle.emission_laws.specs.Stops.{StopsAreMade}
use Rattle.emission_laws.proofs.Layouts.{lines_within}
use Rattle.emission_laws.proofs.Clears.{entry_begins}

-- ---- guards stay

new_guards : (sizes : Sizes) (kind k cradle : ℕ) (e : Entry) → (new_on Warned sizes kind k cradle e).hand.guards ≡ e.hand.guards
new_guards sizes kind k zero e = refl
new_guards sizes kind k (suc j) e = refl

goes_guards : (target : Target) (sizes : Sizes) (next : AfterClear) (e : Entry) → (then_goes target sizes next e).hand.guards ≡ e.hand.guards
goes_guards target sizes clears.New e = new_guards sizes (new_kind target e) (new_number target e) (cradle_of e (new_number target e)) e
goes_guards target sizes clears.WrapUp e = refl
goes_guards target sizes (clears.Reply reply) e = refl
goes_guards target sizes clears.Again e = refl

cleared_guards : (target : Target) (sizes : Sizes) (next : AfterClear) (e : Entry) → (cleared target sizes next e).hand.guards ≡ e.hand.guards
cleared_guards target sizes next e = of (clear_next target next e) where
  of : (o : Option ℕ) → (clear_on target sizes next o e).hand.guards ≡ e.hand.guards
  of None = goes_guards target sizes next e
  of (Some r) = refl

plain_guards : (target : Target) (sizes : Sizes) (i : Instr) (e : Entry) → (plain_stop target sizes i e).entry.hand.guards ≡ e.hand.guards
plain_guards target sizes (instr.New d kind) e = cleared_guards target sizes clears.New e
plain_guards target sizes (instr.Commit []) e = cleared_guards target sizes clears.WrapUp (with_hand e (wrap_up_hand 0 e.hand))
plain_guards target sizes (instr.Commit (exchange ∷ exchanges)) e = refl
plain_guards target sizes (instr.Return a) e = cleared_guards target sizes (clears.Reply (replies.Number (number_in e.hand.registers a))) e
plain_guards target sizes instr.ReturnNone e = cleared_guards target sizes (clears.Reply replies.Nothing) e
plain_guards target sizes instr.Again e = cleared_guards target sizes clears.Again e
plain_guards target sizes (instr.Set d n) e = refl
plain_guards target sizes (instr.Mov d a) e = refl
plain_guards target sizes (instr.Add d a b) e = refl
plain_guards target sizes (instr.Sub d a b) e = refl
plain_guards target sizes (instr.Rem d a n) e = refl
plain_guards target sizes (instr.Mark d a) e = refl
plain_guards target sizes (instr.Unmark d a) e = refl
plain_guards target sizes (instr.Null d) e = refl
plain_guards target sizes (instr.LoadRoot d x) e = refl
plain_guards target sizes (instr.LoadPick d x count a) e = refl
plain_guards target sizes (instr.LoadField d a f) e = refl
plain_guards target sizes (instr.Put a f b) e = refl
plain_guards target sizes (instr.Cas exchange l) e = refl
plain_guards target sizes (instr.Jump l) e = refl
plain_guards target sizes (instr.IfEq a b l) e = refl
plain_guards target sizes (instr.IfLess a b l) e = refl
plain_guards target sizes (instr.IfMarked a l) e = refl

stop_guards : (target : Target) (sizes : Sizes) (e : Entry) → (stopped Optimistic target sizes e).entry.hand.guards ≡ e.hand.guards
stop_guards target sizes e = of (instr_in target e) where
  of : (o : Option TargetInstr) → (stops Optimistic target sizes o e).entry.hand.guards ≡ e.hand.guards
  of None = refl
  of (Some (Plain i)) = plain_guards target sizes i e
  of (Some Check) = refl
  of (Some (Guard r)) = refl

-- ---- accesses

stop_access : (target : Target) (sizes : Sizes) (e : Entry) (o : Option TargetInstr) → has_access o ≡ true → (stops Optimistic target sizes o e).entry ≡ with_routine e At
stop_access target sizes e None some = refl
stop_access target sizes e (Some Check) some = refl
stop_access target sizes e (Some (Guard r)) some = refl
stop_access target sizes e (Some (Plain (instr.New d kind))) some = absurd (let no : ⊥ = cc in no)
stop_access target sizes e (Some (Plain (instr.Commit exchanges))) some = absurd (let no : ⊥ = cc in no)
stop_access target sizes e (Some (Plain (instr.Return a))) some = absurd (let no : ⊥ = cc in no)
stop_access target sizes e (Some (Plain instr.ReturnNone)) some = absurd (let no : ⊥ = cc in no)
stop_access target sizes e (Some (Plain instr.Again)) some = absurd (let no : ⊥ = cc in no)
stop_access target sizes e (Some (Plain _)) some = refl

-- ---- clears

stop_is : (target : Target) (sizes : Sizes) (e : Entry) (o : Option TargetInstr) → instr_in target e ≡ o → (stopped Optimistic target sizes e).entry ≡ (stops Optimistic target sizes o e).entry
stop_is target sizes e o is = ap (λ (x : Option TargetInstr). (stops Optimistic target sizes x e).entry) is

-- a block that begins with a clear of all hazards
block_clears : (pool : Pool) (code : List Line) (target : Target) (sizes : Sizes) (e : Entry) (next : AfterClear) (base : ℕ) (rest : List Line) (f : Frame)
    → then_spares next (op_of target e) ≡ none_spared → IsRow e.hand.guards → (stopped Optimistic target sizes e).entry ≡ cleared target sizes next e
    → HasLines code base (clear_lines none_spared base 0 8 ++ rest) → StandsFor e e.hand.registers base f
    → Comes pool code f (ClearsFrom target sizes (stopped Optimistic target sizes e).entry e next code (base + 24))
block_clears pool code target sizes e next base rest f none row is has stands =
    leads (entry_begins pool code none_spared base e f row (lines_within code base (clear_lines none_spared base 0 8) rest has) stands) (λ g clearing. record {
      entry = e;
      is = is;
      op = refl;
      stands = subst (λ (spared : List Bool). StandsClearing code spared (base + 24) e (next_to_clear e.hand.guards spared) g) (sym none) clearing;
    })

-- the lines of a `new` behind its clear
abbrev new_rest : ℕ → Reg → ℕ → ℕ → ℕ → List Line
new_rest base d kind cradle count = cradle_block (base + 24) kind cradle ++ (field_lines kind 0 count ++ lines.Let (local_of d) (values.Times (Local 30) (Number 2)) ∷ [])

pub stops_are_made : StopsAreMade
stops_are_made = record {
  guards = stop_guards;
  accesses = λ target sizes e some. stop_access target sizes e (instr_in target e) some;
  news = λ pool code target sizes e d kind cradle count base f row is has stands.
      block_clears pool code target sizes e clears.New base (new_rest base d kind cradle count) f refl row (stop_is target sizes e (Some (Plain (instr.New d kind))) is) has stands;
  numbers = λ pool code target sizes e a base f row is has stands.
      block_clears pool code target sizes e (clears.Reply (replies.Number (number_in e.hand.registers a))) base (lines.Reply answers.Number (Local (local_of a)) ∷ []) f refl row
      (stop_is target sizes e (Some (Plain (instr.Return a))) is) has stands;
  none = λ pool code target sizes e base f row is has stands.
      block_clears pool code target sizes e (clears.Reply replies.Nothing) base (lines.Reply answers.Nothing (Number 0) ∷ []) f refl row (stop_is target sizes e (Some (Plain instr.ReturnNone)) is) has stands;
  again = λ pool code target sizes e begin base f row is has stands.
      block_clears pool code target sizes e clears.Again base (lines.Goto begin ∷ []) f refl row (stop_is target sizes e (Some (Plain instr.Again)) is) has stands;
}
