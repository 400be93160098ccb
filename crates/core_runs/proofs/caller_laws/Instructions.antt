-- An entry that stands before the access of its instruction belongs after it.
use Rattle.std.proofs.Common.{◌≡◌, ◌≢◌, ℕ, zero, suc, ◌+◌, ◌≤◌, ◌==◌, ◌&&◌, ◌||◌, inl, inr, ⊎_elim, ap, Bool, true, false, [], ◌∷◌, length, Option, Some, None, refl, sym, ◌∙◌, subst, arith, if◌then◌else◌}
use Rattle.std.specs.Prelude.{nat_le, nat_lt}
use Rattle.std.specs.List.{list_any}
use Rattle.std.proofs.lemmas.Bool.{ltb-true, not-false, and_parts}
use Rattle.std.proofs.lemmas.Bool.Decides.{nat_tests}
use Rattle.norm_lang.specs.declared.text.Reg.{Reg}
use Rattle.norm_lang.specs.declared.text.Reg.TheVariants.{Num, Ref}
use Rattle.norm_lang.specs.declared.text.CasEntry.{CasEntry}
use Rattle.norm_lang.specs.declared.text.FieldKind.{FieldKind}
use Rattle.norm_lang.specs.declared.text.Instr.{Instr}
use Rattle.norm_lang.specs.declared.text.Instr.TheVariants as instr
use Rattle.norm_lang.specs.declared.registers.Registers.{Registers}
use Rattle.norm_lang.specs.Registers.{number_in}
use Rattle.norm_lang.specs.RegisterUse.{destination, is_register_named, same_register, sets}
use Rattle.norm_lang.specs.Kinds.{none_held, given_kinds, refers}
use Rattle.norm_lang.specs.InstructionRules.{holds_number, is_unlike, field_kind, root_kind, are_roots_of_one_kind}
use Rattle.norm_lang.specs.Limits.{is_register}
use Rattle.norm_lang.specs.Local.{remainder}
use Rattle.target_code.specs.declared.target.TargetInstr.{TargetInstr}
use Rattle.target_code.specs.declared.target.TargetInstr.TheVariants.{Plain, Check, Guard}
use Rattle.target_code.specs.declared.target.Target.{Target}
use Rattle.target_code.specs.Paths.{IsTargetSuccessor, target_goes_from, target_sets}
use Rattle.target_code.specs.TargetLimits.{is_target_new}
use Rattle.guard_words.specs.Guards.{with_guard, pass_check}
use Rattle.guard_words.proofs.Rows.{guards_follow}
use Rattle.caller_parts.specs.declared.routine.AfterRetire.{AfterRetire}
use Rattle.caller_parts.specs.declared.routine.AfterRetire.TheVariants as onwards
use Rattle.oa_words.specs.Packed.{slot_part}
use Rattle.oa_words.specs.SlotKinds.{kind_of}
use Rattle.caller_parts.specs.declared.setting.Reclamation.{Reclamation}
use Rattle.caller_parts.specs.declared.setting.Reclamation.TheVariants.{Optimistic, Epochs}
use Rattle.caller_parts.specs.Settings.{Setting, Fits}
use Rattle.caller_steps.specs.Entries.{Entry, op_of, code_in, instr_in}
use Rattle.caller_parts.specs.Operands.{register_number, slot_in, unpacked, with_word, succeeds, to_retire}
use Rattle.caller_steps.specs.Wants.{instr_wanted, plain_wanted}
use Rattle.caller_steps.specs.After.{cas_ended, cas_failed, check_failed, check_passed, checked, checked_by, goes_on, guarded, guarded_by, instr_accepted, loaded, onward_goes, plain_accepted, retires_then, with_access, with_hand, with_restart}
use Rattle.caller_steps.specs.Lawful.{LawfulValue, MayBeTold}
use Rattle.caller_steps.specs.Belongs.{Belongs, HaveKinds, NamesSlots, RetireFits, cas_of, has_access, has_retire, is_retiring}
use Rattle.core_runs.proofs.caller_laws.Methods.{Methods, SettingSane}
use Rattle.core_runs.proofs.caller_laws.Fields.{field_value}
use Rattle.core_runs.proofs.caller_laws.Named.{named, worded}
use Rattle.core_runs.proofs.caller_laws.Reaching.{one_way}
use Rattle.core_runs.proofs.caller_laws.Schemes.{warning_within}
use Rattle.core_runs.proofs.caller_laws.Stopping.{Holds, Here, BelongsIn, hand_belongs, restarted_belongs, site_of}
use Rattle.core_runs.proofs.caller_laws.KindSteps.{passes_typed, loaded_typed, numbered_typed}
use Rattle.core_runs.proofs.caller_laws.Values.{value_given, picked}
use Rattle.core_runs.proofs.caller_laws.Asked.{object_has}
use Rattle.core_runs.proofs.caller_laws.Going.{alike_unlike, other_word, leaves_all, goes_belongs, guards_put, pick_kind, remainder_below}

-- what is premise of each lemma here: an entry that runs, at its instruction, by a scheme
abbrev pub Stays : Target → Setting → Reclamation → Entry → TargetInstr → Type 0
Stays target setting by e i = record {
  scheme : setting.reclamation ≡ by;
  holds : Holds target setting e;
  here : Here target setting e;
  is : instr_in target e ≡ Some i;
}

-- what is loaded is null, or a slot of a kind that the instruction gives
word_typed : (target : Target) (setting : Setting) (by : Reclamation) (e : Entry) (i : Instr) (d : Reg) (kind : Option FieldKind) (word to : ℕ) → Stays target setting by e (Plain i) → destination i ≡ Some d
    → LawfulValue setting.sizes kind word → is_unlike kind d ≡ false → ((t : ℕ) → refers kind t ≡ true → given_kinds target.fields target.roots i none_held t ≡ true)
    → IsTargetSuccessor (code_in target e) e.hand.at to → HaveKinds target setting (op_of target e) e.hand.wrapup to (with_word e.hand.registers d word)
word_typed target setting by e i (Num d) kind word to s sets_it lawful like gives way =
    numbered_typed target setting e.hand.wrapup (op_of target e) to e.hand.registers d word
    (passes_typed target setting e.hand.wrapup (op_of target e) e.hand.at to (Plain i) e.hand.registers s.is way (λ r. ap (is_register_named (Ref r)) sets_it) s.here.kinds)
word_typed target setting by e i (Ref d) kind word to s sets_it lawful like gives way =
    loaded_typed target setting e.hand.wrapup (op_of target e) e.hand.at to i e.hand.registers (Ref d) (unpacked word) s.here.reached.path.0 s.here.reached.path.1 s.is sets_it
    (⊎_elim (λ (null : slot_part word ≡ 0). inl null) (λ (to : refers kind (kind_of setting.sizes (slot_part word)) ≡ true). inr (gives (kind_of setting.sizes (slot_part word)) to)) (value_given setting.sizes kind d word like lawful))
    way s.here.kinds

-- a register of the kind of what is loaded into it
loads : (target : Target) (setting : Setting) (by : Reclamation) (e : Entry) (i : Instr) (d : Reg) (kind : Option FieldKind) (word : ℕ) → Methods target → SettingSane setting → Fits target setting → Stays target setting by e (Plain i)
    → target_goes_from (Some (Plain i)) e.hand.at (e.hand.at + 1) ≡ true → is_target_new (Plain i) ≡ false → destination i ≡ Some d → ((r : ℕ) → sets (Ref r) i ≡ false → same_register (Ref r) d ≡ false)
    → LawfulValue setting.sizes kind word → is_unlike kind d ≡ false → ((t : ℕ) → refers kind t ≡ true → given_kinds target.fields target.roots i none_held t ≡ true) → BelongsIn target setting (loaded by target setting.sizes d word e)
loads target setting by e i d kind word sane some fits s goes fresh sets_it touched lawful like gives =
    goes_belongs target setting by (with_access e) (Plain i) (e.hand.at + 1) (with_word e.hand.registers d word) sane some fits s.holds s.here s.scheme s.is goes
    (record { made = λ r wrote new. absurd (let x : false ≡ true = sym fresh ∙ new in cc); kept = λ r isnt. other_word e.hand.registers d word r (touched r isnt) })
    (worded setting.sizes e.hand.registers kind d word s.here.names lawful like)
    (word_typed target setting by e i d kind word (e.hand.at + 1) s sets_it lawful like gives)

-- an instruction that sets nothing, and the next one
pub passes : (target : Target) (setting : Setting) (by : Reclamation) (e : Entry) (i : TargetInstr) → Methods target → SettingSane setting → Fits target setting → Stays target setting by e i
    → target_goes_from (Some i) e.hand.at (e.hand.at + 1) ≡ true → is_target_new i ≡ false → ((r : ℕ) → target_sets (Ref r) i ≡ false) → BelongsIn target setting (goes_on by target setting.sizes e.hand.registers e)
passes target setting by e i sane some fits s goes fresh sets_none =
    goes_belongs target setting by e i (e.hand.at + 1) e.hand.registers sane some fits s.holds s.here s.scheme s.is goes (leaves_all i e.hand.registers fresh) s.here.names
    (λ way. passes_typed target setting e.hand.wrapup (op_of target e) e.hand.at (e.hand.at + 1) i e.hand.registers s.is way sets_none s.here.kinds)

checks : (target : Target) (setting : Setting) (e : Entry) (word : ℕ) → Methods target → SettingSane setting → Fits target setting → Stays target setting Optimistic e Check → word ≤ setting.last
    → BelongsIn target setting (checked target setting.sizes word e)
checks target setting e word sane some fits s le = of (word == e.hand.seen) where
  h : Holds target setting e
  h = s.holds

  of : (b : Bool) → BelongsIn target setting (if b then check_passed target setting.sizes e else check_failed target setting.sizes word e)
  of true = passes target setting Optimistic (with_hand e (record e.hand { guards = pass_check e.hand.guards })) Check sane some fits
      (record { scheme = s.scheme; holds = record { number = h.number; op = h.op; started = h.started; start = h.start; guards = record { row = guards_follow.row_passed e.hand.guards h.guards.row; within = h.guards.within }; cradles = h.cradles; seen = h.seen }; here = s.here; is = s.is })
      (one_way (e.hand.at + 1)) refl (λ r. refl)
  of false = restarted_belongs target setting (with_hand (with_restart e) (record e.hand { seen = word; accessed = false })) sane some fits
      (record { number = h.number; op = h.op; started = h.started; start = h.start; guards = h.guards; cradles = h.cradles; seen = le }) s.here s.scheme (rw s.is refl)

guards : (target : Target) (setting : Setting) (e : Entry) (r : Reg) → Methods target → SettingSane setting → Fits target setting → Stays target setting Optimistic e (Guard r) → BelongsIn target setting (guarded target setting.sizes r e)
guards target setting e r sane some fits s =
    passes target setting Optimistic (with_hand e (record e.hand { guards = with_guard e.hand.guards (register_number r) (slot_in e.hand.registers r) })) (Guard r) sane some fits
    (record { scheme = s.scheme; holds = record { number = h.number; op = h.op; started = h.started; start = h.start; guards = guards_put setting.sizes.slots e.hand.guards (register_number r) (slot_in e.hand.registers r) h.guards (named setting.sizes.slots e.hand.registers r s.here.names); cradles = h.cradles; seen = h.seen }; here = s.here; is = s.is })
    (one_way (e.hand.at + 1)) refl (λ r. refl) where
      h : Holds target setting e
      h = s.holds

-- the exchange that retired, or didn't, goes on
pub retiring : (target : Target) (setting : Setting) (by : Reclamation) (go : AfterRetire) (slot : ℕ) (e : Entry) → Holds target setting e → Here target setting e → slot ≤ setting.sizes.slots
    → (slot ≢ 0 → RetireFits (instr_in target e) go) → BelongsIn target setting (onward_goes by target setting.sizes go e) → BelongsIn target setting (retires_then by target setting.sizes go slot e)
retiring target setting by go zero e h c le stands goes = goes
retiring target setting by go (suc j) e h c le stands goes = record {
  number = h.number;
  op = h.op;
  hand = hand_belongs target setting e h c.names;
  cradles = h.cradles;
  reaches = c.reached;
  kinds = record { now = c.kinds; started = h.start };
  stands = ((omega arith, le, tt), stands (λ null. let z : suc j ≡ 0 = null in omega (arith, z)));
}

pub retire_within : (slots : ℕ) (retire : Option Reg) (registers : Registers) → NamesSlots slots registers → to_retire retire registers ≤ slots
retire_within slots None registers s = omega arith
retire_within slots (Some r) registers s = named slots registers r s

pub retire_some : (retire : Option Reg) (registers : Registers) → to_retire retire registers ≢ 0 → has_retire retire ≡ true
retire_some None registers ne = absurd (ne refl)
retire_some (Some r) registers ne = refl

pub two : (l next : ℕ) → list_any (λ (n : ℕ). n == next) (next ∷ l ∷ []) ≡ true
two l next = let same : (next == next) ≡ true = grind (arith, nat_tests) in rw same refl

other_two : (l next : ℕ) → list_any (λ (n : ℕ). n == l) (next ∷ l ∷ []) ≡ true
other_two l next = let same : (l == l) ≡ true = grind (arith, nat_tests) in of (next == l) same where
  of : (b : Bool) → (l == l) ≡ true → (b || ((l == l) || false)) ≡ true
  of true same = refl
  of false same = rw same refl

-- an auxiliary exchange
cas_keeps : (target : Target) (setting : Setting) (by : Reclamation) (e : Entry) (exchange : CasEntry) (l word : ℕ) → Methods target → SettingSane setting → Fits target setting → Stays target setting by e (Plain (instr.Cas exchange l))
    → BelongsIn target setting (cas_ended by target setting.sizes exchange l word e)
cas_keeps target setting by e exchange l word sane some fits s = of (succeeds exchange e.hand.registers word) where
  i : TargetInstr
  i = Plain (instr.Cas exchange l)

  of : (b : Bool) → BelongsIn target setting (if b then retires_then by target setting.sizes onwards.Next (to_retire exchange.retire e.hand.registers) e else cas_failed by target setting.sizes l e)
  of true = retiring target setting by onwards.Next (to_retire exchange.retire e.hand.registers) e s.holds s.here (retire_within setting.sizes.slots exchange.retire e.hand.registers s.here.names)
      (λ ne. subst (λ (o : Option TargetInstr). is_retiring (cas_of o) ≡ true) (sym s.is) (retire_some exchange.retire e.hand.registers ne))
      (passes target setting by e i sane some fits s (two l (e.hand.at + 1)) refl (λ r. refl))
  of false = goes_belongs target setting by e i l e.hand.registers sane some fits s.holds s.here s.scheme s.is (other_two l (e.hand.at + 1)) (leaves_all i e.hand.registers refl) s.here.names
      (λ way. passes_typed target setting e.hand.wrapup (op_of target e) e.hand.at l i e.hand.registers s.is way (λ r. refl) s.here.kinds)

second : (a b : Bool) → (a || b) ≡ false → b ≡ false
second true b e = absurd (let z : true ≡ false = e in cc)
second false b e = e

at_least : (a b : ℕ) → nat_le a b ≡ true → a ≤ b
at_least a b e = grind (arith, nat_tests)

plain_keeps : (target : Target) (setting : Setting) (by : Reclamation) (e : Entry) (i : Instr) (word : ℕ) → Methods target → SettingSane setting → Fits target setting → Stays target setting by e (Plain i)
    → has_access (Some (Plain i)) ≡ true → MayBeTold target setting (plain_wanted target.fields i e.hand.registers) word → BelongsIn target setting (plain_accepted by target setting.sizes i word e)
plain_keeps target setting by e (instr.LoadRoot d x) word sane some fits s has told =
    loads target setting by e (instr.LoadRoot d x) d (root_kind target.roots x) word sane some fits s (one_way (e.hand.at + 1)) refl refl (λ r isnt. isnt) told
    (site_of target e (Plain (instr.LoadRoot d x)) sane s.here.reached s.is).own.form.kinds (λ t to. to)
plain_keeps target setting by e (instr.LoadPick d x n a) word sane some fits s has told =
    let site = site_of target e (Plain (instr.LoadPick d x n a)) sane s.here.reached s.is in
    let limits = and_parts (is_register d) (nat_lt x (length target.roots) && ((nat_le 1 n && nat_le n 256) && is_register a)) site.limits in
    let limits2 = and_parts (nat_lt x (length target.roots)) ((nat_le 1 n && nat_le n 256) && is_register a) limits.1 in
    let limits3 = and_parts (nat_le 1 n && nat_le n 256) (is_register a) limits2.1 in
    let limits4 = and_parts (nat_le 1 n) (nat_le n 256) limits3.0 in
    let one = not-false (are_roots_of_one_kind target.roots x n) site.own.form.range in
    let k = remainder (number_in e.hand.registers a) n in
    let less = remainder_below (number_in e.hand.registers a) n (at_least 1 n limits4.0) in
    let same = pick_kind target.roots x n k one less in
    loads target setting by e (instr.LoadPick d x n a) d (root_kind target.roots (x + k)) word sane some fits s (one_way (e.hand.at + 1)) refl refl (λ r isnt. isnt) told
    (alike_unlike (root_kind target.roots x) (root_kind target.roots (x + k)) d same.0 site.own.form.kinds) (λ t to. picked t target.roots x n k less to)
plain_keeps target setting by e (instr.LoadField d a f) word sane some fits s has told =
    let i = instr.LoadField d a f in
    let site = site_of target e (Plain i) sane s.here.reached s.is in
    let limits = and_parts (is_register d) (is_register a && nat_lt f (length target.fields)) site.limits in
    let lt = ltb-true f (length target.fields) (and_parts (is_register a) (nat_lt f (length target.fields)) limits.1).1 in
    loads target setting by e i d (field_kind target.fields f) word sane some fits s (one_way (e.hand.at + 1)) refl refl (λ r isnt. isnt)
    (field_value target setting (slot_in e.hand.registers a) f word lt (object_has target setting e i a f sane s.here s.is (λ r k asked. asked)) told)
    (second (holds_number a) (is_unlike (field_kind target.fields f) d) site.own.form.kinds) (λ t to. to)
plain_keeps target setting by e (instr.Put a f b) word sane some fits s has told = passes target setting by e (Plain (instr.Put a f b)) sane some fits s (one_way (e.hand.at + 1)) refl (λ r. refl)
plain_keeps target setting by e (instr.Cas exchange l) word sane some fits s has told =
    cas_keeps target setting by (with_access e) exchange l word sane some fits (record { scheme = s.scheme; holds = s.holds; here = s.here; is = s.is })
plain_keeps target setting by e _ word sane some fits s has told = absurd cc

-- code that is run under epochs has none of these
checks_by : (target : Target) (setting : Setting) (by : Reclamation) (e : Entry) (word : ℕ) → Methods target → SettingSane setting → Fits target setting → Stays target setting by e Check → Belongs target setting e → word ≤ setting.last
    → BelongsIn target setting (checked_by by target setting.sizes word e)
checks_by target setting Optimistic e word sane some fits s b le = checks target setting e word sane some fits s le
checks_by target setting Epochs e word sane some fits s b le = b

guards_by : (target : Target) (setting : Setting) (by : Reclamation) (e : Entry) (r : Reg) → Methods target → SettingSane setting → Fits target setting → Stays target setting by e (Guard r) → Belongs target setting e
    → BelongsIn target setting (guarded_by by target setting.sizes r e)
guards_by target setting Optimistic e r sane some fits s b = guards target setting e r sane some fits s
guards_by target setting Epochs e r sane some fits s b = b

pub instr_keeps : (target : Target) (setting : Setting) (by : Reclamation) (e : Entry) (word : ℕ) (o : Option TargetInstr) → Methods target → SettingSane setting → Fits target setting → Holds target setting e → Here target setting e → Belongs target setting e
    → setting.reclamation ≡ by → instr_in target e ≡ o → has_access o ≡ true → MayBeTold target setting (instr_wanted target.fields e.number o e.hand.registers) word → BelongsIn target setting (instr_accepted by target setting.sizes o word e)
instr_keeps target setting by e word None sane some fits h c b scheme is has told = absurd (let z : false ≡ true = has in cc)
instr_keeps target setting by e word (Some Check) sane some fits h c b scheme is has told =
    checks_by target setting by e word sane some fits (record { scheme = scheme; holds = h; here = c; is = is }) b (warning_within setting.reclamation setting word told)
instr_keeps target setting by e word (Some (Guard r)) sane some fits h c b scheme is has told = guards_by target setting by e r sane some fits (record { scheme = scheme; holds = h; here = c; is = is }) b
instr_keeps target setting by e word (Some (Plain i)) sane some fits h c b scheme is has told = plain_keeps target setting by e i word sane some fits (record { scheme = scheme; holds = h; here = c; is = is }) has told
