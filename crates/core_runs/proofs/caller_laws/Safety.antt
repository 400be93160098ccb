-- What an entry that belongs asks for is safe.
use Rattle.std.proofs.Common.{◌≡◌, ◌≢◌, ℕ, zero, suc, ◌+◌, ◌≤◌, ◌<◌, ◌==◌, ◌&&◌, ◌||◌, Bool, true, false, List, [], ◌∷◌, length, Option, Some, None, refl, sym, ◌∙◌, subst, ap, arith, if◌then◌else◌}
use Rattle.std.specs.Prelude.{slice_get, nat_le, nat_lt, max, IsSomeAnd, IfSome, slice_index_or}
use Rattle.std.specs.List.{list_any, list_all}
use Rattle.std.proofs.lemmas.Bool.Decides.{nat_tests}
use Rattle.norm_lang.specs.declared.text.Reg.{Reg}
use Rattle.norm_lang.specs.declared.text.Reg.TheVariants.{Num, Ref}
use Rattle.norm_lang.specs.declared.text.Place.{Place}
use Rattle.norm_lang.specs.declared.text.Place.TheVariants as places
use Rattle.norm_lang.specs.declared.text.CasEntry.{CasEntry}
use Rattle.norm_lang.specs.declared.text.Instr.{Instr}
use Rattle.norm_lang.specs.declared.text.Instr.TheVariants as instr
use Rattle.norm_lang.specs.KindFields.{place_of}
use Rattle.norm_lang.specs.Registers.{number_in}
use Rattle.norm_lang.specs.InstructionRules.{holds_number, is_unlike, field_kind, place_kind, has_wrong_object, has_wrong_operand, are_roots_of_one_kind}
use Rattle.norm_lang.specs.Kept.{holds_reference}
use Rattle.norm_lang.specs.Kinds.{asks, asks_object, asks_entry}
use Rattle.norm_lang.specs.RegisterUse.{same_register}
use Rattle.norm_lang.specs.Limits.{is_register, is_place, is_entry, is_retire}
use Rattle.norm_lang.specs.Local.{remainder}
use Rattle.target_code.specs.declared.target.TargetInstr.{TargetInstr}
use Rattle.target_code.specs.declared.target.TargetInstr.TheVariants.{Plain, Check, Guard}
use Rattle.target_code.specs.declared.target.Target.{Target}
use Rattle.guard_words.specs.Guards.{Guards, next_to_clear, least_from, is_to_clear}
use Rattle.caller_parts.specs.Settings.{Fits, Setting}
use Rattle.caller_steps.specs.Entries.{Entry, is_idle, code_in, cradle_of, instr_in, op_of}
use Rattle.caller_parts.specs.Operands.{list_of, register_number, slot_in, word_in}
use Rattle.caller_parts.specs.Spared.{restart_spares, then_spares}
use Rattle.caller_steps.specs.Wants.{announcing_wanted, clear_wanted, exchange_wanted, instr_wanted, list_wanted, object_exchange, place_exchange, plain_wanted, wanted, wants}
use Rattle.caller_steps.specs.Lawful.{AsksSafely, IsLawful, IsSafe, LawfulHead, LawfulStatus, LawfulValue, is_place as is_place_word}
use Rattle.caller_steps.specs.Belongs.{AnnouncingStands, Belongs, ClaimStands, HasBound, IsSomeOf, HasComeTo, RetireStands, RunsAt, RunsWithKinds, Stands, SweepBelongs, SweepStands, has_access, scheme_of}
use Rattle.std.proofs.lemmas.Option.{slice_get-get_or}
use Rattle.std.proofs.lemmas.Bool.{and_from, or_parts, not-false, and_parts}
use Rattle.oa_words.specs.declared.packed.Kind.{Kind}
use Rattle.oa_words.specs.declared.packed.Kind.TheVariants as statuses
use Rattle.oa_words.specs.Words.{Word, Phase, Warning, Hazard, Status, FieldOf, Cell, Head, Link, in_row}
use Rattle.oa_words.specs.Packed.{StatusParts, status_word, HeadParts, head_word}
use Rattle.phase_pools.specs.declared.stages.SweepStage.{SweepStage}
use Rattle.phase_pools.specs.declared.stages.SweepStage.TheVariants as sweeps
use Rattle.phase_pools.specs.declared.stages.ClaimStage.{ClaimStage}
use Rattle.phase_pools.specs.declared.stages.ClaimStage.TheVariants as claims
use Rattle.phase_pools.specs.declared.stages.RetireStage.{RetireStage}
use Rattle.phase_pools.specs.declared.stages.RetireStage.TheVariants as retires
use Rattle.phase_pools.specs.Accesses.{Loads, Stores, Exchanges, Raises}
use Rattle.phase_pools.specs.declared.stages.Scheme.{Scheme}
use Rattle.phase_pools.specs.declared.stages.Scheme.TheVariants.{Warned, Announced}
use Rattle.oa_words.specs.SlotKinds.{IsNullOrOf}
use Rattle.phase_pools.specs.Pools.{Sweep, warn_wanted, sweep_wants_at, claim_wants_at, retire_wants_at}
use Rattle.caller_parts.specs.declared.routine.Routine.{Routine}
use Rattle.caller_parts.specs.declared.routine.Routine.TheVariants.{Idle, LoadSeen, At, InList, Retires, Restarts, Clears, Claims, Zeroes, Announces}
use Rattle.caller_parts.specs.declared.routine.Announcing.{Announcing}
use Rattle.caller_parts.specs.declared.routine.Announcing.TheVariants as announces
use Rattle.caller_parts.specs.declared.setting.Reclamation.TheVariants.{Epochs}
use Rattle.target_laws.specs.target_runs.Sane.{SaneAt}
use Rattle.core_runs.proofs.caller_laws.Methods.{Methods, SettingSane, zero_count_fits}
use Rattle.core_runs.proofs.caller_laws.OfKinds.{of_row, of_own_kind, kind_known}
use Rattle.core_runs.proofs.caller_laws.Schemes.{none_lawful, own_announced, phase_lawful, raised_lawful}
use Rattle.core_runs.proofs.caller_laws.Named.{named}
use Rattle.core_runs.proofs.caller_laws.Fields.{HasField, place_fits, value_lawful, zero_lawful}
use Rattle.core_runs.proofs.caller_laws.Lists as lists
use Rattle.core_runs.proofs.caller_laws.Values.{itself, entry_asks_object, entry_asks_new, commit_asks, put_asks_new, put_asks_object}
use Rattle.core_runs.proofs.caller_laws.Asked.{object_has, operand_lawful}
use Rattle.oa_words.proofs.Parts.{status_back, head_back}
use Rattle.core_runs.proofs.caller_laws.Stopping.{Here, site_of}
use Rattle.core_runs.proofs.caller_laws.Going.{pick_kind, remainder_below}

less : (a b : ℕ) → a < b → nat_lt a b ≡ true
less a b lt = grind (arith, nat_tests)

pub below : (a b : ℕ) → nat_lt a b ≡ true → a < b
below a b is = grind (arith, nat_tests)

at_least : (a b : ℕ) → nat_le a b ≡ true → a ≤ b
at_least a b e = grind (arith, nat_tests)

status_lawful : (last q : ℕ) (kind : Kind) → q ≤ last → LawfulStatus last (status_word q kind)
status_lawful last q kind le = subst (λ (o : Option StatusParts). IsSomeAnd o (λ (p : StatusParts). p.phase ≤ last)) (sym (status_back q kind)) le

head_lawful : (setting : Setting) (q k j : ℕ) → SettingSane setting → q ≤ setting.last → IsNullOrOf setting.sizes k j → LawfulHead setting k (head_word setting.sizes.tops q j)
head_lawful setting q k j some within of =
    let le = of_row setting.sizes k j of in
    subst (λ (parts : HeadParts). (parts.phase ≤ setting.last) × IsNullOrOf setting.sizes k parts.top) (sym (head_back setting.sizes.tops q j (let few = some.few in omega (arith, le, few)))) (within, of)

-- each kind of access
pub loads_safe : (target : Target) (setting : Setting) (w : Word) → in_row setting.sizes w ≡ true → is_place_word w ≡ false → IsSafe target setting (Loads w)
loads_safe target setting w row place = record { row = row; place = place; lawful = λ found lawful. lawful }

pub stores_safe : (target : Target) (setting : Setting) (w : Word) (x : ℕ) → in_row setting.sizes w ≡ true → is_place_word w ≡ false → IsLawful target setting w x → IsSafe target setting (Stores w x)
stores_safe target setting w x row place lawful = record { row = row; place = place; lawful = λ found was. lawful }

pub exchanges_safe : (target : Target) (setting : Setting) (w : Word) (expected x : ℕ) → in_row setting.sizes w ≡ true → is_place_word w ≡ false → IsLawful target setting w x → IsSafe target setting (Exchanges w expected x)
exchanges_safe target setting w expected x row place lawful = record { row = row; place = place; lawful = λ found was. of found was (found == expected) } where
  of : (found : ℕ) → IsLawful target setting w found → (b : Bool) → IsLawful target setting w (if b then x else found)
  of found was true = lawful
  of found was false = was

raises_safe : (target : Target) (setting : Setting) (c x : ℕ) → c < setting.sizes.callers → setting.first ≤ x → x ≤ setting.last → IsSafe target setting (Raises (Warning c) x)
raises_safe target setting c x lt low high = record { row = less c setting.sizes.callers lt; place = refl; lawful = λ found was. raised_lawful setting.reclamation setting found x was low high }

field_row : (setting : Setting) (j g : ℕ) → j ≤ setting.sizes.slots → g < setting.sizes.fields → in_row setting.sizes (FieldOf j g) ≡ true
field_row setting j g a b = and_from (nat_lt j (setting.sizes.slots + 1)) (nat_lt g setting.sizes.fields) (less j (setting.sizes.slots + 1) (omega (arith, a))) (less g setting.sizes.fields b)

hazard_row : (setting : Setting) (c r : ℕ) → c < setting.sizes.callers → r < 8 → in_row setting.sizes (Hazard c r) ≡ true
hazard_row setting c r a b = and_from (nat_lt c setting.sizes.callers) (nat_lt r 8) (less c setting.sizes.callers a) (less r 8 b)

status_row : (setting : Setting) (j : ℕ) → j ≤ setting.sizes.slots → in_row setting.sizes (Status j) ≡ true
status_row setting j a = less j (setting.sizes.slots + 1) (omega (arith, a))

link_row : (setting : Setting) (j : ℕ) → j ≤ setting.sizes.slots → in_row setting.sizes (Link j) ≡ true
link_row setting j a = less j (setting.sizes.slots + 1) (omega (arith, a))

head_row : (setting : Setting) (k : ℕ) → k < length setting.sizes.kinds → in_row setting.sizes (Head k) ≡ true
head_row setting k lt = less k (length setting.sizes.kinds) lt

-- pools
warn_safe : (target : Target) (setting : Setting) (scheme : Scheme) (c s : ℕ) → c < setting.sizes.callers → setting.first ≤ s → s ≤ setting.last → IsSafe target setting (warn_wanted scheme c s)
warn_safe target setting Warned c s lt low high = raises_safe target setting c s lt low high
warn_safe target setting (Announced own) c s lt low high = loads_safe target setting (Warning c) (less c setting.sizes.callers lt) refl

sweep_safe : (target : Target) (setting : Setting) (scheme : Scheme) (bound : ℕ) (stage : SweepStage) → SettingSane setting → SweepStands setting bound stage → HasBound setting bound stage
    → IsSafe target setting (sweep_wants_at setting.sizes.tops scheme stage bound)
sweep_safe target setting scheme bound sweeps.ReadPhase some stands s = loads_safe target setting Phase refl refl
sweep_safe target setting scheme bound (sweeps.RaisePhase p) some stands s = exchanges_safe target setting Phase p (p + 1) refl refl (omega (arith, stands.0), omega (arith, stands.1))
sweep_safe target setting scheme bound (sweeps.Warn c) some stands s = warn_safe target setting scheme c bound stands s.0 s.1
sweep_safe target setting scheme bound (sweeps.ReadHazard c r) some stands s = loads_safe target setting (Hazard c r) (hazard_row setting c r stands.0 stands.1) refl
sweep_safe target setting scheme bound (sweeps.ReadStatus j) some stands s = loads_safe target setting (Status j) (status_row setting j stands.1) refl
sweep_safe target setting scheme bound (sweeps.MakeReady j q) some stands s =
    exchanges_safe target setting (Status j) (status_word q statuses.Retired) (status_word bound statuses.Ready) (status_row setting j stands.1) refl (status_lawful setting.last bound statuses.Ready s.1)
sweep_safe target setting scheme bound (sweeps.PushHead k j) some stands s = loads_safe target setting (Head k) (head_row setting k (kind_known setting.sizes k j some.kinds stands.2)) refl
sweep_safe target setting scheme bound (sweeps.PushLink j q t) some stands s = stores_safe target setting (Link j) t (link_row setting j stands.1) refl stands.3
sweep_safe target setting scheme bound (sweeps.PushTop k j q t) some stands s =
    exchanges_safe target setting (Head k) (head_word setting.sizes.tops q t) (head_word setting.sizes.tops (max q bound) j) (head_row setting k (kind_known setting.sizes k j some.kinds stands.4)) refl
    (head_lawful setting (max q bound) k j some (omega (arith, stands.2, s.1)) (of_own_kind setting.sizes k j stands.0 stands.1 (sym stands.4)))

claim_safe : (target : Target) (setting : Setting) (c k : ℕ) (sweep : Sweep) (stage : ClaimStage) → SettingSane setting → c < setting.sizes.callers → k < length setting.sizes.kinds → sweep.scheme ≡ scheme_of setting.reclamation c
    → ClaimStands setting sweep.scheme k stage → SweepBelongs setting sweep → IsSafe target setting (claim_wants_at setting.sizes.tops k sweep stage)
claim_safe target setting c k sweep claims.ReadHead some lt known follows stands own = loads_safe target setting (Head k) (head_row setting k known) refl
claim_safe target setting c k sweep (claims.ReadLink q t) some lt known follows stands own = loads_safe target setting (Link t) (link_row setting t stands.1) refl
claim_safe target setting c k sweep (claims.Take q t next) some lt known follows stands own =
    exchanges_safe target setting (Head k) (head_word setting.sizes.tops q t) (head_word setting.sizes.tops q next) (head_row setting k known) refl (head_lawful setting q k next some stands.2 stands.3)
claim_safe target setting c k sweep (claims.StoreUsed q t) some lt known follows stands own =
    stores_safe target setting (Status t) (status_word q statuses.Used) (status_row setting t stands.1) refl (status_lawful setting.last q statuses.Used stands.2)
claim_safe target setting c k sweep (claims.Withdraw announced) some lt known follows stands own =
    let is = own_announced setting.reclamation c announced (sym stands ∙ follows) in
    stores_safe target setting (Warning announced) 0 (less announced setting.sizes.callers (let same = is.1 in omega (arith, lt, same))) refl (none_lawful setting is.0)
claim_safe target setting c k sweep claims.Sweeps some lt known follows stands own = sweep_safe target setting sweep.scheme sweep.bound sweep.stage some own.stands own.bound

retire_safe : (target : Target) (setting : Setting) (slot : ℕ) (stage : RetireStage) → slot ≤ setting.sizes.slots → RetireStands setting stage → IsSafe target setting (retire_wants_at slot stage)
retire_safe target setting slot retires.ReadPhase le stands = loads_safe target setting Phase refl refl
retire_safe target setting slot (retires.StoreStatus p) le stands = stores_safe target setting (Status slot) (status_word p statuses.Retired) (status_row setting slot le) refl (status_lawful setting.last p statuses.Retired stands)

-- an exchange of the text: its object has the field, and its new operand may stand there
exchange_safe : (target : Target) (setting : Setting) (e : Entry) (i : Instr) (exchange : CasEntry) → Methods target → Fits target setting → Here target setting e → instr_in target e ≡ Some (Plain i)
    → ((r k : ℕ) → asks_entry target.fields target.roots r k exchange ≡ true → asks target.fields target.roots i r k ≡ true)
    → is_entry (length target.fields) (length target.roots) exchange ≡ true → has_wrong_operand target.fields target.roots exchange ≡ false → IsSafe target setting (exchange_wanted target.fields exchange e.hand.registers)
exchange_safe target setting e i exchange sane fits c is asked limits kinds =
    of exchange.place refl (and_parts (is_place (length target.fields) (length target.roots) exchange.place) (is_register exchange.expected && (is_register exchange.replacement && is_retire exchange.retire)) limits).0
    (operand_lawful target setting e i (place_kind target.fields target.roots exchange.place) exchange.replacement sane c is like
    (λ r k named to. asked r k (entry_asks_new target.fields target.roots exchange r k (subst (λ (b : Reg). same_register (Ref r) b ≡ true) (sym named) (itself r)) to))) where
      like : is_unlike (place_kind target.fields target.roots exchange.place) exchange.replacement ≡ false
      like =
          let held = place_kind target.fields target.roots exchange.place in
          (or_parts (is_unlike held exchange.expected) (is_unlike held exchange.replacement) (or_parts (has_wrong_object exchange.place) (is_unlike held exchange.expected || is_unlike held exchange.replacement) kinds).1).1

      expected : ℕ
      expected = word_in e.hand.registers exchange.expected

      replacement : ℕ
      replacement = word_in e.hand.registers exchange.replacement

      has_field : (a : Reg) (f : ℕ) → exchange.place ≡ places.Field a f → HasField target setting (slot_in e.hand.registers a) f
      has_field a f at = object_has target setting e i a f sane c is
          (λ r k ask. asked r k (entry_asks_object target.fields target.roots exchange r k (subst (λ (place : Place). asks_object target.fields place r k ≡ true) (sym at) ask)))

      object : (j f : ℕ) → j ≤ setting.sizes.slots → f < length target.fields → HasField target setting j f → LawfulValue setting.sizes (field_kind target.fields f) replacement
          → IsSafe target setting (object_exchange j (place_of target.fields f) expected replacement)
      object zero f le lt has lawful = loads_safe target setting (FieldOf 0 (place_of target.fields f)) (field_row setting 0 (place_of target.fields f) le (place_fits target setting f sane.fields fits lt)) refl
      object (suc j) f le lt has lawful =
          exchanges_safe target setting (FieldOf (suc j) (place_of target.fields f)) expected replacement (field_row setting (suc j) (place_of target.fields f) le (place_fits target setting f sane.fields fits lt)) refl
          (value_lawful target setting (suc j) f replacement (λ none. let no : ⊥ = omega (arith, none) in no) lt has lawful)

      of : (place : Place) → exchange.place ≡ place → is_place (length target.fields) (length target.roots) place ≡ true → LawfulValue setting.sizes (place_kind target.fields target.roots place) replacement
          → IsSafe target setting (place_exchange target.fields place e.hand.registers expected replacement)
      of (places.Root x) at limit lawful = exchanges_safe target setting (Cell x) expected replacement (less x setting.sizes.cells (let lt = below x (length target.roots) limit in omega (arith, lt, fits.cells))) refl lawful
      of (places.Field a f) at limit lawful =
          object (slot_in e.hand.registers a) f (named setting.sizes.slots e.hand.registers a c.names) (below f (length target.fields) (and_parts (is_register a) (nat_lt f (length target.fields)) limit).1) (has_field a f at) lawful

-- the object of a put is surely fresh, and so isn't null
pub put_finds : (target : Target) (e : Entry) (a b : Reg) (f : ℕ) → Methods target → HasComeTo (code_in target e) e.hand.at e.hand.registers → instr_in target e ≡ Some (Plain (instr.Put a f b)) → slot_in e.hand.registers a ≢ 0
put_finds target e (Ref r) b f sane reached is = reached.fresh r ((sane.code e.running.call.op e.hand.wrapup).puts e.hand.at (Ref r) b f is)
put_finds target e (Num r) b f sane reached is =
    let site = site_of target e (Plain (instr.Put (Num r) f b)) sane reached is in absurd (let z : true ≡ false = site.own.form.kinds in cc)

plain_safe : (target : Target) (setting : Setting) (e : Entry) (i : Instr) → Methods target → SettingSane setting → Fits target setting → Here target setting e → instr_in target e ≡ Some (Plain i)
    → has_access (Some (Plain i)) ≡ true → AsksSafely target setting (plain_wanted target.fields i e.hand.registers)
plain_safe target setting e (instr.LoadRoot d x) sane some fits c is has =
    let site = site_of target e (Plain (instr.LoadRoot d x)) sane c.reached is in
    let lt = below x (length target.roots) (and_parts (is_register d) (nat_lt x (length target.roots)) site.limits).1 in
    loads_safe target setting (Cell x) (less x setting.sizes.cells (omega (arith, lt, fits.cells))) refl
plain_safe target setting e (instr.LoadPick d x n a) sane some fits c is has =
    let site = site_of target e (Plain (instr.LoadPick d x n a)) sane c.reached is in
    let limits = and_parts (is_register d) (nat_lt x (length target.roots) && ((nat_le 1 n && nat_le n 256) && is_register a)) site.limits in
    let limits2 = and_parts (nat_lt x (length target.roots)) ((nat_le 1 n && nat_le n 256) && is_register a) limits.1 in
    let limits3 = and_parts (nat_le 1 n && nat_le n 256) (is_register a) limits2.1 in
    let limits4 = and_parts (nat_le 1 n) (nat_le n 256) limits3.0 in
    let k = remainder (number_in e.hand.registers a) n in
    let same = pick_kind target.roots x n k (not-false (are_roots_of_one_kind target.roots x n) site.own.form.range) (remainder_below (number_in e.hand.registers a) n (at_least 1 n limits4.0)) in
    loads_safe target setting (Cell (x + k)) (less (x + k) setting.sizes.cells (omega (arith, same.1, fits.cells))) refl
plain_safe target setting e (instr.LoadField d a f) sane some fits c is has =
    let site = site_of target e (Plain (instr.LoadField d a f)) sane c.reached is in
    let limits = and_parts (is_register d) (is_register a && nat_lt f (length target.fields)) site.limits in
    let lt = below f (length target.fields) (and_parts (is_register a) (nat_lt f (length target.fields)) limits.1).1 in
    loads_safe target setting (FieldOf (slot_in e.hand.registers a) (place_of target.fields f))
    (field_row setting (slot_in e.hand.registers a) (place_of target.fields f) (named setting.sizes.slots e.hand.registers a c.names) (place_fits target setting f sane.fields fits lt)) refl
plain_safe target setting e (instr.Put a f b) sane some fits c is has =
    let site = site_of target e (Plain (instr.Put a f b)) sane c.reached is in
    let limits = and_parts (is_register a) (nat_lt f (length target.fields) && is_register b) site.limits in
    let lt = below f (length target.fields) (and_parts (nat_lt f (length target.fields)) (is_register b) limits.1).0 in
    let like = (or_parts (holds_number a) (is_unlike (field_kind target.fields f) b) site.own.form.kinds).1 in
    stores_safe target setting (FieldOf (slot_in e.hand.registers a) (place_of target.fields f)) (word_in e.hand.registers b)
    (field_row setting (slot_in e.hand.registers a) (place_of target.fields f) (named setting.sizes.slots e.hand.registers a c.names) (place_fits target setting f sane.fields fits lt)) refl
    (value_lawful target setting (slot_in e.hand.registers a) f (word_in e.hand.registers b) (put_finds target e a b f sane c.reached is) lt
    (object_has target setting e (instr.Put a f b) a f sane c is (λ r k asked. put_asks_object target.fields target.roots a f b r k asked))
    (operand_lawful target setting e (instr.Put a f b) (field_kind target.fields f) b sane c is like
    (λ r k named to. put_asks_new target.fields target.roots a f b r k (subst (λ (x : Reg). same_register (Ref r) x ≡ true) (sym named) (itself r)) to)))
plain_safe target setting e (instr.Cas exchange l) sane some fits c is has =
    let site = site_of target e (Plain (instr.Cas exchange l)) sane c.reached is in
    exchange_safe target setting e (instr.Cas exchange l) exchange sane fits c is (λ r k asked. asked) (and_parts (is_entry (length target.fields) (length target.roots) exchange) (nat_le l 65535) site.limits).0 site.own.form.kinds
plain_safe target setting e _ sane some fits c is has = absurd cc

guard_safe : (target : Target) (setting : Setting) (e : Entry) (r : Reg) → e.number < setting.sizes.callers → (holds_reference r && is_register r) ≡ true → Here target setting e
    → IsSafe target setting (Stores (Hazard e.number (register_number r)) (slot_in e.hand.registers r))
guard_safe target setting e (Num r) lt limit c = absurd (let z : false ≡ true = limit in cc)
guard_safe target setting e (Ref r) lt limit c =
    stores_safe target setting (Hazard e.number r) (slot_in e.hand.registers (Ref r)) (hazard_row setting e.number r lt (below r 8 limit)) refl (named setting.sizes.slots e.hand.registers (Ref r) c.names)

instr_safe : (target : Target) (setting : Setting) (e : Entry) (o : Option TargetInstr) → Methods target → SettingSane setting → Fits target setting → e.number < setting.sizes.callers → Here target setting e
    → instr_in target e ≡ o → has_access o ≡ true → AsksSafely target setting (instr_wanted target.fields e.number o e.hand.registers)
instr_safe target setting e None sane some fits lt c is has = absurd (let z : false ≡ true = has in cc)
instr_safe target setting e (Some Check) sane some fits lt c is has = loads_safe target setting (Warning e.number) (less e.number setting.sizes.callers lt) refl
instr_safe target setting e (Some (Guard r)) sane some fits lt c is has = guard_safe target setting e r lt (site_of target e (Guard r) sane c.reached is).limits c
instr_safe target setting e (Some (Plain i)) sane some fits lt c is has = plain_safe target setting e i sane some fits c is has

-- a number that was looked for from one on is below the end
pub least_below : (test : ℕ → Bool) (r n : ℕ) → IfSome (least_from test r n) (λ (k : ℕ). k < r + n)
least_below test r zero = tt
least_below test r (suc n) = of (test r) (least_below test (r + 1) n) where
  of : (b : Bool) → IfSome (least_from test (r + 1) n) (λ (k : ℕ). k < r + 1 + n) → IfSome (if b then Some r else least_from test (r + 1) n) (λ (k : ℕ). k < r + suc n)
  of true rest = omega arith
  of false rest = let same : r + 1 + n ≡ r + suc n = omega arith in subst (λ (m : ℕ). IfSome (least_from test (r + 1) n) (λ (k : ℕ). k < m)) same rest

no_exchange : CasEntry
no_exchange = record { place = places.Root 0; expected = Num 0; replacement = Num 0; retire = None }

any_false : {X : Type 0} (p : X → Bool) (xs : List X) (k : ℕ) (x : X) → list_any p xs ≡ false → slice_get xs k ≡ Some x → p x ≡ false
any_false p [] k x none is = absurd cc
any_false p (y ∷ ys) zero x none is = let same : y ≡ x = cc in subst (λ z. p z ≡ false) same (or_parts (p y) (list_any p ys) none).0
any_false p (y ∷ ys) (suc k) x none is = any_false p ys k x (or_parts (p y) (list_any p ys) none).1 is

pub all_true : {X : Type 0} (p : X → Bool) (xs : List X) (k : ℕ) (x : X) → list_all p xs ≡ true → slice_get xs k ≡ Some x → p x ≡ true
all_true p [] k x all is = absurd cc
all_true p (y ∷ ys) zero x all is = let same : y ≡ x = cc in subst (λ z. p z ≡ true) same (and_parts (p y) (list_all p ys) all).0
all_true p (y ∷ ys) (suc k) x all is = all_true p ys k x (and_parts (p y) (list_all p ys) all).1 is

-- a list has exchanges at a commit alone
pub list_there : (o : Option TargetInstr) (k : ℕ) → k < length (list_of o) → (exchanges : List CasEntry) × (o ≡ Some (Plain (instr.Commit exchanges)))
list_there = lists.list_there

list_safe : (target : Target) (setting : Setting) (e : Entry) (k : ℕ) → Methods target → Fits target setting → Here target setting e
    → k < length (list_of (instr_in target e)) → AsksSafely target setting (list_wanted target.fields (slice_get (list_of (instr_in target e)) k) e.hand.registers)
list_safe target setting e k sane fits c lt = of (slice_get (list_of (instr_in target e)) k) refl where
  there : (exchanges : List CasEntry) × (instr_in target e ≡ Some (Plain (instr.Commit exchanges)))
  there = list_there (instr_in target e) k lt

  exchanges : List CasEntry
  exchanges = there.0

  site : SaneAt target e.hand.wrapup (code_in target e) e.hand.at (Plain (instr.Commit exchanges))
  site = site_of target e (Plain (instr.Commit exchanges)) sane c.reached there.1

  same : slice_get (list_of (instr_in target e)) k ≡ slice_get exchanges k
  same = ap (λ (q : Option TargetInstr). slice_get (list_of q) k) there.1

  of : (x : Option CasEntry) → slice_get (list_of (instr_in target e)) k ≡ x → AsksSafely target setting (list_wanted target.fields x e.hand.registers)
  of None none = absurd (let some : slice_get (list_of (instr_in target e)) k ≡ Some (slice_index_or (list_of (instr_in target e)) k no_exchange) = slice_get-get_or (list_of (instr_in target e)) k no_exchange lt in cc)
  of (Some exchange) is =
      exchange_safe target setting e (instr.Commit exchanges) exchange sane fits c there.1 (λ r kind asked. commit_asks target.fields target.roots exchanges k exchange r kind (sym same ∙ is) asked)
      (all_true (is_entry (length target.fields) (length target.roots)) exchanges k exchange (and_parts (nat_le (length exchanges) 4) (list_all (is_entry (length target.fields) (length target.roots)) exchanges) site.limits).1 (sym same ∙ is))
      (any_false (has_wrong_operand target.fields target.roots) exchanges k exchange site.own.form.kinds (sym same ∙ is))

cleared_safe : (target : Target) (setting : Setting) (c : ℕ) (guards : Guards) (spared : List Bool) → c < setting.sizes.callers → length guards.slots ≡ 8 → IsSomeOf (next_to_clear guards spared)
    → AsksSafely target setting (clear_wanted c (next_to_clear guards spared))
cleared_safe target setting c guards spared lt eight some = of (next_to_clear guards spared) (least_below (is_to_clear guards.slots spared) 0 (length guards.slots)) some where
  of : (o : Option ℕ) → IfSome o (λ (r : ℕ). r < 0 + length guards.slots) → IsSomeOf o → AsksSafely target setting (clear_wanted c o)
  of None below some = absurd some
  of (Some r) below some = stores_safe target setting (Hazard c r) 0 (hazard_row setting c r lt (omega (arith, below, eight))) refl (omega arith)

-- a phase of the run is announced, or the announcement is withdrawn
announcing_safe : (target : Target) (setting : Setting) (e : Entry) (announcing : Announcing) → e.number < setting.sizes.callers → setting.reclamation ≡ Epochs → AnnouncingStands setting (instr_in target e) e.hand announcing
    → IsSafe target setting (announcing_wanted e.number announcing)
announcing_safe target setting e (announces.Loads why) lt is stands = loads_safe target setting Phase refl refl
announcing_safe target setting e (announces.Stores why phase) lt is stands =
    stores_safe target setting (Warning e.number) phase (less e.number setting.sizes.callers lt) refl (phase_lawful setting.reclamation setting phase stands.1 stands.2)
announcing_safe target setting e (announces.Leaves reply) lt is stands = stores_safe target setting (Warning e.number) 0 (less e.number setting.sizes.callers lt) refl (none_lawful setting is)

step_safe : (target : Target) (setting : Setting) (e : Entry) (routine : Routine) → Methods target → SettingSane setting → Fits target setting → Belongs target setting e → is_idle routine ≡ false
    → RunsAt target e routine → RunsWithKinds target setting e routine → Stands target setting e routine → AsksSafely target setting (wanted target e routine)
step_safe target setting e Idle sane some fits b busy reaches kinds stands = absurd (let z : true ≡ false = busy in cc)
step_safe target setting e (LoadSeen why) sane some fits b busy reaches kinds stands = loads_safe target setting (Warning e.number) (less e.number setting.sizes.callers b.number) refl
step_safe target setting e At sane some fits b busy reaches kinds stands = instr_safe target setting e (instr_in target e) sane some fits b.number (record { reached = reaches; names = b.hand.registers; kinds = kinds.now }) refl stands
step_safe target setting e (InList k) sane some fits b busy reaches kinds stands = list_safe target setting e k sane fits (record { reached = reaches; names = b.hand.registers; kinds = kinds.now }) stands
step_safe target setting e (Retires retirement go) sane some fits b busy reaches kinds stands = retire_safe target setting retirement.slot retirement.stage stands.0.1 stands.0.2
step_safe target setting e Restarts sane some fits b busy reaches kinds stands = cleared_safe target setting e.number e.hand.guards (restart_spares e.hand.wrapup (op_of target e)) b.number b.hand.guards.row.slots stands.2
step_safe target setting e (Clears next) sane some fits b busy reaches kinds stands = cleared_safe target setting e.number e.hand.guards (then_spares next (op_of target e)) b.number b.hand.guards.row.slots stands.2
step_safe target setting e (Claims claim) sane some fits b busy reaches kinds stands =
    subst (λ (tops : ℕ). IsSafe target setting (claim_wants_at tops claim.kind claim.sweep claim.stage)) (sym stands.1.tops)
    (claim_safe target setting e.number claim.kind claim.sweep claim.stage some b.number stands.1.kind stands.1.scheme stands.1.stands stands.1.sweep)
step_safe target setting e (Zeroes k field) sane some fits b busy reaches kinds stands =
    stores_safe target setting (FieldOf (cradle_of e k) field) 0
    (field_row setting (cradle_of e k) field (b.cradles.within k) (let below = stands.3 in let room = (zero_count_fits target setting e.running.call.op e.hand.wrapup e.hand.at sane fits stands.0).1 in omega (arith, below, room))) refl (zero_lawful target setting (cradle_of e k) field)
step_safe target setting e (Announces announcing) sane some fits b busy reaches kinds stands = announcing_safe target setting e announcing b.number stands.0 stands.1

-- what an entry that belongs wants is one safe access, unless it is idle
pub wants_safe : (target : Target) (setting : Setting) (e : Entry) → Methods target → SettingSane setting → Fits target setting → Belongs target setting e → is_idle e.routine ≡ false → AsksSafely target setting (wants target e)
unfolding wants
wants_safe target setting e sane some fits b busy = step_safe target setting e e.routine sane some fits b busy b.reaches b.kinds b.stands
