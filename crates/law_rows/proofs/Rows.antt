-- States that don't stay in the row: each breaks the conjunct that speaks of it.
use Rattle.std.proofs.Common.{◌≡◌, ℕ, ◌≤◌, ◌<◌, inl, inr, refl, arith, true, false}
use Rattle.oa_words.specs.SlotKinds.{IsNullOrOf}
use Rattle.caller_parts.specs.declared.setting.Reclamation.TheVariants.{Optimistic, Epochs}
use Rattle.caller_steps.specs.Wants.{wants}
use Rattle.law_rows.specs.RowStates.{phases_setting, PhaseRows, OutOfRow, StrangeEntries}

pub phase_rows : PhaseRows
phase_rows = record {
  first = (omega arith, omega arith);
  last = (omega arith, omega arith);
  before_first = λ h. omega arith;
  after_last = λ h. omega arith;
  phase_word = λ h. omega arith;
  warning = λ h. omega arith;
  no_warning = λ h. omega arith;
  nothing_announced = omega arith;
  late_announced = λ h. let is : 10 ≤ 9 = h in omega arith;
  announced_phase_word = λ h. omega arith;
  status = omega arith;
  head = (omega arith, inr (omega arith, omega arith, refl));
  late_status = λ h. omega arith;
  late_head = λ h. let is : 10 ≤ 9 = h.0 in omega arith;
}

three_is_more : ◌≤◌ 3 2 → ⊥
three_is_more h = omega arith

-- slot 3 is neither null nor of the kind
none_of_kind : IsNullOrOf phases_setting.sizes 0 3 → ⊥
none_of_kind (inl null) = let is : ◌≡◌ {A = ℕ} 3 0 = null in omega arith
none_of_kind (inr slot) = three_is_more slot.1

pub out_of_row : OutOfRow
unfolding wants
out_of_row = record {
  start = refl;
  register = λ h. three_is_more (h.registers 0 3 _ refl);
  started = λ h. three_is_more (h.started 0 3 _ refl);
  field = λ h. none_of_kind (h.fields 0 1 0 refl refl);
  root = λ h. none_of_kind (h.roots 0 0 refl refl);
  hazard = λ h. three_is_more (h.hazards 0 7 refl);
  link = λ h. none_of_kind (h.links 2 refl);
  top = λ h. none_of_kind (h.top 0 (omega arith));
  longer = λ h. let is : ◌≡◌ {A = ℕ} 26 25 = h.words in omega arith;
  shorter = λ h. let is : ◌≡◌ {A = ℕ} 24 25 = h.words in omega arith;
  wanted = λ h. let is : 41 < 25 = (h.wanted 0 _ _ refl refl).0 in omega arith;
  early_phase = λ h. let is : 5 ≤ 4 = h.phase.0 in omega arith;
  late_phase = λ h. let is : 10 ≤ 9 = h.phase.1 in omega arith;
  early_warning = λ h. let is : 5 ≤ 4 = (h.warnings 0 refl).0 in omega arith;
  late_warning = λ h. let is : 10 ≤ 9 = (h.warnings 0 refl).1 in omega arith;
  no_kind = λ h. h.statuses 2 refl;
  late_status = λ h. let is : 10 ≤ 9 = h.statuses 2 refl in omega arith;
  early_head = λ h. let is : 6 ≤ 5 = h.stamped 0 (omega arith) in omega arith;
}

not_so : false ≡ true → ⊥
not_so is = cc

other_scheme : Optimistic ≡ Epochs → ⊥
other_scheme is = cc

same_scheme : Epochs ≡ Optimistic → ⊥
same_scheme is = cc

pub strange_entries : StrangeEntries
strange_entries = record {
  number = λ h. let is : 1 < 1 = h.number in omega arith;
  op = λ h. let is : 3 < 3 = h.op in omega arith;
  register = λ h. three_is_more (h.hand.registers.within 3);
  started = λ h. three_is_more (h.hand.started.within 3);
  guard = λ h. three_is_more (h.hand.guards.within 0);
  cradle = λ h. three_is_more (h.cradles.within 3);
  three_cradles = λ h. let is : ◌≡◌ {A = ℕ} 3 16 = h.cradles.count in omega arith;
  seven_guards = λ h. let is : ◌≡◌ {A = ℕ} 7 8 = h.hand.guards.row.slots in omega arith;
  seen = λ h. let is : 10 ≤ 9 = h.hand.seen in omega arith;
  past_the_end = λ h. let is : 7 < 7 = h.reaches.inside in omega arith;
  idle_past_the_end = λ h. let is : 7 < 7 = h.reaches in omega arith;
  no_access = λ h. not_so h.stands;
  empty_list = λ h. let is : 0 < 0 = h.stands in omega arith;
  no_check = λ h. not_so h.stands.1;
  no_new = λ h. not_so h.stands.0;
  no_claim = λ h. not_so h.stands.0;
  no_start = λ h. let is : ◌≡◌ {A = ℕ} 2 0 = h.stands.1.1 in omega arith;
  no_exchange = λ h. not_so h.stands.1;
  no_epochs = λ h. other_scheme h.stands.0;
  no_warning = λ h. same_scheme h.stands.0;
  no_clear = λ h. same_scheme h.stands.0;
  no_begin = λ h. let is : ◌≡◌ {A = ℕ} 2 0 = h.stands.1.1 in omega arith;
  no_phase = λ h. let is : 5 ≤ 4 = h.stands.1.1 in omega arith;
  no_sweep = λ h. not_so h.stands.1.1;
  no_reply = λ h. not_so h.stands.1.0;
}
