-- Every reachable state is sound, and stays in the row.
use Rattle.std.proofs.Common.{◌≡◌, ℕ, suc, ◌≤◌, ◌<◌, Bool, true, false, length, Option, Some, None, refl, sym, ap, ◌∙◌, subst, arith, if◌then◌else◌}
use Rattle.std.specs.Prelude.{slice_get}
use Rattle.std.proofs.lemmas.Bool.Decides.{nat_tests}
use Rattle.norm_lang.specs.declared.text.FieldKind.{FieldKind}
use Rattle.norm_lang.specs.declared.text.FieldKind.TheVariants as holdings
use Rattle.norm_lang.specs.InstructionRules.{root_kind}
use Rattle.norm_lang.specs.declared.text.Text.{Text}
use Rattle.target_code.specs.declared.target.Target.{Target}
use Rattle.target_laws.specs.target_runs.Runnable.{MayBeWalked}
use Rattle.oa_words.specs.Words.{Sizes, Phase, Warning, Hazard, Status, FieldOf, Cell, Head, Link, address_of, in_row, word_count}
use Rattle.oa_words.specs.SlotKinds.{kind_of}
use Rattle.oa_words.specs.Packed.{head_parts}
use Rattle.phase_pools.specs.Accesses.{WordAccess, word_of}
use Rattle.phase_pools.specs.Pools.{Claim}
use Rattle.caller_parts.specs.declared.routine.Routine.{Routine}
use Rattle.caller_parts.specs.declared.routine.Routine.TheVariants.{Claims}
use Rattle.caller_parts.specs.Settings.{Fits, IsSetting, Setting}
use Rattle.caller_steps.specs.Entries.{Entry, is_idle}
use Rattle.caller_steps.specs.Wants.{wants}
use Rattle.caller_steps.specs.Lawful.{AsksSafely, IsLawful, IsSafe, LawfulValue, held_at, is_place}
use Rattle.caller_steps.specs.Belongs.{Belongs, Stands, scheme_of}
use Rattle.core_runs.specs.Machine.{CoreState, Reachable, word_at}
use Rattle.core_runs.specs.Swept.{ClaimsFollowSetting}
use Rattle.core_runs.proofs.Reaching.{induct, induct_reached}
use Rattle.core_runs.proofs.caller_laws.Methods.{Methods, SettingSane, setting_sane}
use Rattle.core_runs.proofs.caller_laws.Together.{idle_wants, methods}
use Rattle.core_runs.specs.Views.{IsShaped, view}
use Rattle.core_runs.specs.core_sound.Sound.{IsSound, StaysInRow, StartSuits, Always}
use Rattle.core_runs.specs.caller_laws.Laws.{ForRuns}
use Rattle.oa_words.proofs.Places.{within}
use Rattle.core_runs.proofs.caller_laws.Safety.{wants_safe}
use Rattle.core_runs.proofs.core_sound.Machine.{event_sound}
use Rattle.core_runs.proofs.core_sound.StartSound.{start_sound, suits}
use Rattle.core_runs.proofs.core_sound.Stamping.{IsStamped, event_stamped, start_stamped}

reference_lawful : (n : Sizes) (word k : ℕ) (kind : Option FieldKind) → kind ≡ Some (holdings.Reference k) → LawfulValue n kind word → LawfulValue n (Some (holdings.Reference k)) word
reference_lawful n word k kind is lawful = subst (λ (held : Option FieldKind). LawfulValue n held word) is lawful

-- a caller that wants something isn't idle
wants_busy : (target : Target) (e : Entry) (a : WordAccess) (b : Bool) → is_idle e.routine ≡ b → wants target e ≡ Some a → is_idle e.routine ≡ false
wants_busy target e a true is want = absurd (let no : None ≡ Some a = sym (idle_wants target e is) ∙ want in cc)
wants_busy target e a false is want = is

is_kind : (setting : Setting) (t : ℕ) → t < length setting.sizes.kinds → in_row setting.sizes (Head t) ≡ true
is_kind setting t lt = grind (arith, nat_tests)

pub sound_stays : (target : Target) (setting : Setting) (state : CoreState) → Methods target → SettingSane setting → Fits target setting → IsSound target setting state
    → ((t : ℕ) → t < length setting.sizes.kinds → (head_parts setting.sizes.tops (word_at setting state (Head t))).phase ≤ word_at setting state Phase) → StaysInRow target setting state
sound_stays target setting state sane some fits s stamped = record {
  registers = λ c r e is. (s.belong c e is).0.hand.registers.within r;
  started = λ c r e is. (s.belong c e is).0.hand.started.within r;
  kinds = λ c e is. (s.belong c e is).0.kinds;
  fields = λ j g k row kind. reference_lawful setting.sizes (word_at setting state (FieldOf (suc j) g)) k (held_at target (kind_of setting.sizes (suc j)) g) kind (s.lawful (FieldOf (suc j) g) row);
  null_fields = λ g row. s.lawful (FieldOf 0 g) row;
  roots = λ x k row kind. reference_lawful setting.sizes (word_at setting state (Cell x)) k (root_kind target.roots x) kind (s.lawful (Cell x) row);
  hazards = λ c r row. s.lawful (Hazard c r) row;
  links = λ j row. s.lawful (Link j) row;
  top = λ t lt. (s.lawful (Head t) (is_kind setting t lt)).1;
  words = s.count;
  wanted = λ c e a is want. asked c e a is want;
  phase = s.lawful Phase refl;
  warnings = λ c row. s.lawful (Warning c) row;
  statuses = λ j row. s.lawful (Status j) row;
  stamped = stamped;
} where
  safe : (c : ℕ) (e : Entry) (a : WordAccess) → slice_get state.entries c ≡ Some e → wants target e ≡ Some a → IsSafe target setting a
  safe c e a is want = subst (λ (o : Option WordAccess). AsksSafely target setting o) want (wants_safe target setting e sane some fits (s.belong c e is).0 (wants_busy target e a (is_idle e.routine) refl want))

  asked : (c : ℕ) (e : Entry) (a : WordAccess) → slice_get state.entries c ≡ Some e → wants target e ≡ Some a
      → (address_of setting.sizes (word_of a) < word_count setting.sizes) × (is_place (word_of a) ≡ false) × IsLawful target setting (word_of a) (word_at setting state (word_of a))
  asked c e a is want =
      let row = (safe c e a is want).row in
      (within setting.sizes (word_of a) row, (safe c e a is want).place, s.lawful (word_of a) row)

pub states_are_sound : Always IsSound
states_are_sound target text setting state runs own fits reached =
    let own_methods = methods target text runs in
    induct target setting (IsSound target setting) (start_sound target setting own_methods runs.within own fits)
    (λ now later event sound leads. event_sound target setting now later event own_methods (setting_sane setting own) fits sound leads) state reached

pub sound_is_shaped : (target : Target) (setting : Setting) (state : CoreState) → Methods target → SettingSane setting → Fits target setting → IsSound target setting state → IsShaped target setting state
sound_is_shaped target setting state sane some fits s = record { words = s.count; callers = s.callers; wanted = λ c e a is want. row c e a is want }
  where
    row : (c : ℕ) (e : Entry) (a : WordAccess) → slice_get state.entries c ≡ Some e → wants target e ≡ Some a → in_row setting.sizes (word_of a) ≡ true
    row c e a is want = (subst (λ (o : Option WordAccess). AsksSafely target setting o) want (wants_safe target setting e sane some fits (s.belong c e is).0 (wants_busy target e a (is_idle e.routine) refl want))).row

pub states_are_shaped : Always IsShaped
states_are_shaped target text setting state runs own fits reached =
    sound_is_shaped target setting state (methods target text runs) (setting_sane setting own) fits (states_are_sound target text setting state runs own fits reached)

-- ---- schemes

-- what an entry that belongs claims goes by the setting's scheme
claim_follows : (target : Target) (setting : Setting) (e : Entry) (claim : Claim) → Belongs target setting e → e.routine ≡ Claims claim
    → (claim.sweep.scheme ≡ scheme_of setting.reclamation e.number) × (claim.sweep.tops ≡ setting.sizes.tops)
claim_follows target setting e claim b is = let own = (subst (λ (routine : Routine). Stands target setting e routine) is b.stands).1 in (own.scheme, own.tops)

pub claims_follow : Always ClaimsFollowSetting
claims_follow target text setting state runs own fits reached = record {
  each = λ c e claim there is.
      let belongs = (states_are_sound target text setting state runs own fits reached).belong c e there in
      (claim_follows target setting e claim belongs.0 is).0 ∙ ap (scheme_of setting.reclamation) belongs.1;
  tops = λ c e claim there is.
      (claim_follows target setting e claim ((states_are_sound target text setting state runs own fits reached).belong c e there).0 is).1;
}

-- ---- the heads' phases

stamped_in : (setting : Setting) (state : CoreState) → IsStamped setting (view setting state).memory (view setting state).who
    → (t : ℕ) → t < length setting.sizes.kinds → (head_parts setting.sizes.tops (word_at setting state (Head t))).phase ≤ word_at setting state Phase
stamped_in setting state w t lt =
    let seen : (view setting state).memory (Head t) ≡ word_at setting state (Head t) = ap (λ (b : Bool). if b then word_at setting state (Head t) else 0) (is_kind setting t lt) in
    subst (λ (word : ℕ). (head_parts setting.sizes.tops word).phase ≤ word_at setting state Phase) seen (w.words.stamped t lt)

states_are_stamped : (target : Target) (text : Text) (setting : Setting) (state : CoreState) → MayBeWalked target text → IsSetting setting → Fits target setting → Reachable target setting state
    → IsStamped setting (view setting state).memory (view setting state).who
states_are_stamped target text setting state runs own fits reached =
    let sane = setting_sane setting own in
    induct_reached target setting (λ (s : CoreState). IsStamped setting (view setting s).memory (view setting s).who)
    (start_stamped target setting sane (suits runs.within own fits))
    (λ now later event came w leads.
    event_stamped target setting sane now later event (states_are_shaped target text setting now runs own fits came) (states_are_sound target text setting now runs own fits came) leads w) state reached

pub states_stay : Always StaysInRow
states_stay target text setting state runs own fits reached =
    sound_stays target setting state (methods target text runs) (setting_sane setting own) fits (states_are_sound target text setting state runs own fits reached)
    (stamped_in setting state (states_are_stamped target text setting state runs own fits reached))

pub start_suits : ForRuns StartSuits
start_suits target text setting runs own fits = record { suits = suits runs.within own fits }
