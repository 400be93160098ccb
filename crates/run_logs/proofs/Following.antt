-- Signs written down by their names are those of the simulation.
use Rattle.std.proofs.Common.{◌≡◌, ℕ, Bool, true, false, List, [], ◌∷◌, map, Option, Some, None, refl, sym, ap, ◌∙◌, subst, if◌then◌else◌}
use Rattle.norm_lang.specs.declared.text.Text.{Text}
use Rattle.caller_parts.specs.declared.call.Call.{Call}
use Rattle.caller_steps.specs.Entries.{Entry}
use Rattle.caller_steps.specs.Signs.{Sign, Begins, Accesses, Draws, Renews, GivesUp}
use Rattle.caller_steps.specs.After.{signs}
use Rattle.caller_steps.specs.Wants.{wants}
use Rattle.phase_pools.specs.Accesses.{WordAccess}
use Rattle.core_runs.specs.Machine.{found_by}
use Rattle.core_runs.specs.RunSigns.{signed, wanted_signs, entry_signs}
use Rattle.oa_simulation.specs.Shadow.{Shadow, shadow_step, shadow_run}
use Rattle.run_laws.proofs.begin_laws.SignsBegun.{begun, begins_at, after_starts}
use Rattle.core_entries.specs.declared.signs.Sign.TheVariants.{Begin}
use Rattle.core_entries.specs.StepSigns.{is_of_text, named, all_named}
use Rattle.run_logs.specs.Logged.{logged, logged_all}
use Rattle.run_logs.specs.LogLaws.{recording, LogsAreShadows, StepsAreShadows}

-- each call that signs begin is this one
abbrev EachBegins : Call → List Sign → Type 0
EachBegins call [] = Unit {0}
EachBegins call (Begins x ∷ rest) = (x ≡ call) × EachBegins call rest
EachBegins call (Accesses ∷ rest) = EachBegins call rest
EachBegins call (Draws slot ∷ rest) = EachBegins call rest
EachBegins call (Renews ∷ rest) = EachBegins call rest
EachBegins call (GivesUp phase ∷ rest) = EachBegins call rest

each_none : (call : Call) (l : List Sign) → begun l ≡ [] → EachBegins call l
each_none call [] none = tt
each_none call (Begins x ∷ rest) none = absurd (let no : x ∷ begun rest ≡ [] = none in cc)
each_none call (Accesses ∷ rest) none = each_none call rest none
each_none call (Draws slot ∷ rest) none = each_none call rest none
each_none call (Renews ∷ rest) none = each_none call rest none
each_none call (GivesUp phase ∷ rest) none = each_none call rest none

each_one : (call : Call) (l : List Sign) → begun l ≡ call ∷ [] → EachBegins call l
each_one call [] one = tt
each_one call (Begins x ∷ rest) one = let both : x ∷ begun rest ≡ call ∷ [] = one in (cc, each_none call rest cc)
each_one call (Accesses ∷ rest) one = each_one call rest one
each_one call (Draws slot ∷ rest) one = each_one call rest one
each_one call (Renews ∷ rest) one = each_one call rest one
each_one call (GivesUp phase ∷ rest) one = each_one call rest one

each_by : (call : Call) (l : List Sign) (waiting : Bool) → begun l ≡ (if waiting then call ∷ [] else []) → EachBegins call l
each_by call l true is = each_one call l is
each_by call l false is = each_none call l is

-- one sign, by its name
one_same : (text : Text) (c : ℕ) (call : Call) (own : Bool) (sign : Sign) (z : Shadow) → EachBegins call (sign ∷ []) → logged text c call (recording z) (named own sign) ≡ recording (shadow_step text z (record { caller = c; sign = sign }))
one_same text c call own (Begins x) z is = subst (λ (y : Call). logged text c y (recording z) Begin ≡ recording (shadow_step text z (record { caller = c; sign = Begins x }))) is.0 refl
one_same text c call true Accesses z is = refl
one_same text c call false Accesses z is = refl
one_same text c call own (GivesUp None) z is = refl
one_same text c call own _ z is = refl

first_of : (call : Call) (sign : Sign) (rest : List Sign) → EachBegins call (sign ∷ rest) → EachBegins call (sign ∷ []) × EachBegins call rest
first_of call (Begins x) rest each = ((each.0, tt), each.1)
first_of call _ rest each = (tt, each)

rest_same : (text : Text) (c : ℕ) (call : Call) (l : List Sign) (z : Shadow) → EachBegins call l → logged_all text c call (map (named false) l) (recording z) ≡ recording (shadow_run text (signed c l) z)
rest_same text c call [] z each = refl
rest_same text c call (sign ∷ rest) z each =
    let parts = first_of call sign rest each in
    ap (logged_all text c call (map (named false) rest)) (one_same text c call false sign z parts.0) ∙ rest_same text c call rest (shadow_step text z (record { caller = c; sign = sign })) parts.1

all_same : (text : Text) (c : ℕ) (call : Call) (own : Bool) (l : List Sign) (z : Shadow) → EachBegins call l → logged_all text c call (all_named own l) (recording z) ≡ recording (shadow_run text (signed c l) z)
all_same text c call own [] z each = refl
all_same text c call own (sign ∷ rest) z each =
    let parts = first_of call sign rest each in
    ap (logged_all text c call (map (named false) rest)) (one_same text c call own sign z parts.0) ∙ rest_same text c call rest (shadow_step text z (record { caller = c; sign = sign })) parts.1

pub logs_are_shadows : LogsAreShadows
logs_are_shadows target text setting c e word z busy =
    all_same text c e.running.call (is_of_text target e e.routine) (signs target setting e word) z (each_by e.running.call (signs target setting e word) (begins_at e.routine) (after_starts target setting e word).0)

pub steps_are_shadows : StepsAreShadows
steps_are_shadows target text setting state c e z at busy =
    of (wants target e)
    ∙ sym (ap (λ (o : Option Entry). recording (shadow_run text (signed c (entry_signs target setting state o)) z)) at)
  where
    of : (o : Option WordAccess) → logged_all text c e.running.call (all_named (is_of_text target e e.routine) (wanted_signs target setting (record { words = state.words; entries = [] }) e o)) (recording z)
        ≡ recording (shadow_run text (signed c (wanted_signs target setting state e o)) z)
    of None = refl
    of (Some a) = logs_are_shadows target text setting c e (found_by setting state a) z busy
