-- The slots of a run's names: once drawn, a name keeps its slot.
use Rattle.std.proofs.Common.{ℕ, ◌≡◌, ◌≤◌, ◌<◌, ◌∙◌, ◌++◌, true, false, List, [], ◌∷◌, refl, arith}
use Rattle.norm_lang.specs.declared.text.Text.{Text}
use Rattle.source_machine.proofs.Places.{put_same, put_other}
use Rattle.caller_steps.specs.Signs.{Sign, Begins, Accesses, Draws, Renews, GivesUp}
use Rattle.core_runs.specs.RunSigns.{Signed, signed}
use Rattle.oa_simulation.specs.sim_relation.Points.{unused_after}
use Rattle.oa_simulation.specs.Shadow.{Shadow, home_after, shadow_step, shadow_run}
use Rattle.oa_simulation.specs.Relation.{HomeIs}
use Rattle.oa_simulation.specs.sim_relation.Points.{DrawsHome}
use Rattle.oa_simulation.proofs.sim_steps.Drawing.{DrawsNone}

step_home : (sign : Sign) (u n : ℕ) (home : ℕ → ℕ) → n < u → home_after sign u home n ≡ home n
step_home (Draws j) u n home lt = put_other home u n j (λ e. omega (arith, lt, e))
step_home _ u n home lt = refl

step_unused : (sign : Sign) (u : ℕ) → u ≤ unused_after sign u
step_unused (Begins call) u = omega arith
step_unused _ u = omega arith

pub unused_grows : (text : Text) (xs : List Signed) (z : Shadow) → z.unused ≤ (shadow_run text xs z).unused
unused_grows text [] z = omega arith
unused_grows text (x ∷ xs) z =
    let one = step_unused x.sign z.unused in
    let more = unused_grows text xs (shadow_step text z x) in
    omega (arith, one, more)

pub home_stays : (text : Text) (xs : List Signed) (z : Shadow) (n : ℕ) → n < z.unused → (shadow_run text xs z).home n ≡ z.home n
home_stays text [] z n lt = refl
home_stays text (x ∷ xs) z n lt =
    home_stays text xs (shadow_step text z x) n (let one = step_unused x.sign z.unused in omega (arith, one, lt))
    ∙ step_home x.sign z.unused n z.home lt

pub home_before : (text : Text) (home : ℕ → ℕ) (xs : List Signed) (z : Shadow) → HomeIs home (shadow_run text xs z) → HomeIs home z
home_before text home xs z is n lt = is n (let more = unused_grows text xs z in omega (arith, more, lt)) ∙ home_stays text xs z n lt

pub run_append : (text : Text) (xs ys : List Signed) (z : Shadow) → shadow_run text (xs ++ ys) z ≡ shadow_run text ys (shadow_run text xs z)
run_append text [] ys z = refl
run_append text (x ∷ xs) ys z = run_append text xs ys (shadow_step text z x)

pub draws_home : (text : Text) (home : ℕ → ℕ) (c : ℕ) (signs : List Sign) (z : Shadow) → HomeIs home (shadow_run text (signed c signs) z) → DrawsHome home signs z.unused
draws_home text home c [] z is = tt
draws_home text home c (Begins call ∷ signs) z is = draws_home text home c signs (shadow_step text z (record { caller = c; sign = Begins call })) is
draws_home text home c (Accesses ∷ signs) z is = draws_home text home c signs (shadow_step text z (record { caller = c; sign = Accesses })) is
draws_home text home c (Draws j ∷ signs) z is =
    let next : Shadow = shadow_step text z (record { caller = c; sign = Draws j }) in (
      home_before text home (signed c signs) next is z.unused (omega arith) ∙ put_same z.home z.unused j,
      draws_home text home c signs next is,
    )
draws_home text home c (Renews ∷ signs) z is = draws_home text home c signs (shadow_step text z (record { caller = c; sign = Renews })) is
draws_home text home c (GivesUp phase ∷ signs) z is = draws_home text home c signs (shadow_step text z (record { caller = c; sign = GivesUp phase })) is

-- signs that draw no name leave what was drawn
pub undrawn : (text : Text) (home : ℕ → ℕ) (c : ℕ) (signs : List Sign) (z : Shadow) → DrawsNone signs → HomeIs home z → HomeIs home (shadow_run text (signed c signs) z)
undrawn text home c [] z none is = is
undrawn text home c (Begins call ∷ signs) z none is = undrawn text home c signs (shadow_step text z (record { caller = c; sign = Begins call })) none is
undrawn text home c (Accesses ∷ signs) z none is = undrawn text home c signs (shadow_step text z (record { caller = c; sign = Accesses })) none is
undrawn text home c (Draws j ∷ signs) z none is = absurd (let y : false ≡ true = none in cc)
undrawn text home c (Renews ∷ signs) z none is = undrawn text home c signs (shadow_step text z (record { caller = c; sign = Renews })) none is
undrawn text home c (GivesUp phase ∷ signs) z none is = undrawn text home c signs (shadow_step text z (record { caller = c; sign = GivesUp phase })) none is
