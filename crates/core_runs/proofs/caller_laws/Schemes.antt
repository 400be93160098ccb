-- What both schemes of reclamation share: warnings within the run's phases, and whose announcement a claim withdraws.
use Rattle.std.proofs.Common.{◌≡◌, ℕ, ◌≤◌, ◌<◌, arith, ap, sym, subst, refl}
use Rattle.std.specs.Prelude.{max}
use Rattle.oa_words.specs.Words.{Sizes}
use Rattle.phase_pools.specs.declared.stages.Scheme.{Scheme}
use Rattle.phase_pools.specs.declared.stages.Scheme.TheVariants.{Warned, Announced}
use Rattle.phase_pools.specs.Ranges.{HasOwn}
use Rattle.caller_parts.specs.declared.setting.Reclamation.{Reclamation}
use Rattle.caller_parts.specs.declared.setting.Reclamation.TheVariants.{Optimistic, Epochs}
use Rattle.caller_parts.specs.Settings.{Setting, first_warning}
use Rattle.caller_steps.specs.Lawful.{LawfulWarning}
use Rattle.caller_steps.specs.Belongs.{scheme_of}

-- ---- words

-- no lawful warning is past the last phase
pub warning_within : (by : Reclamation) (setting : Setting) (word : ℕ) → LawfulWarning by setting word → word ≤ setting.last
warning_within Optimistic setting word lawful = lawful.1
warning_within Epochs setting word lawful = lawful

-- one that is raised to a phase of the run is lawful, and so is that phase by itself
pub raised_lawful : (by : Reclamation) (setting : Setting) (word phase : ℕ) → LawfulWarning by setting word → setting.first ≤ phase → phase ≤ setting.last → LawfulWarning by setting (max word phase)
raised_lawful Optimistic setting word phase lawful low high = (omega (arith, lawful.0, low), omega (arith, lawful.1, high))
raised_lawful Epochs setting word phase lawful low high = omega (arith, lawful, high)

pub phase_lawful : (by : Reclamation) (setting : Setting) (phase : ℕ) → setting.first ≤ phase → phase ≤ setting.last → LawfulWarning by setting phase
phase_lawful Optimistic setting phase low high = (low, high)
phase_lawful Epochs setting phase low high = high

-- under epochs nothing announced is
pub none_lawful : (setting : Setting) → setting.reclamation ≡ Epochs → LawfulWarning setting.reclamation setting 0
none_lawful setting is = subst (λ (by : Reclamation). LawfulWarning by setting 0) (sym is) (let none : 0 ≤ setting.last = omega arith in none)

-- what a warning word holds at the start is
pub first_lawful : (by : Reclamation) (setting : Setting) → setting.first ≤ setting.last → LawfulWarning by setting (first_warning by setting.first)
first_lawful Optimistic setting some = (omega arith, some)
first_lawful Epochs setting some = omega arith

-- ---- claims

-- a claim that withdraws an announcement is one under epochs, and withdraws its caller's
pub own_announced : (by : Reclamation) (c own : ℕ) → Announced own ≡ scheme_of by c → (by ≡ Epochs) × (own ≡ c)
own_announced Optimistic c own is = absurd cc
own_announced Epochs c own is = (refl, cc)

-- the caller that announces is one of the row's
pub has_own : (n : Sizes) (by : Reclamation) (c : ℕ) (scheme : Scheme) → scheme ≡ scheme_of by c → c < n.callers → HasOwn n scheme
has_own n by c scheme is lt = subst (HasOwn n) (sym is) (of by) where
  of : (by : Reclamation) → HasOwn n (scheme_of by c)
  of Optimistic = tt
  of Epochs = lt

-- a setting's scheme
pub warns_here : (setting : Setting) (c : ℕ) → setting.reclamation ≡ Optimistic → Warned ≡ scheme_of setting.reclamation c
warns_here setting c is = ap (λ (by : Reclamation). scheme_of by c) (sym is)

pub announces_here : (setting : Setting) (c : ℕ) → setting.reclamation ≡ Epochs → Announced c ≡ scheme_of setting.reclamation c
announces_here setting c is = ap (λ (by : Reclamation). scheme_of by c) (sym is)
