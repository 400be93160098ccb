-- A caller that has taken a call may step; and each caller's empty entry belongs.
use Rattle.std.proofs.Common.{◌≡◌, ◌∙◌, ◌<◌, ℕ, true, [], inr, ap, refl, subst, sym}
use Rattle.atomic_table.specs.Table.{Me}
use Rattle.caller_parts.specs.declared.call.Call.{Call}
use Rattle.caller_parts.specs.Calls.{is_call}
use Rattle.caller_steps.specs.Entries.{Entry, idle_entry, is_idle}
use Rattle.caller_steps.specs.After.{taken}
use Rattle.core_runs.proofs.caller_laws.Beginning.{idle_belongs}
use Rattle.core_runs.proofs.caller_laws.Together.{methods}
use Rattle.word_runner.specs.table_rule.Seen.{Fixed, IsGround, SeatView}
use Rattle.word_runner.specs.table_rule.Plays.{Belonging, CanGo, NewcomersBelong, with_accesses, with_entry, with_found}
use Rattle.word_runner.specs.table_rule.Rule.{callers_of}
use Rattle.word_runner.specs.table_rule.Seats.{Seated}
use Rattle.core_runs.proofs.Keeping.{first_busy}

pub may_go : (key : Fixed) (me : Me ℕ SeatView) (base e : Entry) (call : Call) → Seated me base → me.0.fixed ≡ key → is_idle base.routine ≡ true → is_call key.target.target call ≡ true
    → e ≡ taken key.setting.reclamation call base → Belonging key e → CanGo key me e
may_go key me base e call seated fixed idle is took belongs = record {
  bare = seated.bare;
  live = seated.live;
  fixed = fixed;
  base = base;
  alone = seated.alone;
  hand = inr (idle, (call, is, took));
  belongs = belongs;
  busy = ap (λ (x : Entry). is_idle x.routine) took ∙ first_busy key.setting.reclamation;
}

pub newcomers_belong : (key : Fixed) → IsGround key → NewcomersBelong key
newcomers_belong key good = record {
  each = λ c lt. record { fits = good.fits; belongs = idle_belongs key.target.target key.setting c (methods key.target.target key.target.source good.runs) lt };
}

-- a seat that won a place has the empty entry with the place's number
pub seated_at : (key : Fixed) (me : Me ℕ SeatView) (was : SeatView) (n count : ℕ) (e : Entry) → NewcomersBelong key → was.fixed ≡ key → was.live ≡ true → me ≡ (with_accesses (with_entry (with_found was n) (idle_entry n)) count, [])
    → e ≡ idle_entry n → n < callers_of key → Seated me e
seated_at key me was n count e all fixed live is same lt =
    subst (λ (x : Me ℕ SeatView). Seated x e) (sym is) (subst (λ (y : Entry). Seated (with_accesses (with_entry (with_found was n) (idle_entry n)) count, []) y) (sym same) (record {
      bare = refl;
      live = live;
      alone = refl;
      belongs = subst (λ (k : Fixed). Belonging k (idle_entry n)) (sym fixed) (all.each n lt);
    }))
