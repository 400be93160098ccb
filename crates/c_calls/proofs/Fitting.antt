-- The claim of an entry that belongs fits its lines.
use Rattle.std.proofs.Common.{◌≡◌, ℕ, ◌<◌, ◌^◌, List, Option, Some, sym, ◌∙◌, ap, subst, arith}
use Rattle.norm_lang.specs.declared.text.Reg.TheVariants.{Ref}
use Rattle.norm_lang.specs.declared.text.Instr.TheVariants as instr
use Rattle.target_code.specs.declared.target.TargetInstr.{TargetInstr}
use Rattle.target_code.specs.declared.target.TargetInstr.TheVariants.{Plain}
use Rattle.target_code.specs.declared.target.Target.{Target}
use Rattle.oa_words.specs.Words.{Sizes}
use Rattle.phase_pools.specs.declared.stages.Scheme.{Scheme}
use Rattle.phase_pools.specs.declared.stages.Scheme.TheVariants.{Warned}
use Rattle.phase_pools.specs.declared.stages.SweepStage.{SweepStage}
use Rattle.phase_pools.specs.declared.stages.SweepStage.TheVariants as sweeps
use Rattle.phase_pools.specs.declared.stages.ClaimStage.{ClaimStage}
use Rattle.phase_pools.specs.declared.stages.ClaimStage.TheVariants as claims
use Rattle.phase_pools.specs.Accesses.{WordAccess}
use Rattle.phase_pools.specs.Pools.{Claim, claim_wants}
use Rattle.phase_pools.specs.Ranges.{ClaimTold}
use Rattle.caller_parts.specs.declared.setting.Reclamation.{Reclamation}
use Rattle.caller_parts.specs.declared.routine.Routine.{Routine}
use Rattle.caller_parts.specs.declared.routine.Routine.TheVariants.{Claims}
use Rattle.caller_parts.specs.Operands.{kind_made}
use Rattle.caller_parts.specs.Settings.{Setting}
use Rattle.caller_steps.specs.Entries.{Entry, instr_in}
use Rattle.caller_steps.specs.Asking.{CanAsk, CanAccept}
use Rattle.caller_steps.specs.Lawful.{MayBeTold}
use Rattle.caller_steps.specs.Belongs.{Stands, SweepStands, HasBound, SweepBelongs, ClaimStands, HasLow, scheme_of}
use Rattle.c_language.specs.Steps.{Pool}
use Rattle.c_runtime.specs.Laws.{SweepFits, ClaimFits, Fits}
use Rattle.emission_laws.specs.Making.{RunsFor}
use Rattle.emission_laws.proofs.Sides.{wants_by}
use Rattle.c_calls.specs.News.{IsFit}

-- the pool of a setting
abbrev pool_of : Setting → List ℕ → ℕ → Pool
pool_of setting fields own = record { sizes = setting.sizes; fields = fields; last = setting.last; own = own }

pool_is : (pool : Pool) (setting : Setting) → pool.sizes ≡ setting.sizes → pool.last ≡ setting.last → pool_of setting pool.fields pool.own ≡ pool
pool_is pool setting sizes last =
    ap (λ (n : Sizes). record { sizes = n; fields = pool.fields; last = setting.last; own = pool.own }) (sym sizes)
    ∙ ap (λ (x : ℕ). record { sizes = pool.sizes; fields = pool.fields; last = x; own = pool.own }) (sym last)

sweep_fits : (setting : Setting) (fields : List ℕ) (own bound : ℕ) (stage : SweepStage) → SweepStands setting bound stage → HasBound setting bound stage → SweepFits (pool_of setting fields own) bound stage
sweep_fits setting fields own bound sweeps.ReadPhase w b = tt
sweep_fits setting fields own bound (sweeps.RaisePhase p) w b = w.1
sweep_fits setting fields own bound (sweeps.Warn d) w b = b.1
sweep_fits setting fields own bound (sweeps.ReadHazard d r) w b = b.1
sweep_fits setting fields own bound (sweeps.ReadStatus j) w b = (b.1, w.0)
sweep_fits setting fields own bound (sweeps.MakeReady j q) w b = (b.1, w.0)
sweep_fits setting fields own bound (sweeps.PushHead k j) w b = (b.1, w.0, w.2)
sweep_fits setting fields own bound (sweeps.PushLink j q t) w b = (b.1, w.0, w.2)
sweep_fits setting fields own bound (sweeps.PushTop k j q t) w b = (b.1, w.0, w.2, w.4)

stage_fits : (setting : Setting) (fields : List ℕ) (own : ℕ) (claim : Claim) (scheme : Scheme) (stage : ClaimStage) → ClaimStands setting scheme claim.kind stage → SweepBelongs setting claim.sweep
    → ClaimFits (pool_of setting fields own) claim stage
stage_fits setting fields own claim scheme claims.ReadHead w s = tt
stage_fits setting fields own claim scheme (claims.ReadLink q t) w s = (w.2, w.0)
stage_fits setting fields own claim scheme (claims.Take q t next) w s = (w.2, w.0)
stage_fits setting fields own claim scheme (claims.StoreUsed q t) w s = (w.2, w.0)
stage_fits setting fields own claim scheme (claims.Withdraw number) w s = tt
stage_fits setting fields own claim scheme claims.Sweeps w s = sweep_fits setting fields own claim.sweep.bound claim.sweep.stage s.stands s.bound

module _ (pool : Pool) (target : Target) (setting : Setting) (e : Entry) (claim : Claim) (runs : RunsFor pool target setting e) (callers : setting.sizes.callers < 2 ^ 64)
    (at : e.routine ≡ Claims claim) (fit : IsFit target setting e) where
  standing : Stands target setting e (Claims claim)
  standing = subst (λ (r : Routine). Stands target setting e r) at runs.belongs.stands

  asked : CanAsk target setting e (Claims claim)
  asked = subst (λ (r : Routine). CanAsk target setting e r) at fit.asks

  pub claim_fits : Fits pool claim
  claim_fits =
      let claimed = standing.1 in
      let scheme : claim.sweep.scheme ≡ Warned = claimed.scheme ∙ ap (λ (r : Reclamation). scheme_of r e.number) runs.by in
      subst (λ (p : Pool). Fits p claim) (pool_is pool setting runs.sizes runs.last) (record {
        within = record { sizes = runs.is_setting.sizes; callers = callers; some = (let first = runs.is_setting.first in let more = runs.is_setting.phases in omega (arith, first, more)); last = runs.is_setting.last };
        kind = claimed.kind;
        scheme = scheme;
        tops = claimed.tops;
        low = subst (λ (s : Scheme). HasLow s claim.sweep.bound claim.sweep.low) scheme claimed.sweep.low;
        range = asked.1;
        stage = stage_fits setting pool.fields pool.own claim claim.sweep.scheme claim.stage claimed.stands claimed.sweep;
      })

  -- what it may be told
  pub claim_told : (word : ℕ) → MayBeTold target setting (Some (claim_wants claim)) word → ClaimTold pool.sizes pool.last claim.sweep claim.stage word
  claim_told word told =
      let wanted = wants_by target e (Claims claim) at in
      let accepted = fit.accepts word (subst (λ (o : Option WordAccess). MayBeTold target setting o word) (sym wanted) told) in
      let accepts = subst (λ (r : Routine). CanAccept target setting e word r) at accepted in
      subst (λ (last : ℕ). ClaimTold pool.sizes last claim.sweep claim.stage word) (sym runs.last)
      (subst (λ (n : Sizes). ClaimTold n setting.last claim.sweep claim.stage word) (sym runs.sizes) accepts.3)

  -- its kind is that of the `new`
  pub claim_kind : (d kind : ℕ) → instr_in target e ≡ Some (Plain (instr.New (Ref d) kind)) → claim.kind ≡ kind
  claim_kind d kind is = standing.2 ∙ ap (λ (i : Option TargetInstr). kind_made i) is
