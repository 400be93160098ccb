-- Auxiliary exchanges, and retirements.
use Rattle.std.proofs.Common.{◌≡◌, ℕ, suc, ◌+◌, Bool, true, false, List, Some, if◌then◌else◌, refl, sym, ◌∙◌, ap, arith}
use Rattle.norm_lang.specs.declared.text.CasEntry.{CasEntry}
use Rattle.norm_lang.specs.declared.text.Instr.TheVariants as instr
use Rattle.target_code.specs.declared.target.TargetInstr.TheVariants.{Plain}
use Rattle.target_code.specs.declared.target.Target.{Target}
use Rattle.phase_pools.specs.declared.stages.RetireStage.TheVariants as stages
use Rattle.phase_pools.specs.Pools.{retire_begun}
use Rattle.caller_parts.specs.declared.setting.Reclamation.TheVariants.{Optimistic}
use Rattle.caller_parts.specs.declared.routine.AfterRetire.TheVariants as retires
use Rattle.caller_parts.specs.declared.routine.Routine.TheVariants.{At, Retires}
use Rattle.caller_parts.specs.Settings.{Setting}
use Rattle.caller_parts.specs.Operands.{succeeds, to_retire}
use Rattle.caller_steps.specs.Entries.{Entry}
use Rattle.caller_steps.specs.After.{after, counted, with_access, with_routine, retires_then, cas_failed}
use Rattle.c_language.specs.declared.lines.Line.{Line}
use Rattle.c_language.specs.Steps.{Pool, Frame}
use Rattle.c_language.specs.Runs.{Comes}
use Rattle.c_language.proofs.Walking.{here}
use Rattle.c_emission.specs.Exchanges.{place_exchange, place_size, retire_lines, retire_size, cas_block, cas_size}
use Rattle.emission_laws.specs.Hands.{StandsFor, known_of}
use Rattle.emission_laws.specs.Making.{GoesOn, MakesAccess}
use Rattle.emission_laws.specs.Accesses.{AtBlock}
use Rattle.emission_laws.proofs.Sides.{wants_at, after_at, after_by, words_of}
use Rattle.emission_laws.proofs.Sizes.{place_length}
use Rattle.emission_laws.proofs.Layouts.{lines_within}
use Rattle.exchange_laws.specs.Exchanging.{FitsExchange, StandsRetiring, RetiresNow, RetirementsAreMade, Exchanged, ExchangesAreMade}
use Rattle.exchange_laws.proofs.Steps.{both, stands_by, back_lines}
use Rattle.exchange_laws.proofs.Exchanging.{place_made}
use Rattle.exchange_laws.proofs.Retiring.{retire_follows, phase_loaded, status_stored}

module _ (pool : Pool) (code : List Line) (target : Target) (setting : Setting) (e : Entry) (exchange : CasEntry) (l failed base : ℕ) (first : Frame)
    (block : AtBlock pool code target setting e (Plain (instr.Cas exchange l)) (cas_block target.fields base exchange failed) base first)
    (fits : FitsExchange target setting e exchange) where
  abbrev After : ℕ → Frame → Type 0
  After word f = Exchanged target setting e exchange l failed base word f

  ends : (word : ℕ) (b : Bool) → succeeds exchange e.hand.registers word ≡ b
      → after target setting e word ≡ (if b then retires_then Optimistic target setting.sizes retires.Next (to_retire exchange.retire e.hand.registers) (with_access (counted e)) else cas_failed Optimistic target setting.sizes l (with_access (counted e))).entry
  ends word b t = after_at target setting e word (Some (Plain (instr.Cas exchange l))) block.runs.by block.at block.is
      ∙ ap (λ (x : Bool). (if x then retires_then Optimistic target setting.sizes retires.Next (to_retire exchange.retire e.hand.registers) (with_access (counted e)) else cas_failed Optimistic target setting.sizes l (with_access (counted e))).entry) t

  failed_at : (word : ℕ) (h : Frame) → succeeds exchange e.hand.registers word ≡ false → StandsFor e e.hand.registers failed h → Exchanged target setting e exchange l failed base word h
  failed_at word h t stands = record {
    fails = λ no. record {
      entry = with_access (counted e);
      spot = record { at = l; registers = e.hand.registers };
      is = ends word false t;
      op = refl;
      method = refl;
      at = refl;
      words = words_of pool target setting e block.runs;
      stands = stands;
    };
    goes = λ yes zero_slot. absurd (both (succeeds exchange e.hand.registers word) yes t);
    retires = λ yes some. absurd (both (succeeds exchange e.hand.registers word) yes t);
  }

  gone : (word : ℕ) (h : Frame) → succeeds exchange e.hand.registers word ≡ true → to_retire exchange.retire e.hand.registers ≡ 0
      → StandsFor e e.hand.registers (base + place_size exchange.place + retire_size exchange.retire) h → Exchanged target setting e exchange l failed base word h
  gone word h t none stands = record {
    fails = λ no. absurd (both (succeeds exchange e.hand.registers word) t no);
    goes = λ yes zero_slot. record {
      entry = with_access (counted e);
      spot = record { at = e.hand.at + 1; registers = e.hand.registers };
      is = ends word true t ∙ ap (λ (k : ℕ). (retires_then Optimistic target setting.sizes retires.Next k (with_access (counted e))).entry) none;
      op = refl;
      method = refl;
      at = refl;
      words = words_of pool target setting e block.runs;
      stands = stands_by (known_of e) e.hand.registers (base + place_size exchange.place + retire_size exchange.retire) (base + cas_size exchange) h (omega arith) stands;
    };
    retires = λ yes some. absurd (some none);
  }

  retiring : (word : ℕ) (h : Frame) (j : ℕ) → succeeds exchange e.hand.registers word ≡ true → to_retire exchange.retire e.hand.registers ≡ suc j
      → StandsRetiring e (retire_begun (to_retire exchange.retire e.hand.registers)) (base + place_size exchange.place) h → Exchanged target setting e exchange l failed base word h
  retiring word h j t some stands = record {
    fails = λ no. absurd (both (succeeds exchange e.hand.registers word) t no);
    goes = λ yes none. let no : suc j ≡ 0 = sym some ∙ none in absurd (omega (arith, no));
    retires = λ yes more. record {
      is = ends word true t ∙ (ap (λ (k : ℕ). (retires_then Optimistic target setting.sizes retires.Next k (with_access (counted e))).entry) some
          ∙ ap (λ (k : ℕ). with_routine (with_access (counted e)) (Retires (retire_begun k) retires.Next)) (sym some));
      stands = record { stands = stands.stands; slot = stands.slot; status = stands.status };
    };
  }

  pub made : Comes pool code first (MakesAccess pool code target setting e (Exchanged target setting e exchange l failed base))
  made = place_made pool code target setting e exchange base failed (Exchanged target setting e exchange l failed base) first exchange.place block.runs fits.place fits.expected fits.replacement
      (wants_at target e (Some (Plain (instr.Cas exchange l))) block.at block.is)
      (lines_within code base (place_exchange target.fields base exchange.place exchange.expected exchange.replacement failed) (retire_lines (base + place_size exchange.place) exchange.retire) block.has)
      (record {
        goes = λ word h t stands count.
            retire_follows pool code e (base + place_size exchange.place) exchange.retire (Exchanged target setting e exchange l failed base word) h fits.retired
            (back_lines code base (place_size exchange.place) (place_exchange target.fields base exchange.place exchange.expected exchange.replacement failed)
            (retire_lines (base + place_size exchange.place) exchange.retire) (place_length target.fields base exchange.place exchange.expected exchange.replacement failed) block.has)
            stands
            (λ g none standing. here (gone word g t none standing))
            (λ g j some standing. here (retiring word g j t some standing));
        fails = λ word h t stands count. here (failed_at word h t stands);
      })
      block.stands

pub exchanges_are_made : ExchangesAreMade
exchanges_are_made pool code target setting e exchange l failed base first block fits = made pool code target setting e exchange l failed base first block fits

pub retirements_are_made : RetirementsAreMade
retirements_are_made = record {
  phases = λ pool code target setting e slot go r base first retiring.
      phase_loaded pool code target setting e slot go r base (λ word. RetiresNow target setting e word (counted e) (record { slot = slot; stage = stages.StoreStatus word }) go base) first retiring
      (λ word h standing. here (record {
        is = after_by target setting e word (Retires (retire_begun slot) go) retiring.runs.by retiring.at;
        stands = record { stands = standing.stands; slot = standing.slot; status = standing.status };
      }));
  stores = λ pool code target setting e slot p r base first retiring.
      status_stored pool code target setting e slot p retires.Next r base (λ word. GoesOn target setting e word (base + 6)) first retiring
      (λ word h standing. here (record {
        entry = with_routine (counted e) At;
        spot = record { at = e.hand.at + 1; registers = e.hand.registers };
        is = after_by target setting e word (Retires (record { slot = slot; stage = stages.StoreStatus p }) retires.Next) retiring.runs.by retiring.at;
        op = refl;
        method = refl;
        at = refl;
        words = words_of pool target setting e retiring.runs;
        stands = standing;
      }));
}
