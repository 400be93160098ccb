-- Clears beside an entry.
use Rattle.std.proofs.Common.{◌≡◌, ℕ, ◌+◌, Bool, List, Option, Some, refl, sym, ◌∙◌, ap, arith}
use Rattle.target_code.specs.declared.target.Target.{Target}
use Rattle.oa_words.specs.Words.{Hazard}
use Rattle.phase_pools.specs.Accesses.{Stores}
use Rattle.guard_words.specs.Guards.{Guards, IsRow, with_guard, next_to_clear}
use Rattle.caller_parts.specs.declared.routine.AfterClear.{AfterClear}
use Rattle.caller_parts.specs.declared.routine.Routine.TheVariants.{Restarts, Clears}
use Rattle.caller_parts.specs.Settings.{Setting}
use Rattle.caller_parts.specs.Spared.{restart_spares, then_spares}
use Rattle.caller_steps.specs.Entries.{Entry, op_of}
use Rattle.caller_steps.specs.Wants.{clear_wanted}
use Rattle.caller_steps.specs.Clearing.{restart_next, clear_next, unguarded}
use Rattle.caller_steps.specs.After.{after, cleared, restarted, counted, with_hand}
use Rattle.c_language.specs.declared.lines.Line.{Line}
use Rattle.c_language.specs.Steps.{Pool, Kept, Frame}
use Rattle.c_language.specs.Runs.{Comes}
use Rattle.c_language.proofs.Walking.{leads}
use Rattle.c_runtime.specs.KindLines.{HasLines}
use Rattle.c_emission.specs.Blocks.{clear_lines, clear_size}
use Rattle.emission_laws.specs.Hands.{StandsFor}
use Rattle.emission_laws.specs.Making.{RunsFor, MakesAccess}
use Rattle.emission_laws.specs.Clears.{Clearing, StandsClearing, ClearsFrom, RestartsFrom, EntriesClear}
use Rattle.emission_laws.proofs.Sides.{wants_by, after_by}
use Rattle.emission_laws.proofs.Clearing.{clear_begins, clear_stores}

-- a clear leaves all but what stands in the hazards
stands_clearing : (code : List Line) (spared : List Bool) (end : ℕ) (e : Entry) (guards : Guards) (f g : Frame) → StandsFor e e.hand.registers f.at f → Clearing code spared end guards f g
    → StandsClearing code spared end (with_hand e (record e.hand { guards = guards })) (next_to_clear guards spared) g
stands_clearing code spared end e guards f g stands clearing = record {
  goes = clearing.goes;
  stands = record {
    at = refl;
    held = record {
      numbers = λ r lt. clearing.others r (λ k low z. omega (arith, z, lt)) ∙ stands.held.numbers r lt;
      references = λ r lt. clearing.others (8 + r) (λ k low z. omega (arith, z, lt)) ∙ stands.held.references r lt;
    };
    seen = clearing.others 20 (λ k low z. omega (arith, z)) ∙ stands.seen;
    carried = record {
      args = λ k lt. clearing.others (16 + k) (λ r low z. omega (arith, z, lt)) ∙ stands.carried.args k lt;
      slots = clearing.slots;
      started = λ runs. record {
        numbers = λ r lt. clearing.others (33 + r) (λ k low z. omega (arith, z, low)) ∙ (stands.carried.started runs).numbers r lt;
        references = λ r lt. clearing.others (41 + r) (λ k low z. omega (arith, z, low)) ∙ (stands.carried.started runs).references r lt;
      };
      cradles = λ k lt. ap (λ (x : Kept). x.cradles k) clearing.kept ∙ stands.carried.cradles k lt;
      quiet = λ j some. ap (λ (x : Kept). x.noted j) clearing.kept ∙ stands.carried.quiet j some;
    };
  };
}

pub entry_begins : (pool : Pool) (code : List Line) (spared : List Bool) (base : ℕ) (e : Entry) (f : Frame) → IsRow e.hand.guards
    → HasLines code base (clear_lines spared base 0 8) → StandsFor e e.hand.registers base f
    → Comes pool code f (StandsClearing code spared (base + clear_size spared 0 8) e (next_to_clear e.hand.guards spared))
entry_begins pool code spared base e f row has stands =
    leads (clear_begins pool code spared base e.hand.guards f row has stands.at stands.carried.slots)
    (λ g clearing. stands_clearing code spared (base + clear_size spared 0 8) e e.hand.guards f g (record { at = refl; held = stands.held; seen = stands.seen; carried = stands.carried }) clearing)

-- the guards after the register that was to be cleared is
next_guards : (e : Entry) (k : ℕ) (o : Option ℕ) → o ≡ Some k → with_hand (counted e) (unguarded o e.hand) ≡ with_hand (counted e) (record e.hand { guards = with_guard e.hand.guards k 0 })
next_guards e k o is = ap (λ (x : Option ℕ). with_hand (counted e) (unguarded x e.hand)) is

entry_clears : (pool : Pool) (code : List Line) (target : Target) (setting : Setting) (e : Entry) (next : AfterClear) (end k : ℕ) (f : Frame)
    → RunsFor pool target setting e → e.routine ≡ Clears next → clear_next target next e ≡ Some k
    → StandsClearing code (then_spares next (op_of target e)) end e (Some k) f
    → MakesAccess pool code target setting e (λ word. ClearsFrom target setting.sizes (after target setting e word) e next code end) f
entry_clears pool code target setting e next end k f runs at is clearing =
    let stores = clear_stores pool code (then_spares next (op_of target e)) end k e.hand.guards f runs.belongs.hand.guards.row clearing.goes clearing.stands.carried.slots is in
    record {
      access = Stores (Hazard pool.own k) 0;
      next = stores.0;
      stops = stores.1;
      wanted = wants_by target e (Clears next) at ∙ (ap (clear_wanted e.number) is ∙ ap (λ (c : ℕ). Some (Stores (Hazard c k) 0)) (sym runs.own));
      after = λ word told. leads (stores.2 word) (λ g came. record {
        entry = with_hand (counted e) (record e.hand { guards = with_guard e.hand.guards k 0 });
        is = after_by target setting e word (Clears next) runs.by at ∙ ap (cleared target setting.sizes next) (next_guards e k (clear_next target next e) is);
        op = refl;
        stands = stands_clearing code (then_spares next (op_of target e)) end (counted e) (with_guard e.hand.guards k 0) f g
            (record { at = refl; held = clearing.stands.held; seen = clearing.stands.seen; carried = clearing.stands.carried }) came;
      });
    }

entry_restarts : (pool : Pool) (code : List Line) (target : Target) (setting : Setting) (e : Entry) (end k : ℕ) (f : Frame)
    → RunsFor pool target setting e → e.routine ≡ Restarts → restart_next target e ≡ Some k
    → StandsClearing code (restart_spares e.hand.wrapup (op_of target e)) end e (Some k) f
    → MakesAccess pool code target setting e (λ word. RestartsFrom target setting.sizes (after target setting e word) e code end) f
entry_restarts pool code target setting e end k f runs at is clearing =
    let stores = clear_stores pool code (restart_spares e.hand.wrapup (op_of target e)) end k e.hand.guards f runs.belongs.hand.guards.row clearing.goes clearing.stands.carried.slots is in
    record {
      access = Stores (Hazard pool.own k) 0;
      next = stores.0;
      stops = stores.1;
      wanted = wants_by target e Restarts at ∙ (ap (clear_wanted e.number) is ∙ ap (λ (c : ℕ). Some (Stores (Hazard c k) 0)) (sym runs.own));
      after = λ word told. leads (stores.2 word) (λ g came. record {
        entry = with_hand (counted e) (record e.hand { guards = with_guard e.hand.guards k 0 });
        is = after_by target setting e word Restarts runs.by at ∙ ap (λ (x : Entry). (restarted target setting.sizes x).entry) (next_guards e k (restart_next target e) is);
        op = refl;
        method = refl;
        stands = stands_clearing code (restart_spares e.hand.wrapup (op_of target e)) end (counted e) (with_guard e.hand.guards k 0) f g
            (record { at = refl; held = clearing.stands.held; seen = clearing.stands.seen; carried = clearing.stands.carried }) came;
      });
    }

pub entries_clear : EntriesClear
entries_clear = record { begins = entry_begins; clears = entry_clears; restarts = entry_restarts }
