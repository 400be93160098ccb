-- The start: nobody has announced a phase, and every caller is idle.
use Rattle.std.proofs.Common.{ℕ, ◌≡◌, ◌≤◌, true, false, [], Some, None, arith, sym, subst, refl}
use Rattle.oa_words.specs.Words.{Word, Phase, Warning}
use Rattle.caller_parts.specs.Operands.{cradle_count}
use Rattle.caller_steps.specs.Entries.{idle_entry}
use Rattle.oa_simulation.specs.sim_relation.Views.{Plan}
use Rattle.oa_simulation.proofs.Starting.{IsFirst, first_shared, fine_first}
use Rattle.epoch_relation.specs.Reckoned.{reckoned_at, reckoned_words, EpochHolds}
use Rattle.epoch_relation.specs.Callers.{Caller}
use Rattle.epoch_relation.specs.Walking.{CallerHolds}
use Rattle.epoch_relation.specs.Worlds.{Holds}
use Rattle.oa_simulation.proofs.FirstCallers.{no_cradle}

pub first_holds : (t : Plan) (memory : Word → ℕ) → IsFirst t memory → ((d : ℕ) → memory (Warning d) ≡ 0) → 1 ≤ memory Phase → EpochHolds t (first_shared t memory) (λ d. memory Phase)
first_holds t memory w none begun = record {
  holds = fine_first t (reckoned_words memory (λ d. memory Phase)) (record {
    warning = λ c. subst (λ (word : ℕ). reckoned_at word (memory Phase) (memory Phase) ≤ memory Phase) (sym (none c)) (omega arith);
    null = w.null;
    used = w.used;
    ready = w.ready;
    field = w.field;
    root = w.root;
    null_field = w.null_field;
    node = w.node;
    null_node = w.null_node;
    link = w.link;
    top = w.top;
    typed = w.typed;
    home = w.home;
    named = w.named;
    stands = w.stands;
    past = w.past;
  });
  announced = λ d. subst (λ (word : ℕ). word ≤ memory Phase) (sym (none d)) (omega arith);
  begun = begun;
  unguarded = λ d r. refl;
}

abbrev pub first_caller : ℕ → Caller
first_caller d = record { entry = idle_entry d; old = []; source = record { replies = []; running = None }; watch = record { got = []; old = [] } }

pub first_told : (t : Plan) (memory : Word → ℕ) (since : ℕ → ℕ) (d : ℕ) → CallerHolds t (first_shared t memory) since d (first_caller d)
first_told t memory since d = record {
  base = record {
    number = refl;
    old = λ some n p is. absurd (let z : None ≡ Some p = is in cc);
    before = λ n is. absurd (let z : false ≡ true = is in cc);
    cradle = λ k some. absurd (some (no_cradle cradle_count k));
  };
  spot = refl;
}

-- the first world
pub first_world : (t : Plan) (memory : Word → ℕ) → IsFirst t memory → ((d : ℕ) → memory (Warning d) ≡ 0) → 1 ≤ memory Phase → Holds t (record { shared = first_shared t memory; since = λ d. memory Phase; who = first_caller })
first_world t memory w none begun = record { shared_holds = first_holds t memory w none begun; caller_holds = λ d below. first_told t memory (λ d. memory Phase) d }
