-- Halves of a list of callers.
use Rattle.std.proofs.Common.{◌≡◌, ◌<◌, ℕ, true, false, List, [], ◌∷◌, ⊎_elim, length, get_or, arith, sym, ap, ◌∙◌, subst}
use Rattle.std.proofs.lemmas.List.{get_or_default}
use Rattle.caller_parts.specs.declared.call.Call.{Call}
use Rattle.caller_steps.specs.Entries.{Entry, idle_entry, is_idle}
use Rattle.caller_steps.specs.After.{taken}
use Rattle.core_runs.specs.Scripts.{script_of}
use Rattle.core_runs.proofs.Advancing.{advances_number}
use Rattle.word_runner.specs.table_rule.Seen.{Fixed}
use Rattle.word_runner.specs.Shown.{ArenaShown, CallerShown}
use Rattle.thread_runs.specs.Scripts.{IsLongest, Fresh, RanScript, Finished, Took}

took_number : (key : Fixed) (calls : List Call) (n : ℕ) (e e' : Entry) → Took key calls n e e' → e'.number ≡ e.number
took_number key [] n e e' h = ap (λ (x : Entry). x.number) h
took_number key (call ∷ calls) n e e' h =
    let mid : h.0.number ≡ e.number = advances_number key.target.target key.setting (taken key.setting.reclamation call e) h.0 h.2.words h.2.advances in
    ⊎_elim
    (λ (t : (is_idle h.0.routine ≡ false) × (e' ≡ h.0)). ap (λ (x : Entry). x.number) t.1 ∙ mid)
    (λ (t : (is_idle h.0.routine ≡ true) × Took key calls n h.0 e'). took_number key calls n h.0 e' t.1 ∙ mid)
    h.3

took_own : (key : Fixed) (s : List (List Call)) (n : ℕ) (e e' : Entry) → e ≡ idle_entry e.number → Took key (script_of s e.number) n e e' → Took key (script_of s e'.number) n (idle_entry e'.number) e'
took_own key s n e e' idle h =
    let same : e'.number ≡ e.number = took_number key (script_of s e.number) n e e' h in
    subst (λ (k : ℕ). Took key (script_of s k) n (idle_entry k) e') (sym same) (subst (λ (x : Entry). Took key (script_of s e.number) n x e') idle h)

pub finished_own : (a : ArenaShown) (scripts : List (List Call)) (fuel : ℕ) (c c' : CallerShown) (s x : List Call) (n : ℕ) → Fresh a scripts c → n ≡ c.entry.core.number → x ≡ get_or scripts n x → s ≡ x
    → RanScript a s fuel c c' → Finished a scripts fuel c'
finished_own a scripts fuel c c' s x n fresh num read is ran =
    let within : n < length scripts = let w = fresh.within in omega arith in
    let own : s ≡ script_of scripts c.entry.core.number = is ∙ (read ∙ (get_or_default scripts n x [] within ∙ ap (λ (k : ℕ). script_of scripts k) num)) in
    record {
      came = (ran.table ∙ fresh.came.0, ran.fixed ∙ fresh.came.1);
      ended = record {
        took = took_own a.fixed scripts fuel c.entry.core c'.entry.core fresh.idle (subst (λ (t : List Call). Took a.fixed t fuel c.entry.core c'.entry.core) own ran.took);
        longest = subst (IsLongest scripts) (sym ran.room) fresh.longest;
      };
    }
