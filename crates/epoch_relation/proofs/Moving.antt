-- A caller whose entry, source or method run is another, if that leaves what is known.
use Rattle.std.proofs.Common.{ℕ, ◌≡◌, ◌≢◌, ◌∙◌, List, sym, ap}
use Rattle.std.specs.Prelude.{slice_get, slice_index}
use Rattle.target_code.specs.declared.target.TargetInstr.{TargetInstr}
use Rattle.norm_lang.specs.Local.{Spot}
use Rattle.target_laws.specs.Methods.{code_in}
use Rattle.source_machine.specs.MethodRuns.{MethodRun}
use Rattle.source_machine.specs.declared.state.SourceCaller.{SourceCaller}
use Rattle.caller_steps.specs.Entries.{Entry, code_in as core_code, instr_in, cradle_of}
use Rattle.oa_simulation.specs.sim_relation.Views.{Plan, Held, Shared}
use Rattle.oa_simulation.specs.sim_relation.Callers.{call_of}
use Rattle.epoch_relation.specs.Callers.{Caller, Base}
use Rattle.epoch_relation.specs.Walking.{Trail, Walks, Listed, Gets}
use Rattle.oa_simulation.proofs.sim_relation.Codes.{code_of_entry}

-- the entry, the source's caller and its method run are others
abbrev pub changed : Caller → Entry → SourceCaller → MethodRun → Caller
changed x e source watch = record { entry = e; old = x.old; source = source; watch = watch }

-- only the entry is
abbrev pub becomes : Caller → Entry → Caller
becomes x e = changed x e x.source x.watch

pub base_changed : (t : Plan) (s : Shared) (since : ℕ → ℕ) (d : ℕ) (x : Caller) (e : Entry) (source : SourceCaller) (watch : MethodRun) → e.number ≡ x.entry.number → e.cradles ≡ x.entry.cradles → Base t s since d x → Base t s since d (changed x e source watch)
base_changed t s since d x e source watch number cradles b = record { number = number ∙ b.number; old = b.old; before = b.before; cradle = λ k. cradle k }
  where
    cradle : (k : ℕ) → cradle_of e k ≢ 0 → s.owner (cradle_of e k) ≡ Held d k
    cradle k some =
        let same : cradle_of e k ≡ cradle_of x.entry k = ap (λ (l : List ℕ). slice_index l k) cradles in
        ap s.owner same ∙ b.cradle k (λ z. some (same ∙ z))

pub walks_changed : (t : Plan) (s : Shared) (d : ℕ) (x : Caller) (core : Spot) (m : Trail t) (e : Entry) (source : SourceCaller) (watch : MethodRun) → call_of e ≡ call_of x.entry → e.hand.wrapup ≡ x.entry.hand.wrapup → Walks t s d x core m → Walks t s d (changed x e source watch) core m
walks_changed t s d x core m e source watch call wrapup w = record {
  call = w.call ∙ sym call;
  wrapup = wrapup ∙ w.wrapup;
  number = w.number;
  generator = w.generator;
  path_is = w.path_is;
  sized = w.sized;
  agree = w.agree;
  safe = w.safe;
  fresh = w.fresh;
  shown = w.shown;
}

pub listed_of : (t : Plan) (s : Shared) (d : ℕ) (x : Caller) (core : Spot) (m : Trail t) → Walks t s d x core m → Listed t s d x core m
listed_of t s d x core m w = record { call = w.call; wrapup = w.wrapup; number = w.number; path_is = w.path_is; sized = w.sized; agree = w.agree; safe = w.safe; shown = w.shown }

pub listed_changed : (t : Plan) (s : Shared) (d : ℕ) (x : Caller) (core : Spot) (m : Trail t) (e : Entry) (source : SourceCaller) (watch : MethodRun) → call_of e ≡ call_of x.entry → e.hand.wrapup ≡ x.entry.hand.wrapup → Listed t s d x core m → Listed t s d (changed x e source watch) core m
listed_changed t s d x core m e source watch call wrapup w = record {
  call = w.call ∙ sym call;
  wrapup = wrapup ∙ w.wrapup;
  number = w.number;
  path_is = w.path_is;
  sized = w.sized;
  agree = w.agree;
  safe = w.safe;
  shown = w.shown;
}

pub gets_changed : (t : Plan) (s : Shared) (d : ℕ) (x : Caller) (m : Trail t) (e : Entry) (source : SourceCaller) → Gets t s d x m → Gets t s d (changed x e source x.watch) m
gets_changed t s d x m e source g = record { got = g.got; made = g.made; safe = g.safe; known = g.known; older = g.older }

-- ---- the code of an entry's method is that of its method run

pub core_code_is : (t : Plan) (s : Shared) (d : ℕ) (x : Caller) (core : Spot) (m : Trail t) → Walks t s d x core m → core_code t.target x.entry ≡ code_in m.walk.method
core_code_is t s d x core m w = code_of_entry t x.entry m.walk w.call w.wrapup w.number

pub core_instr_is : (t : Plan) (s : Shared) (d : ℕ) (x : Caller) (core : Spot) (m : Trail t) → Walks t s d x core m → instr_in t.target x.entry ≡ slice_get (code_in m.walk.method) x.entry.hand.at
core_instr_is t s d x core m w = ap (λ (code : List TargetInstr). slice_get code x.entry.hand.at) (core_code_is t s d x core m w)

pub listed_instr_is : (t : Plan) (s : Shared) (d : ℕ) (x : Caller) (core : Spot) (m : Trail t) → Listed t s d x core m → instr_in t.target x.entry ≡ slice_get (code_in m.walk.method) x.entry.hand.at
listed_instr_is t s d x core m w = ap (λ (code : List TargetInstr). slice_get code x.entry.hand.at) (code_of_entry t x.entry m.walk w.call w.wrapup w.number)
