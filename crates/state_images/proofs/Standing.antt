-- What a state tells of those that it stands for.
use Rattle.std.proofs.Common.{ℕ, zero, suc, ◌≡◌, ◌∙◌, Bool, true, false, List, [], ◌∷◌, map, Option, Some, None, option_map, sym, ap, refl, subst}
use Rattle.std.specs.Prelude.{slice_get, unwrap_or}
use Rattle.std.proofs.lemmas.Bool.{false_from_ne_true}
use Rattle.source_machine.proofs.Names.{untrue}
use Rattle.norm_lang.specs.declared.registers.Reference.{Reference}
use Rattle.source_machine.specs.declared.state.Value.{Value}
use Rattle.source_machine.specs.declared.state.Value.TheVariants.{Number, Node}
use Rattle.source_machine.specs.declared.state.Memory.{Memory}
use Rattle.source_machine.specs.declared.state.Running.{Running}
use Rattle.source_machine.specs.declared.state.Stand.{Stand}
use Rattle.source_machine.specs.declared.state.Stand.TheVariants.{InGenerator, InList, InWrapUp}
use Rattle.source_machine.specs.declared.state.SourceCaller.{SourceCaller}
use Rattle.source_machine.specs.Memory.{value_at, fields_named}
use Rattle.source_machine.specs.MethodRuns.{Watched}
use Rattle.source_machine.specs.Run.{is_in_method}
use Rattle.source_machine.specs.Proper.{has, field_of, PointsTo, Reaches, itself, onward, in_method, runs_method, IsProperState}
use Rattle.state_images.specs.Images.{Naming, Kept, renamed, renamed_value, IsKeptValue, IsMemoryImage, renamed_stand, IsRunningImage, IsRunningImageIf, IsCallerImage, IsRunImage, IsImage, GoodStatesStandFor}

module _ (n : Naming) where
  pub value_map : (values : List Value) (f : ℕ) → value_at (map (renamed_value n) values) f ≡ renamed_value n (value_at values f)
  value_map [] f = refl
  value_map (v ∷ vs) zero = refl
  value_map (v ∷ vs) (suc f) = value_map vs f

  -- a field of a name that matters
  pub field_image : (m m' : Memory) → IsMemoryImage n m m' → (a f : ℕ) → Kept n a → field_of m' (n.to a) f ≡ renamed_value n (field_of m a f)
  field_image m m' image a f kept = ap (λ o. value_at (unwrap_or o []) f) (image.fields a kept) ∙ of (fields_named a m.nodes) where
    of : (o : Option (List Value)) → value_at (unwrap_or (option_map (map (renamed_value n)) o) []) f ≡ renamed_value n (value_at (unwrap_or o []) f)
    of None = refl
    of (Some values) = value_map values f

  points_image : (m m' : Memory) → IsMemoryImage n m m' → (a b : ℕ) → Kept n a → PointsTo m a b → Kept n b × PointsTo m' (n.to a) (n.to b)
  points_image m m' image a b kept p =
      (subst (IsKeptValue n) p.2 (image.fields_kept a p.0 kept), (p.0, p.1, field_image m m' image a p.0 kept ∙ ap (renamed_value n) p.2))

  reaches_image : (m m' : Memory) → IsMemoryImage n m m' → (a b : ℕ) → Reaches m a b → Kept n a → Kept n b × Reaches m' (n.to a) (n.to b)
  reaches_image m m' image a b (itself k) kept = (kept, itself (n.to k))
  reaches_image m m' image a b (onward k next o points r) kept =
      let p = points_image m m' image k next kept points in
      let h = reaches_image m m' image next o r p.0 in (h.0, onward (n.to k) (n.to next) (n.to o) p.1 h.1)

  method_stand : (s : Stand) → is_in_method (renamed_stand n s) ≡ is_in_method s
  method_stand (InGenerator at) = refl
  method_stand (InList at entries made) = refl
  method_stand (InWrapUp at started accessed) = refl

  method_running : (o o' : Option Running) → IsRunningImageIf n o o' → in_method o' ≡ in_method o
  method_running None None i = refl
  method_running (Some r) (Some r') i = ap is_in_method i.stand ∙ method_stand r.stand
  method_running None (Some r') i = absurd i
  method_running (Some r) None i = absurd i

  pub method_image : (o o' : Option SourceCaller) → IsCallerImage n o o' → runs_method o' ≡ runs_method o
  method_image None None i = refl
  method_image (Some c) (Some c') i = method_running c.running c'.running i
  method_image None (Some c') i = absurd i
  method_image (Some c) None i = absurd i

pub good_states_stand_for : GoodStatesStandFor
good_states_stand_for n w w' image proper = record {
  once = image.memory.once proper.once;
  roots = λ x other reference stands reaches.
      let kept : Kept n reference.node = subst (IsKeptValue n) stands (image.memory.roots_kept x) in
      let there : value_at w'.machine.memory.roots x ≡ Node (renamed n reference) = ap (λ l. value_at l x) image.memory.roots ∙ (value_map n w.machine.memory.roots x ∙ ap (renamed_value n) stands) in
      let h = reaches_image n w.machine.memory w'.machine.memory image.memory reference.node other reaches kept in
      false_from_ne_true (has other w.machine.memory.retired) (λ e. untrue (has (n.to other) w'.machine.memory.retired) (proper.roots x (n.to other) (renamed n reference) there h.1) (image.memory.retired other h.0 e));
  got = λ c name other on gets reaches.
      let run = image.runs c on in
      let kept : Kept n name = run.got_kept name gets in
      let h = reaches_image n w.machine.memory w'.machine.memory image.memory name other reaches kept in
      false_from_ne_true (has other (w.runs c).old) (λ e. untrue (has (n.to other) (w'.runs c).old)
      (proper.got c (n.to name) (n.to other) (method_image n (slice_get w.machine.callers c) (slice_get w'.machine.callers c) (image.callers c) ∙ on) (run.got name kept gets) h.1)
      (run.old other h.0 e));
}
