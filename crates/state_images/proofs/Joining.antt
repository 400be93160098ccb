-- An image of an image is an image.
use Rattle.std.proofs.Common.{ℕ, zero, suc, ◌≡◌, ◌≢◌, ◌∙◌, ◌&&◌, Bool, true, false, List, [], ◌∷◌, map, Option, Some, None, option_map, sym, ap, refl, subst}
use Rattle.std.specs.Prelude.{slice_get}
use Rattle.std.proofs.lemmas.Bool.{and_parts, and_from}
use Rattle.norm_lang.specs.declared.text.Reg.TheVariants.{Ref}
use Rattle.norm_lang.specs.declared.registers.Reference.{Reference}
use Rattle.norm_lang.specs.declared.registers.Registers.{Registers}
use Rattle.norm_lang.specs.Registers.{node_in, reference_in}
use Rattle.source_machine.specs.declared.state.Value.{Value}
use Rattle.source_machine.specs.declared.state.Value.TheVariants.{Number, Node}
use Rattle.source_machine.specs.declared.state.Memory.{Memory}
use Rattle.source_machine.specs.declared.state.Running.{Running}
use Rattle.source_machine.specs.declared.state.Stand.{Stand}
use Rattle.source_machine.specs.declared.state.Stand.TheVariants.{InGenerator, InList, InWrapUp}
use Rattle.source_machine.specs.declared.state.SourceCaller.{SourceCaller}
use Rattle.source_machine.specs.Memory.{value_at, fields_named}
use Rattle.source_machine.specs.MethodRuns.{MethodRun, Watched}
use Rattle.source_machine.specs.Proper.{has, field_of, runs_method}
use Rattle.state_images.specs.Images.{Naming, Kept, renamed, renamed_value, renamed_registers, IsKeptValue, AreKept, IsMemoryImage, renamed_stand, IsKeptStand, IsRunningImage, IsRunningImageIf, IsCallerImage, IsRunImage, IsImage, ImagesJoin}
use Rattle.state_images.proofs.Renaming.{reference_renamed}
use Rattle.state_images.proofs.Standing.{value_map, field_image, method_image}

module _ (n k : Naming) where
  abbrev pub joined : Naming
  joined = record {
    to = λ a. k.to (n.to a);
    keeps = λ a. n.keeps a && k.keeps (n.to a);
    null = ap k.to n.null ∙ k.null;
    null_kept = and_from (n.keeps 0) (k.keeps (n.to 0)) n.null_kept (ap k.keeps n.null ∙ k.null_kept);
    apart = λ a b ka kb e.
        let p = and_parts (n.keeps a) (k.keeps (n.to a)) ka in
        let q = and_parts (n.keeps b) (k.keeps (n.to b)) kb in
        n.apart a b p.0 q.0 (k.apart (n.to a) (n.to b) p.1 q.1 e);
  }

  first : (a : ℕ) → Kept joined a → Kept n a
  first a e = (and_parts (n.keeps a) (k.keeps (n.to a)) e).0

  then_ : (a : ℕ) → Kept joined a → Kept k (n.to a)
  then_ a e = (and_parts (n.keeps a) (k.keeps (n.to a)) e).1

  both : (a : ℕ) → Kept n a → Kept k (n.to a) → Kept joined a
  both a p q = and_from (n.keeps a) (k.keeps (n.to a)) p q

  value_both : (v : Value) → renamed_value k (renamed_value n v) ≡ renamed_value joined v
  value_both (Number v) = refl
  value_both (Node r) = refl

  values_both : (vs : List Value) → map (renamed_value k) (map (renamed_value n) vs) ≡ map (renamed_value joined) vs
  values_both [] = refl
  values_both (v ∷ vs) = ap (λ x. x ∷ map (renamed_value k) (map (renamed_value n) vs)) (value_both v) ∙ ap (λ l. renamed_value joined v ∷ l) (values_both vs)

  references_both : (rs : List Reference) → map (renamed k) (map (renamed n) rs) ≡ map (renamed joined) rs
  references_both [] = refl
  references_both (r ∷ rs) = ap (λ l. renamed joined r ∷ l) (references_both rs)

  registers_both : (g : Registers) → renamed_registers k (renamed_registers n g) ≡ renamed_registers joined g
  registers_both g = ap (λ l. let x : Registers = record { numbers = g.numbers; references = l } in x) (references_both g.references)

  value_kept_both : (v : Value) → IsKeptValue n v → IsKeptValue k (renamed_value n v) → IsKeptValue joined v
  value_kept_both (Number v) p q = tt
  value_kept_both (Node r) p q = both r.node p q

  registers_kept_both : (g : Registers) → AreKept n g → AreKept k (renamed_registers n g) → AreKept joined g
  registers_kept_both g p q r = both (node_in g r) (p r) (subst (λ (x : Reference). Kept k x.node) (reference_renamed n g (Ref r)) (q r))

  fields_both : (o : Option (List Value)) → option_map (map (renamed_value k)) (option_map (map (renamed_value n)) o) ≡ option_map (map (renamed_value joined)) o
  fields_both None = refl
  fields_both (Some vs) = ap Some (values_both vs)

  memory_both : (a b c : Memory) → IsMemoryImage n a b → IsMemoryImage k b c → IsMemoryImage joined a c
  memory_both a b c p q = record {
    roots = q.roots ∙ (ap (map (renamed_value k)) p.roots ∙ values_both a.roots);
    roots_kept = λ x. value_kept_both (value_at a.roots x) (p.roots_kept x) (subst (IsKeptValue k) (ap (λ l. value_at l x) p.roots ∙ value_map n a.roots x) (q.roots_kept x));
    fields = λ x e. q.fields (n.to x) (then_ x e) ∙ (ap (option_map (map (renamed_value k))) (p.fields x (first x e)) ∙ fields_both (fields_named x a.nodes));
    fields_kept = λ x f e. value_kept_both (field_of a x f) (p.fields_kept x f (first x e)) (subst (IsKeptValue k) (field_image n a b p x f (first x e)) (q.fields_kept (n.to x) f (then_ x e)));
    used = λ x e some. p.used x (first x e) some;
    once = λ e. p.once (q.once e);
    retired = λ x e h. q.retired (n.to x) (then_ x e) (p.retired x (first x e) h);
    retired_used = p.retired_used;
  }

  stand_both : (s : Stand) → IsKeptStand n s → IsKeptStand k (renamed_stand n s) → (renamed_stand k (renamed_stand n s) ≡ renamed_stand joined s) × IsKeptStand joined s
  stand_both (InGenerator at) p q = (refl, tt)
  stand_both (InList at entries made) p q = (refl, tt)
  stand_both (InWrapUp at started accessed) p q = (ap (λ g. InWrapUp at g accessed) (registers_both started), registers_kept_both started p q)

  running_both : (a b c : Option Running) → IsRunningImageIf n a b → IsRunningImageIf k b c → IsRunningImageIf joined a c
  running_both None None None p q = tt
  running_both None None (Some z) p q = absurd q
  running_both None (Some y) c p q = absurd p
  running_both (Some x) None c p q = absurd p
  running_both (Some x) (Some y) None p q = absurd q
  running_both (Some x) (Some y) (Some z) p q =
      let s = stand_both x.stand p.stand_kept (subst (IsKeptStand k) p.stand q.stand_kept) in
      record {
        op = q.op ∙ p.op;
        args = q.args ∙ p.args;
        registers = q.registers ∙ (ap (renamed_registers k) p.registers ∙ registers_both x.registers);
        stand = q.stand ∙ (ap (renamed_stand k) p.stand ∙ s.0);
        registers_kept = registers_kept_both x.registers p.registers_kept (subst (AreKept k) p.registers q.registers_kept);
        stand_kept = s.1;
      }

  caller_both : (a b c : Option SourceCaller) → IsCallerImage n a b → IsCallerImage k b c → IsCallerImage joined a c
  caller_both None None None p q = tt
  caller_both None None (Some z) p q = absurd q
  caller_both None (Some y) c p q = absurd p
  caller_both (Some x) None c p q = absurd p
  caller_both (Some x) (Some y) None p q = absurd q
  caller_both (Some x) (Some y) (Some z) p q = running_both x.running y.running z.running p q

  run_both : (a b c : MethodRun) → IsRunImage n a b → IsRunImage k b c → IsRunImage joined a c
  run_both a b c p q = record {
    got_kept = λ x e. both x (p.got_kept x e) (q.got_kept (n.to x) (p.got x (p.got_kept x e) e));
    got = λ x e h. q.got (n.to x) (then_ x e) (p.got x (first x e) h);
    old = λ x e h. q.old (n.to x) (then_ x e) (p.old x (first x e) h);
  }

pub images_join : ImagesJoin
images_join n k u v w p q = (
  joined n k,
  record {
    memory = memory_both n k _ _ _ p.memory q.memory;
    callers = λ c. caller_both n k _ _ _ (p.callers c) (q.callers c);
    runs = λ c on. run_both n k _ _ _ (p.runs c on) (q.runs c (method_image n _ _ (p.callers c) ∙ on));
    old_used = p.old_used;
  },
)
