-- Turns under other names.
use Rattle.std.proofs.Common.{ℕ, zero, suc, ◌+◌, ◌≡◌, ◌≢◌, ◌∙◌, Bool, true, false, cond, List, [], ◌∷◌, length, map, replicate, Option, Some, None, option_map, is_some, sym, ap, refl, subst, ⊎_elim}
use Rattle.std.specs.Prelude.{slice_get, slice_index, unwrap_or, nat_lt}
use Rattle.norm_lang.specs.declared.text.Reg.{Reg}
use Rattle.norm_lang.specs.declared.text.Reg.TheVariants.{Num, Ref}
use Rattle.norm_lang.specs.declared.text.Text.{Text}
use Rattle.norm_lang.specs.declared.text.Op.{Op}
use Rattle.norm_lang.specs.declared.text.FieldDecl.{FieldDecl}
use Rattle.norm_lang.specs.declared.text.CasEntry.{CasEntry}
use Rattle.norm_lang.specs.declared.text.Instr.{Instr}
use Rattle.norm_lang.specs.declared.text.Instr.TheVariants as instr
use Rattle.norm_lang.specs.declared.registers.Reference.{Reference}
use Rattle.norm_lang.specs.declared.registers.Registers.{Registers}
use Rattle.norm_lang.specs.Registers.{no_reference, reference_in, node_in, first_registers, with_count, with_reference}
use Rattle.norm_lang.specs.KindFields.{place_of}
use Rattle.norm_lang.specs.Local.{Spot, local_run}
use Rattle.source_machine.specs.declared.state.Value.{Value}
use Rattle.source_machine.specs.declared.state.Value.TheVariants.{Number, Node}
use Rattle.source_machine.specs.declared.state.Memory.{Memory}
use Rattle.source_machine.specs.declared.state.Running.{Running}
use Rattle.source_machine.specs.declared.state.Stand.{Stand}
use Rattle.source_machine.specs.declared.state.Stand.TheVariants.{InGenerator, InList, InWrapUp}
use Rattle.source_machine.specs.declared.state.SourceCaller.{SourceCaller}
use Rattle.source_machine.specs.Memory.{value_in, with_value, with_field, fields_named, loaded, exchange, Reached, reaches, auxiliary, access_by, access_at}
use Rattle.source_machine.specs.Step.{goes_on, generator_stand, generator_at, generator_from, generator_begun, wrap_up_end, wrap_up_stop, wrap_up_from, wrap_up_started, wrap_up_begun, Turn, list_next, list_turn, entry_turn, is_access_at, generator_turn, wrap_up_turn, access_turn, restarted}
use Rattle.source_machine.specs.Run.{is_new_at, is_new_pending}
use Rattle.state_images.specs.Images.{Naming, Kept, renamed, renamed_value, renamed_registers, renamed_spot, IsKeptValue, AreKept, IsMemoryImage, renamed_stand, IsKeptStand, IsRunningImage, IsRunningImageIf}
use Rattle.state_images.proofs.Renaming.{reference_renamed, reference_kept, number_renamed, with_number_renamed, with_number_kept, with_reference_renamed, with_reference_kept, renamed_null, local_runs_are_renamed}
use Rattle.state_images.proofs.Loading.{loads_are_renamed}
use Rattle.state_images.proofs.Storing.{value_renamed, value_kept, field_stored, AfterIs, exchange_renamed}
use Rattle.state_images.proofs.Extending.{Extends, registers_more, with_new, new_extends, new_is, new_kept, new_made, kept_was}

-- ---- an access

-- memory and the spot after an access, under names of which there may be one more
abbrev pub IsOnly : Naming → Naming → Memory → Type 0
IsOnly n after m = (a : ℕ) → Kept after a → is_some (fields_named a m.nodes) ≡ true → Kept n a

pub record ReachedIs (n : Naming) (m : Memory) (b : Bool) (name name' : ℕ) (r r' : Reached) : Type 0 where
  pub after : Naming
  pub extends : Extends n after
  pub memory : IsMemoryImage after r.memory r'.memory
  pub spot : r'.spot ≡ renamed_spot after r.spot
  pub kept : AreKept after r.spot.registers
  -- no name that was in use has come to matter
  pub only : IsOnly n after m
  -- the new name, if a node was made
  pub named : b ≡ true → (after.to name ≡ name') × Kept after name

abbrev pub IsFresh : ℕ → Memory → Type 0
IsFresh name m = (name ≢ 0) × (fields_named name m.nodes ≡ None)

lost : {A : Type 0} (o : Option A) → o ≡ None → is_some o ≡ true → ⊥
lost None e is = absurd (let z : false ≡ true = is in cc)
lost (Some x) e is = absurd (let z : Some x ≡ None = e in cc)

module _ (n : Naming) where
  pub extends_same : Extends n n
  extends_same = record { keeps = λ a k. k; same = λ a k. refl }

  stays : (m0 : Memory) (b : Bool) (name name' : ℕ) → b ≡ false → (m m' : Memory) → IsMemoryImage n m m' → (at at' : ℕ) (g g' : Registers) → at' ≡ at → g' ≡ renamed_registers n g → AreKept n g → ReachedIs n m0 b name name' (reaches m at g) (reaches m' at' g')
  stays m0 b name name' unmade m m' image at at' g g' e h kept = record {
    after = n;
    extends = extends_same;
    memory = image;
    spot = ap (λ k. let s : Spot = record { at = k; registers = g' } in s) e ∙ ap (λ r. let s : Spot = record { at = at; registers = r } in s) h;
    kept = kept;
    only = λ a k u. k;
    named = λ e. absurd (let z : true ≡ false = sym e ∙ unmade in cc);
  }

  with_value_renamed : (g : Registers) (d : Reg) (v : Value) → IsKeptValue n v → AreKept n g
      → (with_value (renamed_registers n g) d (renamed_value n v) ≡ renamed_registers n (with_value g d v)) × AreKept n (with_value g d v)
  with_value_renamed g d (Number v) here kept = (with_number_renamed n g d v, with_number_kept n g d v kept)
  with_value_renamed g d (Node r) here kept = (with_reference_renamed n g d r, with_reference_kept n g d r here kept)

  load_reached : (name name' : ℕ) (text : Text) (m m' : Memory) → IsMemoryImage n m m' → (i : Instr) (d : Reg) (at : ℕ) (g : Registers) → AreKept n g
      → ReachedIs n m false name name' (reaches m (at + 1) (with_value g d (loaded text i g m))) (reaches m' (at + 1) (with_value (renamed_registers n g) d (loaded text i (renamed_registers n g) m')))
  load_reached name name' text m m' image i d at g kept =
      let l = loads_are_renamed n text i g m m' image kept in
      let w = with_value_renamed g d (loaded text i g m) l.1 kept in
      stays m false name name' refl m m' image (at + 1) (at + 1) (with_value g d (loaded text i g m)) _ refl (ap (with_value (renamed_registers n g) d) l.0 ∙ w.0) w.1

  auxiliary_reached : (name name' : ℕ) (m m' : Memory) → IsMemoryImage n m m' → (o o' : Option Memory) → AfterIs n o o' → (at l : ℕ) (g : Registers) → AreKept n g
      → ReachedIs n m false name name' (auxiliary o m at l g) (auxiliary o' m' at l (renamed_registers n g))
  auxiliary_reached name name' m m' image None o' is at l g kept = subst (λ x. ReachedIs n m false name name' (reaches m l g) (auxiliary x m' at l (renamed_registers n g))) (sym is) (stays m false name name' refl m m' image l l g (renamed_registers n g) refl refl kept)
  auxiliary_reached name name' m m' image (Some a) (Some a') is at l g kept = stays m false name name' refl a a' is (at + 1) (at + 1) g (renamed_registers n g) refl refl kept
  auxiliary_reached name name' m m' image (Some a) None is at l g kept = absurd is

  pub by_reached : (text : Text) (name name' : ℕ) (i : Instr) (at : ℕ) (g : Registers) (m m' : Memory) → IsMemoryImage n m m' → AreKept n g
      → (is_new_at (Some i) ≡ true → IsFresh name m × IsFresh name' m') → ReachedIs n m (is_new_at (Some i)) name name' (access_by text name i at g m) (access_by text name' i at (renamed_registers n g) m')
  by_reached text name name' (instr.LoadRoot d x) at g m m' image kept fresh = load_reached name name' text m m' image (instr.LoadRoot d x) d at g kept
  by_reached text name name' (instr.LoadPick d x count a) at g m m' image kept fresh = load_reached name name' text m m' image (instr.LoadPick d x count a) d at g kept
  by_reached text name name' (instr.LoadField d a f) at g m m' image kept fresh = load_reached name name' text m m' image (instr.LoadField d a f) d at g kept
  by_reached text name name' (instr.New d kind) at g m m' image kept fresh =
      let f = fresh refl in
      let after = with_new n m m' image name name' f.0.0 f.1.0 f.0.1 f.1.1 in
      let e : Extends n after = new_extends n m m' image name name' f.0.0 f.1.0 f.0.1 f.1.1 in
      let here : Kept after name = new_kept n m m' image name name' f.0.0 f.1.0 f.0.1 f.1.1 in
      let is : after.to name ≡ name' = new_is n m m' image name name' f.0.0 f.1.0 f.0.1 f.1.1 in
      let more : AreKept after g = λ r. e.keeps _ (kept r) in
      record {
        after = after;
        extends = e;
        memory = new_made n m m' image name name' f.0.0 f.1.0 f.0.1 f.1.1 text kind;
        spot = ap (λ r. let s : Spot = record { at = at + 1; registers = r } in s)
            (ap (λ k. with_reference (renamed_registers n g) d (record { node = k; marked = false })) (sym is)
            ∙ (ap (λ h. with_reference h d (renamed after (record { node = name; marked = false }))) (sym (registers_more n after e g kept))
            ∙ with_reference_renamed after g d (record { node = name; marked = false })));
        kept = with_reference_kept after g d (record { node = name; marked = false }) here more;
        only = λ a k u. ⊎_elim (λ (z : a ≡ name). absurd (lost (fields_named name m.nodes) f.0.1 (subst (λ c. is_some (fields_named c m.nodes) ≡ true) z u))) (λ (old : Kept n a). old)
            (kept_was n m m' image name name' f.0.0 f.1.0 f.0.1 f.1.1 a k);
        named = λ z. (is, here);
      }
  by_reached text name name' (instr.Put a f b) at g m m' image kept fresh =
      subst (λ v. ReachedIs n m false name name' (access_by text name (instr.Put a f b) at g m) (reaches (record m' { nodes = with_field (reference_in (renamed_registers n g) a).node (place_of text.fields f) v m'.nodes }) (at + 1) (renamed_registers n g))) (sym (value_renamed n g b))
      (subst (λ (r : Reference). ReachedIs n m false name name' (access_by text name (instr.Put a f b) at g m) (reaches (record m' { nodes = with_field r.node (place_of text.fields f) (renamed_value n (value_in g b)) m'.nodes }) (at + 1) (renamed_registers n g))) (sym (reference_renamed n g a))
      (stays m false name name' refl _ _ (field_stored n m m' image (reference_in g a).node (place_of text.fields f) (value_in g b) (reference_kept n g a kept) (value_kept n g b kept)) (at + 1) (at + 1) g (renamed_registers n g) refl refl kept))
  by_reached text name name' (instr.Cas entry l) at g m m' image kept fresh =
      auxiliary_reached name name' m m' image (exchange text.fields entry g m) (exchange text.fields entry (renamed_registers n g) m') (exchange_renamed n text.fields entry g m m' image kept) at l g kept
  by_reached text name name' _ at g m m' image kept fresh = stays m false name name' refl m m' image at at g (renamed_registers n g) refl refl kept

  pub at_reached : (text : Text) (name name' : ℕ) (o : Option Instr) (at : ℕ) (g : Registers) (m m' : Memory) → IsMemoryImage n m m' → AreKept n g
      → (is_new_at o ≡ true → IsFresh name m × IsFresh name' m') → ReachedIs n m (is_new_at o) name name' (access_at text name o at g m) (access_at text name' o at (renamed_registers n g) m')
  at_reached text name name' None at g m m' image kept fresh = stays m false name name' refl m m' image at at g (renamed_registers n g) refl refl kept
  at_reached text name name' (Some i) at g m m' image kept fresh = by_reached text name name' i at g m m' image kept fresh

  -- ---- where an operation stands after local code

  nulls_renamed : (k : ℕ) → map (renamed n) (replicate k no_reference) ≡ replicate k no_reference
  nulls_renamed zero = refl
  nulls_renamed (suc k) = ap (λ r. r ∷ map (renamed n) (replicate k no_reference)) (renamed_null n) ∙ ap (λ l. no_reference ∷ l) (nulls_renamed k)

  nulls_kept : (k r : ℕ) → Kept n (unwrap_or (slice_get (replicate k no_reference) r) no_reference).node
  nulls_kept zero r = n.null_kept
  nulls_kept (suc k) zero = n.null_kept
  nulls_kept (suc k) (suc r) = nulls_kept k r

  pub first_renamed : (args : List ℕ) → renamed_registers n (first_registers args) ≡ first_registers args
  first_renamed args = ap (λ l. let g : Registers = record { numbers = (first_registers args).numbers; references = l } in g) (nulls_renamed 8)

  pub first_kept : (args : List ℕ) → AreKept n (first_registers args)
  first_kept args r = nulls_kept 8 r

  stand_same : (i : Option Instr) (at : ℕ) → (renamed_stand n (generator_stand i at) ≡ generator_stand i at) × IsKeptStand n (generator_stand i at)
  stand_same None at = (refl, tt)
  stand_same (Some (instr.Commit entries)) at = (refl, tt)
  stand_same (Some (instr.Set d v)) at = (refl, tt)
  stand_same (Some _) at = (refl, tt)

  -- the same operation with the same arguments
  pub record AreAlike (r r' : Running) : Type 0 where
    pub op : r'.op ≡ r.op
    pub args : r'.args ≡ r.args

  pub generator_image : (op : Op) (spot spot' : Spot) (r r' : Running) → AreAlike r r' → spot' ≡ renamed_spot n spot → AreKept n spot.registers
      → IsRunningImage n (generator_from op spot r) (generator_from op spot' r')
  generator_image op spot spot' r r' alike e kept =
      let k = local_runs_are_renamed n op.generator (length op.generator) spot kept in
      let s = local_run op.generator (length op.generator) spot in
      subst (λ t. IsRunningImage n (generator_from op spot r) (generator_at op t r')) (sym (ap (local_run op.generator (length op.generator)) e ∙ k.0)) record {
        op = alike.op;
        args = alike.args;
        registers = refl;
        stand = sym (stand_same (slice_get op.generator s.at) s.at).0;
        registers_kept = k.1;
        stand_kept = (stand_same (slice_get op.generator s.at) s.at).1;
      }

  pub begun_image : (op : Op) (r r' : Running) → AreAlike r r' → IsRunningImage n (generator_begun op r) (generator_begun op r')
  begun_image op r r' alike =
      generator_image op (record { at = 0; registers = first_registers r.args }) (record { at = 0; registers = first_registers r'.args }) r r' alike
      (ap (λ a. let s : Spot = record { at = 0; registers = first_registers a } in s) alike.args ∙ ap (λ g. let s : Spot = record { at = 0; registers = g } in s) (sym (first_renamed r.args)))
      (first_kept r.args)

  pub alike : (r r' : Running) → IsRunningImage n r r' → AreAlike r r'
  alike r r' i = record { op = i.op; args = i.args }

  pub end_image : (op : Op) (i : Option Instr) (r r' : Running) (caller caller' : SourceCaller) → IsRunningImage n r r' → IsRunningImageIf n (wrap_up_end op i r caller).running (wrap_up_end op i r' caller').running
  end_image op (Some (instr.Return a)) r r' caller caller' image = tt
  end_image op (Some instr.ReturnNone) r r' caller caller' image = tt
  end_image op (Some instr.Again) r r' caller caller' image = begun_image op r r' (alike r r' image)
  end_image op None r r' caller caller' image = image
  end_image op (Some _) r r' caller caller' image = image

  stop_image : (b : Bool) (op : Op) (i : Option Instr) (r r' : Running) (caller caller' : SourceCaller) → IsRunningImage n r r' → IsRunningImageIf n (wrap_up_stop b op i r caller).running (wrap_up_stop b op i r' caller').running
  stop_image true op i r r' caller caller' image = image
  stop_image false op i r r' caller caller' image = end_image op i r r' caller caller' image

  pub wrap_up_image : (op : Op) (started started' : Registers) (accessed : Bool) (spot spot' : Spot) (r r' : Running) (caller caller' : SourceCaller) → AreAlike r r' → started' ≡ renamed_registers n started → AreKept n started
      → spot' ≡ renamed_spot n spot → AreKept n spot.registers → IsRunningImageIf n (wrap_up_from op started accessed spot r caller).running (wrap_up_from op started' accessed spot' r' caller').running
  wrap_up_image op started started' accessed spot spot' r r' caller caller' like s sk e kept =
      let k = local_runs_are_renamed n op.wrapup (length op.wrapup) spot kept in
      let t = local_run op.wrapup (length op.wrapup) spot in
      subst (λ g. IsRunningImageIf n (wrap_up_from op started accessed spot r caller).running (wrap_up_from op g accessed spot' r' caller').running) (sym s)
      (subst (λ u. IsRunningImageIf n (wrap_up_from op started accessed spot r caller).running
      (wrap_up_stop accessed op (slice_get op.wrapup u.at) (record r' { registers = u.registers; stand = InWrapUp u.at (renamed_registers n started) accessed }) caller').running) (sym (ap (local_run op.wrapup (length op.wrapup)) e ∙ k.0))
      (stop_image accessed op (slice_get op.wrapup t.at) (record r { registers = t.registers; stand = InWrapUp t.at started accessed }) (record r' { registers = renamed_registers n t.registers; stand = InWrapUp t.at (renamed_registers n started) accessed }) caller caller'
      record { op = like.op; args = like.args; registers = refl; stand = refl; registers_kept = k.1; stand_kept = sk }))

  pub started_image : (op : Op) (started started' : Registers) (r r' : Running) (caller caller' : SourceCaller) → AreAlike r r' → started' ≡ renamed_registers n started → AreKept n started
      → IsRunningImageIf n (wrap_up_started op started r caller).running (wrap_up_started op started' r' caller').running
  started_image op started started' r r' caller caller' like s sk =
      wrap_up_image op started started' false (record { at = 0; registers = started }) (record { at = 0; registers = started' }) r r' caller caller' like s sk
      (ap (λ g. let x : Spot = record { at = 0; registers = g } in x) s) sk

  pub begun_wrap_up : (op : Op) (made : ℕ) (r r' : Running) (caller caller' : SourceCaller) → IsRunningImage n r r' → IsRunningImageIf n (wrap_up_begun op made r caller).running (wrap_up_begun op made r' caller').running
  begun_wrap_up op made r r' caller caller' image =
      started_image op (with_count r.registers made) (with_count r'.registers made) r r' caller caller' (alike r r' image)
      (ap (λ g. with_count g made) image.registers ∙ with_number_renamed n r.registers (Num 7) made) (with_number_kept n r.registers (Num 7) made image.registers_kept)

-- ---- a turn

pub record TurnIs (n : Naming) (m : Memory) (b : Bool) (name name' : ℕ) (t t' : Turn) : Type 0 where
  pub after : Naming
  pub extends : Extends n after
  pub memory : IsMemoryImage after t.memory t'.memory
  pub running : IsRunningImageIf after t.caller.running t'.caller.running
  pub only : IsOnly n after m
  pub named : b ≡ true → (after.to name ≡ name') × Kept after name

module _ (n : Naming) (m m' : Memory) (image : IsMemoryImage n m m') (name name' : ℕ) where
  none : false ≡ true → (n.to name ≡ name') × Kept n name
  none e = absurd (let z : false ≡ true = e in cc)

  pub left : (caller caller' : SourceCaller) → IsRunningImageIf n caller.running caller'.running → TurnIs n m false name name' (record { memory = m; caller = caller }) (record { memory = m'; caller = caller' })
  left caller caller' i = record { after = n; extends = extends_same n; memory = image; running = i; only = λ a k u. k; named = none }

  list_image : (op : Op) (at : ℕ) (entries : List CasEntry) (made : ℕ) (o o' : Option Memory) → AfterIs n o o' → (r r' : Running) (caller caller' : SourceCaller) → IsRunningImage n r r'
      → TurnIs n m false name name' (list_turn op at entries made o r m caller) (list_turn op at entries made o' r' m' caller')
  list_image op at entries made None o' is r r' caller caller' i =
      subst (λ x. TurnIs n m false name name' (list_turn op at entries made None r m caller) (list_turn op at entries made x r' m' caller')) (sym is)
      (left (wrap_up_begun op made r caller) (wrap_up_begun op made r' caller') (begun_wrap_up n op made r r' caller caller' i))
  list_image op at entries made (Some a) None is r r' caller caller' i = absurd is
  list_image op at entries made (Some a) (Some a') is r r' caller caller' i =
      record { after = n; extends = extends_same n; memory = is; running = of (nat_lt (made + 1) (length entries)); only = λ b k u. k; named = none } where
        of : (b : Bool) → IsRunningImageIf n (cond b (goes_on (record r { stand = InList at entries (made + 1) }) caller) (wrap_up_begun op (made + 1) r caller)).running
            (cond b (goes_on (record r' { stand = InList at entries (made + 1) }) caller') (wrap_up_begun op (made + 1) r' caller')).running
        of true = record { op = i.op; args = i.args; registers = i.registers; stand = refl; registers_kept = i.registers_kept; stand_kept = tt }
        of false = begun_wrap_up n op (made + 1) r r' caller caller' i

  entry_image : (text : Text) (op : Op) (at : ℕ) (entries : List CasEntry) (made : ℕ) (o : Option CasEntry) (r r' : Running) (caller caller' : SourceCaller) → IsRunningImage n r r'
      → TurnIs n m false name name' (entry_turn text.fields op at entries made o r m caller) (entry_turn text.fields op at entries made o r' m' caller')
  entry_image text op at entries made None r r' caller caller' i = left (wrap_up_begun op made r caller) (wrap_up_begun op made r' caller') (begun_wrap_up n op made r r' caller caller' i)
  entry_image text op at entries made (Some entry) r r' caller caller' i =
      list_image op at entries made (exchange text.fields entry r.registers m) (exchange text.fields entry r'.registers m')
      (subst (λ g. AfterIs n (exchange text.fields entry r.registers m) (exchange text.fields entry g m')) (sym i.registers) (exchange_renamed n text.fields entry r.registers m m' image i.registers_kept))
      r r' caller caller' i

  -- an access in a generator or a wrap-up
  reached_in : (text : Text) (o : Option Instr) (at : ℕ) (r r' : Running) → IsRunningImage n r r' → (is_new_at o ≡ true → IsFresh name m × IsFresh name' m')
      → ReachedIs n m (is_new_at o) name name' (access_at text name o at r.registers m) (access_at text name' o at r'.registers m')
  reached_in text o at r r' i fresh =
      subst (λ g. ReachedIs n m (is_new_at o) name name' (access_at text name o at r.registers m) (access_at text name' o at g m')) (sym i.registers) (at_reached n text name name' o at r.registers m m' image i.registers_kept fresh)

  generator_turned : (b : Bool) (op : Op) (reached reached' : Reached) → ReachedIs n m b name name' reached reached' → (r r' : Running) (caller caller' : SourceCaller) → IsRunningImage n r r'
      → TurnIs n m b name name' (generator_turn op reached r caller) (generator_turn op reached' r' caller')
  generator_turned b op reached reached' is r r' caller caller' i = record {
    after = is.after;
    extends = is.extends;
    memory = is.memory;
    running = generator_image is.after op reached.spot reached'.spot r r' (record { op = i.op; args = i.args }) is.spot is.kept;
    only = is.only;
    named = is.named;
  }

  wrap_up_turned : (b : Bool) (new : Bool) → (b ≡ false → new ≡ false) → (op : Op) (started : Registers) (at : ℕ) (accessed : Bool) (o : Option Instr) (reached reached' : Reached) → ReachedIs n m new name name' reached reached' → (r r' : Running) (caller caller' : SourceCaller)
      → IsRunningImage n r r' → AreKept n started → TurnIs n m new name name' (wrap_up_turn b op started o reached r m caller) (wrap_up_turn b op (renamed_registers n started) o reached' r' m' caller')
  wrap_up_turned true new unmade op started at accessed o reached reached' is r r' caller caller' i sk = record {
    after = is.after;
    extends = is.extends;
    memory = is.memory;
    running = wrap_up_image is.after op started (renamed_registers n started) true reached.spot reached'.spot r r' caller caller' (record { op = i.op; args = i.args })
        (sym (registers_more n is.after is.extends started sk)) (λ k. is.extends.keeps _ (sk k)) is.spot is.kept;
    only = is.only;
    named = is.named;
  }
  wrap_up_turned false new unmade op started at accessed o reached reached' is r r' caller caller' i sk = subst (λ b. TurnIs n m b name name' (wrap_up_turn false op started o reached r m caller) (wrap_up_turn false op (renamed_registers n started) o reached' r' m' caller')) (sym (unmade refl)) (left (wrap_up_end op o r caller) (wrap_up_end op o r' caller') (end_image n op o r r' caller caller' i))

  no_new : (o : Option Instr) → is_access_at o ≡ false → is_new_at o ≡ false
  no_new None e = refl
  no_new (Some (instr.New d kind)) e = absurd (let z : true ≡ false = e in cc)
  no_new (Some _) e = refl

  pub access_turned : (text : Text) (op : Op) (s : Stand) (r r' : Running) (caller caller' : SourceCaller) → IsRunningImage n r r' → IsKeptStand n s
      → (is_new_pending op s ≡ true → IsFresh name m × IsFresh name' m')
      → TurnIs n m (is_new_pending op s) name name' (access_turn text name op s r m caller) (access_turn text name' op (renamed_stand n s) r' m' caller')
  access_turned text op (InGenerator at) r r' caller caller' i sk fresh =
      generator_turned (is_new_at (slice_get op.generator at)) op _ _ (reached_in text (slice_get op.generator at) at r r' i fresh) r r' caller caller' i
  access_turned text op (InList at entries made) r r' caller caller' i sk fresh = entry_image text op at entries made (slice_get entries made) r r' caller caller' i
  access_turned text op (InWrapUp at started accessed) r r' caller caller' i sk fresh =
      wrap_up_turned (is_access_at (slice_get op.wrapup at)) (is_new_at (slice_get op.wrapup at)) (no_new (slice_get op.wrapup at)) op started at accessed (slice_get op.wrapup at) _ _ (reached_in text (slice_get op.wrapup at) at r r' i fresh) r r' caller caller' i sk

  pub restart_turned : (op : Op) (s : Stand) (r r' : Running) (caller caller' : SourceCaller) → IsRunningImage n r r' → IsKeptStand n s
      → IsRunningImageIf n (restarted op s r caller).running (restarted op (renamed_stand n s) r' caller').running
  restart_turned op (InGenerator at) r r' caller caller' i sk = begun_image n op r r' (alike n r r' i)
  restart_turned op (InList at entries made) r r' caller caller' i sk = begun_image n op r r' (alike n r r' i)
  restart_turned op (InWrapUp at started accessed) r r' caller caller' i sk = started_image n op started (renamed_registers n started) r r' caller caller' (alike n r r' i) refl sk
