-- Settings and their faults, against what the makers of a shape and of a setting answer.
use Rattle.std.proofs.Common.{◌≡◌, ℕ, Bool, true, false, ◌&&◌, List, [], ◌∷◌, length, Option, Some, None, Result, Ok, Err, refl, sym, ap, ◌∙◌, subst}
use Rattle.std.specs.Prelude.{if◌then◌else◌}
use Rattle.oa_words.specs.declared.shape.ShapeFault.{ShapeFault as SizesFault}
use Rattle.oa_words.specs.declared.shape.ShapeFault.TheVariants as sizes
use Rattle.oa_words.specs.Words.{Sizes}
use Rattle.oa_words.specs.Within.{is_count, are_slots, sizes_or_fault}
use Rattle.caller_parts.specs.declared.setting.SettingFault.{SettingFault}
use Rattle.caller_parts.specs.declared.setting.SettingFault.TheVariants as settings
use Rattle.caller_parts.specs.Settings.{Setting, are_phases, have_slots, setting_or_fault}
use Rattle.caller_parts.specs.declared.setting.Reclamation.{Reclamation}
use Rattle.documents.specs.declared.document.Document.{Document}
use Rattle.script_plans.specs.declared.fault.ShapeFault.{ShapeFault}
use Rattle.script_plans.specs.declared.limits.TheConstants.{MOST_FUEL}
use Rattle.script_plans.specs.Shapes.{first_of, whole_fault, fault_unless, kind_slots, kind_nodes, sizes_of, setting_with, setting_under, sizes_fault, nodes_fault, rest_fault, setting_fault}
use Rattle.script_plans.specs.Told.{sizes_number, or_fault}
use Rattle.script_plans.proofs.Counting.{are_roomy}

-- ---- the shape of the row

abbrev told : Result Sizes SizesFault → Result Sizes ShapeFault
told (Ok n) = Ok n
told (Err fault) = Err (whole_fault (sizes_number fault))

judged : (n : Sizes) (a b c d e : Bool)
    → told (if a then (if b then (if c then (if d then (if e then Ok n else Err sizes.Cells) else Err sizes.Fields) else Err sizes.Slots) else Err sizes.Kinds) else Err sizes.Callers)
    ≡ or_fault (first_of (fault_unless 1 a ∷ fault_unless 2 (b && c) ∷ fault_unless 3 d ∷ fault_unless 4 e ∷ [])) n
judged n true true true false e = refl
judged n true true true true false = refl
judged n true true true true true = refl
judged n _ _ _ d e = refl

shape_told : (kinds : ℕ) (n : Sizes) → told (sizes_or_fault kinds n) ≡ or_fault (sizes_fault kinds n) n
shape_told kinds n = judged n (is_count 8 n.callers) (is_count 4 kinds) (are_slots n) (is_count 4 n.fields) (is_count 256 n.cells)

pub shape_fine : (kinds : ℕ) (n shape : Sizes) → Ok shape ≡ sizes_or_fault kinds n → Ok shape ≡ or_fault (sizes_fault kinds n) n
shape_fine kinds n shape is = ap told is ∙ shape_told kinds n

pub shape_refused : (kinds : ℕ) (n : Sizes) (fault : SizesFault) → Err fault ≡ sizes_or_fault kinds n → Err (whole_fault (sizes_number fault)) ≡ or_fault (sizes_fault kinds n) n
shape_refused kinds n fault is = ap told is ∙ shape_told kinds n

-- ---- the rest of a setting, if each kind has slots for its initial nodes

abbrev tried : Setting → Bool → Bool → Result Setting SettingFault
tried setting roomy phases = if roomy then (if phases then Ok setting else Err settings.Phases) else Err settings.Nodes

abbrev rest : Bool → Bool → Option ShapeFault
rest phases fuel = first_of (fault_unless 6 phases ∷ fault_unless 7 fuel ∷ [])

fine : (setting made : Setting) (phases : Bool) → Ok made ≡ tried setting true phases → Ok made ≡ or_fault (rest phases true) setting
fine setting made true is = let same : made ≡ setting = cc in ap (λ (s : Setting). Ok s) same
fine setting made false is = cc

unfuelled : (setting made : Setting) (phases : Bool) → Ok made ≡ tried setting true phases → Err (whole_fault 7) ≡ or_fault (rest phases false) setting
unfuelled setting made true is = refl
unfuelled setting made false is = cc

refused : (setting : Setting) (fault : SettingFault) (phases fuel : Bool) → Err fault ≡ tried setting true phases → Err (whole_fault 6) ≡ or_fault (rest phases fuel) setting
refused setting fault true fuel is = cc
refused setting fault false fuel is = refl

module _ (by : Reclamation) (document : Document) (shape : Sizes) (nodes : List ℕ) (roomy : have_slots shape nodes (length shape.kinds) ≡ true) where
  abbrev asked : Setting
  asked = setting_with by document shape nodes

  judged_so : setting_or_fault asked ≡ tried asked true (are_phases document.first document.last)
  judged_so = ap (λ (b : Bool). tried asked b (are_phases document.first document.last)) roomy

  pub over_fine : (setting : Setting) → Ok setting ≡ setting_or_fault asked → true ≡ is_count MOST_FUEL document.fuel → Ok setting ≡ or_fault (rest_fault document) asked
  over_fine setting is fuel = rw (← fuel) (fine asked setting (are_phases document.first document.last) (is ∙ judged_so))

  pub over_unfuelled : (setting : Setting) → Ok setting ≡ setting_or_fault asked → false ≡ is_count MOST_FUEL document.fuel → Err (whole_fault 7) ≡ or_fault (rest_fault document) asked
  over_unfuelled setting is fuel = rw (← fuel) (unfuelled asked setting (are_phases document.first document.last) (is ∙ judged_so))

  pub over_refused : (fault : SettingFault) → Err fault ≡ setting_or_fault asked → Err (whole_fault 6) ≡ or_fault (rest_fault document) asked
  over_refused fault is = refused asked fault (are_phases document.first document.last) (is_count MOST_FUEL document.fuel) (is ∙ judged_so)

-- ---- the setting

-- a shape that was made is the one asked for
same_shape : (fault : Option ShapeFault) (n shape : Sizes) → Ok shape ≡ or_fault fault n → (shape ≡ n) × (fault ≡ None)
same_shape None n shape is = (cc, refl)
same_shape (Some fault) n shape is = cc

module _ (document : Document) where
  abbrev by_sizes : Option ShapeFault
  by_sizes = sizes_fault (length document.text.kinds) (sizes_of document)

  abbrev by_nodes : Option ShapeFault
  by_nodes = nodes_fault (kind_slots document) (kind_nodes document.text.nodes)

  -- each kind of a shape that was made has slots for its nodes
  pub setting_roomy : (shape : Sizes) → Ok shape ≡ or_fault by_sizes (sizes_of document) → None ≡ by_nodes
      → have_slots shape (kind_nodes document.text.nodes) (length shape.kinds) ≡ true
  setting_roomy shape made none =
      subst (λ (n : Sizes). have_slots n (kind_nodes document.text.nodes) (length n.kinds) ≡ true) (sym (same_shape by_sizes (sizes_of document) shape made).0)
      (are_roomy (sizes_of document) (kind_nodes document.text.nodes) (sym none))

  pub setting_fine : (by : Reclamation) (shape : Sizes) (result : Result Setting ShapeFault) → Ok shape ≡ or_fault by_sizes (sizes_of document) → None ≡ by_nodes
      → result ≡ or_fault (rest_fault document) (setting_with by document shape (kind_nodes document.text.nodes)) → result ≡ or_fault (setting_fault document) (setting_under by document)
  setting_fine by shape result made none is =
      let same = same_shape by_sizes (sizes_of document) shape made in
      is ∙ ap (λ (n : Sizes). or_fault (rest_fault document) (setting_with by document n (kind_nodes document.text.nodes))) same.0
      ∙ ap (λ (o : Option ShapeFault). or_fault o (setting_under by document)) (whole by_sizes by_nodes (rest_fault document) same.1 (sym none))
    where
      whole : (one two three : Option ShapeFault) → one ≡ None → two ≡ None → three ≡ first_of (one ∷ two ∷ three ∷ [])
      whole None None None never none = refl
      whole None None (Some fault) never none = refl
      whole _ _ three never none = cc

  pub setting_crowded : (by : Reclamation) (shape : Sizes) (fault : ShapeFault) → Ok shape ≡ or_fault by_sizes (sizes_of document) → Some fault ≡ by_nodes
      → Err fault ≡ or_fault (setting_fault document) (setting_under by document)
  setting_crowded by shape fault made some = go by_sizes by_nodes (same_shape by_sizes (sizes_of document) shape made).1 some
    where
      go : (one two : Option ShapeFault) → one ≡ None → Some fault ≡ two → Err fault ≡ or_fault (first_of (one ∷ two ∷ rest_fault document ∷ [])) (setting_under by document)
      go None (Some other) never some = let same : fault ≡ other = cc in ap (λ (f : ShapeFault). Err f) same
      go _ _ never some = cc

  pub setting_shapeless : (by : Reclamation) (fault : ShapeFault) → Err fault ≡ or_fault by_sizes (sizes_of document) → Err fault ≡ or_fault (setting_fault document) (setting_under by document)
  setting_shapeless by fault is = go by_sizes is
    where
      go : (one : Option ShapeFault) → Err fault ≡ or_fault one (sizes_of document) → Err fault ≡ or_fault (first_of (one ∷ by_nodes ∷ rest_fault document ∷ [])) (setting_under by document)
      go None is = cc
      go (Some other) is = let same : fault ≡ other = cc in ap (λ (f : ShapeFault). Err f) same
