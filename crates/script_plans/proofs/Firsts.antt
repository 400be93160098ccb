-- The first of faults, call by call and script by script.
use Rattle.std.proofs.Common.{◌≡◌, ℕ, ◌+◌, ◌<◌, ◌≤◌, List, map, length, drop, get_or, Option, Some, None, refl, sym, ap, ◌∙◌}
use Rattle.std.proofs.lemmas.List.{drop_more, drop_all}
use Rattle.std.specs.Option.{option_or}
use Rattle.norm_lang.specs.declared.text.Op.{Op}
use Rattle.documents.specs.declared.document.ScriptCall.{ScriptCall}
use Rattle.script_plans.specs.declared.fault.ShapeFault.{ShapeFault}
use Rattle.script_plans.specs.Shapes.{first_of, call_fault, script_fault, scripts_fault}

turn : {X : Type 0} (f : X → Option ShapeFault) (xs : List X) (i : ℕ) (d : X) → i < length xs
    → first_of (map f (drop i xs)) ≡ option_or (f (get_or xs i d)) (first_of (map f (drop (i + 1) xs)))
turn f xs i d lt = rw (drop_more xs i d lt) refl

more : {X : Type 0} (f : X → Option ShapeFault) (xs : List X) (i : ℕ) (d : X) (whole : Option ShapeFault) → i < length xs → None ≡ f (get_or xs i d)
    → first_of (map f (drop i xs)) ≡ whole → first_of (map f (drop (i + 1) xs)) ≡ whole
more f xs i d whole lt none so_far =
    sym (turn f xs i d lt ∙ ap (λ (fault : Option ShapeFault). option_or fault (first_of (map f (drop (i + 1) xs)))) (sym none)) ∙ so_far

found : {X : Type 0} (f : X → Option ShapeFault) (xs : List X) (i : ℕ) (d : X) (fault : ShapeFault) (whole : Option ShapeFault) → i < length xs → Some fault ≡ f (get_or xs i d)
    → first_of (map f (drop i xs)) ≡ whole → Some fault ≡ whole
found f xs i d fault whole lt one so_far =
    sym (turn f xs i d lt ∙ ap (λ (first : Option ShapeFault). option_or first (first_of (map f (drop (i + 1) xs)))) (sym one)) ∙ so_far

ended : {X : Type 0} (f : X → Option ShapeFault) (xs : List X) (i : ℕ) (whole : Option ShapeFault) → length xs ≤ i
    → first_of (map f (drop i xs)) ≡ whole → None ≡ whole
ended f xs i whole le so_far = sym (ap (λ (left : List _). first_of (map f left)) (drop_all i xs le)) ∙ so_far

pub script_more : (ops : List Op) (script : List ScriptCall) (i : ℕ) (d : ScriptCall) (whole : Option ShapeFault) → i < length script → None ≡ call_fault ops (get_or script i d)
    → script_fault ops (drop i script) ≡ whole → script_fault ops (drop (i + 1) script) ≡ whole
script_more ops script i d whole lt none so_far = more (call_fault ops) script i d whole lt none so_far

pub script_found : (ops : List Op) (script : List ScriptCall) (i : ℕ) (d : ScriptCall) (fault : ShapeFault) (whole : Option ShapeFault) → i < length script → Some fault ≡ call_fault ops (get_or script i d)
    → script_fault ops (drop i script) ≡ whole → Some fault ≡ whole
script_found ops script i d fault whole lt one so_far = found (call_fault ops) script i d fault whole lt one so_far

pub script_end : (ops : List Op) (script : List ScriptCall) (i : ℕ) (whole : Option ShapeFault) → length script ≤ i → script_fault ops (drop i script) ≡ whole → None ≡ whole
script_end ops script i whole le so_far = ended (call_fault ops) script i whole le so_far

pub scripts_more : (ops : List Op) (scripts : List (List ScriptCall)) (i : ℕ) (d : List ScriptCall) (whole : Option ShapeFault) → i < length scripts → None ≡ script_fault ops (get_or scripts i d)
    → scripts_fault ops (drop i scripts) ≡ whole → scripts_fault ops (drop (i + 1) scripts) ≡ whole
scripts_more ops scripts i d whole lt none so_far = more (script_fault ops) scripts i d whole lt none so_far

pub scripts_found : (ops : List Op) (scripts : List (List ScriptCall)) (i : ℕ) (d : List ScriptCall) (fault : ShapeFault) (whole : Option ShapeFault) → i < length scripts → Some fault ≡ script_fault ops (get_or scripts i d)
    → scripts_fault ops (drop i scripts) ≡ whole → Some fault ≡ whole
scripts_found ops scripts i d fault whole lt one so_far = found (script_fault ops) scripts i d fault whole lt one so_far

pub scripts_end : (ops : List Op) (scripts : List (List ScriptCall)) (i : ℕ) (whole : Option ShapeFault) → length scripts ≤ i → scripts_fault ops (drop i scripts) ≡ whole → None ≡ whole
scripts_end ops scripts i whole le so_far = ended (script_fault ops) scripts i whole le so_far
