-- A header: what stands before its functions, its functions, claims first, and its end. The templates are the code's constants.
use Rattle.std.specs.Prelude.{ℕ, zero, suc, ◌+◌, List, [], ◌∷◌, ◌++◌, length}
use Rattle.std.specs.List.{flat_map}
use Rattle.norm_lang.specs.declared.text.RootDecl.{RootDecl}
use Rattle.norm_lang.specs.declared.text.NodeDecl.{NodeDecl}
use Rattle.c_language.specs.declared.lines.Line.{Line}
use Rattle.c_printer.specs.declared.operations.Operation.{Operation}
use Rattle.c_printer.specs.declared.templates.TheConstants.{DECLARATIONS, CLAIM, STRUCTURES, STRIDE, OPENING, CLOSING}
use Rattle.c_printer.specs.Filling.{filled}
use Rattle.c_printer.specs.Functions.{claim_function, function_text}
use Rattle.c_printer.specs.Operations.{declaration_texts, operation_texts}
use Rattle.c_printer.specs.Starts.{start_text}

unfoldable pub declarations : List ℕ → ℕ → List ℕ
declarations name kinds = filled name kinds 0 DECLARATIONS.now

unfoldable pub claim_text : List ℕ → ℕ → List ℕ
claim_text name kind = filled name kind 0 CLAIM.now

-- the declarations of so many claims, of which the first is of this kind
abbrev pub claim_texts : List ℕ → ℕ → ℕ → List ℕ
claim_texts name kind zero = []
claim_texts name kind (suc count) = claim_text name kind ++ claim_texts name (kind + 1) count

unfoldable pub structures : List ℕ → ℕ → ℕ → List ℕ
structures name kinds roots = filled name kinds roots STRUCTURES.now

unfoldable pub stride_text : ℕ → List ℕ
stride_text stride = filled [] 0 stride STRIDE.now

abbrev pub stride_texts : List ℕ → List ℕ
stride_texts strides = flat_map stride_text strides

unfoldable pub opening : List ℕ → List ℕ
opening name = filled name 0 0 OPENING.now

unfoldable pub closing : List ℕ → List ℕ
closing name = filled name 0 0 CLOSING.now

-- the declarations of the pool, of claims and of operations
abbrev pub declared_text : List ℕ → ℕ → List Operation → List ℕ
declared_text name kinds operations = declarations name kinds ++ (claim_texts name 0 kinds ++ declaration_texts name operations)

-- the structures of the pool, and what it opens with
abbrev pub structured_text : List ℕ → List ℕ → List RootDecl → List NodeDecl → List ℕ
structured_text name strides roots nodes =
    structures name (length strides) (length roots) ++ (stride_texts strides ++ (start_text name roots nodes ++ opening name))

-- what stands before the functions, without the newline at its end
abbrev pub front_text : List ℕ → List ℕ → List RootDecl → List NodeDecl → List Operation → List ℕ
front_text name strides roots nodes operations = declared_text name (length strides) operations ++ structured_text name strides roots nodes

-- the claims of kinds, of which the first has this number
abbrev pub function_texts : List ℕ → List ℕ → ℕ → List (List Line) → List ℕ
function_texts name strides kind [] = []
function_texts name strides kind (code ∷ claims) = function_text name (claim_function name strides kind code) ++ function_texts name strides (kind + 1) claims

abbrev pub header_text : List ℕ → List ℕ → List RootDecl → List NodeDecl → List (List Line) → List Operation → List ℕ
header_text name strides roots nodes claims operations =
    front_text name strides roots nodes operations
    ++ (10 ∷ (function_texts name strides 0 claims ++ (operation_texts name strides operations ++ closing name)))
