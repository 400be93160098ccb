-- A header is read again: its front is passed, and its functions are read one after another.
use Rattle.std.proofs.Common.{◌≡◌, ℕ, suc, ◌+◌, ◌≤◌, ◌^◌, true, List, [], ◌∷◌, ◌++◌, map, length, Option, Some, ⊎_elim, refl, sym, ◌∙◌, ap, arith, eqb, append_assoc}
use Rattle.std.specs.Prelude.{nat_le}
use Rattle.std.specs.List.{list_all}
use Rattle.std.proofs.lemmas.Bool.{and_parts, cases_Bool}
use Rattle.std.proofs.lemmas.Bool.Decides.{nat_tests}
use Rattle.std.proofs.lemmas.Slice.Eq.{bytes_eq-Decides}
use Rattle.oa_text.specs.Lines.{onto, lines_of}
use Rattle.norm_lang.specs.LineWords.{is_name}
use Rattle.c_language.specs.declared.lines.Line.{Line}
use Rattle.c_printer.specs.declared.tokens.Sign.TheVariants as signs
use Rattle.c_printer.specs.declared.operations.Operation.{Operation}
use Rattle.c_printer.specs.Names.{claim_names, operation_names, are_names}
use Rattle.c_printer.specs.Words.{token_line}
use Rattle.c_printer.specs.Tokens.{sign}
use Rattle.c_printer.specs.Lexing.{after_said}
use Rattle.c_printer.specs.Fitting.{is_fitting_line, is_fitting_code}
use Rattle.c_printer.specs.Functions.{claim_front, claim_function, code_text, function_text}
use Rattle.c_printer.specs.Operations.{operation_front, operation_function, operation_texts}
use Rattle.c_printer.specs.Header.{front_text, closing, function_texts}
use Rattle.c_printer.specs.FileRead.{Head, CodeRead, FunctionRead, code_said, function_of, lines_behind, none_left, function_said, functions_said, claim_heads, operation_heads}
use Rattle.c_printer.specs.Laws.{HeadersReadBack}
use Rattle.c_printer.proofs.CodeBack.{marked, marked_lines, marked_stand, code_back}

-- ---- lines of bytes that end with a newline

-- the lines of bytes up to a newline, whatever follows it
record IsCut (bytes : List ℕ) : Type 0 where
  first : List ℕ
  more : List (List ℕ)
  lines : (rest : List ℕ) → lines_of (bytes ++ 10 ∷ rest) ≡ first ∷ (more ++ lines_of rest)

cut_more : (b : ℕ) (bytes : List ℕ) → IsCut bytes → IsCut (b ∷ bytes)
cut_more b bytes is =
    ⊎_elim
    (λ newline. record {
      first = [];
      more = is.first ∷ is.more;
      lines = λ rest. rw newline (ap (λ (l : List (List ℕ)). [] ∷ l) (is.lines rest));
    })
    (λ other. record {
      first = b ∷ is.first;
      more = is.more;
      lines = λ rest. rw other (ap (onto b) (is.lines rest));
    })
    (cases_Bool (eqb b 10))

cut : (bytes : List ℕ) → IsCut bytes
cut [] = record { first = []; more = []; lines = λ rest. refl }
cut (b ∷ bytes) = cut_more b bytes (cut bytes)

append_none : (lines : List (List ℕ)) → lines ++ [] ≡ lines
append_none [] = refl
append_none (line ∷ lines) = ap (λ (l : List (List ℕ)). line ∷ l) (append_none lines)

lines_joined : (bytes rest : List ℕ) → lines_of (bytes ++ 10 ∷ rest) ≡ lines_of (bytes ++ 10 ∷ []) ++ lines_of rest
lines_joined bytes rest =
    let is = cut bytes in
    is.lines rest
    ∙ sym (ap (λ (l : List (List ℕ)). l ++ lines_of rest) (is.lines [] ∙ ap (λ (l : List (List ℕ)). is.first ∷ l) (append_none is.more)))

passed : (fronts lines : List (List ℕ)) → lines_behind fronts (fronts ++ lines) ≡ Some lines
passed [] lines = refl
passed (front ∷ fronts) lines = rw ((bytes_eq-Decides front front).1 refl) (passed fronts lines)

-- the lines behind bytes and a newline
behind_bytes : {X : Type 0} (bytes rest : List ℕ) (f : List (List ℕ) → Option X)
    → after_said (lines_behind (lines_of (bytes ++ 10 ∷ [])) (lines_of (bytes ++ 10 ∷ rest))) f ≡ f (lines_of rest)
behind_bytes bytes rest f =
    ap (λ (l : List (List ℕ)). after_said (lines_behind (lines_of (bytes ++ 10 ∷ [])) l) f) (lines_joined bytes rest)
    ∙ ap (λ (o : Option (List (List ℕ))). after_said o f) (passed (lines_of (bytes ++ 10 ∷ [])) (lines_of rest))

-- ---- functions

function_read : (code : List Line) (rest : List (List ℕ)) → function_of (record { placed = marked code 0 code; rest = rest }) ≡ Some (record { code = code; rest = rest })
function_read code rest = rw (marked_lines code 0 code, marked_stand code 0 code) refl

function_back : (name front : List ℕ) (names : List (List ℕ)) (code : List Line) (tail : List ℕ) → is_name name ≡ true → are_names names ≡ true
    → is_fitting_code names code ≡ true
    → function_said name (record { names = names; front = front }) (lines_of (function_text name (record { names = names; front = front; code = code }) ++ tail))
    ≡ Some (record { code = code; rest = lines_of tail })
function_back name front names code tail is are fits =
    let parts = and_parts (nat_le (length code) (2 ^ 64)) (list_all (is_fitting_line names) code) fits in
    let room : 0 + length code ≤ 2 ^ 64 = (let le : length code ≤ 2 ^ 64 = grind (arith, nat_tests) in omega (arith, le)) in
    let body = code_text name names code 0 code in
    let end = token_line name names (sign signs.CloseBrace ∷ []) in
    let moved : (front ++ 10 ∷ (body ++ end)) ++ tail ≡ front ++ 10 ∷ (body ++ (end ++ tail))
    = append_assoc front (10 ∷ (body ++ end)) tail ∙ ap (λ (l : List ℕ). front ++ 10 ∷ l) (append_assoc body end tail) in
    ap (λ (l : List ℕ). function_said name (record { names = names; front = front }) (lines_of l)) moved
    ∙ behind_bytes front (body ++ (end ++ tail)) (λ rest. after_said (code_said name names 0 rest) function_of)
    ∙ ap (λ (o : Option CodeRead). after_said o function_of) (code_back name names code 0 code tail is are room parts.1)
    ∙ function_read code (lines_of tail)

-- a function, and those behind it
one_back : (name front : List ℕ) (names : List (List ℕ)) (code : List Line) (heads : List Head) (tail whole : List ℕ) (codes : List (List Line))
    → is_name name ≡ true → are_names names ≡ true → is_fitting_code names code ≡ true
    → whole ≡ function_text name (record { names = names; front = front; code = code }) ++ tail → functions_said name heads (lines_of tail) ≡ Some codes
    → functions_said name (record { names = names; front = front } ∷ heads) (lines_of whole) ≡ Some (code ∷ codes)
one_back name front names code heads tail whole codes is are fits same more =
    ap (λ (l : List ℕ). functions_said name (record { names = names; front = front } ∷ heads) (lines_of l)) same
    ∙ ap (λ (o : Option FunctionRead). after_said o (λ read. after_said (functions_said name heads read.rest) (λ rest. Some (read.code ∷ rest))))
    (function_back name front names code tail is are fits)
    ∙ ap (λ (o : Option (List (List Line))). after_said o (λ rest. Some (code ∷ rest))) more

end_back : (name : List ℕ) → after_said (lines_behind (lines_of (closing name)) (lines_of (closing name))) none_left ≡ Some []
end_back name =
    ap (λ (l : List (List ℕ)). after_said (lines_behind (lines_of (closing name)) l) none_left) (sym (append_none (lines_of (closing name))))
    ∙ ap (λ (o : Option (List (List ℕ))). after_said o none_left) (passed (lines_of (closing name)) [])

operations_back : (name strides : List ℕ) (operations : List Operation) → is_name name ≡ true
    → list_all (λ operation. is_fitting_code operation_names operation.code) operations ≡ true
    → functions_said name (operation_heads name strides operations) (lines_of (operation_texts name strides operations ++ closing name))
    ≡ Some (map (λ operation. operation.code) operations)
operations_back name strides [] is fit = end_back name
operations_back name strides (operation ∷ operations) is fit =
    let parts = and_parts (is_fitting_code operation_names operation.code) (list_all (λ (o : Operation). is_fitting_code operation_names o.code) operations) fit in
    one_back name (operation_front name strides operation.name operation.arguments) operation_names operation.code (operation_heads name strides operations)
    (operation_texts name strides operations ++ closing name) (operation_texts name strides (operation ∷ operations) ++ closing name) (map (λ operation. operation.code) operations)
    is refl parts.0 (append_assoc (function_text name (operation_function name strides operation)) (operation_texts name strides operations) (closing name))
    (operations_back name strides operations is parts.1)

claims_back : (name strides : List ℕ) (kind : ℕ) (claims : List (List Line)) (operations : List Operation) → is_name name ≡ true
    → list_all (is_fitting_code claim_names) claims ≡ true → list_all (λ operation. is_fitting_code operation_names operation.code) operations ≡ true
    → functions_said name (claim_heads name strides kind (length claims) ++ operation_heads name strides operations)
    (lines_of (function_texts name strides kind claims ++ (operation_texts name strides operations ++ closing name)))
    ≡ Some (claims ++ map (λ operation. operation.code) operations)
claims_back name strides kind [] operations is fit fits = operations_back name strides operations is fits
claims_back name strides kind (code ∷ claims) operations is fit fits =
    let parts = and_parts (is_fitting_code claim_names code) (list_all (is_fitting_code claim_names) claims) fit in
    let behind = operation_texts name strides operations ++ closing name in
    one_back name (claim_front name strides kind) claim_names code (claim_heads name strides (kind + 1) (length claims) ++ operation_heads name strides operations)
    (function_texts name strides (kind + 1) claims ++ behind) (function_texts name strides kind (code ∷ claims) ++ behind) (claims ++ map (λ operation. operation.code) operations)
    is refl parts.0 (append_assoc (function_text name (claim_function name strides kind code)) (function_texts name strides (kind + 1) claims) behind)
    (claims_back name strides (kind + 1) claims operations is parts.1 fits)

pub headers_back : HeadersReadBack
headers_back name strides roots nodes claims operations is fit fits =
    behind_bytes (front_text name strides roots nodes operations) (function_texts name strides 0 claims ++ (operation_texts name strides operations ++ closing name))
    (functions_said name (claim_heads name strides 0 (length claims) ++ operation_heads name strides operations))
    ∙ claims_back name strides 0 claims operations is fit fits
