-- What is printed is read back.
use Rattle.std.specs.Prelude.{◌≡◌, ℕ, List, ◌++◌, map, length, Some, true}
use Rattle.std.specs.List.{list_all}
use Rattle.norm_lang.specs.LineWords.{is_name}
use Rattle.norm_lang.specs.declared.text.RootDecl.{RootDecl}
use Rattle.norm_lang.specs.declared.text.NodeDecl.{NodeDecl}
use Rattle.oa_text.specs.Tokens.{words_of}
use Rattle.c_language.specs.declared.lines.Line.{Line}
use Rattle.c_printer.specs.declared.operations.Operation.{Operation}
use Rattle.c_printer.specs.Names.{claim_names, operation_names, are_names}
use Rattle.c_printer.specs.Words.{token_bytes}
use Rattle.c_printer.specs.Tokens.{line_tokens}
use Rattle.c_printer.specs.Lexing.{after_said, tokens_said}
use Rattle.c_printer.specs.Reading.{line_said}
use Rattle.c_printer.specs.Fitting.{is_fitting_line, is_fitting_code}
use Rattle.c_printer.specs.Header.{header_text}
use Rattle.c_printer.specs.FileRead.{header_said}

-- the names of the locals of claims, and those of operations, differ from each other, from what stands in a function's head, and from the keywords
-- of C
abbrev pub NamesDiffer : Type 0
NamesDiffer = (are_names claim_names ≡ true) × (are_names operation_names ≡ true)

-- the tokens of a line say that line and no other
abbrev pub TokensReadBack : Type 0
TokensReadBack = (line : Line) → line_said (line_tokens line) ≡ Some line

-- a printed line says the line that it was printed from: in any header, with any table of names that differ
abbrev pub LinesReadBack : Type 0
LinesReadBack =
    (name : List ℕ) (names : List (List ℕ)) (line : Line) → is_name name ≡ true → are_names names ≡ true → is_fitting_line names line ≡ true
    → after_said (tokens_said name names (words_of (token_bytes name names (line_tokens line)))) line_said ≡ Some line

-- the bytes of a header say the lines of its functions: those of the claims that it was printed from, and then those of the operations
abbrev pub HeadersReadBack : Type 0
HeadersReadBack =
    (name strides : List ℕ) (roots : List RootDecl) (nodes : List NodeDecl) (claims : List (List Line)) (operations : List Operation) → is_name name ≡ true
    → list_all (is_fitting_code claim_names) claims ≡ true → list_all (λ operation. is_fitting_code operation_names operation.code) operations ≡ true
    → header_said name strides roots nodes (length claims) operations (header_text name strides roots nodes claims operations)
    ≡ Some (claims ++ map (λ operation. operation.code) operations)
