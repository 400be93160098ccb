-- Operations: the declaration of each, and its function. The templates are the code's constants.
use Rattle.std.specs.Prelude.{ℕ, zero, suc, ◌+◌, List, [], ◌++◌}
use Rattle.std.specs.List.{flat_map}
use Rattle.c_printer.specs.declared.operations.Operation.{Operation}
use Rattle.c_printer.specs.declared.templates.TheConstants.{OPERATION, CALLER, ARGUMENT, REPLY, DECLARED, OPERATION_HEAD, GIVEN}
use Rattle.c_printer.specs.Filling.{filled}
use Rattle.c_printer.specs.Names.{operation_names}
use Rattle.c_printer.specs.Functions.{Function, pool_names, kind_texts, local_texts, function_text}

-- what stands before an operation's name
unfoldable pub operation_begin : List ℕ → List ℕ
operation_begin name = filled name 0 0 OPERATION.now

unfoldable pub caller_parameter : List ℕ → List ℕ
caller_parameter name = filled name 0 0 CALLER.now

unfoldable pub argument_text : ℕ → List ℕ
argument_text number = filled [] number 0 ARGUMENT.now

-- so many arguments, of which the first has this number
abbrev pub argument_texts : ℕ → ℕ → List ℕ
argument_texts number zero = []
argument_texts number (suc count) = argument_text number ++ argument_texts (number + 1) count

unfoldable pub reply_parameter : List ℕ
reply_parameter = filled [] 0 0 REPLY.now

-- an operation's name and parameters, of which so many are arguments
abbrev pub signature_text : List ℕ → List ℕ → ℕ → List ℕ
signature_text name operation arguments =
    operation_begin name ++ (operation ++ (caller_parameter name ++ (argument_texts 0 arguments ++ reply_parameter)))

unfoldable pub declaration_end : List ℕ
declaration_end = filled [] 0 0 DECLARED.now

abbrev pub declaration_text : List ℕ → Operation → List ℕ
declaration_text name operation = signature_text name operation.name operation.arguments ++ declaration_end

abbrev pub declaration_texts : List ℕ → List Operation → List ℕ
declaration_texts name operations = flat_map (declaration_text name) operations

-- what stands behind an operation's parameters
unfoldable pub operation_head : List ℕ
operation_head = filled [] 0 0 OPERATION_HEAD.now

-- the local of an argument becomes the argument
unfoldable pub given_text : ℕ → List ℕ
given_text number = filled [] number 0 GIVEN.now

abbrev pub given_texts : ℕ → ℕ → List ℕ
given_texts number zero = []
given_texts number (suc count) = given_text number ++ given_texts (number + 1) count

-- the head of an operation, without the newline at its end: its name and parameters, what it names, and its arguments in their locals
abbrev pub operation_front : List ℕ → List ℕ → List ℕ → ℕ → List ℕ
operation_front name strides operation arguments =
    signature_text name operation arguments
    ++ (operation_head ++ ((pool_names name ++ (kind_texts 0 strides ++ local_texts operation_names)) ++ given_texts 0 arguments))

abbrev pub operation_function : List ℕ → List ℕ → Operation → Function
operation_function name strides operation =
    record { names = operation_names; front = operation_front name strides operation.name operation.arguments; code = operation.code }

abbrev pub operation_texts : List ℕ → List ℕ → List Operation → List ℕ
operation_texts name strides operations = flat_map (λ operation. function_text name (operation_function name strides operation)) operations
