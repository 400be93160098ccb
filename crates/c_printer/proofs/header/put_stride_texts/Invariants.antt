use Rattle.std.proofs.Common.{◌≡◌, ◌++◌, drop}
use Rattle.c_printer.specs.Header.{stride_texts}
use Rattle.c_printer.proofs.header.put_stride_texts.Given as goal

abbrev pub invariant-loop-stride : goal.invariant-loop-stride
invariant-loop-stride l = l.out.items ++ stride_texts (drop l.stride-index l.strides) ≡ l.fn.out.items ++ stride_texts l.strides
