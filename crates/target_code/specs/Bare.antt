-- A text as the target that callers run who need no checks and no guards: each instruction by itself.
use Rattle.std.specs.Prelude.{map}
use Rattle.norm_lang.specs.declared.text.Op.{Op}
use Rattle.norm_lang.specs.declared.text.Text.{Text}
use Rattle.target_code.specs.declared.target.TargetInstr.TheVariants.{Plain}
use Rattle.target_code.specs.declared.target.TargetOp.{TargetOp}
use Rattle.target_code.specs.declared.target.Target.{Target}

abbrev pub bare_op : Op → TargetOp
bare_op op = record { name = op.name; args = op.args; generator = map Plain op.generator; wrapup = map Plain op.wrapup }

abbrev pub bare : Text → Target
bare text = record { kinds = text.kinds; fields = text.fields; roots = text.roots; nodes = text.nodes; ops = map bare_op text.ops }
