use Rattle.std.proofs.Common.{List, subst}
use Rattle.norm_lang.specs.declared.text.FieldDecl.{FieldDecl}
use Rattle.target_code.specs.declared.target.Target.{Target}
use Rattle.caller_parts.specs.FieldTables.{IsFieldTable}
use Rattle.core_ground.proofs.Keeping.{kept_is}
use Rattle.core_ground.proofs.prepared.Prepared.new.Goals as goal

pub invariant_of-result : goal.invariant_of-result
invariant_of-result c = (kept_is c.args.barred.now.target c.table_of-rows.result c.kept.ensures.within c.table_of-rows.ensures, subst (λ (t : Target). IsFieldTable t.fields c.of-fields.result) c.target.ensures.same (subst (λ (l : List FieldDecl). IsFieldTable l c.of-fields.result) c.items.ensures c.of-fields.ensures))
