use Rattle.std.proofs.Common.{List, subst}
use Rattle.norm_lang.specs.declared.text.FieldDecl.{FieldDecl}
use Rattle.barrier_check.specs.Paired.{Paired}
use Rattle.caller_parts.specs.FieldTables.{IsFieldTable}
use Rattle.caller_parts.specs.Spared.{KeptIs}
use Rattle.core_ground.specs.Running.{pair_of}
use Rattle.core_ground.proofs.Keeping.{kept_is}
use Rattle.core_ground.proofs.loaded.load.Goals as goal

pub invariant_of-result : goal.invariant_of-result
invariant_of-result c =
    subst (λ (pair : Paired). KeptIs pair.target c.table_of-rows.result × IsFieldTable pair.target.fields c.of-fields.result) c.runs-runs.ensures
    (kept_is (pair_of c.runs-runs.result).target c.table_of-rows.result c.kept.ensures.within c.table_of-rows.ensures, subst (λ (l : List FieldDecl). IsFieldTable l c.of-fields.result) c.fields.ensures c.of-fields.ensures)
