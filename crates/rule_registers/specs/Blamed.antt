-- Which register is at fault, by what was found out about the instruction's operation.
use Rattle.std.specs.Prelude.{ℕ, Bool, false, ◌&&◌, ◌||◌, not, List, ◌==◌, if◌then◌else◌}
use Rattle.norm_lang.specs.declared.text.Reg.{Reg}
use Rattle.norm_lang.specs.declared.text.Reg.TheVariants.{Num, Ref}
use Rattle.norm_lang.specs.declared.text.FieldDecl.{FieldDecl}
use Rattle.norm_lang.specs.declared.text.RootDecl.{RootDecl}
use Rattle.norm_lang.specs.declared.text.Instr.{Instr}
use Rattle.norm_lang.specs.PathRules.{reads_openly, is_commit, follows, exchanges}
use Rattle.norm_lang.specs.RegisterUse.{reads, sets}
use Rattle.norm_paths.specs.Found.{Found, is_fresh_by, is_surely_fresh_by, is_kept_by}
use Rattle.norm_paths.specs.OpFound.{may_be_unset_by}
use Rattle.kind_rules.specs.declared.facts.KindFacts.{KindFacts}
use Rattle.kind_rules.specs.Asking.{mixes_from}
use Rattle.rule_registers.specs.AtFault.{is_misplaced, is_computed_with, is_retired_wrongly, is_put_into, is_put, is_shown}

abbrev pub is_put_wrongly_by : Bool → ℕ → Instr → Found → Reg → Bool
is_put_wrongly_by wrapup at i found r =
    not wrapup && ((is_put_into r i && not (is_surely_fresh_by found.facts r at)) || (is_put r i && is_fresh_by found.facts r at))

abbrev pub is_leaked_by : ℕ → Instr → Found → List Bool → Reg → Bool
is_leaked_by at i found kept r = (reads_openly r i || (is_commit i && is_kept_by kept r)) && is_fresh_by found.facts r at

abbrev pub is_other_kind_by : List FieldDecl → List RootDecl → Bool → ℕ → Instr → List KindFacts → Reg → Bool
is_other_kind_by fields roots wrapup at i kinds (Num n) = false
is_other_kind_by fields roots wrapup at i kinds (Ref n) = mixes_from fields roots wrapup at i n 0 kinds

-- by the rule's number
abbrev pub is_blamed : ℕ → List FieldDecl → List RootDecl → Bool → ℕ → Instr → Found → List Bool → List KindFacts → Reg → Bool
is_blamed rule fields roots wrapup at i found kept kinds r =
    if rule == 1 then is_misplaced fields roots r i
    else (if rule == 2 then is_computed_with r i
    else (if rule == 4 then is_put_wrongly_by wrapup at i found r
    else (if rule == 5 then is_shown r i && is_fresh_by found.facts r at
    else (if rule == 6 then is_leaked_by at i found kept r
    else (if rule == 9 then wrapup && (sets r i && is_kept_by kept r)
    else (if rule == 10 then wrapup && (follows r i && is_kept_by kept r)
    else (if rule == 11 then wrapup && (exchanges r i && is_kept_by kept r)
    else (if rule == 12 then is_retired_wrongly r i
    else (if rule == 14 then reads r i && may_be_unset_by found r at
    else (if rule == 15 then is_other_kind_by fields roots wrapup at i kinds r
    else false))))))))))
