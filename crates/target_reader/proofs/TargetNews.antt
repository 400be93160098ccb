-- The count of `new` in a method, instruction by instruction.
use Rattle.std.proofs.Common.{◌≡◌, ℕ, ◌+◌, ◌<◌, true, false, List, length, drop, get_or, sym, arith}
use Rattle.std.proofs.lemmas.List.{drop_more}
use Rattle.target_code.specs.declared.target.TargetInstr.{TargetInstr}
use Rattle.target_code.specs.TargetLimits.{is_target_new, target_news_in}

pub news_more : (code : List TargetInstr) (i news whole : ℕ) (d instr : TargetInstr) → i < length code → instr ≡ get_or code i d → true ≡ is_target_new instr
    → news + target_news_in (drop i code) ≡ whole → news + 1 + target_news_in (drop (i + 1) code) ≡ whole
news_more code i news whole d instr lt same is so_far =
    let e : is_target_new (get_or code i d) ≡ true = rw (← same) (sym is) in
    omega (arith, rw (drop_more code i d lt, e) at so_far)

pub news_same : (code : List TargetInstr) (i news whole : ℕ) (d instr : TargetInstr) → i < length code → instr ≡ get_or code i d → false ≡ is_target_new instr
    → news + target_news_in (drop i code) ≡ whole → news + target_news_in (drop (i + 1) code) ≡ whole
news_same code i news whole d instr lt same is so_far =
    let e : is_target_new (get_or code i d) ≡ false = rw (← same) (sym is) in
    rw (drop_more code i d lt, e) at so_far
