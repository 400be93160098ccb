-- The count of `new` in a method, instruction by instruction.
use Rattle.std.proofs.Common.{◌≡◌, ℕ, ◌+◌, ◌<◌, true, false, List, length, drop, get_or, sym, arith}
use Rattle.std.proofs.lemmas.List.{drop_more}
use Rattle.norm_lang.specs.declared.text.Instr.{Instr}
use Rattle.norm_lang.specs.Grammar.{is_new, news_in}

pub news_more : (code : List Instr) (i news whole : ℕ) (d instr : Instr) → i < length code → instr ≡ get_or code i d → true ≡ is_new instr
    → news + news_in (drop i code) ≡ whole → news + 1 + news_in (drop (i + 1) code) ≡ whole
news_more code i news whole d instr lt same is so_far =
    let e : is_new (get_or code i d) ≡ true = rw (← same) (sym is) in
    omega (arith, rw (drop_more code i d lt, e) at so_far)

pub news_same : (code : List Instr) (i news whole : ℕ) (d instr : Instr) → i < length code → instr ≡ get_or code i d → false ≡ is_new instr
    → news + news_in (drop i code) ≡ whole → news + news_in (drop (i + 1) code) ≡ whole
news_same code i news whole d instr lt same is so_far =
    let e : is_new (get_or code i d) ≡ false = rw (← same) (sym is) in
    rw (drop_more code i d lt, e) at so_far
