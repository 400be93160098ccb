-- Signs are written one after another.
use Rattle.std.proofs.Common.{◌≡◌, ◌<◌, ℕ, ◌+◌, List, [], ◌∷◌, ◌++◌, length, take, drop, get_or, refl, sym, ap, ◌∙◌}
use Rattle.std.proofs.lemmas.List.{drop_more, take_more}
use Rattle.norm_lang.specs.declared.text.Text.{Text}
use Rattle.caller_parts.specs.declared.call.Call.{Call}
use Rattle.core_entries.specs.declared.signs.Sign.{Sign}
use Rattle.run_logs.specs.Logged.{Recording, logged, logged_all}

-- what is left gives what the whole gives
pub next : (text : Text) (c : ℕ) (call : Call) (l : List Sign) (i : ℕ) (d : Sign) (old new whole : Recording) → i < length l → new ≡ logged text c call old (get_or l i d)
    → logged_all text c call (drop i l) old ≡ whole → logged_all text c call (drop (i + 1) l) new ≡ whole
next text c call l i d old new whole lt is so_far =
    ap (logged_all text c call (drop (i + 1) l)) is ∙ sym (ap (λ (rest : List Sign). logged_all text c call rest old) (drop_more l i d lt)) ∙ so_far

logged_last : (text : Text) (c : ℕ) (call : Call) (signs : List Sign) (last : Sign) (z : Recording)
    → logged_all text c call (signs ++ last ∷ []) z ≡ logged text c call (logged_all text c call signs z) last
logged_last text c call [] last z = refl
logged_last text c call (sign ∷ signs) last z = logged_last text c call signs last (logged text c call z sign)

-- what is written so far is what the first signs give
pub first : (text : Text) (c : ℕ) (call : Call) (l : List Sign) (i : ℕ) (d : Sign) (old new start : Recording) → i < length l → new ≡ logged text c call old (get_or l i d)
    → old ≡ logged_all text c call (take i l) start → new ≡ logged_all text c call (take (i + 1) l) start
first text c call l i d old new start lt is so_far =
    is ∙ ap (λ (z : Recording). logged text c call z (get_or l i d)) so_far ∙ sym (logged_last text c call (take i l) (get_or l i d) start)
    ∙ sym (ap (λ (part : List Sign). logged_all text c call part start) (take_more l i d lt))
