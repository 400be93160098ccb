-- Putting the words at the start in order.
use Rattle.std.proofs.Common.{◌≡◌, ℕ, zero, suc, ◌+◌, ◌-◌, ◌*◌, ◌<◌, List, [], ◌∷◌, ◌++◌, map, replicate, length, refl, sym, ap, ◌∙◌, subst, arith}
use Rattle.std.proofs.lemmas.List.{append_assoc}
use Rattle.target_code.specs.declared.target.Target.{Target}
use Rattle.oa_words.specs.Words.{Sizes, slot_rows}
use Rattle.oa_words.specs.Starts.{Beginning, start_node, start_row, status_at_start, link_at_start, start_head, start_statuses, start_rows, start_heads, start_links, start_words, first_home}
use Rattle.barrier_check.specs.Paired.{Paired}
use Rattle.caller_parts.specs.Settings.{Setting, Fits, IsSetting, first_warning}
use Rattle.core_runs.specs.Machine.{node_words, root_word, core_start}
use Rattle.core_runs.specs.core_sound.Sound.{AreLawful}
use Rattle.core_runs.proofs.Reaching.{starts}
use Rattle.core_runs.proofs.core_sound.Reached.{states_are_sound}
use Rattle.core_ground.specs.Running.{MayRun}
use Rattle.core_ground.specs.Starts.{home_in, start_of, bare_start, caller_words, pool_words, slot_words}

-- ---- one more is put

module _ (n : Sizes) (start : Beginning) where
  -- a word, and one less is left to put
  put_one : (all : ℕ → ℕ → List ℕ) (one : ℕ → ℕ) → ((j count : ℕ) → all j (suc count) ≡ one j ∷ all (j + 1) count) → (words later whole : List ℕ) (j end word : ℕ)
      → words ++ all j (end - j) ≡ whole → j < end → later ≡ words ++ word ∷ [] → word ≡ one j → later ++ all (j + 1) (end - (j + 1)) ≡ whole
  put_one all one next words later whole j end word was lt put is =
      let more : end - j ≡ suc (end - (j + 1)) = omega (arith, lt) in
      ap (λ (l : List ℕ). l ++ all (j + 1) (end - (j + 1))) put ∙ append_assoc words (word ∷ []) (all (j + 1) (end - (j + 1)))
      ∙ ap (λ (w : ℕ). words ++ w ∷ all (j + 1) (end - (j + 1))) is ∙ ap (λ (l : List ℕ). words ++ l) (sym (ap (all j) more ∙ next j (end - (j + 1)))) ∙ was

  pub status_put : (words later whole : List ℕ) (j end word : ℕ) → words ++ start_statuses n start j (end - j) ≡ whole → j < end → later ≡ words ++ word ∷ []
      → word ≡ status_at_start n start j → later ++ start_statuses n start (j + 1) (end - (j + 1)) ≡ whole
  status_put words later whole j end word was lt put is = put_one (start_statuses n start) (status_at_start n start) (λ j count. refl) words later whole j end word was lt put is

  pub link_put : (words later whole : List ℕ) (j end word : ℕ) → words ++ start_links n start j (end - j) ≡ whole → j < end → later ≡ words ++ word ∷ []
      → word ≡ link_at_start n start j → later ++ start_links n start (j + 1) (end - (j + 1)) ≡ whole
  link_put words later whole j end word was lt put is = put_one (start_links n start) (link_at_start n start) (λ j count. refl) words later whole j end word was lt put is

  pub head_put : (words later whole : List ℕ) (t end word : ℕ) → words ++ start_heads n start t (end - t) ≡ whole → t < end → later ≡ words ++ word ∷ []
      → word ≡ start_head n start t → later ++ start_heads n start (t + 1) (end - (t + 1)) ≡ whole
  head_put words later whole t end word was lt put is = put_one (start_heads n start) (start_head n start) (λ t count. refl) words later whole t end word was lt put is

  -- a slot's fields
  pub row_put : (words later whole row : List ℕ) (j end : ℕ) → words ++ start_rows n start j (end - j) ≡ whole → j < end → later ≡ words ++ row
      → row ≡ start_row n.fields (start_node n start j) → later ++ start_rows n start (j + 1) (end - (j + 1)) ≡ whole
  row_put words later whole row j end was lt put is =
      let more : end - j ≡ suc (end - (j + 1)) = omega (arith, lt) in
      let rest : List ℕ = start_rows n start (j + 1) (end - (j + 1)) in
      ap (λ (l : List ℕ). l ++ rest) put ∙ append_assoc words row rest
      ∙ ap (λ (r : List ℕ). words ++ (r ++ rest)) is ∙ ap (λ (l : List ℕ). words ++ l) (sym (ap (start_rows n start j) more)) ∙ was

-- ---- statuses, heads and links say nothing of nodes and cells

module _ (target : Target) (setting : Setting) where
  abbrev n : Sizes
  n = setting.sizes

  same_statuses : (j count : ℕ) → start_statuses n (start_of target setting) j count ≡ start_statuses n (bare_start setting) j count
  same_statuses j zero = refl
  same_statuses j (suc count) = ap (λ (l : List ℕ). status_at_start n (bare_start setting) j ∷ l) (same_statuses (j + 1) count)

  same_heads : (t count : ℕ) → start_heads n (start_of target setting) t count ≡ start_heads n (bare_start setting) t count
  same_heads t zero = refl
  same_heads t (suc count) = ap (λ (l : List ℕ). start_head n (bare_start setting) t ∷ l) (same_heads (t + 1) count)

  same_links : (j count : ℕ) → start_links n (start_of target setting) j count ≡ start_links n (bare_start setting) j count
  same_links j zero = refl
  same_links j (suc count) = ap (λ (l : List ℕ). link_at_start n (bare_start setting) j ∷ l) (same_links (j + 1) count)

  -- ---- the parts together

  abbrev rows : List ℕ
  rows = start_rows n (start_of target setting) 0 (slot_rows n)

  abbrev cells : List ℕ
  cells = map (root_word (home_in setting)) target.roots

  three_joined : (xs ys zs rest : List ℕ) → (xs ++ (ys ++ zs)) ++ rest ≡ xs ++ (ys ++ (zs ++ rest))
  three_joined xs ys zs rest = append_assoc xs (ys ++ zs) rest ∙ ap (λ (l : List ℕ). xs ++ l) (append_assoc ys zs rest)

  back_joined : slot_words target setting ++ pool_words setting
      ≡ start_statuses n (start_of target setting) 0 (slot_rows n) ++ (rows ++ (cells ++ (start_heads n (start_of target setting) 0 (length n.kinds) ++ start_links n (start_of target setting) 0 (slot_rows n))))
  back_joined =
      three_joined (start_statuses n (bare_start setting) 0 (slot_rows n)) rows cells (pool_words setting)
      ∙ three (sym (same_statuses 0 (slot_rows n))) (sym (same_heads 0 (length n.kinds))) (sym (same_links 0 (slot_rows n)))
    where
      three : {a a' c c' d d' : List ℕ} → a ≡ a' → c ≡ c' → d ≡ d' → a ++ (rows ++ (cells ++ (c ++ d))) ≡ a' ++ (rows ++ (cells ++ (c' ++ d')))
      three p q r = cc

  parts_together : caller_words setting ++ (slot_words target setting ++ pool_words setting) ≡ start_words n (start_of target setting)
  parts_together =
      ap (λ (l : List ℕ). setting.first ∷ l) (three_joined (replicate n.callers 0) (replicate n.callers (first_warning setting.reclamation setting.first)) (replicate (8 * n.callers) 0) (slot_words target setting ++ pool_words setting))
      ∙ ap (λ (l : List ℕ). setting.first ∷ (replicate n.callers 0 ++ (replicate n.callers (first_warning setting.reclamation setting.first) ++ (replicate (8 * n.callers) 0 ++ l)))) back_joined

  -- by the counts of the setting or of the target, which are the same
  abbrev start_by : List ℕ → Beginning
  start_by counts = record {
    first = setting.first;
    warnings = first_warning setting.reclamation setting.first;
    nodes = map (node_words (first_home n counts)) target.nodes;
    counts = counts;
    cells = map (root_word (first_home n counts)) target.roots;
  }

  pub words_put : (callers slots whole : List ℕ) → Fits target setting → callers ≡ [] ++ caller_words setting → slots ≡ callers ++ slot_words target setting
      → whole ≡ slots ++ pool_words setting → whole ≡ (core_start target setting).words
  words_put callers slots whole fits one other last =
      last ∙ ap (λ (l : List ℕ). l ++ pool_words setting) (other ∙ ap (λ (l : List ℕ). l ++ slot_words target setting) one) ∙ append_assoc (caller_words setting) (slot_words target setting) (pool_words setting)
      ∙ (parts_together ∙ ap (λ (counts : List ℕ). start_words n (start_by counts)) fits.nodes)

-- ---- and each is lawful

pub words_lawful : (pair : Paired) (setting : Setting) (words : List ℕ) → MayRun pair → IsSetting setting → Fits pair.target setting → words ≡ (core_start pair.target setting).words → AreLawful pair.target setting words
words_lawful pair setting words runs own fits is =
    subst (AreLawful pair.target setting) (sym is) (states_are_sound pair.target pair.source setting (core_start pair.target setting) runs own fits (starts pair.target setting)).lawful
