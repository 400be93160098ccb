-- Lines without one that keeps something leave the cradles as they are.
use Rattle.std.proofs.Common.{◌≡◌, ℕ, zero, suc, ◌+◌, Bool, true, false, ◌&&◌, not, List, [], ◌∷◌, length, Option, Some, None, refl, sym, ◌∙◌, ap, subst}
use Rattle.std.specs.Prelude.{slice_get}
use Rattle.c_language.specs.declared.lines.Line.{Line}
use Rattle.c_language.specs.declared.lines.Line.TheVariants as lines
use Rattle.c_language.specs.Steps.{Pool, Frame, Stop, Goes, Wants, Calls, Returns, Replies, Strays, stop, stop_at, line_stop, value, test, operand, is_place, can_change, has_bit, has_cradle, sets, defined, branch}
use Rattle.c_runtime.specs.KindLines.{kind_lines, kind_jump}
use Rattle.c_runtime.specs.ClaimLines.{claim_lines, push_line}
use Rattle.c_runtime.specs.Laws.{claim_code, ClaimsKeepCradles}

abbrev is_keep : Line → Bool
is_keep (lines.Let d v) = false
is_keep (lines.Goto l) = false
is_keep (lines.If t l) = false
is_keep (lines.Load d p) = false
is_keep (lines.Store p a) = false
is_keep (lines.Exchange d p a b) = false
is_keep (lines.Note a) = false
is_keep (lines.IfNoted a l) = false
is_keep (lines.Get d k) = false
is_keep (lines.Keep k a) = true
is_keep (lines.Call d function) = false
is_keep (lines.Return a) = false
is_keep (lines.Reply answer a) = false

abbrev keep_free : List Line → Bool
keep_free [] = true
keep_free (line ∷ code) = not (is_keep line) && keep_free code

abbrev Leaves : Frame → Stop → Type 0
Leaves f (Goes g) = g.kept.cradles ≡ f.kept.cradles
Leaves f (Wants a next) = (word : ℕ) → (next word).kept.cradles ≡ f.kept.cradles
Leaves f (Calls d function) = Unit {0}
Leaves f (Returns x) = Unit {0}
Leaves f (Replies answer x) = Unit {0}
Leaves f Strays = Unit {0}

set_leaves : (d : ℕ) (f : Frame) (x : Option ℕ) → Leaves f (sets d f x)
set_leaves d f None = tt
set_leaves d f (Some x) = refl

defined_leaves : (f : Frame) (b : Bool) (s : Stop) → Leaves f s → Leaves f (defined b s)
defined_leaves f true s leaves = leaves
defined_leaves f false s leaves = tt

branch_leaves : (f g : Frame) (b : Bool) (l : ℕ) → g.kept.cradles ≡ f.kept.cradles → Leaves f (Goes (branch b l g))
branch_leaves f g true l same = same
branch_leaves f g false l same = same

line_leaves : (pool : Pool) (f : Frame) (line : Line) → is_keep line ≡ false → Leaves f (line_stop pool f line)
line_leaves pool f (lines.Let d v) free = set_leaves d f (value pool f.locals v)
line_leaves pool f (lines.Goto l) free = refl
line_leaves pool f (lines.If t l) free = branch_leaves f f (test pool f.locals t) l refl
line_leaves pool f (lines.Load d p) free = defined_leaves f (is_place pool f.locals p) _ (λ word. refl)
line_leaves pool f (lines.Store p a) free = defined_leaves f (can_change pool f.locals p) _ (λ word. refl)
line_leaves pool f (lines.Exchange d p a b) free = defined_leaves f (can_change pool f.locals p) _ (λ word. refl)
line_leaves pool f (lines.Note a) free = defined_leaves f (has_bit pool (operand pool f.locals a)) _ refl
line_leaves pool f (lines.IfNoted a l) free =
    defined_leaves f (has_bit pool (operand pool f.locals a)) _ (branch_leaves f _ (f.kept.noted (operand pool f.locals a)) l refl)
line_leaves pool f (lines.Get d k) free = defined_leaves f (has_cradle k) _ refl
line_leaves pool f (lines.Keep k a) free = absurd (let e : true ≡ false = free in cc)
line_leaves pool f (lines.Call d function) free = tt
line_leaves pool f (lines.Return a) free = tt
line_leaves pool f (lines.Reply answer a) free = tt

first_free : (b c : Bool) → (not b && c) ≡ true → (b ≡ false) × (c ≡ true)
first_free true c e = absurd (let no : false ≡ true = e in cc)
first_free false c e = (refl, e)

line_free : (code : List Line) (at : ℕ) (line : Line) → keep_free code ≡ true → slice_get code at ≡ Some line → is_keep line ≡ false
line_free [] at line free is = absurd (let no : None ≡ Some line = is in cc)
line_free (first ∷ code) zero line free is =
    let same : Some first ≡ Some line = is in
    let e : first ≡ line = cc in
    ap is_keep (sym e) ∙ (first_free (is_keep first) (keep_free code) free).0
line_free (first ∷ code) (suc at) line free is = line_free code at line (first_free (is_keep first) (keep_free code) free).1 is

stop_leaves : (pool : Pool) (code : List Line) (f : Frame) → keep_free code ≡ true → Leaves f (stop pool code f)
stop_leaves pool code f free = of (slice_get code f.at) refl where
  of : (found : Option Line) → slice_get code f.at ≡ found → Leaves f (stop_at pool f found)
  of None is = tt
  of (Some line) is = line_leaves pool f line (line_free code f.at line free is)

jump_free : (push t left : ℕ) → is_keep (kind_jump push t left) ≡ false
jump_free push t zero = refl
jump_free push t (suc left) = refl

kinds_free : (push t many : ℕ) → keep_free (kind_lines push t many) ≡ true
kinds_free push t zero = refl
kinds_free push t (suc left) = ap (λ (b : Bool). not b && keep_free (kind_lines push (t + 1) left)) (jump_free push t left) ∙ kinds_free push (t + 1) left

claim_free : (kind kinds : ℕ) → keep_free (claim_lines kind kinds) ≡ true
claim_free kind kinds = kinds_free push_line 0 kinds

pub claims_keep_cradles : ClaimsKeepCradles
claims_keep_cradles pool kind f = record {
  goes = λ g is. subst (Leaves f) is left;
  wants = λ a next is. subst (Leaves f) is left;
} where
  left : Leaves f (stop pool (claim_code pool kind) f)
  left = stop_leaves pool (claim_code pool kind) f (claim_free kind (length pool.sizes.kinds))
