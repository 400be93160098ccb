-- Words that don't wrap, and the parts of a head.
use Rattle.std.proofs.Common.{◌≡◌, ℕ, ◌+◌, ◌-◌, ◌*◌, ◌/◌, ◌%◌, ◌^◌, ◌≤◌, ◌<◌, ap, ◌∙◌, sym, arith}
use Rattle.std.proofs.Math.Nat.{mul-le-mul_left, mul-le-mul_right, mul_comm, div-add-mod}
use Rattle.oa_words.specs.Packed.{head_word, HeadParts}
use Rattle.oa_words.proofs.Parts.{head_back}
use Rattle.c_language.specs.Steps.{Pool, wrap}
use Rattle.c_runtime.specs.Laws.{FitsClaim}

pub fits : (x : ℕ) → x < 2 ^ 64 → wrap x ≡ x
fits x lt = omega (arith, lt)

-- a sum and a difference whose true values fit
pub sum : (a b : ℕ) → a + b < 2 ^ 64 → wrap (a + b) ≡ a + b
sum a b lt = fits (a + b) lt

pub less : (a b : ℕ) → b ≤ a → a < 2 ^ 64 → wrap (a + (2 ^ 64 - b)) ≡ a - b
less a b le lt = omega (arith, le, lt)

-- ---- a last phase whose heads fit has statuses that fit, and so have slots

-- over any product, which stands for the last phase's head
status_room : (q last tops product : ℕ) → q ≤ last → last * 4 ≤ product → 4 ≤ tops → product + tops ≤ 2 ^ 64 → 4 * q + 4 ≤ 2 ^ 64
status_room q last tops product low scaled room fit = omega (arith, low, scaled, room, fit)

pub status_fits : (pool : Pool) (q : ℕ) → FitsClaim pool → q ≤ pool.last → 4 * q + 4 ≤ 2 ^ 64
status_fits pool q within low =
    status_room q pool.last pool.sizes.tops (pool.last * pool.sizes.tops) low (mul-le-mul_left pool.last within.sizes.room) within.sizes.room within.last

slot_room : (j slots tops product : ℕ) → j ≤ slots → slots < tops → product + tops ≤ 2 ^ 64 → j < 2 ^ 64
slot_room j slots tops product most below fit = omega (arith, most, below, fit)

pub slot_fits : (pool : Pool) (j : ℕ) → FitsClaim pool → j ≤ pool.sizes.slots → j < 2 ^ 64
slot_fits pool j within most = slot_room j pool.sizes.slots pool.sizes.tops (pool.last * pool.sizes.tops) most within.sizes.tops within.last

-- ---- heads

pub tops_some : (pool : Pool) → FitsClaim pool → 1 ≤ pool.sizes.tops
tops_some pool within = let room = within.sizes.room in omega (arith, room)

top_below : (pool : Pool) (t : ℕ) → FitsClaim pool → t ≤ pool.sizes.slots → t < pool.sizes.tops
top_below pool t within most = let below = within.sizes.tops in omega (arith, most, below)

head_room : (base scaled product t tops : ℕ) → base ≡ scaled → scaled ≤ product → t < tops → product + tops ≤ 2 ^ 64 → base + t < 2 ^ 64
head_room base scaled product t tops same low below fit = omega (arith, same, low, below, fit)

head_fits : (pool : Pool) (q t : ℕ) → FitsClaim pool → q ≤ pool.last → t ≤ pool.sizes.slots → head_word pool.sizes.tops q t < 2 ^ 64
head_fits pool q t within low most =
    head_room (pool.sizes.tops * q) (q * pool.sizes.tops) (pool.last * pool.sizes.tops) t pool.sizes.tops
    (mul_comm pool.sizes.tops q) (mul-le-mul_right pool.sizes.tops low) (top_below pool t within most) within.last

pub head_whole : (tops word : ℕ) → word ≡ head_word tops (word / tops) (word % tops)
head_whole tops word = sym (div-add-mod word tops)

-- the phase of a head
pub stamp : (pool : Pool) (q t : ℕ) → FitsClaim pool → t ≤ pool.sizes.slots → head_word pool.sizes.tops q t / pool.sizes.tops ≡ q
stamp pool q t within most = ap (λ (parts : HeadParts). parts.phase) (head_back pool.sizes.tops q t (top_below pool t within most))

added : (base t : ℕ) → base + t - t ≡ base
added base t = omega arith

least : (base t : ℕ) → t ≤ base + t
least base t = omega arith

-- another slot under the phase of a head
pub head_with : (pool : Pool) (q t other : ℕ) → FitsClaim pool → q ≤ pool.last → t ≤ pool.sizes.slots → other ≤ pool.sizes.slots
    → wrap (wrap (head_word pool.sizes.tops q t + (2 ^ 64 - t)) + other) ≡ head_word pool.sizes.tops q other
head_with pool q t other within low most also =
    ap (λ (x : ℕ). wrap (x + other))
    (less (head_word pool.sizes.tops q t) t (least (pool.sizes.tops * q) t) (head_fits pool q t within low most) ∙ added (pool.sizes.tops * q) t)
    ∙ sum (pool.sizes.tops * q) other (head_fits pool q other within low also)

lower : (base t : ℕ) → base + t < 2 ^ 64 → base < 2 ^ 64
lower base t lt = omega (arith, lt)

-- the head of a phase and a slot
pub head_made : (pool : Pool) (q t : ℕ) → FitsClaim pool → q ≤ pool.last → t ≤ pool.sizes.slots
    → wrap (wrap (q * pool.sizes.tops) + t) ≡ head_word pool.sizes.tops q t
head_made pool q t within low most =
    ap (λ (x : ℕ). wrap (wrap x + t)) (mul_comm q pool.sizes.tops)
    ∙ (ap (λ (x : ℕ). wrap (x + t)) (fits (pool.sizes.tops * q) (lower (pool.sizes.tops * q) t (head_fits pool q t within low most)))
    ∙ sum (pool.sizes.tops * q) t (head_fits pool q t within low most))
