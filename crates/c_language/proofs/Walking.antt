-- Walking over local lines.
use Rattle.std.proofs.Common.{◌≡◌, ℕ, suc, ◌≤◌, Bool, true, false, List, Some, None, ◌==◌, if◌then◌else◌, refl, ap, ◌∙◌, arith}
use Rattle.std.proofs.lemmas.Bool.Decides.{nat_tests}
use Rattle.c_language.specs.declared.lines.Line.{Line}
use Rattle.c_language.specs.Steps.{Pool, Frame, Stop, Goes, stop, branch, goes_to, onward, with_local, sets, divided}
use Rattle.c_language.specs.Runs.{on_stop, goes, Comes}

pub here : {pool : Pool} {code : List Line} {f : Frame} {There : Frame → Type 0} → There f → Comes pool code f There
here {f = f} there = record { count = 0; frame = f; goes = refl; there = there }

pub walks : {pool : Pool} {code : List Line} {f : Frame} {There : Frame → Type 0} (g : Frame) → stop pool code f ≡ Goes g
    → Comes pool code g There → Comes pool code f There
walks {pool = pool} {code = code} {f = f} g is more =
    record { count = suc more.count; frame = more.frame; goes = ap (λ (s : Stop). on_stop s (goes pool code more.count)) is ∙ more.goes; there = more.there }

-- and to what follows from there
pub leads : {pool : Pool} {code : List Line} {f : Frame} {There Then : Frame → Type 0} → Comes pool code f There → ((g : Frame) → There g → Then g)
    → Comes pool code f Then
leads comes more = record { count = comes.count; frame = comes.frame; goes = comes.goes; there = more comes.frame comes.there }

-- a quotient or a rest by a number that isn't 0
pub goes_divided : {pool : Pool} {code : List Line} {f : Frame} {There : Frame → Type 0} (d x by : ℕ) → stop pool code f ≡ sets d f (divided by x)
    → 1 ≤ by → Comes pool code (with_local d x f) There → Comes pool code f There
goes_divided {f = f} d x by is some more =
    let apart : (by == 0) ≡ false = grind (arith, nat_tests) in
    walks (with_local d x f) (is ∙ ap (λ (b : Bool). sets d f (if b then None else Some x)) apart) more

-- a test whose outcome is known
pub goes_if : {pool : Pool} {code : List Line} {f : Frame} {There : Frame → Type 0} (b known : Bool) (l : ℕ)
    → stop pool code f ≡ Goes (branch b l f) → b ≡ known → Comes pool code (branch known l f) There → Comes pool code f There
goes_if {f = f} b known l is same more = walks (branch known l f) (is ∙ ap (λ (x : Bool). Goes (branch x l f)) same) more

-- or isn't
pub goes_either : {pool : Pool} {code : List Line} {f : Frame} {There : Frame → Type 0} (b : Bool) (l : ℕ)
    → stop pool code f ≡ Goes (branch b l f)
    → (b ≡ true → Comes pool code (goes_to l f) There) → (b ≡ false → Comes pool code (onward f) There) → Comes pool code f There
goes_either {pool = pool} {code = code} {f = f} {There = There} b l is holds fails = of b refl where
  of : (x : Bool) → b ≡ x → Comes pool code f There
  of true e = goes_if b true l is e (holds e)
  of false e = goes_if b false l is e (fails e)
