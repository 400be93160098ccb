-- A local instruction of the core is one of the source, which made it before.
use Rattle.std.proofs.Common.{◌≡◌, ℕ, inl, inr, List, ◌∷◌, Some, None, refl, sym, subst}
use Rattle.std.specs.Prelude.{slice_get}
use Rattle.norm_lang.specs.declared.text.Reg.TheVariants.{Ref}
use Rattle.norm_lang.specs.declared.text.Instr.{Instr}
use Rattle.norm_lang.specs.declared.text.Instr.TheVariants as instr
use Rattle.norm_lang.specs.declared.text.Text.{Text}
use Rattle.norm_lang.specs.declared.registers.Registers.{Registers}
use Rattle.norm_lang.specs.Local.{Spot, local_step, local_at}
use Rattle.norm_lang.specs.RegisterUse.{destination}
use Rattle.norm_lang.specs.Registers.{node_in}
use Rattle.target_laws.specs.local_laws.Settling.{next_spot}
use Rattle.target_laws.proofs.local_laws.Bounded.{settles_next}
use Rattle.target_laws.proofs.local_laws.Settled.{step_goes}
use Rattle.target_code.specs.declared.target.TargetInstr.TheVariants.{Plain}
use Rattle.target_code.specs.declared.target.Target.{Target}
use Rattle.target_code.specs.Erasing.{source_place}
use Rattle.target_laws.specs.Methods.{Method, code_in, source_in}
use Rattle.target_laws.specs.Trusted.{Trusted, trust_in_set, trust_along}
use Rattle.run_ahead.specs.Agreeing.{Mirrors, Changes}
use Rattle.run_ahead.specs.Ahead.{AsTrusted, IsHeld, IsCompiled, erasing, Ahead}
use Rattle.run_ahead.proofs.Mirroring.{mirrored}
use Rattle.run_ahead.proofs.Plain.{at_place, kind_right, trusted_at, agrees_at, plain_keeps}

-- what a local instruction sets is trusted
pub local_trusts : (i : Instr) (at : ℕ) (registers : Registers) (next : Spot) → local_step i at registers ≡ Some next → Trusted ≡ trust_in_set i
local_trusts (instr.LoadRoot d x) at registers next is = absurd (let no : None ≡ Some next = is in cc)
local_trusts (instr.LoadPick d x n a) at registers next is = absurd (let no : None ≡ Some next = is in cc)
local_trusts (instr.LoadField d a f) at registers next is = absurd (let no : None ≡ Some next = is in cc)
local_trusts (instr.New d kind) at registers next is = absurd (let no : None ≡ Some next = is in cc)
local_trusts _ at registers next is = refl

-- the source's instruction makes the step
pub local_mirrors : {target : Target} {text : Text} (method : Method target text) (home : ℕ → ℕ) (calm : Type 0) (path : List ℕ) (core next : Spot) (mirror : Registers) (there : Spot) (i : Instr)
    → IsCompiled target text → home 0 ≡ 0 → slice_get (code_in method) core.at ≡ Some (Plain i) → local_step i core.at core.registers ≡ Some next
    → Ahead method home calm path core mirror there → Mirrors home (source_place (code_in method)) i core.at core.registers mirror next
local_mirrors {text = text} method home calm path core next mirror there i compiled null is step a =
    mirrored home (source_place (code_in method)) text.fields text.roots i core.at core.registers mirror next null (at_place method (erasing compiled) core.at (Plain i) is).1 a.sized (kind_right method (erasing compiled) core.at i is)
    (λ r read. agrees_at method home calm path core mirror there i r compiled is read a)
    (λ x y one other. a.apart (node_in mirror x) (node_in mirror y)
    (inr (x, trusted_at method compiled path core.at i (Ref x) a.path_is is one, refl)) (inr (y, trusted_at method compiled path core.at i (Ref y) a.path_is is other, refl))) step

-- what it puts into a register is null, or what a trusted register held
pub local_held : {target : Target} {text : Text} (method : Method target text) (home : ℕ → ℕ) (calm : Type 0) (path : List ℕ) (core next : Spot) (mirror : Registers) (there : Spot) (i : Instr)
    → IsCompiled target text → slice_get (code_in method) core.at ≡ Some (Plain i) → Ahead method home calm path core mirror there
    → (made : Mirrors home (source_place (code_in method)) i core.at core.registers mirror next) → IsHeld (trust_along method path) mirror made.given
local_held method home calm path core next mirror there i compiled is a made = elim made.known [
  | inl zero_is ↦ inl zero_is
  | inr read ↦ inr (read.0, trusted_at method compiled path core.at i (Ref read.0) a.path_is is read.1, read.2)
]

-- what it changes is known as it was
pub local_changes : {home : ℕ → ℕ} {place : ℕ → ℕ} (calm : Type 0) (i : Instr) (at : ℕ) (here mirror : Registers) (next : Spot) → local_step i at here ≡ Some next
    → (made : Mirrors home place i at here mirror next) → Changes home (AsTrusted calm (trust_in_set i)) (destination i) made.given here mirror next.registers made.mirror'
local_changes {home = home} calm i at here mirror next step made =
    subst (λ t. Changes home (AsTrusted calm t) (destination i) made.given here mirror next.registers made.mirror') (local_trusts i at here next step) made.changes

-- and the source stays ahead
pub mirrored_keeps : {target : Target} {text : Text} (method : Method target text) (home : ℕ → ℕ) (calm : Type 0) (path : List ℕ) (core next : Spot) (mirror : Registers) (there : Spot) (i : Instr)
    → IsCompiled target text → slice_get (code_in method) core.at ≡ Some (Plain i) → local_step i core.at core.registers ≡ Some next → Ahead method home calm path core mirror there
    → (made : Mirrors home (source_place (code_in method)) i core.at core.registers mirror next) → Ahead method home calm (core.at ∷ path) next made.mirror' there
mirrored_keeps method home calm path core next mirror there i compiled is step a made =
    let place = source_place (code_in method) in
    let here = at_place method (erasing compiled) core.at (Plain i) is in
    let runs : next_spot (source_in method) (record { at = place core.at; registers = mirror }) ≡ Some (record { at = place next.at; registers = made.mirror' }) =
    subst (λ o. local_at o (place core.at) mirror ≡ Some (record { at = place next.at; registers = made.mirror' })) (sym here.0) made.steps in
    plain_keeps method home calm path core next mirror made.mirror' there there i made.given (erasing compiled) is (step_goes i core.at core.registers next step).0
    (local_changes calm i core.at core.registers mirror next step made)
    (λ _. local_held method home calm path core next mirror there i compiled is a made)
    (settles_next (next_spot (source_in method)) (record { at = place core.at; registers = mirror }) (record { at = place next.at; registers = made.mirror' }) there runs a.settles) a
