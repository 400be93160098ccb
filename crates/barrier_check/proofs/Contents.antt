-- Two instructions that neither jump nor commit are the same if they say the same.
use Rattle.std.proofs.Common.{◌≡◌, ℕ, Bool, true, false, Option, Some, None, refl, ap, ◌∙◌, sym}
use Rattle.std.specs.Bool.{Decides}
use Rattle.norm_lang.specs.declared.text.Reg.{Reg}
use Rattle.norm_lang.specs.declared.text.Reg.TheVariants.{Num}
use Rattle.norm_lang.specs.declared.text.Instr.{Instr}
use Rattle.norm_lang.specs.declared.text.Instr.TheVariants as instr
use Rattle.target_code.specs.Erasing.{redirected}
use Rattle.barrier_check.specs.declared.content.Kind.{Kind}
use Rattle.barrier_check.specs.declared.content.Kind.TheVariants as kinds
use Rattle.barrier_check.specs.declared.content.Content.{Content}
use Rattle.barrier_check.specs.Contents.{content_of}

-- the register that is there
abbrev the : Option Reg → Reg
the None = Num 0
the (Some r) = r

-- an instruction from what it says
abbrev instr_of : Kind → Content → Instr
instr_of kinds.Set c = instr.Set (the c.operands.first) c.number
instr_of kinds.Mov c = instr.Mov (the c.operands.first) (the c.operands.second)
instr_of kinds.Add c = instr.Add (the c.operands.first) (the c.operands.second) (the c.operands.third)
instr_of kinds.Sub c = instr.Sub (the c.operands.first) (the c.operands.second) (the c.operands.third)
instr_of kinds.Rem c = instr.Rem (the c.operands.first) (the c.operands.second) c.number
instr_of kinds.Mark c = instr.Mark (the c.operands.first) (the c.operands.second)
instr_of kinds.Unmark c = instr.Unmark (the c.operands.first) (the c.operands.second)
instr_of kinds.Null c = instr.Null (the c.operands.first)
instr_of kinds.LoadRoot c = instr.LoadRoot (the c.operands.first) c.number
instr_of kinds.LoadPick c = instr.LoadPick (the c.operands.first) c.number c.count (the c.operands.second)
instr_of kinds.LoadField c = instr.LoadField (the c.operands.first) (the c.operands.second) c.number
instr_of kinds.New c = instr.New (the c.operands.first) c.number
instr_of kinds.Put c = instr.Put (the c.operands.first) c.number (the c.operands.second)
instr_of kinds.Return c = instr.Return (the c.operands.first)
instr_of kinds.ReturnNone c = instr.ReturnNone
instr_of kinds.Again c = instr.Again

-- what says nothing stands for any instruction
abbrev made_of : Instr → Option Content → Instr
made_of other None = other
made_of other (Some c) = instr_of c.kind c

made_again : (i : Instr) → made_of i (content_of i) ≡ i
made_again (instr.Set d n) = refl
made_again _ = refl

-- what says something doesn't jump
stays : (place : ℕ → ℕ) (i : Instr) (c : Content) → content_of i ≡ Some c → redirected place i ≡ i
stays place (instr.Cas entry l) c says = cc
stays place _ c says = cc

made_from : (i : Instr) (c : Content) → content_of i ≡ Some c → i ≡ instr_of c.kind c
made_from i c says = sym (made_again i) ∙ ap (made_of i) says

says_same : (place : ℕ → ℕ) (i s : Instr) (c d : Content) → content_of i ≡ Some c → content_of s ≡ Some d → c ≡ d → redirected place i ≡ s
says_same place i s c d says others same =
    stays place i c says ∙ (made_from i c says ∙ (ap (λ x. instr_of x.kind x) same ∙ sym (made_from s d others)))

-- the same say the same
same_says : (place : ℕ → ℕ) (i s : Instr) (c : Content) → content_of i ≡ Some c → redirected place i ≡ s → content_of s ≡ Some c
same_says place i s c says same = sym (ap content_of (sym (stays place i c says) ∙ same)) ∙ says

equal : (c d : Content) → Some d ≡ Some c → c ≡ d
equal c d same = cc

-- if both say something, they are the same exactly if they say the same
pub both_say : (place : ℕ → ℕ) (i s : Instr) (c d : Content) (r : Bool) → content_of i ≡ Some c → content_of s ≡ Some d → Decides r (c ≡ d)
    → Decides r (redirected place i ≡ s)
both_say place i s c d r says others decides =
    (λ yes. says_same place i s c d says others (decides.0 yes), λ same. decides.1 (equal c d (sym others ∙ same_says place i s c says same)))

differ : (c : Content) → None ≡ Some c → false ≡ true
differ c same = cc

never : (place : ℕ → ℕ) (i s : Instr) → false ≡ true → redirected place i ≡ s
never place i s wrong = cc

-- one alone says something
pub one_says : (place : ℕ → ℕ) (i s : Instr) (c : Content) → content_of i ≡ Some c → content_of s ≡ None → Decides false (redirected place i ≡ s)
one_says place i s c says none = (never place i s, λ same. differ c (sym none ∙ same_says place i s c says same))
