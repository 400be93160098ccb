-- How many lines blocks have.
use Rattle.std.proofs.Common.{◌≡◌, ℕ, zero, suc, ◌+◌, ◌*◌, Bool, true, false, List, [], ◌∷◌, ◌++◌, length, Option, Some, None, refl, ◌∙◌, ap, arith}
use Rattle.std.proofs.lemmas.List.{length-append}
use Rattle.norm_lang.specs.declared.text.Place.{Place}
use Rattle.norm_lang.specs.declared.text.Place.TheVariants as text_places
use Rattle.norm_lang.specs.declared.text.Reg.{Reg}
use Rattle.norm_lang.specs.declared.text.Reg.TheVariants.{Num, Ref}
use Rattle.norm_lang.specs.declared.text.CasEntry.{CasEntry}
use Rattle.norm_lang.specs.declared.text.FieldDecl.{FieldDecl}
use Rattle.norm_lang.specs.declared.text.Instr.{Instr}
use Rattle.norm_lang.specs.declared.text.Instr.TheVariants as instr
use Rattle.target_code.specs.declared.target.TargetInstr.{TargetInstr}
use Rattle.target_code.specs.declared.target.TargetInstr.TheVariants.{Plain, Check, Guard}
use Rattle.guard_words.specs.Guards.{is_spared}
use Rattle.caller_parts.specs.KindCounts.{field_count}
use Rattle.c_language.specs.declared.lines.Operand.TheVariants.{Number, Local}
use Rattle.c_language.specs.declared.lines.Value.TheVariants as values
use Rattle.c_language.specs.declared.lines.Line.{Line}
use Rattle.c_language.specs.declared.lines.Line.TheVariants as lines
use Rattle.c_emission.specs.Blocks.{local_of, clear_lines, clear_size, copy_lines}
use Rattle.c_emission.specs.Exchanges.{place_exchange, place_size, retire_lines, retire_size, emptied_lines, published_lines, published_size, cas_block, cas_size, entry_block, entry_size, commit_block, commit_size}
use Rattle.c_emission.specs.Ends.{field_lines, new_size}
use Rattle.c_emission.specs.Layout.{Method, plain_block, plain_size, block_at, block_size}

pub clear_length : (spared : List Bool) (base r n : ℕ) → length (clear_lines spared base r n) ≡ clear_size spared r n
clear_length spared base r zero = refl
clear_length spared base r (suc n) = of (is_spared spared r) refl (clear_length spared base (r + 1) n) (clear_length spared (base + 3) (r + 1) n) where
  of : (b : Bool) → is_spared spared r ≡ b → length (clear_lines spared base (r + 1) n) ≡ clear_size spared (r + 1) n → length (clear_lines spared (base + 3) (r + 1) n) ≡ clear_size spared (r + 1) n
      → length (clear_lines spared base r (suc n)) ≡ clear_size spared r (suc n)
  of true is same more = rw is same
  of false is same more = rw is (omega (arith, more))

pub copy_length : (to from n : ℕ) → length (copy_lines to from n) ≡ n
copy_length to from zero = refl
copy_length to from (suc n) = ap suc (copy_length (to + 1) (from + 1) n)

-- ---- exchanges

pub place_length : (fields : List FieldDecl) (base : ℕ) (place : Place) (expected replacement : Reg) (failed : ℕ) → length (place_exchange fields base place expected replacement failed) ≡ place_size place
place_length fields base (text_places.Root x) expected replacement failed = refl
place_length fields base (text_places.Field a f) expected replacement failed = refl

pub retire_length : (base : ℕ) (r : Option Reg) → length (retire_lines base r) ≡ retire_size r
retire_length base None = refl
retire_length base (Some (Num r)) = refl
retire_length base (Some (Ref r)) = refl

emptied_length : (base k n : ℕ) → length (emptied_lines base k n) ≡ 3 * n
emptied_length base k zero = refl
emptied_length base k (suc n) = (let more = emptied_length (base + 3) (k + 1) n in omega (arith, more))

pub published_length : (base kinds : ℕ) (r : Reg) → length (published_lines base kinds r) ≡ published_size kinds r
published_length base kinds (Num r) = refl
published_length base kinds (Ref r) = (let more = emptied_length (base + 1) 0 (4 * kinds) in omega (arith, more))

cas_length : (fields : List FieldDecl) (base : ℕ) (exchange : CasEntry) (failed : ℕ) → length (cas_block fields base exchange failed) ≡ cas_size exchange
cas_length fields base exchange failed =
    length-append (place_exchange fields base exchange.place exchange.expected exchange.replacement failed) (retire_lines (base + place_size exchange.place) exchange.retire)
    ∙ (let a = place_length fields base exchange.place exchange.expected exchange.replacement failed in
    let b = retire_length (base + place_size exchange.place) exchange.retire in omega (arith, a, b))

pub entry_length : (fields : List FieldDecl) (kinds wrap_up base made : ℕ) (exchange : CasEntry) → length (entry_block fields kinds wrap_up base made exchange) ≡ entry_size kinds exchange
entry_length fields kinds wrap_up base made exchange =
    let place : List Line = place_exchange fields (base + 1) exchange.place exchange.expected exchange.replacement wrap_up in
    let published : List Line = published_lines (base + 1 + place_size exchange.place) kinds exchange.replacement in
    let retired : List Line = retire_lines (base + 1 + place_size exchange.place + published_size kinds exchange.replacement) exchange.retire in
    let a = place_length fields (base + 1) exchange.place exchange.expected exchange.replacement wrap_up in
    let b = published_length (base + 1 + place_size exchange.place) kinds exchange.replacement in
    let c = retire_length (base + 1 + place_size exchange.place + published_size kinds exchange.replacement) exchange.retire in
    let whole = length-append place (published ++ retired) in
    let more = length-append published retired in
    omega (arith, a, b, c, whole, more)

commit_length : (fields : List FieldDecl) (kinds wrap_up base made : ℕ) (exchanges : List CasEntry) → length (commit_block fields kinds wrap_up base made exchanges) ≡ commit_size kinds exchanges
commit_length fields kinds wrap_up base made [] = refl
commit_length fields kinds wrap_up base made (exchange ∷ exchanges) =
    length-append (entry_block fields kinds wrap_up base made exchange) (commit_block fields kinds wrap_up (base + entry_size kinds exchange) (made + 1) exchanges)
    ∙ (let a = entry_length fields kinds wrap_up base made exchange in
    let b = commit_length fields kinds wrap_up (base + entry_size kinds exchange) (made + 1) exchanges in omega (arith, a, b))

-- ---- a `new`, and ends

pub field_length : (kind g n : ℕ) → length (field_lines kind g n) ≡ n
field_length kind g zero = refl
field_length kind g (suc n) = ap suc (field_length kind (g + 1) n)

-- a `new` has 32 lines before those
new_length : (d : Reg) (kind count : ℕ) → 32 + length (field_lines kind 0 count ++ lines.Let (local_of d) (values.Times (Local 30) (Number 2)) ∷ []) ≡ new_size count
new_length d kind count =
    (let more = length-append (field_lines kind 0 count) (lines.Let (local_of d) (values.Times (Local 30) (Number 2)) ∷ []) in let is = field_length kind 0 count in omega (arith, more, is))

-- ---- blocks

plain_length : (method : Method) (at : ℕ) (i : Instr) → length (plain_block method at i) ≡ plain_size method.kinds method.fields i
plain_length method at (instr.Set d n) = refl
plain_length method at (instr.Mov d a) = refl
plain_length method at (instr.Add d a b) = refl
plain_length method at (instr.Sub d a b) = refl
plain_length method at (instr.Rem d a n) = refl
plain_length method at (instr.Mark d a) = refl
plain_length method at (instr.Unmark d a) = refl
plain_length method at (instr.Null d) = refl
plain_length method at (instr.LoadRoot d x) = refl
plain_length method at (instr.LoadPick d x count a) = refl
plain_length method at (instr.LoadField d a f) = refl
plain_length method at (instr.New d kind) = (let more = new_length d kind (field_count method.fields kind) in omega (arith, more))
plain_length method at (instr.Put a f b) = refl
plain_length method at (instr.Cas exchange l) = cas_length method.fields _ exchange _
plain_length method at (instr.Jump l) = refl
plain_length method at (instr.IfEq a b l) = refl
plain_length method at (instr.IfLess a b l) = refl
plain_length method at (instr.IfMarked a l) = refl
plain_length method at (instr.Commit exchanges) = commit_length method.fields method.kinds method.wrap_up _ 0 exchanges
plain_length method at (instr.Return a) = refl
plain_length method at instr.ReturnNone = refl
plain_length method at instr.Again = refl

pub block_length : (method : Method) (at : ℕ) (i : TargetInstr) → length (block_at method at i) ≡ block_size method.kinds method.fields i
block_length method at (Plain i) = plain_length method at i
block_length method at Check = refl
block_length method at (Guard r) = refl
