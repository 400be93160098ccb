-- How a caller that runs lines stands beside a caller of the core: it makes the access that the other wants, and what follows is what the core
-- comes to.
use Rattle.std.specs.Prelude.{◌≡◌, ℕ, ◌+◌, ◌<◌, ◌^◌, Bool, List, Some, slice_index}
use Rattle.norm_lang.specs.declared.text.Reg.{Reg}
use Rattle.norm_lang.specs.declared.text.Reg.TheVariants.{Num, Ref}
use Rattle.norm_lang.specs.Local.{Spot}
use Rattle.target_code.specs.declared.target.Target.{Target}
use Rattle.oa_words.specs.Words.{Sizes}
use Rattle.phase_pools.specs.Accesses.{WordAccess}
use Rattle.caller_parts.specs.declared.setting.Reclamation.TheVariants.{Optimistic}
use Rattle.caller_parts.specs.KindCounts.{field_count}
use Rattle.caller_parts.specs.Settings.{Setting, IsSetting}
use Rattle.caller_steps.specs.Entries.{Entry}
use Rattle.caller_steps.specs.Wants.{wants}
use Rattle.caller_steps.specs.After.{after, settles}
use Rattle.caller_steps.specs.Lawful.{MayBeTold}
use Rattle.caller_steps.specs.Belongs.{Belongs}
use Rattle.c_language.specs.declared.lines.Line.{Line}
use Rattle.c_language.specs.Steps.{Pool, Frame, Wants, stop}
use Rattle.c_language.specs.Runs.{Comes}
use Rattle.emission_laws.specs.Hands.{AreWords, StandsFor}

-- a pool runs what a caller of the core runs under a setting: the row, the last phase and the caller's number are the same, and nodes of each kind
-- have as many fields as the target declares. The caller's entry belongs
pub record RunsFor (pool : Pool) (target : Target) (setting : Setting) (e : Entry) : Type 0 where
  pub sizes : pool.sizes ≡ setting.sizes
  pub fields : (k : ℕ) → slice_index pool.fields k ≡ field_count target.fields k
  pub last : pool.last ≡ setting.last
  pub own : pool.own ≡ e.number
  pub by : setting.reclamation ≡ Optimistic
  pub is_setting : IsSetting setting
  pub belongs : Belongs target setting e

-- what the core comes to is what local code makes of an entry of the same call from a spot on, in a method and at one of its instructions; the frame
-- stands for that entry there, at a line
pub record SettlesFrom (target : Target) (sizes : Sizes) (settled e : Entry) (wrapup : Bool) (place line : ℕ)
    (f : Frame) : Type 0 where
  pub entry : Entry
  pub spot : Spot
  pub is : settled ≡ (settles Optimistic target sizes spot entry).entry
  pub op : entry.running.call.op ≡ e.running.call.op
  pub method : entry.hand.wrapup ≡ wrapup
  pub at : spot.at ≡ place
  pub words : AreWords spot.registers
  pub stands : StandsFor entry spot.registers line f

-- the same of an entry after its access
abbrev pub SettlesAt : Target → Setting → Entry → ℕ → Bool → ℕ → ℕ → Frame → Type 0
SettlesAt target setting e word wrapup place line f =
    SettlesFrom target setting.sizes (after target setting e word) e wrapup place line f

-- from the next instruction of its method on
abbrev pub GoesOn : Target → Setting → Entry → ℕ → ℕ → Frame → Type 0
GoesOn target setting e word line f = SettlesAt target setting e word e.hand.wrapup (e.hand.at + 1) line f

-- the frame stands before the access that the entry wants. Whatever the entry may be told, what follows holds of the frame
pub record MakesAccess (pool : Pool) (code : List Line) (target : Target) (setting : Setting) (e : Entry)
    (After : ℕ → Frame → Type 0) (f : Frame) : Type 0 where
  pub access : WordAccess
  pub next : ℕ → Frame
  pub stops : stop pool code f ≡ Wants access next
  pub wanted : wants target e ≡ Some access
  pub after : (word : ℕ) → MayBeTold target setting (Some access) word → Comes pool code (next word) (After word)

abbrev pub HasNumber : Reg → Type 0
HasNumber (Num r) = r < 8
HasNumber (Ref r) = r < 8

-- a word that is loaded into a register of references fits 64 bits
abbrev pub FitsIn : Reg → ℕ → Type 0
FitsIn (Num r) word = Unit {0}
FitsIn (Ref r) word = word < 2 ^ 64

abbrev pub TellsFitting : Target → Setting → Entry → Reg → Type 0
TellsFitting target setting e d = (word : ℕ) → MayBeTold target setting (wants target e) word → FitsIn d word
