-- What a step of a caller gives to the source machine beside what it makes of the entry. No node has a name here: that a step
-- makes a node is told by its slot.
use Rattle.std.specs.Prelude.{ℕ, Option, List, [], ◌++◌}
use Rattle.caller_parts.specs.declared.call.Call.{Call}
use Rattle.caller_steps.specs.Entries.{Entry}

pub data Sign : Type 0 where
  -- the call begins
  Begins : (call : Call) → Sign
  -- an access of the text, the end of an empty list, or the end of a wrap-up run that has made an access
  Accesses : Sign
  -- the access of a `new`, whose node stands in this slot
  Draws : (slot : ℕ) → Sign
  -- the method run begins again, if the source may do so
  Renews : Sign
  -- the call is given up, with the last phase if a sweep found it
  GivesUp : (phase : Option ℕ) → Sign

-- what a step makes of an entry, and its signs in order
pub record Moved : Type 0 where
  pub entry : Entry
  pub signs : List Sign

-- without a sign
abbrev pub quiet : Entry → Moved
quiet e = record { entry = e; signs = [] }

-- with signs before those that it has
abbrev pub told : List Sign → Moved → Moved
told signs m = record { entry = m.entry; signs = signs ++ m.signs }
