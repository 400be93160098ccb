-- What contracts see of a reader's draft.
use Rattle.norm_lang.specs.Grammar.{Section, Start, Opening, Kinds, Fields, Counts, Nodes, Roots, Begun, Generator, WrapUp, Shipped, Draft}
use Rattle.norm_parser.specs.declared.draft.Section.{Section as ReadSection}
use Rattle.norm_parser.specs.declared.draft.Section.TheVariants as read
use Rattle.norm_parser.specs.declared.draft.Draft.{Draft as ReadDraft}

-- where a line stands
abbrev pub section_shown : ReadSection → Section
section_shown read.Start = Start
section_shown read.Opening = Opening
section_shown read.Kinds = Kinds
section_shown read.Fields = Fields
section_shown read.Counts = Counts
section_shown read.Nodes = Nodes
section_shown read.Roots = Roots
section_shown read.Begun = Begun
section_shown read.Generator = Generator
section_shown read.WrapUp = WrapUp
section_shown read.Shipped = Shipped

-- what the lines so far declare
abbrev pub draft_shown : ReadDraft → Draft
draft_shown draft = record {
  section = section_shown draft.section;
  version = draft.version;
  counted = draft.counted;
  owners = draft.owners;
  text = draft.text;
  op = draft.op;
  left = draft.left;
  entries = draft.entries;
}
