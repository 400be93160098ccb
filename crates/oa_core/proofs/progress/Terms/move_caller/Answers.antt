use Rattle.std.proofs.Common.{refl}
use Rattle.std.specs.Prelude.{slice_get}
use Rattle.std.proofs.lemmas.Option.{slice_get_read}
use Rattle.oa_core.proofs.Moving.{may_move, no_entry, moves_there, set_belong}
use Rattle.oa_core.proofs.progress.Terms.move_caller.Goals as goal

pub move_entry-requires-clause-belongs : goal.move_entry-requires-clause-belongs
move_entry-requires-clause-belongs c =
    c.requires.belong.each c.args.caller c.in-Some.entry.now (slice_get_read c.args.entries.now.items _ c.args.caller c.in-Some.entry.now c.args.entries.now.ok.0 (c.in-Some.ensures.variant.0 refl) c.in-Some.ensures.value)

pub move_entry-requires-clause-can : goal.move_entry-requires-clause-can
move_entry-requires-clause-can c =
    may_move c.args.self.now.pair.target c.args.next (slice_get c.args.entries.now.items c.args.caller) c.in-Some.entry.now
    (slice_get_read c.args.entries.now.items _ c.args.caller c.in-Some.entry.now c.args.entries.now.ok.0 (c.in-Some.ensures.variant.0 refl) c.in-Some.ensures.value) c.requires.can

pub returns-in-None-clause-moved : goal.returns-in-None-clause-moved
returns-in-None-clause-moved c =
    absurd (no_entry c.args.self.now.pair.target c.args.next c.args.entries.now.items c.args.entries.now.len c.args.caller c.args.entries.now.ok.0 c.in-None.ensures.variant.1 c.requires.can)

pub returns-in-Some-clause-moved : goal.returns-in-Some-clause-moved
returns-in-Some-clause-moved c =
    moves_there c.args.self.now.pair.target c.args.self.now.setting c.args.words.now c.move_entry.new.words c.args.next c.args.caller c.args.entries.now.items _ (slice_get c.args.entries.now.items c.args.caller) c.in-Some.entry.now
    (slice_get_read c.args.entries.now.items _ c.args.caller c.in-Some.entry.now c.args.entries.now.ok.0 (c.in-Some.ensures.variant.0 refl) c.in-Some.ensures.value)
    (record { moved = c.move_entry.new.entry; step = c.move_entry.ensures.step; left = refl })

pub returns-in-Some-clause-belong : goal.returns-in-Some-clause-belong
returns-in-Some-clause-belong c =
    set_belong c.args.self.now.pair c.args.self.now.setting c.args.entries.now.items c.args.caller c.move_entry.new.entry c.requires.belong c.move_entry.ensures.belongs
