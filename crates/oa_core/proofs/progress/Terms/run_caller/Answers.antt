use Rattle.std.proofs.Common.{refl}
use Rattle.std.specs.Prelude.{slice_get}
use Rattle.std.proofs.lemmas.Option.{slice_get_read}
use Rattle.oa_core.proofs.Moving.{may_move, no_entry, set_belong}
use Rattle.oa_core.proofs.Calling.{runs_there}
use Rattle.oa_core.proofs.progress.Terms.run_caller.Goals as goal

pub run_entry-requires-clause-belongs : goal.run_entry-requires-clause-belongs
run_entry-requires-clause-belongs c =
    c.requires.belong.each c.args.caller c.in-Some.entry.now (slice_get_read c.args.entries.now.items _ c.args.caller c.in-Some.entry.now c.args.entries.now.ok.0 (c.in-Some.ensures.variant.0 refl) c.in-Some.ensures.value)

pub run_entry-requires-clause-can : goal.run_entry-requires-clause-can
run_entry-requires-clause-can c =
    may_move c.args.self.now.pair.target c.args.next (slice_get c.args.entries.now.items c.args.caller) c.in-Some.entry.now
    (slice_get_read c.args.entries.now.items _ c.args.caller c.in-Some.entry.now c.args.entries.now.ok.0 (c.in-Some.ensures.variant.0 refl) c.in-Some.ensures.value) c.requires.can

pub returns-in-None-clause-ran : goal.returns-in-None-clause-ran
returns-in-None-clause-ran c =
    absurd (no_entry c.args.self.now.pair.target c.args.next c.args.entries.now.items c.args.entries.now.len c.args.caller c.args.entries.now.ok.0 c.in-None.ensures.variant.1 c.requires.can)

pub returns-in-Some-clause-ran : goal.returns-in-Some-clause-ran
returns-in-Some-clause-ran c =
    runs_there c.args.self.now c.args.next c.args.most c.run_entry.result c.args.words.now c.run_entry.new.words c.args.caller c.args.entries.now.items _ (slice_get c.args.entries.now.items c.args.caller) c.in-Some.entry.now
    (slice_get_read c.args.entries.now.items _ c.args.caller c.in-Some.entry.now c.args.entries.now.ok.0 (c.in-Some.ensures.variant.0 refl) c.in-Some.ensures.value)
    (record { moved = c.run_entry.new.entry; runs = c.run_entry.ensures.ran; left = refl })

pub returns-in-Some-clause-belong : goal.returns-in-Some-clause-belong
returns-in-Some-clause-belong c =
    set_belong c.args.self.now.pair c.args.self.now.setting c.args.entries.now.items c.args.caller c.run_entry.new.entry c.requires.belong c.run_entry.ensures.belongs
