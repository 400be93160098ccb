use Rattle.std.proofs.Common.{◌≡◌, ◌≢◌, false, None, sym, ap, subst, ◌∙◌, arith}
use Rattle.target_code.specs.declared.target.Target.{Target}
use Rattle.caller_steps.specs.Entries.{Entry, RoomyEntry, is_idle}
use Rattle.caller_steps.specs.Wants.{wants}
use Rattle.caller_steps.specs.After.{after}
use Rattle.caller_steps.specs.Lawful.{MayBeTold}
use Rattle.core_entries.specs.Callers.{BelongsTo, HasRoom}
use Rattle.core_ground.proofs.Runnable.{runnable}
use Rattle.core_entries.proofs.Calling.{told, near, news, keeps, runs, room_kept, slots}
use Rattle.core_entries.proofs.entry.Entry.accept_at.Goals as goal

pub accept_at-requires-clause-slots : goal.accept_at-requires-clause-slots
accept_at-requires-clause-slots c =
    slots c.args.barred.now c.args.setting.now c.self.inside.state.core (runnable c.args.barred.now c.kept-2.ensures) c.kept.ensures
    (let few = c.limits.ensures.sizes.slots in omega (arith, few))
    (subst (λ (e : RoomyEntry). BelongsTo c.args.barred.now c.args.setting.now e.core) (sym c.self.view_is) c.requires.belongs)

pub accept_at-requires-clause-spare : goal.accept_at-requires-clause-spare
accept_at-requires-clause-spare c =
    c.self.invariant.0
    (runs c.args.barred.now c.args.setting.now c.self.inside.state.core (runnable c.args.barred.now c.kept-2.ensures) c.kept.ensures
    (subst (λ (e : RoomyEntry). BelongsTo c.args.barred.now c.args.setting.now e.core) (sym c.self.view_is) c.requires.belongs)
    (subst (λ (e : RoomyEntry). wants c.args.barred.now.target e.core ≢ None) (sym c.self.view_is) c.requires.wanted))

pub accept_at-requires-clause-near : goal.accept_at-requires-clause-near
accept_at-requires-clause-near c =
    near c.args.barred.now c.args.setting.now c.self.inside.state.core (runnable c.args.barred.now c.kept-2.ensures) c.kept.ensures
    (subst (λ (e : RoomyEntry). BelongsTo c.args.barred.now c.args.setting.now e.core) (sym c.self.view_is) c.requires.belongs)

pub accept_at-requires-clause-kinds : goal.accept_at-requires-clause-kinds
accept_at-requires-clause-kinds c =
    news c.args.barred.now c.args.program.now c.args.setting.now c.self.inside.state.core c.requires.program (runnable c.args.barred.now c.kept-2.ensures) c.kept.ensures
    (subst (λ (e : RoomyEntry). BelongsTo c.args.barred.now c.args.setting.now e.core) (sym c.self.view_is) c.requires.belongs)

pub accept_at-requires-clause-can : goal.accept_at-requires-clause-can
accept_at-requires-clause-can c =
    told c.args.barred.now c.args.program.now c.args.setting.now c.self.inside.state.core c.args.word c.requires.program (runnable c.args.barred.now c.kept-2.ensures) c.kept.ensures
    (subst (λ (e : RoomyEntry). BelongsTo c.args.barred.now c.args.setting.now e.core) (sym c.self.view_is) c.requires.belongs)
    (subst (λ (e : RoomyEntry). MayBeTold c.args.barred.now.target c.args.setting.now (wants c.args.barred.now.target e.core) c.args.word) (sym c.self.view_is) c.requires.lawful)

pub invariant_of-self : goal.invariant_of-self
invariant_of-self c =
    let busy : is_idle c.self.inside.state.core.routine ≡ false =
    runs c.args.barred.now c.args.setting.now c.self.inside.state.core (runnable c.args.barred.now c.kept-2.ensures) c.kept.ensures
    (subst (λ (e : RoomyEntry). BelongsTo c.args.barred.now c.args.setting.now e.core) (sym c.self.view_is) c.requires.belongs)
    (subst (λ (e : RoomyEntry). wants c.args.barred.now.target e.core ≢ None) (sym c.self.view_is) c.requires.wanted) in (
      subst (λ (e : RoomyEntry). HasRoom e) (sym c.accept_at.ensures)
          (room_kept c.args.program.now c.args.setting.now c.self.inside.state.core c.self.inside.state.room c.args.word busy (c.self.invariant.0 busy)),
      c.self.invariant.1 ∙ ap (λ (e : RoomyEntry). e.room) (sym c.accept_at.ensures),
    )

pub returns-clause-belongs : goal.returns-clause-belongs
returns-clause-belongs c =
    subst (λ (e : Entry). BelongsTo c.args.barred.now c.args.setting.now e)
    (sym (ap (λ (e : RoomyEntry). e.core) c.accept_at.ensures
    ∙ ap (λ (t : Target). after t c.args.setting.now c.self.inside.state.core c.args.word) c.requires.program))
    (keeps c.args.barred.now c.args.setting.now c.self.inside.state.core c.args.word (runnable c.args.barred.now c.kept-2.ensures) c.kept.ensures
    (subst (λ (e : RoomyEntry). BelongsTo c.args.barred.now c.args.setting.now e.core) (sym c.self.view_is) c.requires.belongs)
    (subst (λ (e : RoomyEntry). MayBeTold c.args.barred.now.target c.args.setting.now (wants c.args.barred.now.target e.core) c.args.word) (sym c.self.view_is) c.requires.lawful))
