use Rattle.std.proofs.Common.{◌≡◌, true}
use Rattle.c_runs.proofs.Beside.{promised}
use Rattle.c_runs.proofs.laws.runs_are_matched.Goals as goal

pub returns : goal.returns
returns g c code related match first rest mid last runs further =
    promised c.args.barred.now.target c.args.setting.now code (λ e x. related e x ≡ true) match
    (record {
      sound = λ state r. c.states_are_sound.ensures.sound c.args.barred.now.target c.args.barred.now.source c.args.setting.now state
          (record { small = c.kept.ensures.small; normal = c.kept.ensures.normal; within = c.kept.ensures.within; erases = c.kept.ensures.barred.erases }) c.kept-2.ensures c.requires.fits r;
      shaped = λ state r. c.states_are_sound.ensures.shaped c.args.barred.now.target c.args.barred.now.source c.args.setting.now state
          (record { small = c.kept.ensures.small; normal = c.kept.ensures.normal; within = c.kept.ensures.within; erases = c.kept.ensures.barred.erases }) c.kept-2.ensures c.requires.fits r;
      sees = c.events_are_seen.ensures c.args.barred.now.target c.args.setting.now;
      starts = c.start_is_seen.ensures c.args.barred.now.target c.args.setting.now;
      by = c.requires.optimistic;
    })
    c.args.barred.now.source
    (λ proper events state goes. (c.refines.ensures proper events state goes).refined)
    (λ proper events state goes. c.no_guarded_claim.ensures proper events state goes)
    (λ proper events state goes. c.no_stale_pass.ensures proper events state goes)
    first rest mid last runs further
