-- A complete run of scripts under epochs follows the source.
use Rattle.target_code.specs.Bare.{bare}
use Rattle.epoch_relation.proofs.Running.{runs_are_simulated}
use Rattle.epoch_runs.specs.Source.{EpochRunsFollowSource}
use Rattle.epoch_runs.proofs.ScriptsBegun.{scripts_begin}

pub runs_follow_source : EpochRunsFollowSource
runs_follow_source text setting scripts fuel events state within normal own fits epochs proper complete = record {
  simulated = runs_are_simulated text setting events state within normal own fits epochs proper complete.run.runs;
  simulated_so_far = λ before later there part runs. runs_are_simulated text setting before there within normal own fits epochs proper runs;
  begins = (scripts_begin (bare text) setting).each epochs text scripts fuel events state complete;
}
