use Rattle.std.proofs.Common.{◌≡◌, drop, take}
use Rattle.source_machine.specs.Calls.{IsOfSourceRun}
use Rattle.run_logs.specs.Logged.{logged_all}
use Rattle.run_logs.proofs.log.Log.write_all.Given as goal

-- what is left gives what the whole gives, and the first signs what is written
abbrev pub invariant-loop-sign : goal.invariant-loop-sign
invariant-loop-sign l = record {
  runs : IsOfSourceRun l.normal l.self.machine;
  same : logged_all l.normal l.caller l.call (drop l.sign-index l.signs) l.self ≡ logged_all l.normal l.caller l.call l.signs l.fn.self;
  first : l.self ≡ logged_all l.normal l.caller l.call (take l.sign-index l.signs) l.fn.self;
}
