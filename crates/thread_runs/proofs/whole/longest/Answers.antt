use Rattle.std.proofs.Common.{rules, ℕ, ◌≡◌, ◌<◌, ◌≤◌, length, get_or}
use Rattle.thread_runs.specs.Scripts.{IsRoomForEach}
use Rattle.thread_runs.proofs.Longest.{fit_more, item_within}
use Rattle.thread_runs.proofs.whole.longest.Goals as goal

pub loop-script-preserved : goal.loop-script-preserved
loop-script-preserved c =
    let within : c.loop-script.script-index < length c.args.scripts.now = search rules in
    let item : c.items.result.now ≡ get_or c.args.scripts.now c.loop-script.script-index c.items.result.now = search rules in
    let room : c.loop-script.room ≤ c.max-room.result = search rules in
    let least = λ (bound : ℕ) (fits : IsRoomForEach c.args.scripts.now bound).
    let mine = item_within c.args.scripts.now c.loop-script.script-index bound c.items.result.now within item fits in
    let sofar : c.loop-script.room ≤ bound = c.loop-script.invariant.2 bound fits in
    let most : c.max-room.result ≤ bound = search rules in
    most in
    let long : length c.items.result.now ≤ c.max-room.result = search rules in
    (fit_more c.args.scripts.now c.loop-script.script-index c.loop-script.room c.max-room.result c.items.result.now within item room long c.loop-script.invariant.0, search rules, least)

pub returns : goal.returns
returns c = search rules
