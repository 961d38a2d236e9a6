use Rattle.std.proofs.Common.{◌++◌, ◌∙◌, ap}
use Rattle.std.specs.Option.{option_to_list}
use Rattle.figures.specs.Settings.{confirmed_in}
use Rattle.figures.proofs.Runs.{time_more}
use Rattle.figures.proofs.times.push_confirmed.Goals as goal

pub loop-crash-preserved : goal.loop-crash-preserved
loop-crash-preserved c =
    time_more confirmed_in c.args.crashes.now c.loop-crash.crash-index _ c.args.times.now.items c.loop-crash.times.items _ c.loop-crash-test.true c.loop-crash.invariant
    (c.in_ok-push_time.ensures ∙ ap (λ time. c.loop-crash.times.items ++ option_to_list time) c.confirmed_in.ensures)
