use Rattle.std.proofs.Common.{◌++◌, ◌∙◌, ap, sym}
use Rattle.std.specs.Option.{option_to_list}
use Rattle.member_timelines.proofs.Steps.{filter_more}
use Rattle.run_spread.specs.Spread.{learned, time_of_one}
use Rattle.run_spread.proofs.news.times.Goals as goal

pub loop-number-preserved : goal.loop-number-preserved
loop-number-preserved c =
    let made = time_of_one c.args.run.now.scenario.now (learned c.args.moments.now c.args.from) in
    c.in_ok-push_some.ensures ∙ ap (λ o. c.loop-number.times.items ++ option_to_list o) c.time_of_one-time.ensures
    ∙ ap (λ l. l ++ option_to_list (made c.loop-number.number)) c.loop-number.invariant ∙ sym (filter_more made c.loop-number.number)
