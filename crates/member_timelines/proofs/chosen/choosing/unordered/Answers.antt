use Rattle.std.proofs.Common.{◌++◌, ◌∙◌, ap, sym}
use Rattle.std.specs.Option.{option_to_list}
use Rattle.member_timelines.specs.Choice.{choice}
use Rattle.member_timelines.proofs.Steps.{filter_more}
use Rattle.member_timelines.proofs.chosen.choosing.unordered.Goals as goal

pub loop-number-preserved : goal.loop-number-preserved
loop-number-preserved c =
    let made = choice c.args.run.now.scenario.now c.args.run.now.tallies.now in
    c.in_ok-push_some.ensures ∙ ap (λ o. c.loop-number.all.items ++ option_to_list o) c.chosen.ensures
    ∙ ap (λ l. l ++ option_to_list (made c.loop-number.number)) c.loop-number.invariant ∙ sym (filter_more made c.loop-number.number)
