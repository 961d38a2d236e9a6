use Rattle.scenario.specs.Setup.{cuts_off}
use Rattle.scenario.proofs.Noting.{entry_more}
use Rattle.links.specs.Entries.{pair_number}
use Rattle.links.proofs.Calendars.{its_cut}
use Rattle.links.proofs.outages.calendar_of_cuts.Goals as goal

pub loop-cut-preserved : goal.loop-cut-preserved
loop-cut-preserved c =
    let cut = c.cut-item.result in
    let noted = c.mark.ensures in
    λ from to t. entry_more (cuts_off from to t) c.args.cuts.now c.loop-cut.cut-index cut c.loop-cut.calendar c.mark.new.self (pair_number from to) t c.loop-cut-test.true c.cut-item.is
    (noted.kept (pair_number from to) t) (c.loop-cut.invariant from to t)
    (its_cut c.mark.new.self c.number_of_pair-pair.result c.ticks.result c.ticks-in-loop-cut.result cut from to t c.number_of_pair-pair.ensures c.ticks.ensures c.ticks-in-loop-cut.ensures noted.noted)
