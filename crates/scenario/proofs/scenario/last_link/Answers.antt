use Rattle.std.proofs.Common.{true, false, sym, ◌∙◌}
use Rattle.scenario.specs.Setup.{leads}
use Rattle.scenario.proofs.Between.{last_more}
use Rattle.scenario.proofs.scenario.last_link.Goals as goal
use Rattle.scenario.proofs.scenario.last_link.Goals.{then-leads, else-leads}

pub loop-path-preserved : goal.loop-path-preserved
loop-path-preserved c =
    let more = last_more c.args.link (leads c.args.from c.args.to) c.args.paths.now c.loop-path.path-index _ in
    elim c.if-leads.branch [
      | then-leads w ↦ w.last-is ∙ sym (more true c.loop-path-test.true (sym c.leads.ensures ∙ w.if-leads.true))
      | else-leads w ↦ w.last-is ∙ c.loop-path.invariant ∙ sym (more false c.loop-path-test.true (sym c.leads.ensures ∙ w.if-leads.false))
    ]
