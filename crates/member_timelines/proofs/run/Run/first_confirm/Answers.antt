use Rattle.std.proofs.Common.{◌<◌, sym, subst, ◌∙◌}
use Rattle.std.specs.Prelude.{IfSome, Option}
use Rattle.scenario.specs.Setup.{member_count}
use Rattle.trace.specs.declared.row.What.TheVariants as what
use Rattle.reports.specs.Rows.{tells_of}
use Rattle.series.specs.declared.lines.TraceLine.{TraceLine}
use Rattle.member_timelines.proofs.Named.{first_named}
use Rattle.member_timelines.proofs.run.Run.first_confirm.Goals as goal

pub returns-clause-named : goal.returns-clause-named
returns-clause-named c =
    let s = c.args.self.now.scenario.now in
    subst (λ (o : Option TraceLine). IfSome o (λ line. line.member < member_count s)) (sym (c.first_confirm.ensures ∙ c.story.ensures.first_confirm))
    (first_named s (tells_of what.Confirm c.args.member) c.args.self.now.tallies.now c.requires.told.named)
