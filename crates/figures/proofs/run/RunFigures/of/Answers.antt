use Rattle.std.proofs.Common.{◌<◌}
use Rattle.std.specs.Prelude.{IfSome}
use Rattle.std.proofs.lemmas.List.Elements.{All-same}
use Rattle.scenario.specs.Setup.{member_count}
use Rattle.trace.specs.declared.row.What.TheVariants as what
use Rattle.figures.specs.Figures.{claims_told}
use Rattle.figures.proofs.Marks.{about_told}
use Rattle.figures.proofs.run.RunFigures.of.Goals as goal

pub thrown_out-requires : goal.thrown_out-requires
thrown_out-requires c =
    let s = c.args.scenario.now in
    All-same (λ claim. IfSome claim.about (λ m. m < member_count s)) c.told_by-told.result.confirmed.now (claims_told s.version what.Confirm c.args.tallies.now)
    c.told_by-told.ensures.confirmed (about_told s.version s c.args.tallies.now c.requires)
