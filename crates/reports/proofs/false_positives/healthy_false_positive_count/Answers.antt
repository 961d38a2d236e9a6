use Rattle.std.proofs.Common.{◌<◌, ap, ◌∙◌}
use Rattle.std.specs.Prelude.{count_by}
use Rattle.std.proofs.lemmas.List.Elements.{All-same}
use Rattle.scenario.specs.Setup.{member_count}
use Rattle.reports.specs.Failures.{false_positives_of, is_healthy_maker}
use Rattle.reports.proofs.Makers.{healthy_makers, makers_are_members}
use Rattle.reports.proofs.false_positives.healthy_false_positive_count.Goals as goal

pub count_healthy-requires : goal.count_healthy-requires
count_healthy-requires c =
    All-same (λ claim. claim.member < member_count c.args.scenario.now) c.false_positives.result.now (false_positives_of c.args.claim c.args.tallies.now) c.false_positives.ensures
    (makers_are_members c.args.scenario.now c.args.claim c.args.tallies.now c.requires.named)

pub returns : goal.returns
returns c = c.count_healthy.ensures ∙ ap (count_by (is_healthy_maker c.args.scenario.now)) c.false_positives.ensures ∙ healthy_makers c.args.scenario.now c.args.claim c.args.tallies.now
