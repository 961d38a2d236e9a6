use Rattle.std.proofs.Common.{◌/◌, ap, ◌∙◌, arith}
use Rattle.scenario.specs.Setup.{member_count}
use Rattle.meaning.specs.Quiet.{names_below}
use Rattle.meaning.proofs.Sums.{average_small}
use Rattle.meaning.proofs.quiet.average_name.Goals as goal

pub returns-clause-value : goal.returns-clause-value
returns-clause-value c =
    let s = c.args.scenario.now in
    ap (λ names. names / c.members.result) c.name_bytes-names.ensures.value ∙ ap (λ n. names_below s (member_count s) / n) c.members.ensures.count

pub returns-clause-few : goal.returns-clause-few
returns-clause-few c =
    average_small c.name_bytes-names.result c.members.result (omega (arith, c.members.ensures.count, c.members.ensures.sound.members))
    (omega (arith, c.name_bytes-names.ensures.few, c.members.ensures.count))
