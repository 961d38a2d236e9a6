use Rattle.std.proofs.Common.{◌≡◌, ◌*◌, ◌/◌, ◌≤◌, max, ap, arith}
use Rattle.suspicion.proofs.Tables.{size_log-le}
use Rattle.suspicion.proofs.Timeouts.{min_timeout-lt}
use Rattle.suspicion.proofs.terms.shortest.Goals as goal

pub returns-clause-short : goal.returns-clause-short
returns-clause-short c =
    let log : c.logarithm.result ≤ 5000 = omega (arith, c.logarithm.ensures.value, size_log-le c.args.terms.profile c.args.members c.requires.at_most_16384) in
    let short = min_timeout-lt c.args.terms.alpha c.logarithm.result c.args.terms.period c.requires.sound.alpha log c.requires.sound.period in
    let turned : c.max-size.result ≡ max 1000 c.logarithm.result = omega arith in
    let same : c.args.terms.alpha * c.max-size.result * c.args.terms.period / 1000 ≡ c.args.terms.alpha * max 1000 c.logarithm.result * c.args.terms.period / 1000 =
    ap (λ l. c.args.terms.alpha * l * c.args.terms.period / 1000) turned in
    omega (arith, short, same)
