use Rattle.std.proofs.Common.{◌-◌, length, take, drop, not, length-take, arith}
use Rattle.std.proofs.lemmas.List.Sums.{prefix_len-le-length}
use Rattle.piggyback.specs.Picked.{goes_before}
use Rattle.piggyback.proofs.front.passed_behind.Goals as goal

pub returns-clause-within : goal.returns-clause-within
returns-clause-within c =
    let these = c.args.entries.now in
    let others = take (length these - c.args.many) (drop c.args.many these) in
    omega (arith, c.place_among.ensures, c.requires.within, length-take (length these - c.args.many) (drop c.args.many these), prefix_len-le-length (λ it. not (goes_before c.args.first.now it)) others)
