use Rattle.std.proofs.Common.{◌+◌, ◌-◌, ◌≡◌, ◌≤◌, arith, length}
use Rattle.scenario.proofs.Apart.{longer_in}
use Rattle.scenario.proofs.spells.add.Goals as goal

pub returns-then-last-until-clause-added : goal.returns-then-last-until-clause-added
returns-then-last-until-clause-added c =
    let xs = c.args.spells.now.items in
    let last : c.len-count.result - 1 + 1 ≡ length xs = omega (arith, c.if-count-eq0.false) in
    let meets : c.args.from ≤ c.index-last.result.now.until = omega (arith, c.if-last-from.false) in
    λ t. longer_in xs (c.len-count.result - 1) c.args.from c.args.until c.index-last.result.now last c.index-last.ensures meets c.if-last-until.true c.requires.apart c.requires.begun t
