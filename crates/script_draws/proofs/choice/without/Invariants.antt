use Rattle.std.proofs.Common.{◌≡◌, not, filter, take}
use Rattle.script_draws.specs.Choice.{is_among}
use Rattle.script_draws.proofs.choice.without.Given as goal

abbrev pub invariant-loop-member : goal.invariant-loop-member
invariant-loop-member l = l.chosen.items ≡ filter (λ item. not (is_among l.left item)) (take l.member-index l.members)
