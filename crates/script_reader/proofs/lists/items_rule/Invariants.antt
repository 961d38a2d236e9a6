use Rattle.std.proofs.Common.{◌≡◌, take}
use Rattle.script_reader.specs.Rules.{items_rule}
use Rattle.script_reader.proofs.lists.items_rule.Given as goal

-- the lowest rule of those so far
abbrev pub invariant-loop-it : goal.invariant-loop-it
invariant-loop-it l = l.low ≡ items_rule l.list l.roster (take l.it-index l.items)
