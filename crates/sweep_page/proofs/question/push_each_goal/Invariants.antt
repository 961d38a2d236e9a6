use Rattle.std.proofs.Common.{◌≡◌, ◌++◌, take}
use Rattle.std.specs.List.{flat_map}
use Rattle.std.specs.String.{string_bytes}
use Rattle.sweep_page.specs.Goals.{goal_item}
use Rattle.sweep_page.proofs.question.push_each_goal.Given as goal

abbrev pub invariant-loop-want : goal.invariant-loop-want
invariant-loop-want l = string_bytes l.text ≡ string_bytes l.fn.text ++ flat_map goal_item (take l.want-index l.wants)
