use Rattle.std.proofs.Common.{◌++◌, ◌∙◌, ap}
use Rattle.std.specs.String.{string_bytes}
use Rattle.drawing.proofs.Groups.{all_groups, counts}
use Rattle.drawing.proofs.Ranges.{item_more}
use Rattle.drawing.specs.Numbers.{digit_group}
use Rattle.drawing.proofs.number.push_groups.Goals as goal

pub loop-group-preserved : goal.loop-group-preserved
loop-group-preserved c =
    item_more (digit_group c.args.number) counts c.loop-group.group-index _ _ _ c.loop-group-test.true c.loop-group.invariant c.in_ok-push_group.ensures

pub returns : goal.returns
returns c =
    c.loop-group.invariant
    ∙ ap (λ shown. string_bytes c.args.text.now ++ shown) (all_groups c.args.number c.loop-group.group-index c.requires c.ranges.number.fits c.loop-group-test.false)
