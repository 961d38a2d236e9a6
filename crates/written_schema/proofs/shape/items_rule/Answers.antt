use Rattle.toml.specs.View.{view}
use Rattle.toml.specs.declared.value.Value.{Value}
use Rattle.written_schema.specs.Shape.{IsTableRule}
use Rattle.written_schema.proofs.Lowest.{all_low, one_lower}
use Rattle.written_schema.proofs.shape.items_rule.Goals as goal

pub loop-item-preserved : goal.loop-item-preserved
loop-item-preserved c =
    one_lower (λ (v : Value). IsTableRule c.args.tick c.args.section (view v)) c.args.items.now c.loop-item.low c.loop-item.item-index c.table_rule.result c.min-low.result _
    c.loop-item-test.true c.item-item.is c.table_rule.ensures c.min-low.ensures c.loop-item.invariant

pub returns : goal.returns
returns c =
    all_low (λ (v : Value). IsTableRule c.args.tick c.args.section (view v)) c.args.items.now c.loop-item.low c.loop-item.item-index c.loop-item-test.false c.loop-item.invariant
