use Rattle.toml.specs.View.{view}
use Rattle.toml.specs.declared.value.Value.{Value}
use Rattle.written_schema.specs.References.{IsContactRule}
use Rattle.written_schema.proofs.Lowest.{all_low, one_lower}
use Rattle.written_schema.proofs.references.contacts_rule.Goals as goal

pub loop-group-preserved : goal.loop-group-preserved
loop-group-preserved c =
    one_lower (λ (v : Value). IsContactRule c.args.tick c.args.roster.now (view v)) c.args.groups.now c.loop-group.low c.loop-group.group-index c.contact_rule.result c.min-low.result _
    c.loop-group-test.true c.group-item.is c.contact_rule.ensures c.min-low.ensures c.loop-group.invariant

pub returns : goal.returns
returns c = all_low (λ (v : Value). IsContactRule c.args.tick c.args.roster.now (view v)) c.args.groups.now c.loop-group.low c.loop-group.group-index c.loop-group-test.false c.loop-group.invariant
