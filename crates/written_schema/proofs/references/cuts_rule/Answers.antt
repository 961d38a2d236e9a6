use Rattle.toml.specs.View.{view}
use Rattle.toml.specs.declared.value.Value.{Value}
use Rattle.written_schema.specs.References.{IsCutRule}
use Rattle.written_schema.proofs.Lowest.{all_low, one_lower}
use Rattle.written_schema.proofs.references.cuts_rule.Goals as goal

pub loop-cut-preserved : goal.loop-cut-preserved
loop-cut-preserved c =
    one_lower (λ (v : Value). IsCutRule c.args.tick c.args.roster.now (view v)) c.args.cuts.now c.loop-cut.low c.loop-cut.cut-index c.cut_rule.result c.min-low.result _
    c.loop-cut-test.true c.cut-item.is c.cut_rule.ensures c.min-low.ensures c.loop-cut.invariant

pub returns : goal.returns
returns c = all_low (λ (v : Value). IsCutRule c.args.tick c.args.roster.now (view v)) c.args.cuts.now c.loop-cut.low c.loop-cut.cut-index c.loop-cut-test.false c.loop-cut.invariant
