use Rattle.toml.specs.View.{view}
use Rattle.toml.specs.declared.value.Value.{Value}
use Rattle.written_schema.specs.References.{IsPathRule}
use Rattle.written_schema.proofs.Lowest.{all_low, one_lower}
use Rattle.written_schema.proofs.references.paths_rule.Goals as goal

pub loop-path-preserved : goal.loop-path-preserved
loop-path-preserved c =
    one_lower (λ (v : Value). IsPathRule c.args.roster.now (view v)) c.args.paths.now c.loop-path.low c.loop-path.path-index c.path_rule.result c.min-low.result _
    c.loop-path-test.true c.path-item.is c.path_rule.ensures c.min-low.ensures c.loop-path.invariant

pub returns : goal.returns
returns c = all_low (λ (v : Value). IsPathRule c.args.roster.now (view v)) c.args.paths.now c.loop-path.low c.loop-path.path-index c.loop-path-test.false c.loop-path.invariant
