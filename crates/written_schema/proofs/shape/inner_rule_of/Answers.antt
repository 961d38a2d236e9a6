use Rattle.std.proofs.Common.{List, Some, sym, subst}
use Rattle.toml.specs.Data.{Data}
use Rattle.toml.specs.View.{view}
use Rattle.written_schema.specs.Lowest.{Lowest}
use Rattle.written_schema.specs.Shape.{IsInnerRule, IsTableRule}
use Rattle.written_schema.specs.declared.rows.WrittenKind.{WrittenKind}
use Rattle.written_schema.proofs.Lowest.{lowest_seen}
use Rattle.written_schema.proofs.shape.inner_rule_of.Goals as goal

pub returns-in-List : goal.returns-in-List
returns-in-List c =
    let d = view c.args.value.now in
    let rule = c.items_rule.result in
    subst (λ (kind : WrittenKind). IsInnerRule c.args.tick kind (Some d) rule) (sym c.in-List.is)
    (subst (λ (ds : List Data). Lowest (IsTableRule c.args.tick c.in-List.section) ds rule) c.items.ensures
    (lowest_seen (IsTableRule c.args.tick c.in-List.section) view c.items.result.now rule c.items_rule.ensures))
