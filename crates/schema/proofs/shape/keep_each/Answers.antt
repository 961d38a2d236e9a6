use Rattle.std.proofs.Common.{Some, ap, sym, ◌∙◌}
use Rattle.toml.specs.View.{view}
use Rattle.schema.specs.Shape.{rule_of}
use Rattle.schema.proofs.Chain.{missing_least, unknown_least, kind_least, range_least}
use Rattle.schema.proofs.shape.keep_each.Goals as goal

pub returns-in-Err-clause-err : goal.returns-in-Err-clause-err
returns-in-Err-clause-err c =
    missing_least c.args.version (view c.args.tree.now) c.in-Err.ensures.err.0 ∙ ap (λ k. Some (rule_of k)) (sym c.in-Err.ensures.err.1)

pub returns-in-Err-keep-clause-err : goal.returns-in-Err-keep-clause-err
returns-in-Err-keep-clause-err c =
    unknown_least c.args.version (view c.args.tree.now) c.in_default.ensures.ok c.in-Err-keep.ensures.err.0 ∙ ap (λ k. Some (rule_of k)) (sym c.in-Err-keep.ensures.err.1)

pub returns-in-Err-keep-2-clause-err : goal.returns-in-Err-keep-2-clause-err
returns-in-Err-keep-2-clause-err c =
    kind_least c.args.version (view c.args.tree.now) c.in_default.ensures.ok c.in_default-keep.ensures.ok c.in-Err-keep-2.ensures.err.0 ∙ ap (λ k. Some (rule_of k)) (sym c.in-Err-keep-2.ensures.err.1)

pub returns-in-Err-keep-3-clause-err : goal.returns-in-Err-keep-3-clause-err
returns-in-Err-keep-3-clause-err c =
    range_least c.args.version (view c.args.tree.now) c.in_default.ensures.ok c.in_default-keep.ensures.ok c.in_default-keep-2.ensures.ok c.in-Err-keep-3.ensures.err.0
    ∙ ap (λ k. Some (rule_of k)) (sym c.in-Err-keep-3.ensures.err.1)
