use Rattle.std.proofs.Common.{◌∙◌, sym, arith}
use Rattle.std.proofs.lemmas.List.{at_drop_all}
use Rattle.toml_places.specs.Places.{line_from, column_from}
use Rattle.toml_places.proofs.position.position_after.Goals as goal

pub returns-clause-line : goal.returns-clause-line
returns-clause-line c =
    sym (at_drop_all (λ rest. line_from c.loop-i.line rest) c.args.before.now c.loop-i.i (omega arith)) ∙ c.loop-i.invariant.lines

pub returns-clause-column : goal.returns-clause-column
returns-clause-column c =
    sym (at_drop_all (λ rest. column_from c.loop-i.column rest) c.args.before.now c.loop-i.i (omega arith)) ∙ c.loop-i.invariant.columns
