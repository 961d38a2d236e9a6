use Rattle.toml.specs.View.{view}
use Rattle.std.proofs.Common.{sym}
use Rattle.schema.proofs.Once.{shape_kept}
use Rattle.schema.proofs.shape.check_shape.Goals as goal

pub returns-clause-kept : goal.returns-clause-kept
returns-clause-kept c = shape_kept c.args.version (view c.args.tree.now) (sym c.if-is_broken.ensures)
