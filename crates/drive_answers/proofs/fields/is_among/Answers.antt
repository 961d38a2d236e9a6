use Rattle.std.proofs.Common.{◌∙◌, sym, arith}
use Rattle.std.specs.Str.{bytes_eq}
use Rattle.drive_answers.proofs.Walking.{any_here, any_past}
use Rattle.drive_answers.proofs.fields.is_among.Goals as goal

pub returns-then-eq : goal.returns-then-eq
returns-then-eq c = sym (any_here (bytes_eq c.args.name.now) c.args.names.now c.loop-other.other-index _ (omega arith) (sym c.if-eq.ensures)) ∙ c.loop-other.invariant

pub loop-other-preserved : goal.loop-other-preserved
loop-other-preserved c = any_past (bytes_eq c.args.name.now) c.args.names.now c.loop-other.other-index _ (omega arith) (sym c.if-eq.ensures) ∙ c.loop-other.invariant
