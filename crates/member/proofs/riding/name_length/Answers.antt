use Rattle.std.proofs.Common.{length, ap, sym, arith}
use Rattle.trace.proofs.ShortFields.{name_short}
use Rattle.member.proofs.Names.{no_name}
use Rattle.member.proofs.riding.name_length.Goals as goal

pub overflow_cast-result : goal.overflow_cast-result
overflow_cast-result c = omega (arith, name_short c.args.scenario.now c.name.ensures.sound c.args.member, ap length c.name.ensures.value)

pub returns-else-index-members : goal.returns-else-index-members
returns-else-index-members c = sym (no_name c.args.scenario.now c.args.member (omega arith))
