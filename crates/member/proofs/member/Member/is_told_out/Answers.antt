use Rattle.member.proofs.Samples.{told_out}
use Rattle.member.proofs.member.Member.is_told_out.Goals as goal

pub returns : goal.returns
returns c = told_out c.is_empty.result c.args.self.now.buffer c.is_empty.ensures
