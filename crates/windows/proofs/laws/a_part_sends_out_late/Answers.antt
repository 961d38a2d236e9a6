use Rattle.windows.proofs.Members.{sent_late}
use Rattle.windows.proofs.laws.a_part_sends_out_late.Goals as goal

pub returns : goal.returns
returns c = sent_late
