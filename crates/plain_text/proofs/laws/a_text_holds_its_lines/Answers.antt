use Rattle.plain_text.proofs.Holding.{text_holds}
use Rattle.plain_text.proofs.laws.a_text_holds_its_lines.Goals as goal

pub returns : goal.returns
returns c = λ top headings once apart. text_holds top headings once apart
