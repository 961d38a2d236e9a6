use Rattle.plain_document.proofs.Held.{text_holds_document}
use Rattle.plain_document.proofs.laws.a_plain_text_holds_its_document.Goals as goal

pub returns : goal.returns
returns c = λ tick d places sections parts lines ordered listed are. text_holds_document tick d places sections parts lines ordered listed are
