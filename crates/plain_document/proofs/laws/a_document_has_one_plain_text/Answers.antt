use Rattle.plain_document.proofs.One.{one_document}
use Rattle.plain_document.proofs.laws.a_document_has_one_plain_text.Goals as goal

pub returns : goal.returns
returns c = λ tick d sections parts one other some first second. one_document tick d sections parts one other some first second
