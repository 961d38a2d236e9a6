use Rattle.plain_document.proofs.Stays.{document_stays}
use Rattle.plain_document.proofs.laws.plain_documents_stay.Goals as goal

pub returns : goal.returns
returns c = λ tick d sections parts lines stays are. document_stays tick d sections parts lines stays are
