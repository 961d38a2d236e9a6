use Rattle.text_reader.proofs.One.{one_answer}
use Rattle.text_reader.proofs.laws.a_document_has_one_answer.Goals as goal

pub returns : goal.returns
returns c = λ d one other first second. one_answer d one other first second
