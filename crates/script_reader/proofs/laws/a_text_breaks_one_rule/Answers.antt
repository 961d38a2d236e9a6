use Rattle.script_reader.proofs.One.{same_rule}
use Rattle.script_reader.proofs.laws.a_text_breaks_one_rule.Goals as goal

pub returns : goal.returns
returns c = λ tick d roster groups one other some first second. same_rule tick some d roster groups one other first second
