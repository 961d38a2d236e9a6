use Rattle.std.proofs.lemmas.Result.{IfOk-weaker}
use Rattle.diagnostic_text.proofs.Values.{tells_rule, tells_shallow}
use Rattle.diagnostic_text.proofs.as_json.diagnostic_value.Goals as goal

pub returns-clause-rule : goal.returns-clause-rule
returns-clause-rule c = IfOk-weaker c.object.result _ _ (λ v is. tells_rule _ _ _ _ _ _ is) c.object.ensures

pub returns-clause-shallow : goal.returns-clause-shallow
returns-clause-shallow c = IfOk-weaker c.object.result _ _ (λ v is. tells_shallow _ _ _ _ _ _ is) c.object.ensures
