-- the text that was made is the page
use Rattle.std.proofs.lemmas.Result.{IfOk-weaker}
use Rattle.page_runs.proofs.paging.page_of.Goals as goal

pub returns : goal.returns
returns c = IfOk-weaker c.page.result _ _ (λ text made. record { lanes = made.0; all = made.1; ordered = made.2; is = made.3 }) c.page.ensures
