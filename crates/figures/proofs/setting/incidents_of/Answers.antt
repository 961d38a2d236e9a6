use Rattle.std.proofs.Common.{◌∙◌, sym}
use Rattle.std.proofs.lemmas.List.{nil_from_length}
use Rattle.figures.proofs.setting.incidents_of.Goals as goal

pub returns-then-runs-eq0 : goal.returns-then-runs-eq0
returns-then-runs-eq0 c runs are = nil_from_length runs (sym (c.runs.ensures ∙ are.all) ∙ c.if-runs-eq0.true)
