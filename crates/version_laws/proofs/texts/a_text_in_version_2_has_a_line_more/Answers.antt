use Rattle.std.proofs.Common.{sym, ◌∙◌}
use Rattle.member_laws.proofs.Leaves.{tells_of_none}
use Rattle.scenario_reader.proofs.Chain.{answered_as_document}
use Rattle.version_laws.proofs.Runs.{run_stays, same_trace}
use Rattle.version_laws.proofs.Reports.{one_line_more}
use Rattle.version_laws.proofs.Documents.{text_stays, no_leaves}
use Rattle.version_laws.proofs.texts.a_text_in_version_2_has_a_line_more.Goals as goal

pub returns : goal.returns
returns c bytes changed tree s rows read read_too first ok run = (
  text_stays bytes changed tree s read read_too first ok,
  run_stays s first rows run,
  same_trace s rows,
  one_line_more s rows first (tells_of_none s (no_leaves tree s first (sym (answered_as_document bytes tree read) ∙ ok)) rows run),
)
