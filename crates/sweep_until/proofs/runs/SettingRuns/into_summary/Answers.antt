use Rattle.figures.proofs.MetadataWords.{if_ok_then}
use Rattle.sweep_until.proofs.runs.SettingRuns.into_summary.Goals as goal

pub returns : goal.returns
returns c = if_ok_then c.summary.result _ _ c.summary.ensures (λ summary is runs kept. is runs kept.figures)
