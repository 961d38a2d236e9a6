use Rattle.std.proofs.Common.{refl}
use Rattle.std.specs.Fmt.{digits}
use Rattle.presets.proofs.LinesOfRows.{each_preset}
use Rattle.presets.proofs.rows.cut_rows.Goals as goal

pub returns : goal.returns
unfolding digits
returns c = record { settings = each_preset _ refl refl refl refl refl refl refl refl; on_line = refl }
