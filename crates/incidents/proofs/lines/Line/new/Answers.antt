use Rattle.std.proofs.Common.{refl}
use Rattle.incidents.proofs.Living.{line_new}
use Rattle.incidents.proofs.lines.Line.new.Goals as goal

pub returns : goal.returns
returns c rows = line_new c.args.count _ rows c.args.row.now refl refl c.in_ok-holders.ensures.len c.in_ok-holders.ensures.none
