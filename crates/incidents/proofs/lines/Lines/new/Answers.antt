use Rattle.incidents.proofs.Listing.{no_lines}
use Rattle.incidents.proofs.lines.Lines.new.Goals as goal

pub returns : goal.returns
returns c = no_lines _ c.args.count c.new-2.ensures.items c.in_ok-open_places.ensures.none c.in_ok-open_places.ensures.room
