use Rattle.std.proofs.Common.{◌≡◌, length, take}
use Rattle.incidents.specs.OpenPlaces.{places_of}
use Rattle.incidents.specs.Lines.{AreSeen, AreLeft}
use Rattle.incidents.proofs.lines.see_open.Given as goal

-- the lines at the places so far have seen the row, the others are as they were
abbrev pub invariant-loop-nth : goal.invariant-loop-nth
invariant-loop-nth l = record {
  long : length l.lines.items ≡ length l.fn.lines.items;
  seen : AreSeen l.row l.fn.lines.items l.lines.items (take l.nth (places_of l.open_places l.member));
  left : AreLeft l.fn.lines.items l.lines.items (take l.nth (places_of l.open_places l.member));
}
