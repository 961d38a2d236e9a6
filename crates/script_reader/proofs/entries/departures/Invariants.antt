use Rattle.std.proofs.Common.{◌≡◌, map, take}
use Rattle.std.specs.Prelude.{All}
use Rattle.plain_entries.specs.Departures.{IsDepartureTime}
use Rattle.plain_entries.specs.Entries.{IsEntry}
use Rattle.script_reader.specs.Who.{member_total}
use Rattle.script_reader.specs.Entries.{said, departure_said}
use Rattle.script_reader.proofs.entries.departures.Given as goal

abbrev pub invariant-loop-it : goal.invariant-loop-it
invariant-loop-it l = record {
  said : map said l.made.items ≡ map (departure_said l.roster l.groups) (take l.it-index l.items);
  sound : All (IsEntry IsDepartureTime (member_total l.groups)) l.made.items;
}
