-- Where a drive begins it is on its way.
use Rattle.std.proofs.Common.{◌≡◌, length, sym, subst}
use Rattle.std.specs.List.{AllByRecursion}
use Rattle.scenario.specs.Setup.{Setup, member_count}
use Rattle.drive_world.specs.declared.world.World.{World as Held}
use Rattle.drive_world.specs.Courses.{at_first}
use Rattle.drive_world.specs.DriveOf.{drive_of, IsPeopled}
use Rattle.drive_world.specs.Telling.{Drive}
use Rattle.drive_world.specs.Turns.{Waits, IsOnWay}
use Rattle.drive_world.proofs.People.{opening_people, opening_senders}

pub opening_way : (s : Setup) (w : Held) → drive_of w ≡ at_first s → length w.waiting.busy.items ≡ member_count s → IsOnWay s w
opening_way s w first places = record {
  people = subst (λ (d : Drive). IsPeopled s d.world) (sym first) (record { receivers = opening_people s; senders = opening_senders s });
  places = places;
  waits = subst (λ (d : Drive). AllByRecursion (Waits s.end d.world) d.waiting) (sym first) tt;
}
