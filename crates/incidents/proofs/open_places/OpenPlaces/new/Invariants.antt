use Rattle.std.proofs.Common.{◌≡◌, ℕ, [], length}
use Rattle.incidents.specs.OpenPlaces.{places_in}
use Rattle.incidents.proofs.open_places.OpenPlaces.new.Given as goal

-- there are so many lists, without places
abbrev pub invariant-loop-place : goal.invariant-loop-place
invariant-loop-place l = record {
  room : length l.of_members.items ≡ l._place;
  none : (m : ℕ) → places_in l.of_members.items m ≡ [];
}
