use Rattle.std.proofs.Common.{◌≡◌, ℕ, [], sym, subst, arith}
use Rattle.incidents.specs.OpenPlaces.{places_in}
use Rattle.incidents.proofs.Listing.{none_more}
use Rattle.incidents.proofs.open_places.OpenPlaces.new.Goals as goal

pub loop-place-preserved : goal.loop-place-preserved
loop-place-preserved c = record {
  room = omega (arith, c.loop-place.invariant.room, c.in_ok-push.ensures.len);
  none =
      subst (λ all. (m : ℕ) → places_in all m ≡ []) (sym c.in_ok-push.ensures.items)
      (none_more c.loop-place.of_members.items c.new.result c.new.ensures.items c.loop-place.invariant.none);
}
