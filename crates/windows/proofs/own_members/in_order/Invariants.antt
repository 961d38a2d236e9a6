use Rattle.std.proofs.Common.{◌≡◌, ◌<◌, ℕ, length, Some}
use Rattle.windows.specs.ByNumber.{place_at}
use Rattle.windows.proofs.own_members.in_order.Given as goal

abbrev pub invariant-loop-place : goal.invariant-loop-place
invariant-loop-place l = record {
  len : length l.places.items ≡ l.place;
  each : (number : ℕ) → number < l.place → place_at l.places.items number ≡ Some number;
}
