use Rattle.std.proofs.Common.{◌≡◌, ℕ, ◌+◌, max, sym, subst, arith}
use Rattle.meaning.specs.Trips.{round_trip, IsGreatestFrom}
use Rattle.meaning.proofs.Greatest.{passed_over, taken}
use Rattle.meaning.proofs.trips.greatest_from.Goals as goal
use Rattle.meaning.proofs.trips.greatest_from.Goals.{then-to-from, else-to-from}

pub loop-to-preserved : goal.loop-to-preserved
loop-to-preserved c =
    let from = c.args.from in
    let to = c.loop-to.to in
    let trip : ℕ → ℕ = round_trip c.args.scenario.now from in
    elim c.if-to-from.branch [
      | then-to-from w ↦ (
          let is : c.if-to-from.greatest ≡ max (trip to) c.loop-to.greatest = omega (arith, w.greatest-is, w.max-greatest.ensures, w.round_trip-trip.ensures.value) in
          record {
            value = subst (λ g. IsGreatestFrom trip from (to + 1) g) (sym is) (taken trip from to c.loop-to.greatest c.loop-to.invariant.value w.if-to-from.true);
            short = omega (arith, w.greatest-is, w.max-greatest.ensures, w.round_trip-trip.ensures.short, c.loop-to.invariant.short);
          })
      | else-to-from w ↦ record {
        value = subst (λ g. IsGreatestFrom trip from (to + 1) g) (sym w.greatest-is) (passed_over trip from to c.loop-to.greatest c.loop-to.invariant.value w.if-to-from.false);
        short = omega (arith, w.greatest-is, c.loop-to.invariant.short);
      }
    ]
