use Rattle.std.proofs.Common.{◌≡◌, ℕ, ◌+◌, max, sym, subst, arith}
use Rattle.scenario.specs.Setup.{member_count}
use Rattle.meaning.specs.Trips.{round_trip, IsGreatestBelow}
use Rattle.meaning.proofs.Greatest.{one_sender_more, all_pairs}
use Rattle.meaning.proofs.trips.greatest_round_trip.Goals as goal

pub loop-from-preserved : goal.loop-from-preserved
loop-from-preserved c =
    let from = c.loop-from.from in
    let n = member_count c.args.scenario.now in
    let trip : ℕ → ℕ → ℕ = round_trip c.args.scenario.now in
    let is : c.max-greatest.result ≡ max c.greatest_from.result c.loop-from.greatest = omega (arith, c.max-greatest.ensures) in
    record {
      value = subst (λ g. IsGreatestBelow trip n (from + 1) g) (sym is) (one_sender_more trip n from c.loop-from.greatest c.greatest_from.result c.loop-from.invariant.value c.greatest_from.ensures.value);
      short = omega (arith, c.max-greatest.ensures, c.greatest_from.ensures.short, c.loop-from.invariant.short);
    }

pub returns-clause-value : goal.returns-clause-value
returns-clause-value c =
    all_pairs (round_trip c.args.scenario.now) (member_count c.args.scenario.now) c.loop-from.from c.loop-from.greatest c.loop-from.invariant.value
    (omega (arith, c.loop-from-test.false, c.loop-from.auto.from-end, c.members-from-end.ensures.count))
