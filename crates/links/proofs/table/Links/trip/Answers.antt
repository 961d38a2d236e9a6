use Rattle.std.proofs.Common.{◌≡◌, ℕ, ◌+◌, ◌-◌, ◌*◌, ◌^◌, refl, sym, ap, ◌∙◌, arith}
use Rattle.std.proofs.Math.Nat.{mul-zero}
use Rattle.streams.specs.Draw.{words_of}
use Rattle.links.specs.Trips.{trip_of, tried_of}
use Rattle.links.proofs.Tries.{one_lost, one_came, waits_more, waits_few}
use Rattle.links.proofs.table.Links.trip.Goals as goal

pub loop-left-init : goal.loop-left-init
loop-left-init c = record {
  few = omega arith;
  short = omega arith;
  waited = sym (mul-zero c.args.wait);
  drawn = λ s are sender receiver. refl;
}

pub loop-left-preserved : goal.loop-left-preserved
loop-left-preserved c =
    let inv = c.loop-left.invariant in
    let left = c.loop-left.left in
    let few = inv.few in
    let some = c.loop-left-test.true in
    let up : 8 - left + 1 ≡ 8 - (left - 1) = omega (arith, some, few) in
    let waits : 2 * c.loop-left.waited + c.args.wait ≡ c.args.wait * (2 ^ (8 - (left - 1)) - 1) =
    waits_more c.args.wait (8 - left) c.loop-left.waited inv.waited ∙ ap (λ (k : ℕ). c.args.wait * (2 ^ k - 1)) up in
    let short = waits_few c.args.wait (8 - (left - 1)) c.requires.short (omega arith) in
    record {
      few = omega (arith, few);
      short = omega (arith, waits, short);
      waited = waits;
      drawn = λ s are sender receiver.
          one_lost s c.args.from c.args.to c.args.now c.args.wait left c.loop-left.waited c.ticks.result (words_of c.loop-left.stream) (words_of c.try_once.new.stream) c.try_once.result
          some inv.waited c.ticks.ensures (c.try_once.ensures.drawn s are sender receiver) few c.in_default.is
          ∙ inv.drawn s are sender receiver;
    }

pub returns-in-Some-clause-drawn : goal.returns-in-Some-clause-drawn
unfolding trip_of
returns-in-Some-clause-drawn c = λ s are sender receiver.
    one_came s c.args.from c.args.to c.args.now c.args.wait c.loop-left.left c.loop-left.waited c.ticks.result (words_of c.loop-left.stream) (words_of c.try_once.new.stream) c.try_once.result
    c.loop-left-test.true c.loop-left.invariant.waited c.ticks.ensures (c.try_once.ensures.drawn s are sender receiver) c.in-Some.there c.in-Some.is
    ∙ c.loop-left.invariant.drawn s are sender receiver

pub returns-clause-drawn : goal.returns-clause-drawn
unfolding trip_of
returns-clause-drawn c = λ s are sender receiver.
    let none : c.loop-left.left ≡ 0 = omega (arith, c.loop-left-test.false) in
    ap (λ (n : ℕ). tried_of s c.args.from c.args.to c.args.now c.args.wait (8 - n) n (words_of c.loop-left.stream)) (sym none)
    ∙ c.loop-left.invariant.drawn s are sender receiver
