use Rattle.std.proofs.Common.{◌≡◌, ℕ, false, sym, subst, arith}
use Rattle.incidents.specs.Pairs.{has_in}
use Rattle.incidents.proofs.Columns.{column_more}
use Rattle.incidents.proofs.pairs.Pairs.new.Goals as goal

pub loop-place-preserved : goal.loop-place-preserved
loop-place-preserved c = record {
  room = omega (arith, c.loop-place.invariant.room, c.in_ok-push.ensures.len);
  none =
      subst (λ columns. (a b : ℕ) → has_in columns a b ≡ false) (sym c.in_ok-push.ensures.items)
      (column_more c.loop-place.columns.items c.new.result c.new.ensures.empty c.loop-place.invariant.none);
}
