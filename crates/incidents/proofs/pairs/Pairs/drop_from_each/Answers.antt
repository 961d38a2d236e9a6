use Rattle.std.proofs.Common.{◌∙◌, refl}
use Rattle.incidents.specs.Pairs.{has}
use Rattle.incidents.proofs.Columns.{none_dropped, one_dropped}
use Rattle.incidents.proofs.pairs.Pairs.drop_from_each.Goals as goal

pub loop-place-init : goal.loop-place-init
loop-place-init c = record {
  room = refl;
  dropped = none_dropped c.args.first (has c.args.self.now);
}

pub loop-place-preserved : goal.loop-place-preserved
loop-place-preserved c = record {
  room = c.take_out.ensures.room ∙ c.loop-place.invariant.room;
  dropped = one_dropped c.args.first c.loop-place.place (has c.args.self.now) (has c.loop-place.self) (has c.take_out.new.self) c.loop-place.invariant.dropped c.take_out.ensures.out;
}
