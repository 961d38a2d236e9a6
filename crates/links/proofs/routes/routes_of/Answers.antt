use Rattle.std.proofs.Common.{arith}
use Rattle.links.proofs.Maps.{routes_more, number_small, no_number, no_path}
use Rattle.links.proofs.routes.routes_of.Goals as goal

pub loop-path-init : goal.loop-path-init
loop-path-init c = record {
  small = λ from to. let none = no_number c.new.result.items from to c.new.ensures.items in omega (arith, none);
  last = λ link from to. no_path c.new.result.items c.new-2.result.items link from to c.new.ensures.items;
}

pub loop-path-preserved : goal.loop-path-preserved
loop-path-preserved c = let numbers = c.in_ok-number.ensures in record {
  small = λ from to. number_small c.loop-path.routes.rows.items c.number_path.new.rows.items c.loop-path.routes.links.items c.number_of.new.links.items _ _ from to
      numbers.kept numbers.numbered.0 (c.in_ok-number_path.ensures from to) (c.loop-path.invariant.small from to);
  last = λ link from to. routes_more c.loop-path.routes.rows.items c.number_path.new.rows.items c.loop-path.routes.links.items c.number_of.new.links.items c.args.paths.now c.loop-path.path-index _ _
      link from to c.loop-path-test.true numbers.kept numbers.numbered.1 (c.in_ok-number_path.ensures from to) (c.loop-path.invariant.small from to) (c.loop-path.invariant.last link from to);
}
