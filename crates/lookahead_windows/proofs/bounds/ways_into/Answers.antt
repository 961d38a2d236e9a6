use Rattle.std.proofs.Common.{◌≡◌, min, subst, arith}
use Rattle.std.specs.Option.{option_map_or}
use Rattle.lookahead_windows.proofs.Ways.{ways_more, ways_lead}
use Rattle.lookahead_windows.proofs.bounds.ways_into.Goals as goal

pub returns-clause-into : goal.returns-clause-into
returns-clause-into c = λ deal divides below horizons. ways_lead c.args.scenario.now c.most_ticks-most.ensures.sound deal c.args.walks.now below horizons c.loop-to.ways.items c.loop-to.invariant.are

pub loop-to-preserved : goal.loop-to-preserved
loop-to-preserved c =
    let is = c.way_into.ensures in
    let ticks = subst (λ most. c.way_into.result ≡ option_map_or (λ length. min length most) is.0 most) c.most_ticks-most.ensures.ticks is.2 in
    record {
      count = omega (arith, c.in_ok-push.ensures.len, c.loop-to.invariant.count);
      are =
          ways_more c.args.scenario.now c.args.walks.now c.loop-to.ways.items c.push.new.self.items c.way_into.result c.loop-to.to c.in_ok-push.ensures.items (omega (arith, c.loop-to.invariant.count))
          c.loop-to.invariant.are (is.0, is.1, ticks);
    }
