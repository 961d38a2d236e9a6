use Rattle.scenario.proofs.Turns.{none_past}
use Rattle.scenario.proofs.division.Division.in_turn.Goals as goal

pub invariant_of-result : goal.invariant_of-result
invariant_of-result c = record {
  some = c.requires.few.0;
  few = c.requires.few.1;
  below = none_past c.members.result c.args.parts c.in_ok-part_of.part_of.items c.requires.few.0 c.in_ok-part_of.ensures;
}
