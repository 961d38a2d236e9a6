use Rattle.member.specs.Here.{HoldsMembers}
use Rattle.member.specs.StateOf.{state_of}
use Rattle.test_inside.proofs.strays_tests.handle_all.Given as goal

abbrev pub invariant-loop-step : goal.invariant-loop-step
invariant-loop-step g l = HoldsMembers l.scenario l.oneself (state_of l.member)
