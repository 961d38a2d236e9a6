use Rattle.std.proofs.Common.{nat_eq, ap, ◌∙◌, sym}
use Rattle.windows.specs.WorldOf.{world_of}
use Rattle.test_inside.proofs.Opened.{same_own}
use Rattle.test_inside.proofs.part_tests.window.Goals as goal

pub returns-clause-single : goal.returns-clause-single
returns-clause-single g c m =
    same_own c.args.scenario.now _ (world_of g.Q.EventQueue.set c.args.part) (world_of g.Q.EventQueue.set c.in-Ok-run.done.part) _ _ c.in-Ok-run.ensures.ok m
    ∙ c.requires.single m ∙ ap (nat_eq m) (sym c.in-Ok-run.ensures.number)
