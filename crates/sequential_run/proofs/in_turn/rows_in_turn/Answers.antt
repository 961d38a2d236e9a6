use Rattle.std.proofs.Common.{IfOk, sym, subst}
use Rattle.std.proofs.lemmas.Result.{IfOk-weaker}
use Rattle.member_laws.specs.Runs.{IsRunOf}
use Rattle.windows.specs.declared.cluster.Cluster.{Cluster}
use Rattle.windows.specs.Cluster.{IsLeastDelay}
use Rattle.turns.proofs.Goes.{is_least, names_run}
use Rattle.sequential_run.proofs.in_turn.rows_in_turn.Goals as goal

pub returns-clause-run : goal.returns-clause-run
returns-clause-run g c = subst (λ (a : Cluster). IfOk c.turns_in_turn.result (λ rows. IsRunOf a.scenario.now rows.items)) c.course_of-course.ensures.cluster c.turns_in_turn.ensures.run

pub returns-clause-named : goal.returns-clause-named
returns-clause-named g c =
    let s = c.args.scenario.now in
    IfOk-weaker c.turns_in_turn.result _ _ (λ rows run. names_run s c.end-end.ensures.sound rows.items (subst (λ (a : Cluster). IsRunOf a.scenario.now rows.items) c.course_of-course.ensures.cluster run)) c.turns_in_turn.ensures.run

pub turns_in_turn-requires-clause-least : goal.turns_in_turn-requires-clause-least
turns_in_turn-requires-clause-least g c = λ loans lives.
    let s = c.args.scenario.now in
    subst (λ (a : Cluster). IsLeastDelay a.scenario.now c.least_delay-least_delay.result) (sym c.course_of-course.ensures.cluster)
    (is_least s c.least_delay-least_delay.result (c.least_delay-least_delay.ensures.reached s c.in_ok-links.ensures) (c.least_delay-least_delay.ensures.least s c.in_ok-links.ensures) (c.least_delay-least_delay.ensures.alone s c.in_ok-links.ensures))
