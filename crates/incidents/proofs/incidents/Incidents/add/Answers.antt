use Rattle.std.proofs.Common.{◌∙◌, ◌++◌, ◌∷◌, [], sym, subst, arith}
use Rattle.incidents.specs.Observed.{AreIncidentsOf}
use Rattle.incidents.proofs.Passing.{passed_more}
use Rattle.incidents.proofs.incidents.Incidents.add.Goals as goal

pub returns-then-reports_nothing-clause-ok : goal.returns-then-reports_nothing-clause-ok
returns-then-reports_nothing-clause-ok c rows are =
    subst (λ kept. AreIncidentsOf kept (rows ++ c.args.row.now ∷ [])) (sym c.pass.ensures)
    (passed_more c.args.self.now rows c.args.row.now (sym c.reports_nothing.ensures ∙ c.if-reports_nothing.true) (omega (arith, c.if-self-ge-COUNTER_LIMIT.false)) are)
