use Rattle.std.proofs.Common.{◌++◌, ◌∷◌, [], ◌^◌, take, append-nil, append_assoc, ap, ◌∙◌, sym, subst, arith}
use Rattle.std.proofs.lemmas.List.{take_more}
use Rattle.reports.proofs.Faults.{handed_on}
use Rattle.reports.proofs.Places.{fewer}
use Rattle.series.specs.Series.{AreSeriesOf}
use Rattle.page_runs.proofs.page_series.PageSeriesRowObserver.add_all.Goals as goal

pub loop-row-init : goal.loop-row-init
loop-row-init c = λ before has. subst (AreSeriesOf c.args.scenario.now c.args.self.now.series) (sym (append-nil before)) has

pub add-requires-clause-gathered : goal.add-requires-clause-gathered
add-requires-clause-gathered c = (c.requires.so_far.0 ++ take c.loop-row.row-index c.args.rows.now, c.loop-row.invariant c.requires.so_far.0 c.requires.so_far.1)

pub loop-row-preserved : goal.loop-row-preserved
loop-row-preserved c = λ before has.
    let so_far = take c.loop-row.row-index c.args.rows.now in
    subst (AreSeriesOf c.args.scenario.now c.add.new.self)
    (append_assoc before so_far (c.row-item.result ∷ []) ∙ ap (λ l. before ++ l) (sym (take_more c.args.rows.now c.loop-row.row-index c.row-item.result (omega arith) ∙ ap (λ r. so_far ++ r ∷ []) (sym c.row-item.is))))
    (c.in_ok-add.ensures.ok (before ++ so_far) (c.loop-row.invariant before has))

pub returns-in_err-add-clause-overflow : goal.returns-in_err-add-clause-overflow
returns-in_err-add-clause-overflow c = λ is before has.
    fewer before c.args.rows.now c.loop-row.row-index (2 ^ 63) c.loop-row-test.true
    (c.in_err-add.ensures.overflow (handed_on c.from_residual.result _ _ c.from_residual.ensures.1 is) (before ++ take c.loop-row.row-index c.args.rows.now) (c.loop-row.invariant before has))
