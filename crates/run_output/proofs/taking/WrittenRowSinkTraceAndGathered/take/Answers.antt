use Rattle.std.proofs.Common.{sym, subst}
use Rattle.trace.specs.Text.{rows_text}
use Rattle.trace.proofs.Beginnings.{beginning-none, Keeps-same}
use Rattle.reports.proofs.Faults.{handed_on}
use Rattle.run_output.proofs.Faults.{on_err, on_ok}
use Rattle.run_output.proofs.taking.WrittenRowSinkTraceAndGathered.take.Goals as goal

pub add_all-requires-clause-so_far : goal.add_all-requires-clause-so_far
add_all-requires-clause-so_far g c = (c.args.tallies.now, c.requires.gathered)

pub returns-in_err-add_all-clause-part : goal.returns-in_err-add_all-clause-part
returns-in_err-add_all-clause-part g c = on_err c.from_residual.result (beginning-none _ _ (rows_text c.args.scenario.now c.args.rows.now) (Keeps-same _))

pub returns-in_err-add_all-clause-overflow : goal.returns-in_err-add_all-clause-overflow
returns-in_err-add_all-clause-overflow g c = λ is. c.in_err-add_all.ensures.overflow (handed_on _ _ _ c.from_residual.ensures.1 is) c.args.tallies.now c.requires.gathered

pub returns-clause-gathered : goal.returns-clause-gathered
returns-clause-gathered g c =
    on_ok c.write_taken.result (λ same. subst (g.G.RowObserver.has c.add_all.new.self c.args.scenario.now) (sym same) (c.in_ok-add_all.ensures.ok c.args.tallies.now c.requires.gathered))
    c.write_taken.ensures.tallied
