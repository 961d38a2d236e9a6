-- the runs that are asked for, by whether there is a width
use Rattle.std.proofs.Common.{◌∙◌, sym}
use Rattle.toml.specs.View.{view}
use Rattle.sweep_command.specs.Runs.{BeginsAllRuns, MakesRuns}
use Rattle.sweep_command.proofs.Ways.{all_begun, all_made, err_by, few_begun, few_made, ok_by}
use Rattle.sweep_command.proofs.making.make_runs.Goals as goal

pub returns-in-Some-clause-whole : goal.returns-in-Some-clause-whole
returns-in-Some-clause-whole g c =
    ok_by (λ until settings. MakesRuns until (view c.args.document.now) c.args.mark.now c.args.plan.now (g.S.Sink.held c.args.table.now) (g.S.Sink.held c.sweep_until.new.table) settings.items)
    _ _ c.sweep_until.result (sym c.until.ensures.same ∙ c.in-Some.is) c.sweep_until.ensures.whole (λ settings makes. few_made _ _ _ _ _ _ settings.items makes)

pub returns-in-Some-clause-part : goal.returns-in-Some-clause-part
returns-in-Some-clause-part g c =
    err_by (λ until. BeginsAllRuns until (view c.args.document.now) c.args.mark.now c.args.plan.now (g.S.Sink.held c.args.table.now) (g.S.Sink.held c.sweep_until.new.table))
    _ _ c.sweep_until.result (sym c.until.ensures.same ∙ c.in-Some.is) c.sweep_until.ensures.part (few_begun _ _ _ _ _ _)

pub returns-in-None-clause-whole : goal.returns-in-None-clause-whole
returns-in-None-clause-whole g c =
    ok_by (λ until settings. MakesRuns until (view c.args.document.now) c.args.mark.now c.args.plan.now (g.S.Sink.held c.args.table.now) (g.S.Sink.held c.sweep.new.table) settings.items)
    _ _ c.sweep.result (sym c.until.ensures.same ∙ c.in-None.is) c.sweep.ensures.whole (λ settings makes. all_made _ _ _ _ _ settings.items makes)

pub returns-in-None-clause-part : goal.returns-in-None-clause-part
returns-in-None-clause-part g c =
    err_by (λ until. BeginsAllRuns until (view c.args.document.now) c.args.mark.now c.args.plan.now (g.S.Sink.held c.args.table.now) (g.S.Sink.held c.sweep.new.table))
    _ _ c.sweep.result (sym c.until.ensures.same ∙ c.in-None.is) c.sweep.ensures.part (all_begun _ _ _ _ _)

pub sweep_until-requires-clause-most : goal.sweep_until-requires-clause-most
sweep_until-requires-clause-most g c _ _ = (c.requires.asked.asked.width c.in-Some.width (sym c.until.ensures.same ∙ c.in-Some.is)).most
