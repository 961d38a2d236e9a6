use Rattle.std.proofs.Common.{map, ap, ◌∙◌}
use Rattle.std.proofs.lemmas.Result.{IfOk-weaker}
use Rattle.clap.specs.Words.{found_of, rows_of}
use Rattle.command_line.proofs.Widths.{no_plan, plans}
use Rattle.command_line.proofs.sweeping.plan_asked.Goals as goal

pub returns-in-Ok-clause-plan : goal.returns-in-Ok-clause-plan
returns-in-Ok-clause-plan c =
    let set = ap (map (λ word. word.now)) c.as_slice.ensures.value ∙ c.in-Ok.ensures in
    IfOk-weaker c.read_plan.result _ _
    (λ plan h. plans (rows_of (found_of c.args.sweep.now)) _ _ _ plan set c.value_of.ensures c.in_ok-until.ensures.width h) c.read_plan.ensures.plan

pub returns-in-Ok-clause-usage : goal.returns-in-Ok-clause-usage
returns-in-Ok-clause-usage c e plan h =
    let set = ap (map (λ word. word.now)) c.as_slice.ensures.value ∙ c.in-Ok.ensures in
    no_plan (rows_of (found_of c.args.sweep.now)) _ _ _ set c.value_of.ensures c.in_ok-until.ensures.width (c.read_plan.ensures.usage e) plan h
