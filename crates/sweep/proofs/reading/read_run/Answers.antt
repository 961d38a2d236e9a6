use Rattle.std.proofs.Common.{◌≢◌, ◌∙◌, Err, ap, subst}
use Rattle.toml.specs.View.{view}
use Rattle.sweep_plan.specs.Document.{with_values}
use Rattle.text_reader.specs.Answers.{AnswersDocument}
use Rattle.sweep.specs.Runs.{planned_as}
use Rattle.sweep.proofs.Steps.{refused_for_memory}
use Rattle.sweep.proofs.reading.read_run.Goals as goal

pub memory_of-requires : goal.memory_of-requires
memory_of-requires c =
    let tree = view c.args.document.now in
    let run = c.in_ok-run.run' in
    let refusal = c.in-Err.refusal in
    refused_for_memory tree c.args.plan.now c.args.number (planned_as run.setting.items run.seed) refusal.rule c.requires.judged c.in_ok-run.ensures.run
    (subst (λ d. refusal.rule ≢ 11 → AnswersDocument d (Err refusal.rule)) (c.in_ok-tree.ensures ∙ ap (λ l. with_values tree l run.seed) c.deref.ensures.value) c.in-Err.ensures.refused)
