use Rattle.std.proofs.Common.{◌∙◌, ap, drop, subst}
use Rattle.std.specs.Prelude.{IfOk}
use Rattle.json.specs.Value.{items_view}
use Rattle.drive_answers.specs.Modes.{texts_of}
use Rattle.drive_answers.specs.Answer.{SaysActions}
use Rattle.drive_answers.proofs.answer.said_of.Goals as goal

pub returns-in-Ok-clause-said : goal.returns-in-Ok-clause-said
returns-in-Ok-clause-said c =
    let texts = c.behind_first-behind.ensures ∙ ap (λ xs. drop 1 (texts_of xs)) c.as_slice.ensures.value ∙ ap (drop 1) c.in-Ok.ensures in
    subst (λ ps. IfOk c.actions_of.result (λ actions. SaysActions c.args.scenario.now c.args.member (items_view c.args.items.now) ps actions.items)) texts c.actions_of.ensures.said
