use Rattle.std.proofs.Common.{◌≡◌, ◌∙◌, ap, sym, refl, subst}
use Rattle.json.specs.Value.{value_view}
use Rattle.scenario.specs.Setup.{name_of}
use Rattle.drive_answers.specs.Said.{SaysSend}
use Rattle.drive_answers.specs.Answer.{to_nobody, itself}
use Rattle.drive_answers.proofs.Whole.{is_same}
use Rattle.drive_answers.proofs.answer.send_of.Goals as goal

pub returns-in_default-clause-refused : goal.returns-in_default-clause-refused
returns-in_default-clause-refused c =
    let said = c.args.said.now in
    to_nobody said.what said.to.now said.value said.stream c.requires.said (c.in_default.ensures.none refl)

pub returns-then-eq-clause-refused : goal.returns-then-eq-clause-refused
returns-then-eq-clause-refused c =
    let said = c.args.said.now in
    let is : c.in-Some.to ≡ c.args.member = is_same c.in-Some.to c.args.member (sym c.eq.ensures ∙ c.if-eq.true) in
    itself said.what said.value said.stream
    (subst (λ to. SaysSend (value_view c.args.item.now) said.what to said.value said.stream) (sym c.in-Some.ensures.named ∙ ap (name_of c.args.scenario.now) is) c.requires.said)
