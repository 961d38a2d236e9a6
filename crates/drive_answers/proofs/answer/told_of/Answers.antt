use Rattle.std.proofs.Common.{refl, subst}
use Rattle.std.specs.Option.{option_map}
use Rattle.json.specs.Value.{value_view}
use Rattle.drive_answers.specs.Said.{SaysRow}
use Rattle.drive_answers.specs.Answer.{about_nobody}
use Rattle.drive_answers.proofs.answer.told_of.Goals as goal

pub returns-in-None-member_named-clause-refused : goal.returns-in-None-member_named-clause-refused
returns-in-None-member_named-clause-refused c =
    let row = c.args.said.now in
    about_nobody row.what c.in-Some.name.now row.value
    (subst (λ about. SaysRow (value_view c.args.item.now) row.what (option_map (λ t. t.now) about) row.value) c.in-Some.is c.requires)
    (c.in-None-member_named.ensures.none refl)
