use Rattle.std.proofs.Common.{rules, ◌≡◌, length}
use Rattle.std.proofs.lemmas.Result.{IfErr-weaker}
use Rattle.scenario.specs.Setup.{member_count}
use Rattle.decimals.specs.Items.{list_items}
use Rattle.command_line.specs.Division.{past_greatest}
use Rattle.command_line.proofs.Parts.{listed, faultless}
use Rattle.command_line.proofs.division.deal_by_list.Goals as goal

pub returns-clause-refused : goal.returns-clause-refused
returns-clause-refused c =
    let members = member_count c.args.scenario.now in
    let items = list_items c.args.list.now in
    let numbers = c.in-Ok.part_of.items in
    let each : length items ≡ members = search rules in
    let parts : c.past_greatest-parts.result ≡ past_greatest numbers = search rules in
    let division = listed members c.past_greatest-parts.result items numbers parts each c.in-Ok.ensures.numbers in
    IfErr-weaker c.divide.result _ _ (λ failure h. absurd (faultless _ _ division failure h)) c.divide.ensures.refused
