use Rattle.std.proofs.Common.{Some, None, sym, ◌∙◌}
use Rattle.links.proofs.Calendars.{uncut}
use Rattle.links.proofs.table.Links.may_be_cut.Goals as goal

pub returns-in-Some : goal.returns-in-Some
returns-in-Some c =
    let links = c.args.self.now in
    λ denied. uncut links.cut_calendar links.groups.items links.outages.entries c.args.from c.args.to c.args.at (Some c.in-Some.pair) links.cuts_noted (sym c.in-Some.is ∙ c.pair.ensures) (sym c.may_be_in.ensures ∙ denied)

pub returns-in-None : goal.returns-in-None
returns-in-None c =
    let links = c.args.self.now in
    λ same. uncut links.cut_calendar links.groups.items links.outages.entries c.args.from c.args.to c.args.at None links.cuts_noted (sym c.in-None.is ∙ c.pair.ensures) tt
