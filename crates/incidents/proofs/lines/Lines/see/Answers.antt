use Rattle.std.proofs.Common.{◌∙◌, sym}
use Rattle.incidents.proofs.Listing.{lines_silent}
use Rattle.incidents.proofs.lines.Lines.see.Goals as goal

pub see_own-requires-clause-whom : goal.see_own-requires-clause-whom
see_own-requires-clause-whom c = sym c.whom.ensures ∙ c.in-Some.is

pub returns-in_default-clause-seen : goal.returns-in_default-clause-seen
returns-in_default-clause-seen c count returns few low are = lines_silent c.args.self.now count returns c.args.row.now (sym c.whom.ensures ∙ c.in_default.is) are
