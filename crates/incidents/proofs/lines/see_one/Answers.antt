use Rattle.std.proofs.Common.{◌∙◌, sym, subst}
use Rattle.std.proofs.lemmas.List.{get_or-set_same, get_or-set_other}
use Rattle.incidents.specs.Lines.{and_later, IsLineOf}
use Rattle.incidents.proofs.Listing.{same_default}
use Rattle.incidents.proofs.lines.see_one.Goals as goal

pub returns-clause-here : goal.returns-clause-here
returns-clause-here c count p d few low is =
    let items = c.args.lines.now.items in
    let place = c.args.place in
    let row = c.args.row.now in
    subst (λ l. IsLineOf count l (and_later row p)) (sym (get_or-set_same items place c.see.new.self d c.requires))
    (c.see.ensures count p few low (subst (λ l. IsLineOf count l p) (same_default items place d c.index_mut.result.now c.requires ∙ sym c.index_mut.ensures.value) is))

pub returns-clause-left : goal.returns-clause-left
returns-clause-left c k d other = get_or-set_other c.args.lines.now.items c.args.place k c.see.new.self d other
