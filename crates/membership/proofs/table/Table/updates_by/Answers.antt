use Rattle.std.proofs.Common.{map, ap, ◌∙◌, sym}
use Rattle.membership.specs.Numbers.{numbers_of}
use Rattle.membership.specs.Columns.{entries_from}
use Rattle.membership.specs.Table.{updates_by, update_by}
use Rattle.membership.specs.Held.{claims_in}
use Rattle.membership.proofs.Columns.{if_ok, entries_rise}
use Rattle.membership.proofs.Entries.{updates_by-entries}
use Rattle.membership.proofs.table.Table.updates_by.Goals as goal

pub returns : goal.returns
returns c =
    if_ok c.list_updates.result c.list_updates.ensures (λ updates given.
    given ∙ ap (λ l. map (update_by c.args.accuser) (entries_from 0 (claims_in l) (numbers_of c.self.inside.incs))) c.deref.ensures.value
    ∙ sym (updates_by-entries c.args.accuser (entries_from 0 (claims_in c.self.inside.claims.items) (numbers_of c.self.inside.incs)) (entries_rise (numbers_of c.self.inside.incs) (claims_in c.self.inside.claims.items) 0)) ∙ ap (updates_by c.args.accuser) c.self.view_is)
