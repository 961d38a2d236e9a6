use Rattle.std.proofs.Common.{ap, ◌∙◌, sym}
use Rattle.membership.specs.Numbers.{numbers_of}
use Rattle.membership.specs.Columns.{entries_from}
use Rattle.membership.specs.Table.{alive_but}
use Rattle.membership.specs.Held.{claims_in}
use Rattle.membership.proofs.Columns.{if_ok, up_in, entries_rise}
use Rattle.membership.proofs.Entries.{alive_but-entries}
use Rattle.membership.proofs.table.Table.alive_but.Goals as goal

pub returns : goal.returns
returns c =
    if_ok c.list_alive_but.result c.list_alive_but.ensures (λ members given.
    given (numbers_of c.self.inside.incs) ∙ ap (λ l. up_in c.args.member (claims_in l) (numbers_of c.self.inside.incs)) c.deref.ensures.value ∙ sym (alive_but-entries c.args.member (entries_from 0 (claims_in c.self.inside.claims.items) (numbers_of c.self.inside.incs)) (entries_rise (numbers_of c.self.inside.incs) (claims_in c.self.inside.claims.items) 0)) ∙ ap (alive_but c.args.member) c.self.view_is)
