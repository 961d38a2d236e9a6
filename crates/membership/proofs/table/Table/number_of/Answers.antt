use Rattle.std.proofs.Common.{◌≡◌, ap, ◌∙◌, sym, slice_index}
use Rattle.std.specs.Option.{option_map_or}
use Rattle.std.specs.FinMap.{get}
use Rattle.membership.specs.Numbers.{numbers_of}
use Rattle.membership.specs.Held.{claims_in}
use Rattle.membership.proofs.Columns.{held_at_none}
use Rattle.membership.proofs.table.Table.number_of.Goals as goal

pub returns-then-at-eq0 : goal.returns-then-at-eq0
returns-then-at-eq0 c =
    let none : slice_index (numbers_of c.self.inside.incs) c.args.member ≡ 0 =
    ap (slice_index (numbers_of c.self.inside.incs)) (sym c.index.ensures) ∙ sym c.at.ensures ∙ c.if-at-eq0.true in
    sym (held_at_none (numbers_of c.self.inside.incs) (claims_in c.self.inside.claims.items) c.args.member none) ∙ ap (λ t. option_map_or (λ held. held.1) (get t c.args.member) 0) c.self.view_is
