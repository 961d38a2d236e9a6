use Rattle.std.proofs.Common.{◌<◌, ◌≤◌, Some, length, ap, ◌∙◌, sym, arith}
use Rattle.std.specs.Option.{option_map}
use Rattle.std.specs.FinMap.{get}
use Rattle.membership.specs.Numbers.{numbers_of}
use Rattle.membership.specs.Columns.{entries_from}
use Rattle.membership.specs.Table.{known_of}
use Rattle.membership.specs.Held.{claims_in}
use Rattle.membership.proofs.Columns.{none_past, get_read}
use Rattle.membership.proofs.OneByte.{claims_long}
use Rattle.membership.proofs.table.Table.get.Goals as goal

pub returns-then-len-place : goal.returns-then-len-place
returns-then-len-place c =
    let past : length (claims_in c.self.inside.claims.items) ≤ c.args.member = omega (arith, claims_long c.self.inside.claims.items, c.if-len-place.true, c.len.ensures, c.index-place.ensures) in
    sym (none_past (claims_in c.self.inside.claims.items) (numbers_of c.self.inside.incs) c.args.member past) ∙ ap (λ t. get t c.args.member) c.self.view_is

pub returns-in_err-claim : goal.returns-in_err-claim
returns-in_err-claim c =
    let within : c.index-place.result < length c.self.inside.claims.items = omega (arith, c.if-len-place.false, c.len.ensures) in
    c.from_residual.ensures ∙ ap (option_map _) (sym c.in_err-claim.was) ∙ ap (option_map _) c.claim_of.ensures ∙ sym (get_read c.self.inside.claims.items (numbers_of c.self.inside.incs) c.index-place.result c.index.result.now within c.index.ensures)
    ∙ ap (get (known_of (entries_from 0 (claims_in c.self.inside.claims.items) (numbers_of c.self.inside.incs)))) c.index-place.ensures ∙ ap (λ t. get t c.args.member) c.self.view_is

pub returns : goal.returns
returns c =
    let within : c.index-place.result < length c.self.inside.claims.items = omega (arith, c.if-len-place.false, c.len.ensures) in
    ap (λ n. Some (c.in_ok-claim.claim, n)) c.at.ensures ∙ ap (option_map _) (sym c.in_ok-claim.was) ∙ ap (option_map _) c.claim_of.ensures
    ∙ sym (get_read c.self.inside.claims.items (numbers_of c.self.inside.incs) c.index-place.result c.index.result.now within c.index.ensures) ∙ ap (get (known_of (entries_from 0 (claims_in c.self.inside.claims.items) (numbers_of c.self.inside.incs)))) c.index-place.ensures
    ∙ ap (λ t. get t c.args.member) c.self.view_is
