use Rattle.std.proofs.Common.{◌≡◌, ◌<◌, ◌≤◌, None, length, length-set, set, ap, ◌∙◌, refl, sym, arith}
use Rattle.std.specs.FinMap.{remove}
use Rattle.std.proofs.lemmas.List.{map-set}
use Rattle.membership.specs.Numbers.{numbers_of}
use Rattle.membership.specs.Columns.{entries_from, claim_weight, known_weight}
use Rattle.membership.specs.Table.{known_of}
use Rattle.membership.specs.declared.held.Held.TheVariants.{Nothing}
use Rattle.membership.specs.Held.{claim_of, claims_in}
use Rattle.membership.proofs.Columns.{table_removed, table_unremoved}
use Rattle.membership.proofs.OneByte.{claims_long, sum_set}
use Rattle.membership.proofs.table.Table.remove.Goals as goal

pub returns-then-place-len : goal.returns-then-place-len
returns-then-place-len c =
    let within : c.index-place.result < length (claims_in c.self.inside.claims.items) = omega (arith, claims_long c.self.inside.claims.items, c.if-place-len.true, c.len.ensures) in
    ap (λ l. known_of (entries_from 0 l (numbers_of c.self.inside.incs))) (map-set claim_of c.self.inside.claims.items c.index-place.result Nothing)
    ∙ table_removed (claims_in c.self.inside.claims.items) (numbers_of c.self.inside.incs) c.index-place.result within ∙ ap (remove (known_of (entries_from 0 (claims_in c.self.inside.claims.items) (numbers_of c.self.inside.incs)))) c.index-place.ensures ∙ ap (λ t. remove t c.args.member) c.self.view_is

pub returns-else-place-len : goal.returns-else-place-len
returns-else-place-len c =
    let past : length (claims_in c.self.inside.claims.items) ≤ c.args.member = omega (arith, claims_long c.self.inside.claims.items, c.if-place-len.false, c.len.ensures, c.index-place.ensures) in
    sym c.self.view_is ∙ table_unremoved (claims_in c.self.inside.claims.items) (numbers_of c.self.inside.incs) c.args.member past ∙ ap (λ t. remove t c.args.member) c.self.view_is

pub invariant_of-self : goal.invariant_of-self
invariant_of-self c =
    let held = c.self.inside.claims.items in
    let within : c.index-place.result < length held = omega (arith, c.if-place-len.true, c.len.ensures) in
    let live = sum_set claim_weight held c.index-place.result Nothing c.index.result.now None within c.index.ensures refl in
    let all = sum_set known_weight held c.index-place.result Nothing c.index-then-place-len.result.now None within c.index-then-place-len.ensures refl in
    let none : claim_weight None ≡ 0 = refl in
    let unknown : known_weight None ≡ 0 = refl in
    let live_was = c.weight.ensures ∙ ap claim_weight c.claim_of.ensures in
    let all_was = c.known_weight.ensures ∙ ap known_weight c.claim_of-then-place-len.ensures in
    record {
      few = omega (arith, c.self.invariant.few, claims_long held, claims_long (set held c.index-place.result Nothing), length-set held c.index-place.result Nothing);
      counted = omega (arith, c.self.invariant.counted, live, none, live_was);
      all = omega (arith, c.self.invariant.all, all, unknown, all_was);
    }
