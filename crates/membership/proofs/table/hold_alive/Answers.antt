use Rattle.std.proofs.Common.{◌<◌, [], length, ap, refl, ◌∙◌, arith}
use Rattle.std.specs.FinMap.{insert}
use Rattle.std.proofs.lemmas.List.{get_or_read}
use Rattle.incarnation.specs.declared.Claim.TheVariants.{Alive}
use Rattle.membership.specs.Columns.{entries_from}
use Rattle.membership.specs.Table.{known_of}
use Rattle.membership.specs.Held.{claims_in}
use Rattle.membership.proofs.Alive.{alive_next}
use Rattle.membership.proofs.Columns.{nobody_held, nobody_weighs, nobody_known, table_set}
use Rattle.membership.proofs.OneByte.{claims_long}
use Rattle.membership.proofs.table.hold_alive.Goals as goal

pub loop-member-init : goal.loop-member-init
loop-member-init c =
    let none = nobody_weighs (claims_in c.args.claims.now.items) c.requires.nobody in
    let unknown = nobody_known (claims_in c.args.claims.now.items) c.requires.nobody in
    record { held = nobody_held (claims_in c.args.claims.now.items) c.requires.nobody; long = refl; counted = omega (arith, none); all = omega (arith, unknown) }

pub loop-member-preserved : goal.loop-member-preserved
loop-member-preserved c =
    let here = get_or_read c.args.members.now c.loop-member.member-index c.member-item.result c.loop-member-test.true c.member-item.is 0 in
    let below = c.requires.places c.loop-member.member-index c.loop-member-test.true in
    let within : c.index.result < length (claims_in c.loop-member.claims.items) = omega (arith, claims_long c.loop-member.claims.items, below, here, c.index.ensures, c.loop-member.invariant.long) in
    record {
      held = alive_next c.args.members.now c.loop-member.member-index c.member-item.result _ _ c.loop-member-test.true c.member-item.is c.loop-member.invariant.held
          (ap (λ l. known_of (entries_from 0 l [])) c.put_alive-count.ensures.put
          ∙ table_set (claims_in c.loop-member.claims.items) [] c.index.result [] Alive 0 within refl (λ k other. refl)
          ∙ ap (λ n. insert (known_of (entries_from 0 (claims_in c.loop-member.claims.items) [])) n (Alive, 0)) c.index.ensures);
      long = c.put_alive-count.ensures.len ∙ c.loop-member.invariant.long;
      counted = c.put_alive-count.ensures.counted;
      all = c.put_alive-count.ensures.all;
    }
