use Rattle.std.proofs.Common.{◌<◌, length, refl, ap, ◌∙◌, arith}
use Rattle.std.specs.FinMap.{insert}
use Rattle.membership.specs.Numbers.{numbers_of}
use Rattle.membership.specs.Columns.{entries_from}
use Rattle.membership.specs.Table.{known_of}
use Rattle.membership.specs.Held.{claims_in}
use Rattle.membership.proofs.Columns.{on_err, table_grown, table_set}
use Rattle.membership.proofs.OneByte.{claims_long}
use Rattle.membership.proofs.table.Table.set.Goals as goal

pub returns-in_err-reach-clause-err : goal.returns-in_err-reach-clause-err
returns-in_err-reach-clause-err c = on_err _ _ (table_grown (claims_in c.self.inside.claims.items) (claims_in c.self.inside.claims.items) (numbers_of c.reach.new.self) (numbers_of c.self.inside.incs) (λ k. refl) c.reach.ensures.same ∙ c.self.view_is)

pub returns-in_err-reach_claim-clause-err : goal.returns-in_err-reach_claim-clause-err
returns-in_err-reach_claim-clause-err c = on_err _ _ (table_grown (claims_in c.reach_claim.new.claims.items) (claims_in c.self.inside.claims.items) (numbers_of c.reach.new.self) (numbers_of c.self.inside.incs) c.reach_claim.ensures.same c.reach.ensures.same ∙ c.self.view_is)

pub returns-clause-ok : goal.returns-clause-ok
returns-clause-ok c =
    let within : c.from-place.result < length (claims_in c.reach_claim.new.claims.items) = omega (arith, claims_long c.reach_claim.new.claims.items, c.in_ok-reach_claim.ensures.place) in
    ap (λ l. known_of (entries_from 0 l (numbers_of c.write.new.self))) c.put_claim-self-inside.ensures.put
    ∙ table_set (claims_in c.reach_claim.new.claims.items) (numbers_of c.reach.new.self) c.from-place.result (numbers_of c.write.new.self) c.args.held.0 c.args.held.1 within c.write.ensures.same c.write.ensures.others
    ∙ ap (λ t. insert t c.from-place.result c.args.held) (table_grown (claims_in c.reach_claim.new.claims.items) (claims_in c.self.inside.claims.items) (numbers_of c.reach.new.self) (numbers_of c.self.inside.incs) c.reach_claim.ensures.same c.reach.ensures.same ∙ c.self.view_is)
    ∙ ap (λ n. insert c.args.self.now n c.args.held) (c.from-place.ensures ∙ c.member.view_is)
