use Rattle.std.proofs.Common.{◌≤◌, length, arith, sym, ◌∙◌}
use Rattle.series.specs.Stories.{claims_of, claim_told}
use Rattle.series.proofs.Gathering.{told, told_few, few_states}
use Rattle.series.proofs.Revived.{few_revived, is_alive, raised_where}
use Rattle.series.proofs.story.Story.follow.Goals as goal

pub follow_revival-requires-clause-room : goal.follow_revival-requires-clause-room
follow_revival-requires-clause-room c back = c.requires.room.revived (is_alive c.args.row.now _ (sym c.takes_back-is_back.ensures ∙ back))

pub follow_revival-requires-clause-by_one : goal.follow_revival-requires-clause-by_one
follow_revival-requires-clause-by_one c =
    let can = c.requires.can in
    few_revived can.setup can.subject c.args.span _ can.rows (can.told.revived c.args.span c.requires.span) can.few

pub follow_claim-requires-clause-can : goal.follow_claim-requires-clause-can
follow_claim-requires-clause-can c state is =
    let can = c.requires.can in
    let few : length (claims_of can.setup can.subject can.rows) ≤ length can.rows = told_few (claim_told can.setup can.subject) can.rows in
    record {
      states = 3;
      changes = claims_of can.setup can.subject can.rows;
      told = can.told.claims;
      few = omega (arith, few, can.few);
      within = few_states c.args.row.now.what state is;
      room = c.requires.room.claims state is;
    }

pub returns : goal.returns
returns c s subject rows about no_crash no_return next is =
    told s subject c.args.self.now _ rows c.args.row.now c.args.span c.args.number about next is c.follow_claim.ensures c.follow_refute.ensures
    (λ k low. c.follow_revival.ensures k low ∙ raised_where k c.args.span _ _ _ c.takes_back-is_back.ensures)
    (c.follow.ensures s subject rows about no_crash no_return is.spread)
    c.first_line-self.ensures c.last_line-self.ensures c.with_fail-self.ensures
