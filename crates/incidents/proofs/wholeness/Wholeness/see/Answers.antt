use Rattle.std.proofs.Common.{◌∙◌, sym}
use Rattle.incidents.specs.Kept.{count_of}
use Rattle.incidents.proofs.Keeping.{lives-push}
use Rattle.incidents.proofs.wholeness.Wholeness.see.Goals as goal

pub turn-requires-clause-turn : goal.turn-requires-clause-turn
turn-requires-clause-turn c = sym c.is_turn.ensures ∙ c.if-is_turn.true

pub hear-requires-clause-no_turn : goal.hear-requires-clause-no_turn
hear-requires-clause-no_turn c = sym c.is_turn.ensures ∙ c.if-is_turn.false

pub returns-clause-lives : goal.returns-clause-lives
returns-clause-lives c rows are =
    lives-push c.args.lives.now _ (count_of c.args.cluster.now) rows c.args.row.now are c.follow.ensures.up c.follow.ensures.restarted c.follow.ensures.members c.follow.ensures.also
