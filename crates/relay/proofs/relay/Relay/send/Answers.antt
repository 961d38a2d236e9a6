use Rattle.relay.proofs.Keeps.{sends, belongs_known}
use Rattle.relay.proofs.relay.Relay.send.Goals as goal

pub send_as-requires-clause-rule : goal.send_as-requires-clause-rule
send_as-requires-clause-rule g c = (
  sends g.S.BatchRule.stands_for g.S.BatchRule.is_last g.S.BatchRule.belongs _ _ _ c.args.item c.requires.seat.may c.requires.not_over
      (belongs_known g.S.BatchRule.stands_for g.S.BatchRule.is_last g.S.BatchRule.belongs _ _ c.args.item c.requires.seat.knows c.requires.belongs),
  λ _ _ _ _. tt,
)
