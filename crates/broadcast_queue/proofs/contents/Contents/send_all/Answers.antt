use Rattle.std.proofs.Common.{ap, ◌∙◌, arith}
use Rattle.broadcast_queue.specs.Broadcasts.{Queue, after_pick, with_all_sent}
use Rattle.broadcast_queue.proofs.contents.Contents.send_all.Goals as goal

pub add_all_sent-requires-clause-without : goal.add_all_sent-requires-clause-without
add_all_sent-requires-clause-without c subject = omega (arith, c.delete_all.ensures.counted subject, c.requires.sound.distinct subject)

pub returns-clause-sent : goal.returns-clause-sent
unfolding after_pick
returns-clause-sent c =
    c.add_all_sent.ensures.added ∙ ap (λ (q : Queue). with_all_sent c.args.limit c.args.picked.now q) c.delete_all.ensures.deleted
