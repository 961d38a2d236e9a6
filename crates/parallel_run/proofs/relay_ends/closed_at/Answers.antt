use Rattle.std.proofs.Common.{arith}
use Rattle.parallel_run.proofs.Relaying.{closed_whole}
use Rattle.parallel_run.proofs.relay_ends.closed_at.Goals as goal

pub returns-clause-closed : goal.returns-clause-closed
returns-clause-closed g c =
    let sender = c.args.sender in
    let taker = c.args.taker in
    closed_whole g.K.OfRun.relays c.args.number sender.number taker.number taker.relay.now sender.relay.now sender.seat taker.seat _ (omega (arith, c.if-sender-number.false)) (omega (arith, c.if-taker-number.false))
    sender.here taker.here sender.is_sender taker.is_taker (taker.whole c.if-not-taker.false) c.close.ensures.whole c.of.ensures c.of-2.ensures
