use Rattle.std.proofs.Common.{drop, Vec, Global, ap, arith}
use Rattle.member.specs.declared.event.Event.{Event}
use Rattle.parallel_run.specs.declared.peers.Peer.{Peer}
use Rattle.parallel_run.specs.Peers.{numbers_of}
use Rattle.parallel_run.proofs.TellingInTurn.{numbers_stay, numbers_back, untouched, untouched_later}
use Rattle.parallel_run.proofs.TellingWindows.{next_told}
use Rattle.parallel_run.proofs.exchange.tell_all.Goals as goal

pub loop-peer-init : goal.loop-peer-init
loop-peer-init g c = record {
  numbers = ap numbers_of c.deref_mut-peer-items.ensures.value;
  untouched = λ up. untouched c.args.out.now.items (drop 0 (numbers_of c.args.peers.now.items));
}

pub tell-requires : goal.tell-requires
tell-requires g c = record {
  known = λ basis run.
      next_told (λ (peer : Peer g.row.K.Denot). peer.number) (λ (list : Vec Event Global). list.items) basis c.args.telling.now.from c.args.telling.now.round c.args.telling.now.least
      c.args.out.now.items c.loop-peer.out.items c.loop-peer.peer-items (numbers_of c.args.peers.now.items) c.loop-peer.peer-index c.peer-item.result
      (c.requires.known basis run) (c.requires.others basis run) c.loop-peer.invariant.numbers (omega arith) c.loop-peer.invariant.untouched;
}

pub returns-then-not-tell-clause-numbers : goal.returns-then-not-tell-clause-numbers
returns-then-not-tell-clause-numbers g c =
    let number = λ (peer : Peer g.row.K.Denot). peer.number in
    numbers_back number c.args.peers.now.items _ _ c.args.peers.now.ok.0
    (numbers_stay number c.loop-peer.peer-items _ c.loop-peer.peer-index c.peer-item.result c.tell.new.self c.loop-peer.invariant.numbers c.tell.ensures.number)

pub loop-peer-preserved : goal.loop-peer-preserved
loop-peer-preserved g c =
    let number = λ (peer : Peer g.row.K.Denot). peer.number in
    record {
      numbers = numbers_stay number c.loop-peer.peer-items _ c.loop-peer.peer-index c.peer-item.result c.tell.new.self c.loop-peer.invariant.numbers c.tell.ensures.number;
      untouched = λ up.
          untouched_later number c.loop-peer.peer-items (numbers_of c.args.peers.now.items) c.loop-peer.peer-index c.peer-item.result c.loop-peer.invariant.numbers (omega arith)
          c.args.out.now.items c.loop-peer.out.items up (c.loop-peer.invariant.untouched up) c.tell.new.out.items c.tell.ensures.others;
    }
