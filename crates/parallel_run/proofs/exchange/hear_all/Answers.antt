use Rattle.std.proofs.Common.{◌≡◌, true, map, ap, ◌∙◌, refl, sym, subst, arith}
use Rattle.std.specs.List.{AllByRecursion}
use Rattle.base.specs.Rising.{AreNew}
use Rattle.member.specs.declared.event.Event.{Event}
use Rattle.member.specs.StateOf.{pair_of}
use Rattle.windows.specs.Parts.{with_arrivals}
use Rattle.windows.specs.Window.{is_own}
use Rattle.windows.specs.WorldOf.{world_of}
use Rattle.parallel_run.specs.declared.peers.Peer.{Peer}
use Rattle.parallel_run.specs.Peers.{numbers_of}
use Rattle.parallel_run.proofs.TellingInTurn.{numbers_stay, numbers_back, none_to_come}
use Rattle.parallel_run.proofs.HearingRounds.{HasHeard, heard_none, word_new, word_own, word_heard, heard_all}
use Rattle.parallel_run.proofs.exchange.hear_all.Goals as goal

pub loop-peer-init : goal.loop-peer-init
loop-peer-init g c = record {
  numbers = ap numbers_of c.deref_mut-peer-items.ensures.value;
  heard = λ basis run.
      heard_none g.Q.EventQueue.set basis c.args.told.from c.args.told.round c.args.told.least (numbers_of c.args.peers.now.items) c.args.part.now (c.requires.window basis run).1;
  number = refl;
}

pub receive-requires-clause-own : goal.receive-requires-clause-own
receive-requires-clause-own g c =
    let basis = c.requires.run.0 in
    let run = c.requires.run.1 in
    let part = c.loop-peer.part in
    subst (AllByRecursion (λ (e : Event). is_own (world_of g.Q.EventQueue.set part) e.key.to ≡ true)) (sym c.deref.ensures.value) (
    word_own g.Q.EventQueue.set basis c.args.told.from c.args.told.round c.args.told.least (numbers_of c.args.peers.now.items) (c.requires.window basis run).0 (c.requires.others basis run)
    (λ (peer : Peer g.row.K.Denot). peer.number) c.loop-peer.peer-items c.loop-peer.peer-index c.peer-item.result c.loop-peer.invariant.numbers (omega arith) c.loop-peer.part c.loop-peer.first
    (c.loop-peer.invariant.heard basis run) c.in_ok-word.word (c.in_ok-word.ensures.word basis run) c.in_ok-word.ensures.place (c.requires.own basis run))

pub receive-requires-clause-new : goal.receive-requires-clause-new
receive-requires-clause-new g c =
    let basis = c.requires.run.0 in
    let run = c.requires.run.1 in
    let part = c.loop-peer.part in
    subst (λ es. AreNew (world_of g.Q.EventQueue.set part).pending (map pair_of es)) (sym c.deref.ensures.value) (
    word_new g.Q.EventQueue.set basis c.args.told.from c.args.told.round c.args.told.least (numbers_of c.args.peers.now.items) (c.requires.window basis run).0 (c.requires.others basis run)
    (λ (peer : Peer g.row.K.Denot). peer.number) c.loop-peer.peer-items c.loop-peer.peer-index c.peer-item.result c.loop-peer.invariant.numbers (omega arith) c.loop-peer.part c.loop-peer.first
    (c.loop-peer.invariant.heard basis run) c.in_ok-word.word (c.in_ok-word.ensures.word basis run) c.in_ok-word.ensures.place)

pub loop-peer-preserved : goal.loop-peer-preserved
loop-peer-preserved g c = record {
  numbers =
      numbers_stay (λ (peer : Peer g.row.K.Denot). peer.number) c.loop-peer.peer-items _ c.loop-peer.peer-index c.peer-item.result c.keep.new.self c.loop-peer.invariant.numbers (c.keep.ensures.number ∙ c.hear.ensures.number);
  heard = λ basis run.
      word_heard g.Q.EventQueue.set basis c.args.told.from c.args.told.round c.args.told.least (numbers_of c.args.peers.now.items) (c.requires.window basis run).0 (c.requires.others basis run)
      (λ (peer : Peer g.row.K.Denot). peer.number) c.loop-peer.peer-items c.loop-peer.peer-index c.peer-item.result c.loop-peer.invariant.numbers (omega arith) c.loop-peer.part c.loop-peer.first
      (c.loop-peer.invariant.heard basis run) c.in_ok-word.word (c.in_ok-word.ensures.word basis run) c.in_ok-word.ensures.place
      c.receive.new.part c.lesser_moment-first.result (c.in_ok-receive.ensures.come ∙ ap (λ es. with_arrivals (world_of g.Q.EventQueue.set c.loop-peer.part) (map pair_of es)) c.deref.ensures.value) c.lesser_moment-first.ensures;
  number = c.in_ok-receive.ensures.number ∙ c.loop-peer.invariant.number;
}

pub returns-clause-next : goal.returns-clause-next
returns-clause-next g c = λ basis run.
    let told = c.args.told in
    let numbers = numbers_of c.args.peers.now.items in
    let past = none_to_come (λ (peer : Peer g.row.K.Denot). peer.number) c.loop-peer.peer-items numbers c.loop-peer.peer-index c.loop-peer.invariant.numbers (omega arith) in
    heard_all g.Q.EventQueue.set basis told.from told.round told.least numbers (c.requires.window basis run).0 (c.requires.others basis run) (c.requires.own basis run) c.loop-peer.part c.loop-peer.first
    (subst (λ ns. HasHeard g.Q.EventQueue.set basis told.from told.round told.least numbers ns c.loop-peer.part c.loop-peer.first) past (c.loop-peer.invariant.heard basis run))

pub returns-in_err-word-clause-numbers : goal.returns-in_err-word-clause-numbers
returns-in_err-word-clause-numbers g c =
    let number = λ (peer : Peer g.row.K.Denot). peer.number in
    numbers_back number c.args.peers.now.items _ _ c.args.peers.now.ok.0
    (numbers_stay number c.loop-peer.peer-items _ c.loop-peer.peer-index c.peer-item.result c.hear.new.self c.loop-peer.invariant.numbers c.hear.ensures.number)

pub returns-in_err-receive-clause-numbers : goal.returns-in_err-receive-clause-numbers
returns-in_err-receive-clause-numbers g c =
    let number = λ (peer : Peer g.row.K.Denot). peer.number in
    numbers_back number c.args.peers.now.items _ _ c.args.peers.now.ok.0
    (numbers_stay number c.loop-peer.peer-items _ c.loop-peer.peer-index c.peer-item.result c.hear.new.self c.loop-peer.invariant.numbers c.hear.ensures.number)
