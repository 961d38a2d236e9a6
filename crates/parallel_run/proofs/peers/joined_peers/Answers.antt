use Rattle.std.proofs.Common.{◌≡◌, List, Vec, Global, drop, get_or, length, ap, ◌∙◌, sym, subst, refl, arith}
use Rattle.std.specs.List.{slice_get}
use Rattle.std.proofs.lemmas.Option.{slice_get-get_or, slice_get_within}
use Rattle.turns.proofs.Coming.{elsewhere}
use Rattle.turns.proofs.RowOrders.{all_written}
use Rattle.parallel_run.specs.declared.peers.Peer.{Peer}
use Rattle.parallel_run.specs.Peers.{numbers_of}
use Rattle.parallel_run.proofs.JoiningNumbers.{HaveNumbersBelow}
use Rattle.parallel_run.proofs.Joining.{others_of_last, own_more, joined_more, joined_there}
use Rattle.parallel_run.proofs.peers.joined_peers.Goals as goal

pub loop-other-preserved : goal.loop-other-preserved
loop-other-preserved g c =
    let before = c.args.before.now.items in
    let other = c.loop-other.other in
    let item = get_or c.loop-other.others-items other c.others-item.result in
    let here = slice_get-get_or c.loop-other.others-items other c.others-item.result (omega arith) in
    let to : Peer g.row.K.Denot = record { number = other; to = c.in_ok-to.to; from = c.in_ok-back.from; spent = c.new.result; back = c.new-in-loop-other.result } in
    let back : Peer g.row.K.Denot = record { number = c.len-number.result; to = c.in_ok-back.back; from = c.in_ok-to.there; spent = c.new-in-loop-other-2.result; back = c.new-in-loop-other-3.result } in
    record {
      own = own_more other c.loop-other.peers.items c.push.new.self.items to c.loop-other.invariant.own c.in_ok-push.ensures.items refl;
      done =
          joined_more (length before) other c.loop-other.others-items item c.push-in-loop-other.new.self back (omega arith)
          (joined_there (length before) other before item c.requires.joined (sym (c.loop-other.invariant.rest other (omega arith)) ∙ here)) c.in_ok-push-2.ensures.items (omega (arith, c.len-number.ensures, c.args.before.now.ok.0)) c.loop-other.invariant.done;
      rest = λ i past. elsewhere c.loop-other.others-items other i _ (λ same. omega arith) ∙ c.loop-other.invariant.rest i (omega arith);
    }

pub returns-clause-before : goal.returns-clause-before
returns-clause-before g c = λ i peers here.
    let before = c.args.before.now.items in
    let all = c.loop-other.others-items in
    let count : length all ≡ length before = omega (arith, c.args.before.now.ok.0) in
    let there = ap (λ (l : List (Vec (Peer g.row.K.Denot) Global)). slice_get l i) (all_written c.args.before.now.len all (drop (length all) before) (omega (arith, c.args.before.now.ok.0))) in
    let is = sym there ∙ here in
    c.loop-other.invariant.done i peers (let low = slice_get_within all i peers is in omega arith) is

pub returns-clause-own : goal.returns-clause-own
returns-clause-own g c =
    let all : c.loop-other.other ≡ length c.args.before.now.items = omega arith in
    others_of_last (length c.args.before.now.items) (numbers_of c.loop-other.peers.items) (subst (λ n. HaveNumbersBelow (λ m. m) n (numbers_of c.loop-other.peers.items)) all c.loop-other.invariant.own)
