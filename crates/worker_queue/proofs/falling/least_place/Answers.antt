use Rattle.std.proofs.Common.{◌≡◌, ◌<◌, ◌+◌, ◌∙◌, length, get_or, arith, sym, subst}
use Rattle.std.proofs.lemmas.List.{get_or_default}
use Rattle.worker_queue.specs.Slots.{IsRank}
use Rattle.worker_queue.proofs.Leasts.{AreLow, low_first, low_after, low_still}
use Rattle.worker_queue.proofs.Ranks.{before-from_ranks, ranks-from_before}
use Rattle.worker_queue.proofs.falling.least_place.Goals.{then-next-least, else-next-least}
use Rattle.worker_queue.proofs.falling.least_place.Goals as goal

pub loop-other-init : goal.loop-other-init
loop-other-init g c =
    let key = g.E.Keyed.key in
    let events = c.args.events.now in
    let x = c.index-events-0.result in
    record {
      within = c.requires.some;
      low = low_first key events;
      ranked = λ e. subst (λ y. IsRank (key y) c.rank-least.result) (c.index-events-0.is ∙ get_or_default events 0 x e c.requires.some) (subst (λ k. IsRank k c.rank-least.result) c.key.ensures c.rank-least.ensures);
    }

pub loop-other-preserved : goal.loop-other-preserved
loop-other-preserved g c =
    let key = g.E.Keyed.key in
    let events = c.args.events.now in
    let before = c.loop-other.invariant in
    let place = c.loop-other.place in
    let other = c.loop-other.other in
    let there = c.loop-other-test.true in
    let x = c.index-events-other.result in
    let y = get_or events place x in
    let is_y : y ≡ get_or events place y = get_or_default events place x y before.within in
    let own : IsRank (key x) c.rank-next.result = subst (λ k. IsRank k c.rank-next.result) c.key-in-loop-other.ensures c.rank-next.ensures in
    let same : (key x).at ≡ (key y).at = subst (λ z. (key z).at ≡ (key y).at) (sym c.index-events-other.is) (c.requires.moment other place x there before.within) in
    elim c.if-next-least.branch [
      | then-next-least w ↦ record {
        within = subst (λ n. n < length events) (sym w.place-is) there;
        low = subst (λ n. AreLow key events n (other + 1)) (sym w.place-is)
            (low_after key events place other x y there before.within c.index-events-other.is is_y before.low
            (before-from_ranks (key x) (key y) c.rank-next.result c.loop-other.least own (before.ranked x) same w.if-next-least.true));
        ranked = λ e. subst (λ n. IsRank (key (get_or events n e)) c.if-next-least.least) (sym w.place-is)
            (subst (λ r. IsRank (key (get_or events other e)) r) (sym w.least-is) (subst (λ z. IsRank (key z) c.rank-next.result) (c.index-events-other.is ∙ get_or_default events other x e there) own));
      }
      | else-next-least w ↦ record {
        within = subst (λ n. n < length events) (sym w.place-is) before.within;
        low = subst (λ n. AreLow key events n (other + 1)) (sym w.place-is)
            (low_still key events place other x y there before.within c.index-events-other.is is_y before.low
            (λ earlier. absurd (let less = ranks-from_before (key x) (key y) c.rank-next.result c.loop-other.least own (before.ranked x) same earlier in omega (arith, less, w.if-next-least.false))));
        ranked = λ e. subst (λ n. IsRank (key (get_or events n e)) c.if-next-least.least) (sym w.place-is) (subst (λ r. IsRank (key (get_or events place e)) r) (sym w.least-is) (before.ranked e));
      }
    ]

pub returns-clause-least : goal.returns-clause-least
returns-clause-least g c other e within = c.loop-other.invariant.low other e (omega (arith, within, c.loop-other-test.false))
