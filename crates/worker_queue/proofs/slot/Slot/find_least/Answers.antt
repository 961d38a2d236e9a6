use Rattle.std.proofs.Common.{◌≡◌, ◌<◌, ◌-◌, length, IsSomeAnd, sym, subst, arith}
use Rattle.std.specs.List.{slice_get}
use Rattle.std.proofs.lemmas.List.Sorted.{length_permutation}
use Rattle.base.specs.Run.{IsFirst}
use Rattle.worker_queue.specs.Slots.{by_key, HaveOneMoment, IsLeastPlace}
use Rattle.worker_queue.proofs.Lists.{by_key-moved, unlike_moved}
use Rattle.worker_queue.proofs.Ends.{last_of_falling}
use Rattle.worker_queue.proofs.Leasts.{moment_of_list, first_at}
use Rattle.worker_queue.proofs.slot.Slot.find_least.Goals as goal

pub returns-then-self-clause-first : goal.returns-then-self-clause-first
returns-then-self-clause-first g c =
    let xs = c.args.self.now.events.items in
    let long : length xs ≡ c.len.result = omega (arith, c.len.ensures) in
    subst (λ n. IsSomeAnd (slice_get xs (n - 1)) (λ e. IsFirst (by_key g.E.Keyed.key xs) (g.E.Keyed.key e) e)) long
    (last_of_falling g.E.Keyed.key xs c.requires.some c.args.self.now.unlike (c.args.self.now.falling c.if-self.true))

pub invariant_of-self : goal.invariant_of-self
invariant_of-self g c = record {
  unlike = unlike_moved g.E.Keyed.key c.args.self.now.events.items c.sort_falling.new.events.items c.sort_falling.ensures.permutation c.args.self.now.unlike;
  falling = λ sorted. c.sort_falling.ensures.falling;
}

pub returns-then-len-gt-FEW-clause-same : goal.returns-then-len-gt-FEW-clause-same
returns-then-len-gt-FEW-clause-same g c =
    by_key-moved g.E.Keyed.key c.args.self.now.events.items c.sort_falling.new.events.items c.sort_falling.ensures.permutation c.args.self.now.unlike

pub overflow_sub-result-then-len-gt-FEW : goal.overflow_sub-result-then-len-gt-FEW
overflow_sub-result-then-len-gt-FEW g c =
    let long = length_permutation c.args.self.now.events.items c.sort_falling.new.events.items c.sort_falling.ensures.permutation in
    omega (arith, long, c.requires.some, c.len-then-len-gt-FEW.ensures)

pub returns-then-len-gt-FEW-clause-within : goal.returns-then-len-gt-FEW-clause-within
returns-then-len-gt-FEW-clause-within g c =
    let long = length_permutation c.args.self.now.events.items c.sort_falling.new.events.items c.sort_falling.ensures.permutation in
    omega (arith, long, c.requires.some, c.len-then-len-gt-FEW.ensures)

pub returns-then-len-gt-FEW-clause-first : goal.returns-then-len-gt-FEW-clause-first
returns-then-len-gt-FEW-clause-first g c =
    let xs = c.args.self.now.events.items in
    let ys = c.sort_falling.new.events.items in
    let some : 0 < length ys = let h = length_permutation xs ys c.sort_falling.ensures.permutation in omega (arith, h, c.requires.some) in
    let long : length ys ≡ c.len-then-len-gt-FEW.result = omega (arith, c.len-then-len-gt-FEW.ensures) in
    subst (λ n. IsSomeAnd (slice_get ys (n - 1)) (λ e. IsFirst (by_key g.E.Keyed.key ys) (g.E.Keyed.key e) e)) long
    (last_of_falling g.E.Keyed.key ys some (unlike_moved g.E.Keyed.key xs ys c.sort_falling.ensures.permutation c.args.self.now.unlike) c.sort_falling.ensures.falling)

pub least_place-requires-clause-moment : goal.least_place-requires-clause-moment
least_place-requires-clause-moment g c =
    subst (HaveOneMoment g.E.Keyed.key) (sym c.deref.ensures.value) (moment_of_list g.E.Keyed.key c.args.self.now.events.items c.args.self.now.unlike c.requires.moment)

pub returns-clause-first : goal.returns-clause-first
returns-clause-first g c =
    let xs = c.args.self.now.events.items in
    let place = c.least_place.result in
    let within : place < length xs = subst (λ l. place < length l) c.deref.ensures.value c.least_place.ensures.within in
    first_at g.E.Keyed.key xs place within c.args.self.now.unlike (subst (λ l. IsLeastPlace g.E.Keyed.key l place) c.deref.ensures.value c.least_place.ensures.least)
