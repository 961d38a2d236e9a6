use Rattle.std.proofs.Common.{◌≡◌, ◌-◌, ◌∙◌, ap, length, get_or, vec_len, Some, IsSomeAnd, sym, subst, arith}
use Rattle.std.specs.List.{slice_get}
use Rattle.std.proofs.lemmas.Option.{slice_get-get_or}
use Rattle.base.specs.Run.{IsFirst}
use Rattle.worker_queue.specs.Slots.{by_key}
use Rattle.worker_queue.proofs.Taken.{within_some, unlike_taken, by_key-taken, falling_taken}
use Rattle.worker_queue.proofs.slot.Slot.take.Goals as goal

pub swap_remove-requires : goal.swap_remove-requires
swap_remove-requires g c = let within = within_some c.args.self.now.events.items c.args.place _ c.requires in omega (arith, within)

pub invariant_of-self : goal.invariant_of-self
invariant_of-self g c =
    let key = g.E.Keyed.key in
    let xs = c.args.self.now.events.items in
    let ys = c.swap_remove.new.self.items in
    let e = c.swap_remove.result in
    let within = within_some xs c.args.place _ c.requires in
    let long : vec_len c.args.self.now.events ≡ length xs = omega arith in
    let here : slice_get xs c.args.place ≡ Some e = slice_get-get_or xs c.args.place e within ∙ ap Some (sym c.swap_remove.ensures.value) in
    record {
      unlike = unlike_taken key xs ys c.args.place e within c.swap_remove.ensures.value c.swap_remove.ensures.items c.args.self.now.unlike;
      falling = λ sorted.
          falling_taken key xs ys c.args.place e within c.swap_remove.ensures.value c.swap_remove.ensures.items c.args.self.now.unlike (omega (arith, c.swap_remove.ensures.len)) (λ d far. c.swap_remove.ensures.by_index.0 d (omega (arith, far)) ∙ ap (λ n. get_or xs (n - 1) d) long)
          (λ k d differs far. c.swap_remove.ensures.by_index.1 k d differs (omega (arith, far)))
          (subst (λ o. IsSomeAnd o (λ event. IsFirst (by_key key xs) (key event) event)) here c.requires) (c.args.self.now.falling sorted);
    }

pub returns-clause-here : goal.returns-clause-here
returns-clause-here g c =
    slice_get-get_or c.args.self.now.events.items c.args.place c.swap_remove.result (within_some c.args.self.now.events.items c.args.place _ c.requires) ∙ ap Some (sym c.swap_remove.ensures.value)

pub returns-clause-taken : goal.returns-clause-taken
returns-clause-taken g c =
    by_key-taken g.E.Keyed.key c.args.self.now.events.items c.swap_remove.new.self.items c.args.place c.swap_remove.result (within_some c.args.self.now.events.items c.args.place _ c.requires) c.swap_remove.ensures.value c.swap_remove.ensures.items
    c.args.self.now.unlike
