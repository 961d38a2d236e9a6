-- Whom the updates of memberlist's queue are about.
use Rattle.std.proofs.Common.{ℕ, ◌-◌, Bool, true, false, cond, nat_le, List, [], ◌∷◌, filter, Option, Some, None}
use Rattle.std.specs.List.{AllByRecursion}
use Rattle.std.specs.FinMap.{get}
use Rattle.base.proofs.Rising.{all_append}
use Rattle.incarnation.specs.declared.Update.{Update}
use Rattle.broadcast_queue.specs.Broadcasts.{Queue, placed, without, with_item, without_pointed, with_next_id, after_put, without_all, with_sent, with_all_sent, after_pick}
use Rattle.broadcast_queue.specs.Items.{cost, goes_before, those_that_fit, sent_once_more}
use Rattle.broadcast_queue.specs.declared.items.Item.{Item}
use Rattle.broadcast_queue.specs.declared.items.Measure.{Measure}
use Rattle.member_laws.proofs.Carried.{all_filter}

module _ (N : ℕ → Type 0) where
  abbrev About : Item → Type 0
  About it = N it.update.subject

  abbrev AllAbout : List Item → Type 0
  AllAbout items = AllByRecursion (λ (it : Item). N it.update.subject) items

  placed_about : (x : Item) (items : List Item) → About x → AllAbout items → AllAbout (placed x items)
  placed_about x items own h =
      all_append About (filter (λ it. goes_before it x) items) (x ∷ filter (λ it. goes_before x it) items) (all_filter About (λ it. goes_before it x) items h)
      (own, all_filter About (λ it. goes_before x it) items h)

  with_about : (x : Item) (queue : Queue) → About x → AllAbout queue.items → AllAbout (with_item x queue).items
  unfolding with_item
  with_about x queue own h = placed_about x queue.items own h

  without_about : (resets : Bool) (x : Item) (queue : Queue) → AllAbout queue.items → AllAbout (without resets x queue).items
  unfolding without
  without_about resets x queue h = all_filter About _ queue.items h

  pointed_about : (resets : Bool) (o : Option Item) (queue : Queue) → AllAbout queue.items → AllAbout (without_pointed resets o queue).items
  pointed_about resets None queue h = h
  pointed_about resets (Some x) queue h = without_about resets x queue h

  pub put_about : (resets : Bool) (u : Update) (size : ℕ) (queue : Queue) → N u.subject → AllAbout queue.items → AllAbout (after_put resets u size queue).items
  unfolding after_put
  put_about resets u size queue own h = with_about _ _ own (pointed_about resets (get queue.pointers u.subject) (with_next_id queue) h)

  gone_about : (resets : Bool) (xs : List Item) (queue : Queue) → AllAbout queue.items → AllAbout (without_all resets xs queue).items
  gone_about resets [] queue h = h
  gone_about resets (x ∷ xs) queue h = gone_about resets xs (without resets x queue) (without_about resets x queue h)

  sent_about : (limit : ℕ) (x : Item) (b : Bool) (queue : Queue) → About x → AllAbout queue.items → AllAbout (cond b (with_item (sent_once_more x) queue) queue).items
  sent_about limit x true queue own h = with_about (sent_once_more x) queue own h
  sent_about limit x false queue own h = h

  back_about : (limit : ℕ) (xs : List Item) (queue : Queue) → AllAbout xs → AllAbout queue.items → AllAbout (with_all_sent limit xs queue).items
  back_about limit [] queue own h = h
  back_about limit (x ∷ xs) queue own h = back_about limit xs (with_sent limit x queue) own.1 (sent_about limit x _ queue own.0 h)

  pub pick_about : (resets : Bool) (xs : List Item) (limit : ℕ) (queue : Queue) → AllAbout xs → AllAbout queue.items → AllAbout (after_pick resets xs limit queue).items
  unfolding after_pick
  pick_about resets xs limit queue own h = back_about limit xs (without_all resets xs queue) own (gone_about resets xs queue h)

  fit_either : (b : Bool) (it : Item) (xs ys : List Item) → About it → AllAbout xs → AllAbout ys → AllAbout (cond b (it ∷ xs) ys)
  fit_either true it xs ys own h g = (own, h)
  fit_either false it xs ys own h g = g

  pub fit_about : (measure : Measure) (room : ℕ) (items : List Item) → AllAbout items → AllAbout (those_that_fit measure room items)
  fit_about measure room [] h = tt
  fit_about measure room (it ∷ items) h = fit_either (nat_le (cost measure it) room) it _ _ h.0 (fit_about measure (room - cost measure it) items h.1) (fit_about measure room items h.1)
