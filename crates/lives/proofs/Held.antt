-- What is kept of a life, part by part; and what holds where nothing was kept.
use Rattle.std.proofs.Common.{◌≡◌, ℕ, Bool, true, false, List, [], ◌∷◌, Option, None, Vec, Global, refl, ap, sym, subst, ◌∙◌, inl, inr}
use Rattle.std.specs.FinMap.{contains_key, empty, get-empty}
use Rattle.std.specs.List.{find, list_any}
use Rattle.std.specs.Option.{is_some}
use Rattle.std.specs.Ordering.{nat_cmp}
use Rattle.std.proofs.lemmas.Bool.{cases_Bool}
use Rattle.incarnation.specs.declared.Update.{Update}
use Rattle.piggyback.specs.Picked.{HeldUpdates, left_after, left_by_pick, picked, waiting}
use Rattle.piggyback.proofs.Holding.{left-empty, picked-empty, waiting-empty}
use Rattle.broadcast_queue.specs.Broadcasts.{Queue, after_pick, new_queue}
use Rattle.broadcast_queue.specs.Items.{those_that_fit}
use Rattle.broadcast_queue.specs.declared.items.Item.{Item}
use Rattle.broadcast_queue.specs.declared.items.Measure.{Measure}
use Rattle.lives.specs.declared.kept.Kept.{Kept}
use Rattle.lives.specs.declared.leaving.Leaving.TheVariants.{Stays}
use Rattle.lives.specs.declared.life.Life.{Life}
use Rattle.lives.specs.declared.regards.Regard.{Regard}
use Rattle.lives.specs.Regards.{Regards, failed_among, regards_of}
use Rattle.lives.proofs.Columns.{nobody_failed}
use Rattle.lives.specs.Lives.{LifeState, held_state, kept_state, life_begun, life_of}

pub kept_as : (kept : Kept) (birth : ℕ) (contact : Option ℕ) → kept.birth ≡ birth → kept.contact ≡ contact → kept.leaving ≡ Stays → kept.regards.items ≡ []
    → kept.intents ≡ empty → kept.queue ≡ new_queue → kept_state kept ≡ life_begun birth contact
kept_as kept birth contact born asks stays nobody intents queue = λ i. record {
  birth = born i;
  contact = asks i;
  leaving = stays i;
  regards = regards_of (nobody i);
  intents = intents i;
  queue = queue i;
}

-- an item is found where one passes the test
pub found_any : (p : Item → Bool) (items : List Item) → is_some (find p items) ≡ list_any p items
found_any p [] = refl
found_any p (x ∷ items) = elim (cases_Bool (p x)) [
  | inl passes ↦ rw passes refl
  | inr fails ↦ rw fails (found_any p items)
]

-- ---- one part changes

pub regards_changed : (old : LifeState) (kept : Kept) (regards : Vec Regard Global) (f : Regards → Regards) → old ≡ kept_state kept → regards_of regards.items ≡ f (regards_of kept.regards.items)
    → kept_state (record kept { regards = regards }) ≡ record old { regards = f old.regards }
regards_changed old kept regards f same is = λ i. record (sym same i) { regards = (is ∙ ap (λ (l : LifeState). f l.regards) (sym same)) i }

pub intents_changed : (old : LifeState) (kept : Kept) (intents : HeldUpdates) (f : HeldUpdates → HeldUpdates) → old ≡ kept_state kept → intents ≡ f kept.intents
    → kept_state (record kept { intents = intents }) ≡ record old { intents = f old.intents }
intents_changed old kept intents f same is = λ i. record (sym same i) { intents = (is ∙ ap (λ (l : LifeState). f l.intents) (sym same)) i }

pub queue_changed : (old : LifeState) (kept : Kept) (queue : Queue) (f : Queue → Queue) → old ≡ kept_state kept → queue ≡ f kept.queue
    → kept_state (record kept { queue = queue }) ≡ record old { queue = f old.queue }
queue_changed old kept queue f same is = λ i. record (sym same i) { queue = (is ∙ ap (λ (l : LifeState). f l.queue) (sym same)) i }

-- ---- nothing was kept

module _ (life : Life) (nothing : life.kept ≡ None) where
  pub no_intents : (life_of life).intents ≡ empty
  no_intents = ap (λ kept. (held_state kept).intents) nothing

  pub no_queue : (life_of life).queue ≡ new_queue
  no_queue = ap (λ kept. (held_state kept).queue) nothing

  pub no_intent : (subject : ℕ) → false ≡ contains_key (life_of life).intents subject
  no_intent subject =
      sym (ap is_some (get-empty nat_cmp subject)) ∙ sym (ap (λ (intents : HeldUpdates). contains_key intents subject) no_intents)

  pub none_failed : (members : ℕ) → failed_among members (life_of life).regards ≡ []
  none_failed members = ap (λ kept. failed_among members (held_state kept).regards) nothing ∙ nobody_failed members

  pub none_waits : (limit : ℕ) → waiting (life_of life).intents limit ≡ []
  none_waits limit = ap (λ (intents : HeldUpdates). waiting intents limit) no_intents ∙ waiting-empty limit

  pub none_picked : (carry limit : ℕ) → picked (life_of life).intents carry limit None ≡ []
  none_picked carry limit = picked-empty (life_of life).intents carry limit None no_intents refl

  pub as_carried : (updates : List Update) (limit : ℕ) → life_of life ≡ record (life_of life) { intents = left_after (life_of life).intents updates limit }
  as_carried updates limit = λ i. record (life_of life) { intents = sym (left-empty (life_of life).intents updates limit no_intents) i }

  pub as_picked : (carry limit : ℕ) → life_of life ≡ record (life_of life) { intents = left_by_pick (life_of life).intents carry limit None }
  as_picked carry limit = as_carried (picked (life_of life).intents carry limit None) limit

  pub none_queued : (measure : Measure) (room : ℕ) → those_that_fit measure room (life_of life).queue.items ≡ []
  none_queued measure room = ap (λ (queue : Queue). those_that_fit measure room queue.items) no_queue

  queue_stays : (measure : Measure) (room limit : ℕ) → (life_of life).queue ≡ after_pick true (those_that_fit measure room (life_of life).queue.items) limit (life_of life).queue
  unfolding after_pick
  queue_stays measure room limit =
      subst (λ (queue : Queue). queue ≡ after_pick true (those_that_fit measure room queue.items) limit queue) (sym no_queue) refl

  pub as_queued : (measure : Measure) (room limit : ℕ)
      → life_of life ≡ record (life_of life) { queue = after_pick true (those_that_fit measure room (life_of life).queue.items) limit (life_of life).queue }
  as_queued measure room limit = λ i. record (life_of life) { queue = queue_stays measure room limit i }
