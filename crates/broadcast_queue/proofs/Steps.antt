-- What becomes of a queue's parts where an item is deleted or added.
use Rattle.std.proofs.Common.{◌≡◌, ℕ, ◌+◌, ◌≤◌, Bool, true, cond, List, [], ◌∷◌, ◌++◌, filter, Option, Some, None, refl, sym, ap, subst, ◌∙◌, inl, inr, arith, append_assoc, append-nil, length, length-append, get_or, take, drop, ◌<◌, zero, suc, add-one, drop-cons}
use Rattle.std.specs.List.{AllByRecursion, count_by, find}
use Rattle.std.specs.Option.{option_to_list}
use Rattle.std.specs.FinMap.{FinMap, insert, remove}
use Rattle.std.specs.Ordering.{nat_cmp}
use Rattle.std.proofs.lemmas.Bool.{cases_Bool, cond_both, eqb-true}
use Rattle.std.specs.Prelude.{is_ok, Result}
use Rattle.std.proofs.lemmas.List.{take-append-drop}
use Rattle.broadcast_queue.specs.declared.items.Item.{Item}
use Rattle.broadcast_queue.specs.Items.{goes_before, has_key_of, is_about}
use Rattle.broadcast_queue.specs.Broadcasts.{Queue, new_queue, placed, other_items, counter_with, without, with_item}
use Rattle.broadcast_queue.specs.Contents.{IsInOrder, IsSound, queue_of}
use Rattle.broadcast_queue.specs.declared.contents.Contents.{Contents}
use Rattle.broadcast_queue.proofs.Order.{before, behind, before_all_later, others_are, whole}
use Rattle.broadcast_queue.proofs.Pointers.{AreDistinct, count_where, none_of, one_of, pointers_of, pointers-moved, pointers-with, pointers-without}

-- the order is kept
all-filter : (P : Item → Type 0) (p : Item → Bool) (items : List Item) → AllByRecursion P items → AllByRecursion P (filter p items)
all-filter P p [] h = tt
all-filter P p (x ∷ items) h = cond_both (p x) (x ∷ filter p items) (filter p items) (AllByRecursion P) (λ _. (h.0, all-filter P p items h.1)) (λ _. all-filter P p items h.1)

all-passes : (p : Item → Bool) (items : List Item) → AllByRecursion (λ it. p it ≡ true) (filter p items)
all-passes p [] = tt
all-passes p (x ∷ items) = cond_both (p x) (x ∷ filter p items) (filter p items) (AllByRecursion (λ it. p it ≡ true)) (λ passes. (passes, all-passes p items)) (λ _. all-passes p items)

pub in_order-filter : (p : Item → Bool) (items : List Item) → IsInOrder items → IsInOrder (filter p items)
in_order-filter p [] h = tt
in_order-filter p (x ∷ items) h =
    cond_both (p x) (x ∷ filter p items) (filter p items) IsInOrder
    (λ _. (all-filter (λ y. goes_before x y ≡ true) p items h.0, in_order-filter p items h.1))
    (λ _. in_order-filter p items h.1)

all-append : (P : Item → Type 0) (front back : List Item) → AllByRecursion P front → AllByRecursion P back → AllByRecursion P (front ++ back)
all-append P [] back f b = b
all-append P (x ∷ front) back f b = (f.0, all-append P front back f.1 b)

all_later : (x y : Item) (items : List Item) → goes_before x y ≡ true → AllByRecursion (λ z. goes_before y z ≡ true) items → AllByRecursion (λ z. goes_before x z ≡ true) items
all_later x y [] h all = tt
all_later x y (z ∷ items) h all = (before_all_later x y z h all.0, all_later x y items h all.1)

in_order-between : (x : Item) (front back : List Item) → IsInOrder front → IsInOrder back → AllByRecursion (λ y. goes_before y x ≡ true) front → AllByRecursion (λ y. goes_before x y ≡ true) back → IsInOrder (front ++ x ∷ back)
in_order-between x [] back f b before_x behind_x = (behind_x, b)
in_order-between x (y ∷ front) back f b before_x behind_x = (
  all-append (λ z. goes_before y z ≡ true) front (x ∷ back) f.0 (before_x.0, all_later y x back before_x.0 behind_x),
  in_order-between x front back f.1 b before_x.1 behind_x,
)

pub in_order-placed : (x : Item) (items : List Item) → IsInOrder items → IsInOrder (placed x items)
in_order-placed x items h =
    in_order-between x (filter (before x) items) (filter (behind x) items) (in_order-filter (before x) items h) (in_order-filter (behind x) items h) (all-passes (before x) items) (all-passes (behind x) items)

-- two queues that differ in nothing
same_queue : (items : List Item) (counter : ℕ) (m n : FinMap nat_cmp Item) → m ≡ n → ◌≡◌ {A = Queue} record { items = items; pointers = m; counter = counter } record { items = items; pointers = n; counter = counter }
same_queue items counter m n same = ap (λ (p : FinMap nat_cmp Item). let q : Queue = record { items = items; pointers = p; counter = counter } in q) same

-- one that is about a subject of its own leaves all distinct
pub one_more_about : (x : Item) (old new : List Item) → count_by (is_about x.update.subject) old ≡ 0 → AreDistinct old → ((p : Item → Bool) → count_by p new ≡ cond (p x) 1 0 + count_by p old) → AreDistinct new
one_more_about x old new none once counted subject = elim (cases_Bool (is_about subject x)) [
  | inl own ↦ omega (arith, counted (is_about subject), one_of _ own, subst (λ s. count_by (is_about s) old ≡ 0) (eqb-true x.update.subject subject own) none)
  | inr other ↦ omega (arith, counted (is_about subject), none_of _ other, once subject)
]

-- the items where one has x's key
pub with_that : (x y : Item) (items : List Item) → IsInOrder items → find (has_key_of x) items ≡ Some y → items ≡ filter (before x) items ++ y ∷ filter (behind x) items
with_that x y items h found =
    whole x items h ∙ ap (λ o. filter (before x) items ++ (option_to_list o ++ filter (behind x) items)) found

pub with_none : (x : Item) (items : List Item) → IsInOrder items → find (has_key_of x) items ≡ None → items ≡ filter (before x) items ++ filter (behind x) items
with_none x items h none =
    whole x items h ∙ ap (λ o. filter (before x) items ++ (option_to_list o ++ filter (behind x) items)) none

module _ (resets : Bool) (x : Item) (items lost : List Item) (counter : ℕ) (ordered : IsInOrder items) (once : AreDistinct (items ++ lost)) where
  front : List Item
  front = filter (before x) items

  back : List Item
  back = filter (behind x) items

  all_others : other_items x items ++ lost ≡ front ++ (back ++ lost)
  unfolding front back
  all_others = ap (λ l. l ++ lost) (others_are x items ordered) ∙ simp append_assoc

  -- an item of the set is deleted
  module _ (found : find (has_key_of x) items ≡ Some x) where
    all_items : items ++ lost ≡ front ++ x ∷ (back ++ lost)
    unfolding front back
    all_items = ap (λ l. l ++ lost) (with_that x x items ordered found) ∙ simp append_assoc

    once_there : AreDistinct (front ++ x ∷ (back ++ lost))
    once_there subject = subst (λ l. count_by (is_about subject) l ≤ 1) all_items (once subject)

    pub deleted-is : queue_of (other_items x items) lost (counter_with resets (other_items x items) counter) ≡ without resets x (queue_of items lost counter)
    unfolding queue_of without
    deleted-is =
        same_queue (other_items x items) (counter_with resets (other_items x items) counter) _ _
        (ap pointers_of all_others ∙ pointers-without x front (back ++ lost) once_there ∙ ap (λ l. remove (pointers_of l) x.update.subject) (sym all_items))

    pub deleted-counted : (p : Item → Bool) → count_by p (items ++ lost) ≡ cond (p x) 1 0 + count_by p (other_items x items ++ lost)
    deleted-counted p = ap (count_by p) all_items ∙ count_where p front x (back ++ lost) ∙ ap (λ l. cond (p x) 1 0 + count_by p l) (sym all_others)

  -- x comes, and no item had its key
  module _ (none : find (has_key_of x) items ≡ None) (new : count_by (is_about x.update.subject) (items ++ lost) ≡ 0) where
    all_before : items ++ lost ≡ front ++ (back ++ lost)
    unfolding front back
    all_before = ap (λ l. l ++ lost) (with_none x items ordered none) ∙ simp append_assoc

    all_after : placed x items ++ lost ≡ front ++ x ∷ (back ++ lost)
    unfolding front back
    all_after = simp append_assoc

    pub added-counted : (p : Item → Bool) → count_by p (placed x items ++ lost) ≡ cond (p x) 1 0 + count_by p (items ++ lost)
    added-counted p = ap (count_by p) all_after ∙ count_where p front x (back ++ lost) ∙ ap (λ l. cond (p x) 1 0 + count_by p l) (sym all_before)

    pub added-distinct : AreDistinct (placed x items ++ lost)
    added-distinct subject = one_more_about x (items ++ lost) (placed x items ++ lost) new once added-counted subject

    pub added-is : queue_of (placed x items) lost counter ≡ with_item x (queue_of items lost counter)
    unfolding queue_of with_item
    added-is =
        same_queue (placed x items) counter _ _
        (ap pointers_of all_after
        ∙ pointers-with x front (back ++ lost) (λ subject. subst (λ l. count_by (is_about subject) l ≤ 1) all_after (added-distinct subject))
        ∙ ap (λ l. insert (pointers_of l) x.update.subject x) (sym all_before))

  -- x comes, and the item that had its key is lost
  module _ (y : Item) (found : find (has_key_of x) items ≡ Some y) (new : count_by (is_about x.update.subject) (items ++ lost) ≡ 0) where
    that_before : items ++ lost ≡ front ++ y ∷ (back ++ lost)
    unfolding front back
    that_before = ap (λ l. l ++ lost) (with_that x y items ordered found) ∙ simp append_assoc

    that_after : placed x items ++ (lost ++ y ∷ []) ≡ front ++ x ∷ (back ++ (lost ++ y ∷ []))
    unfolding front back
    that_after = simp append_assoc

    lost_last : front ++ (back ++ (lost ++ y ∷ [])) ≡ (front ++ (back ++ lost)) ++ y ∷ []
    lost_last = simp append_assoc

    nothing_behind : front ++ (back ++ lost) ≡ (front ++ (back ++ lost)) ++ []
    nothing_behind = sym (append-nil (front ++ (back ++ lost)))

    pub replaced-counted : (p : Item → Bool) → count_by p (placed x items ++ (lost ++ y ∷ [])) ≡ cond (p x) 1 0 + count_by p (items ++ lost)
    replaced-counted p =
        ap (count_by p) that_after
        ∙ count_where p front x (back ++ (lost ++ y ∷ []))
        ∙ ap (λ n. cond (p x) 1 0 + n)
        (ap (count_by p) lost_last
        ∙ count_where p (front ++ (back ++ lost)) y []
        ∙ ap (λ l. cond (p y) 1 0 + count_by p l) (sym nothing_behind)
        ∙ sym (count_where p front y (back ++ lost))
        ∙ ap (count_by p) (sym that_before))

    pub replaced-distinct : AreDistinct (placed x items ++ (lost ++ y ∷ []))
    replaced-distinct subject = one_more_about x (items ++ lost) (placed x items ++ (lost ++ y ∷ [])) new once replaced-counted subject

    pub replaced-is : queue_of (placed x items) (lost ++ y ∷ []) counter ≡ with_item x (queue_of items lost counter)
    unfolding queue_of with_item
    replaced-is =
        same_queue (placed x items) counter _ _
        (ap pointers_of that_after
        ∙ pointers-with x front (back ++ (lost ++ y ∷ [])) (λ subject. subst (λ l. count_by (is_about subject) l ≤ 1) that_after (replaced-distinct subject))
        ∙ ap (λ m. insert m x.update.subject x)
        (ap pointers_of lost_last
        ∙ sym (pointers-moved y front (back ++ lost) (front ++ (back ++ lost)) [] nothing_behind (λ subject. subst (λ l. count_by (is_about subject) l ≤ 1) that_before (once subject)))
        ∙ ap pointers_of (sym that_before)))

pub deleted-shorter : (x : Item) (items : List Item) → IsInOrder items → find (has_key_of x) items ≡ Some x → length (other_items x items) + 1 ≡ length items
deleted-shorter x items h found =
    omega (
      arith,
      ap length (with_that x x items h found),
      ap length (others_are x items h),
      length-append (filter (before x) items) (x ∷ filter (behind x) items),
      length-append (filter (before x) items) (filter (behind x) items),
    )

pub same_parts : (items items' lost lost' : List Item) (counter counter' : ℕ) → items ≡ items' → lost ≡ lost' → counter ≡ counter' → queue_of items lost counter ≡ queue_of items' lost' counter'
same_parts items items' lost lost' counter counter' i l n = cc

-- a lost one is deleted, and with it the item that has its key
module _ (resets : Bool) (x : Item) (items done rest : List Item) (counter : ℕ) (ordered : IsInOrder items) (once : AreDistinct (items ++ (done ++ x ∷ rest))) where
  module _ (none : find (has_key_of x) items ≡ None) where
    lost_before : items ++ (done ++ x ∷ rest) ≡ (items ++ done) ++ x ∷ rest
    lost_before = simp append_assoc

    lost_after : other_items x items ++ (done ++ rest) ≡ (items ++ done) ++ rest
    lost_after = ap (λ l. l ++ (done ++ rest)) (others_are x items ordered ∙ sym (with_none x items ordered none)) ∙ simp append_assoc

    pub lost-counted : (p : Item → Bool) → count_by p (items ++ (done ++ x ∷ rest)) ≡ cond (p x) 1 0 + count_by p (other_items x items ++ (done ++ rest))
    lost-counted p = ap (count_by p) lost_before ∙ count_where p (items ++ done) x rest ∙ ap (λ l. cond (p x) 1 0 + count_by p l) (sym lost_after)

    pub lost-is : queue_of (other_items x items) (done ++ rest) (counter_with resets (other_items x items) counter) ≡ without resets x (queue_of items (done ++ x ∷ rest) counter)
    unfolding queue_of without
    lost-is =
        same_queue (other_items x items) (counter_with resets (other_items x items) counter) _ _
        (ap pointers_of lost_after
        ∙ pointers-without x (items ++ done) rest (λ subject. subst (λ l. count_by (is_about subject) l ≤ 1) lost_before (once subject))
        ∙ ap (λ l. remove (pointers_of l) x.update.subject) (sym lost_before))

  module _ (y : Item) (found : find (has_key_of x) items ≡ Some y) where
    first : List Item
    first = filter (before x) items

    last : List Item
    last = filter (behind x) items

    others : List Item
    others = (first ++ last) ++ done

    both_before : items ++ (done ++ x ∷ rest) ≡ first ++ y ∷ (last ++ (done ++ x ∷ rest))
    unfolding first last
    both_before = ap (λ l. l ++ (done ++ x ∷ rest)) (with_that x y items ordered found) ∙ simp append_assoc

    both_moved : first ++ (last ++ (done ++ x ∷ rest)) ≡ others ++ x ∷ rest
    unfolding others
    both_moved = simp append_assoc

    both_there : others ++ y ∷ (x ∷ rest) ≡ (others ++ y ∷ []) ++ x ∷ rest
    both_there = simp append_assoc

    both_after : other_items x items ++ (done ++ y ∷ rest) ≡ (others ++ y ∷ []) ++ rest
    unfolding others first last
    both_after = ap (λ l. l ++ (done ++ y ∷ rest)) (others_are x items ordered) ∙ simp append_assoc

    both_once : AreDistinct (first ++ y ∷ (last ++ (done ++ x ∷ rest)))
    both_once subject = subst (λ l. count_by (is_about subject) l ≤ 1) both_before (once subject)

    count_moved : (p : Item → Bool) → count_by p (items ++ (done ++ x ∷ rest)) ≡ count_by p ((others ++ y ∷ []) ++ x ∷ rest)
    count_moved p =
        ap (count_by p) both_before
        ∙ count_where p first y (last ++ (done ++ x ∷ rest))
        ∙ ap (λ l. cond (p y) 1 0 + count_by p l) both_moved
        ∙ sym (count_where p others y (x ∷ rest))
        ∙ ap (count_by p) both_there

    pub both-counted : (p : Item → Bool) → count_by p (items ++ (done ++ x ∷ rest)) ≡ cond (p x) 1 0 + count_by p (other_items x items ++ (done ++ y ∷ rest))
    both-counted p = count_moved p ∙ count_where p (others ++ y ∷ []) x rest ∙ ap (λ l. cond (p x) 1 0 + count_by p l) (sym both_after)

    pub both-is : queue_of (other_items x items) (done ++ y ∷ rest) (counter_with resets (other_items x items) counter) ≡ without resets x (queue_of items (done ++ x ∷ rest) counter)
    unfolding queue_of without
    both-is =
        same_queue (other_items x items) (counter_with resets (other_items x items) counter) _ _
        (ap pointers_of both_after
        ∙ pointers-without x (others ++ y ∷ []) rest (λ subject. subst (λ n. n ≤ 1) (count_moved (is_about subject)) (once subject))
        ∙ ap (λ m. remove m x.update.subject)
        (ap pointers_of (sym both_there)
        ∙ sym (pointers-moved y first (last ++ (done ++ x ∷ rest)) others (x ∷ rest) both_moved both_once)
        ∙ ap pointers_of (sym both_before)))

-- whichever item took its place
pub replaced_lost-counted : (x : Item) (items done rest : List Item) (o : Option Item) → IsInOrder items → AreDistinct (items ++ (done ++ x ∷ rest)) → o ≡ find (has_key_of x) items → (p : Item → Bool) → count_by p (items ++ (done ++ x ∷ rest)) ≡ cond (p x) 1 0 + count_by p (other_items x items ++ (done ++ (option_to_list o ++ rest)))
replaced_lost-counted x items done rest None h once is p = lost-counted true x items done rest 0 h once (sym is) p
replaced_lost-counted x items done rest (Some y) h once is p = both-counted true x items done rest 0 h once y (sym is) p

pub replaced_lost-is : (resets : Bool) (x : Item) (items done rest : List Item) (counter : ℕ) (o : Option Item) → IsInOrder items → AreDistinct (items ++ (done ++ x ∷ rest)) → o ≡ find (has_key_of x) items → queue_of (other_items x items) (done ++ (option_to_list o ++ rest)) (counter_with resets (other_items x items) counter) ≡ without resets x (queue_of items (done ++ x ∷ rest) counter)
replaced_lost-is resets x items done rest counter None h once is = lost-is resets x items done rest counter h once (sym is)
replaced_lost-is resets x items done rest counter (Some y) h once is = both-is resets x items done rest counter h once y (sym is)

-- a list about a place in it
pub parted : (items : List Item) (place : ℕ) (x : Item) → place < length items → x ≡ get_or items place x → items ≡ take place items ++ x ∷ drop (place + 1) items
parted items place x lt is =
    sym (take-append-drop place items) ∙ ap (λ l. take place items ++ l) (drop-cons items place x lt ∙ ap (λ y. y ∷ drop (suc place) items) (sym is) ∙ ap (λ n. x ∷ drop n items) (sym (add-one place)))

-- a push for which there is room
pub pushed : {E : Type 0} (r : Result Unit E) (items new : List Item) (x : Item) → new ≡ cond (is_ok r) (items ++ x ∷ []) items → is_ok r ≡ true → new ≡ items ++ x ∷ []
pushed r items new x is ok = is ∙ ap (λ b. cond b (items ++ x ∷ []) items) ok

-- what stands at a place doesn't depend on what stands past the end
pub get_or_any : (items : List Item) (place : ℕ) (d e : Item) → place < length items → get_or items place d ≡ get_or items place e
get_or_any [] place d e lt = absurd (omega arith)
get_or_any (x ∷ items) zero d e lt = refl
get_or_any (x ∷ items) (suc place) d e lt = get_or_any items place d e (omega arith)

-- the lost one at a place, x or what the code read there
module _ (items lost : List Item) (place : ℕ) (read x : Item) where
  one_there : place < length lost → read ≡ get_or lost place read → x ≡ get_or lost place x → read ≡ x
  one_there lt r is = r ∙ get_or_any lost place read x lt ∙ sym is

  pub lost_counted : (o : Option Item) → IsInOrder items → AreDistinct (items ++ lost) → place < length lost → read ≡ get_or lost place read → x ≡ get_or lost place x → o ≡ find (has_key_of read) items → (p : Item → Bool) → count_by p (items ++ lost) ≡ cond (p x) 1 0 + count_by p (other_items read items ++ (take place lost ++ (option_to_list o ++ drop (place + 1) lost)))
  lost_counted o h once lt r is found p =
      let split = parted lost place read lt r in
      ap (λ l. count_by p (items ++ l)) split
      ∙ replaced_lost-counted read items (take place lost) (drop (place + 1) lost) o h (λ subject. subst (λ l. count_by (is_about subject) (items ++ l) ≤ 1) split (once subject)) found p
      ∙ ap (λ it. cond (p it) 1 0 + count_by p (other_items read items ++ (take place lost ++ (option_to_list o ++ drop (place + 1) lost)))) (one_there lt r is)

module _ (items lost : List Item) (place : ℕ) (read x : Item) (counter : ℕ) where
  pub lost_is : (o : Option Item) → IsInOrder items → AreDistinct (items ++ lost) → place < length lost → read ≡ get_or lost place read → x ≡ get_or lost place x → o ≡ find (has_key_of read) items → queue_of (other_items read items) (take place lost ++ (option_to_list o ++ drop (place + 1) lost)) (counter_with true (other_items read items) counter) ≡ without true x (queue_of items lost counter)
  lost_is o h once lt r is found =
      let split = parted lost place read lt r in
      replaced_lost-is true read items (take place lost) (drop (place + 1) lost) counter o h (λ subject. subst (λ l. count_by (is_about subject) (items ++ l) ≤ 1) split (once subject)) found
      ∙ ap (λ l. without true read (queue_of items l counter)) (sym split)
      ∙ ap (λ it. without true it (queue_of items lost counter)) (one_there items lost place read x lt r is)

pub no_items : queue_of [] [] 0 ≡ new_queue
unfolding queue_of
no_items = refl

pub sound_as : (old new : Contents) → new.items.items ≡ old.items.items → new.lost.items ≡ old.lost.items → IsSound old → IsSound new
sound_as old new items lost sound = record {
  ordered = subst IsInOrder (sym items) sound.ordered;
  distinct = λ subject. let same : new.items.items ++ new.lost.items ≡ old.items.items ++ old.lost.items = cc in
      subst (λ l. count_by (is_about subject) l ≤ 1) (sym same) (sound.distinct subject);
}
