-- A queue that doesn't reset: all pointers point to items of the set, since no two items ever have one id.
use Rattle.std.proofs.Common.{◌≡◌, ℕ, ◌+◌, ◌-◌, ◌<◌, ◌≤◌, Bool, true, false, cond, eqb, ltb, List, [], ◌∷◌, ◌++◌, Option, Some, None, refl, sym, ap, subst, ◌∙◌, inl, inr, arith, append-nil}
use Rattle.std.specs.List.{count_by, find}
use Rattle.std.specs.FinMap.{get}
use Rattle.std.proofs.lemmas.Bool.{cases_Bool, eqb-true, eq-eqb, ne_eqb}
use Rattle.std.proofs.lemmas.Bool.Decides.{nat_tests}
use Rattle.incarnation.specs.declared.Update.{Update}
use Rattle.broadcast_queue.specs.declared.items.Item.{Item}
use Rattle.broadcast_queue.specs.declared.items.Measure.{Measure}
use Rattle.broadcast_queue.specs.Items.{cost, goes_before, has_key_of, is_about, sent_once_more, those_that_fit}
use Rattle.broadcast_queue.specs.Broadcasts.{Queue, placed, other_items, without, with_item, without_pointed, after_put, without_all, with_sent, with_all_sent, after_pick}
use Rattle.broadcast_queue.specs.Contents.{IsInOrder, queue_of}
use Rattle.broadcast_queue.specs.Uses.{Use, queue_after}
use Rattle.broadcast_queue.specs.Uses.Use.{Put, Pick}
use Rattle.broadcast_queue.proofs.Order.{before_has_other_key, has_its_own_key}
use Rattle.broadcast_queue.proofs.Pointers.{AreDistinct, count_by-cons, get-pointers, none_counts, none_of, one_of}
use Rattle.broadcast_queue.proofs.Steps.{added-counted, added-is, deleted-counted, deleted-is, in_order-filter, in_order-placed, no_items}
use Rattle.broadcast_queue.proofs.Picks.{all_found, next_pick}

abbrev has_id : ℕ → Item → Bool
has_id id it = eqb it.id id

-- what holds of these items, of which none was lost, and of the counter
pub record IsWhole (items : List Item) (counter : ℕ) : Type 0 where
  pub ordered : IsInOrder items
  pub distinct : (subject : ℕ) → count_by (is_about subject) items ≤ 1
  pub ids : (id : ℕ) → count_by (has_id id) items ≤ 1
  pub used : (id : ℕ) → counter < id → count_by (has_id id) items ≡ 0

-- a queue with such items, and no pointer to any other
abbrev pub IsWholeQueue : Queue → Type 0
IsWholeQueue queue = (items : List Item) × ((counter : ℕ) × ((queue ≡ queue_of items [] counter) × IsWhole items counter))

count_nil : (p : Item → Bool) (items : List Item) → count_by p (items ++ []) ≡ count_by p items
count_nil p items = ap (count_by p) (append-nil items)

same_id : (x y : Item) → has_key_of x y ≡ true → eqb y.id x.id ≡ true
same_id x y h = grind (arith, nat_tests)

-- no item has the key of one whose id none has
new_key : (x : Item) (items : List Item) → count_by (has_id x.id) items ≡ 0 → find (has_key_of x) items ≡ None
new_key x [] none = refl
new_key x (y ∷ items) none = elim (cases_Bool (has_key_of x y)) [
  | inl own ↦ absurd (omega (arith, count_by-cons (has_id x.id) y items, one_of _ (same_id x y own)))
  | inr other ↦ rw other (new_key x items (omega (arith, count_by-cons (has_id x.id) y items)))
]

-- the one that is found by any test has its own key
own_key : (p : Item → Bool) (items : List Item) (x : Item) → IsInOrder items → find p items ≡ Some x → find (has_key_of x) items ≡ Some x
own_key p [] x h found = absurd (none_is_some x found)
  where
    none_is_some : (z : Item) → ◌≡◌ {A = Option Item} None (Some z) → ⊥
    none_is_some z e = cc
own_key p (y ∷ items) x h found = elim (cases_Bool (p y)) [
  | inl passes ↦
      let same : y ≡ x = one_item y x (rw passes at found) in
      subst (λ (z : Item). find (has_key_of z) (y ∷ items) ≡ Some z) same (rw (has_its_own_key y) refl)
  | inr fails ↦
      let later : find p items ≡ Some x = rw fails at found in
      rw (before_has_other_key x y (all_found (λ z. goes_before y z ≡ true) p items x h.0 later)) (own_key p items x h.1 later)
]
  where
    one_item : (a b : Item) → Some a ≡ Some b → a ≡ b
    one_item a b e = cc

passes_there : (p : Item → Bool) (items : List Item) (x : Item) → find p items ≡ Some x → p x ≡ true
passes_there p [] x found = absurd (none_is_some x found)
  where
    none_is_some : (z : Item) → ◌≡◌ {A = Option Item} None (Some z) → ⊥
    none_is_some z e = cc
passes_there p (y ∷ items) x found = elim (cases_Bool (p y)) [
  | inl passes ↦ subst (λ (z : Item). p z ≡ true) (one_item y x (rw passes at found)) passes
  | inr fails ↦ passes_there p items x (rw fails at found)
]
  where
    one_item : (a b : Item) → Some a ≡ Some b → a ≡ b
    one_item a b e = cc

module _ (items : List Item) (counter : ℕ) where
  once : ((subject : ℕ) → count_by (is_about subject) items ≤ 1) → AreDistinct (items ++ [])
  once distinct subject = omega (arith, count_nil (is_about subject) items, distinct subject)

  -- one is deleted
  delete_one : (x : Item) → IsInOrder items → ((subject : ℕ) → count_by (is_about subject) items ≤ 1) → find (has_key_of x) items ≡ Some x → without false x (queue_of items [] counter) ≡ queue_of (other_items x items) [] counter
  delete_one x h distinct found = sym (deleted-is false x items [] counter h (once distinct) found)

  delete_counts : (x : Item) → IsInOrder items → ((subject : ℕ) → count_by (is_about subject) items ≤ 1) → find (has_key_of x) items ≡ Some x → (p : Item → Bool) → count_by p items ≡ cond (p x) 1 0 + count_by p (other_items x items)
  delete_counts x h distinct found p =
      omega (arith, count_nil p items, count_nil p (other_items x items), deleted-counted false x items [] counter h (once distinct) found p)

  -- one with a new id and a new subject is added
  add_one : (x : Item) → IsInOrder items → ((subject : ℕ) → count_by (is_about subject) items ≤ 1) → count_by (has_id x.id) items ≡ 0 → count_by (is_about x.update.subject) items ≡ 0 → with_item x (queue_of items [] counter) ≡ queue_of (placed x items) [] counter
  add_one x h distinct fresh alone =
      sym (added-is false x items [] counter h (once distinct) (new_key x items fresh) (count_nil (is_about x.update.subject) items ∙ alone))

  add_counts : (x : Item) → IsInOrder items → ((subject : ℕ) → count_by (is_about subject) items ≤ 1) → count_by (has_id x.id) items ≡ 0 → count_by (is_about x.update.subject) items ≡ 0 → (p : Item → Bool) → count_by p (placed x items) ≡ cond (p x) 1 0 + count_by p items
  add_counts x h distinct fresh alone p =
      omega (arith, count_nil p (placed x items), count_nil p items, added-counted false x items [] counter h (once distinct) (new_key x items fresh) (count_nil (is_about x.update.subject) items ∙ alone) p)

-- all that were picked are deleted
pub record IsLeft (picked items : List Item) (counter : ℕ) (queue : Queue) : Type 0 where
  left : List Item
  is : queue ≡ queue_of left [] counter
  ordered : IsInOrder left
  counted : (p : Item → Bool) → count_by p items ≡ count_by p picked + count_by p left

delete_picked : (measure : Measure) (room : ℕ) (picked items : List Item) (counter : ℕ) → IsInOrder items → ((subject : ℕ) → count_by (is_about subject) items ≤ 1) → picked ≡ those_that_fit measure room items → IsLeft picked items counter (without_all false picked (queue_of items [] counter))
delete_picked measure room [] items counter h distinct is = record { left = items; is = refl; ordered = h; counted = λ p. omega arith }
delete_picked measure room (x ∷ picked) items counter h distinct is =
    let next = next_pick measure room items x picked h is in
    let counts = delete_counts items counter x h distinct next.0 in
    let rest = delete_picked measure (room - cost measure x) picked (other_items x items) counter (in_order-filter _ items h) (λ subject. omega (arith, counts (is_about subject), distinct subject)) next.1 in
    record {
      left = rest.left;
      is = ap (λ (q : Queue). without_all false picked q) (delete_one items counter x h distinct next.0) ∙ rest.is;
      ordered = rest.ordered;
      counted = λ p. omega (arith, counts p, rest.counted p, count_by-cons p x picked);
    }

-- those that come back
pub record IsBack (picked items : List Item) (counter : ℕ) (queue : Queue) : Type 0 where
  now : List Item
  is : queue ≡ queue_of now [] counter
  ordered : IsInOrder now
  subjects : (subject : ℕ) → count_by (is_about subject) now ≤ count_by (is_about subject) picked + count_by (is_about subject) items
  ids : (id : ℕ) → count_by (has_id id) now ≤ count_by (has_id id) picked + count_by (has_id id) items

add_picked : (limit : ℕ) (picked items : List Item) (counter : ℕ) → IsInOrder items → ((subject : ℕ) → count_by (is_about subject) picked + count_by (is_about subject) items ≤ 1) → ((id : ℕ) → count_by (has_id id) picked + count_by (has_id id) items ≤ 1) → IsBack picked items counter (with_all_sent limit picked (queue_of items [] counter))
add_picked limit [] items counter h subjects ids = record { now = items; is = refl; ordered = h; subjects = λ s. omega arith; ids = λ n. omega arith }
add_picked limit (x ∷ picked) items counter h subjects ids = elim (cases_Bool (ltb (x.sent + 1) limit)) [
  | inl again ↦
      let y = sent_once_more x in
      let distinct : (subject : ℕ) → count_by (is_about subject) items ≤ 1 = λ subject. omega (arith, subjects subject) in
      let fresh : count_by (has_id y.id) items ≡ 0 = omega (arith, ids x.id, count_by-cons (has_id x.id) x picked, one_of _ (eq-eqb x.id x.id refl)) in
      let alone : count_by (is_about y.update.subject) items ≡ 0 = omega (arith, subjects x.update.subject, count_by-cons (is_about x.update.subject) x picked, one_of _ (eq-eqb x.update.subject x.update.subject refl)) in
      let counts = add_counts items counter y h distinct fresh alone in
      let rest = add_picked limit picked (placed y items) counter (in_order-placed y items h)
      (λ subject. omega (arith, counts (is_about subject), subjects subject, count_by-cons (is_about subject) x picked))
      (λ id. omega (arith, counts (has_id id), ids id, count_by-cons (has_id id) x picked)) in
      let here : with_sent limit x (queue_of items [] counter) ≡ queue_of (placed y items) [] counter = rw again (add_one items counter y h distinct fresh alone) in
      record {
        now = rest.now;
        is = ap (λ (q : Queue). with_all_sent limit picked q) here ∙ rest.is;
        ordered = rest.ordered;
        subjects = λ subject. omega (arith, rest.subjects subject, counts (is_about subject), count_by-cons (is_about subject) x picked);
        ids = λ id. omega (arith, rest.ids id, counts (has_id id), count_by-cons (has_id id) x picked);
      }
  | inr last ↦
      let rest = add_picked limit picked items counter h
      (λ subject. omega (arith, subjects subject, count_by-cons (is_about subject) x picked))
      (λ id. omega (arith, ids id, count_by-cons (has_id id) x picked)) in
      let here : with_sent limit x (queue_of items [] counter) ≡ queue_of items [] counter = rw last refl in
      record {
        now = rest.now;
        is = ap (λ (q : Queue). with_all_sent limit picked q) here ∙ rest.is;
        ordered = rest.ordered;
        subjects = λ subject. omega (arith, rest.subjects subject, count_by-cons (is_about subject) x picked);
        ids = λ id. omega (arith, rest.ids id, count_by-cons (has_id id) x picked);
      }
]

pick_whole : (measure : Measure) (room limit : ℕ) (items : List Item) (counter : ℕ) → IsWhole items counter → IsWholeQueue (after_pick false (those_that_fit measure room items) limit (queue_of items [] counter))
unfolding after_pick
pick_whole measure room limit items counter whole =
    let picked = those_that_fit measure room items in
    let rest = delete_picked measure room picked items counter whole.ordered whole.distinct refl in
    let back = add_picked limit picked rest.left counter rest.ordered
    (λ subject. omega (arith, rest.counted (is_about subject), whole.distinct subject))
    (λ id. omega (arith, rest.counted (has_id id), whole.ids id)) in (
      back.now,
      (
        counter,
        (
          ap (λ (q : Queue). with_all_sent limit picked q) rest.is ∙ back.is,
          record {
            ordered = back.ordered;
            distinct = λ subject. omega (arith, back.subjects subject, rest.counted (is_about subject), whole.distinct subject);
            ids = λ id. omega (arith, back.ids id, rest.counted (has_id id), whole.ids id);
            used = λ id above. omega (arith, back.ids id, rest.counted (has_id id), whole.used id above);
          },
        ),
      ),
    )

add_whole : (x : Item) (items : List Item) (counter : ℕ) → IsInOrder items → ((subject : ℕ) → count_by (is_about subject) items ≤ 1) → ((id : ℕ) → count_by (has_id id) items ≤ 1) → ((id : ℕ) → counter < id → count_by (has_id id) items ≡ 0) → x.id ≡ counter + 1 → count_by (is_about x.update.subject) items ≡ 0 → IsWholeQueue (with_item x (queue_of items [] (counter + 1)))
add_whole x items counter h distinct ids used next alone =
    let fresh : count_by (has_id x.id) items ≡ 0 = used x.id (omega arith) in
    let counts = add_counts items (counter + 1) x h distinct fresh alone in (
      placed x items,
      (
        counter + 1,
        (
          add_one items (counter + 1) x h distinct fresh alone,
          record {
            ordered = in_order-placed x items h;
            distinct = λ subject. elim (cases_Bool (is_about subject x)) [
              | inl own ↦ omega (arith, counts (is_about subject), one_of _ own, subst (λ s. count_by (is_about s) items ≡ 0) (eqb-true x.update.subject subject own) alone)
              | inr other ↦ omega (arith, counts (is_about subject), none_of _ other, distinct subject)
            ];
            ids = λ id. elim (cases_Bool (has_id id x)) [
              | inl own ↦ omega (arith, counts (has_id id), one_of _ own, subst (λ n. count_by (has_id n) items ≡ 0) (eqb-true x.id id own) fresh)
              | inr other ↦ omega (arith, counts (has_id id), none_of _ other, ids id)
            ];
            used = λ id above. omega (arith, counts (has_id id), none_of _ (ne_eqb x.id id (λ same. omega arith)), used id (omega arith));
          },
        ),
      ),
    )

module _ (update : Update) (size : ℕ) (items : List Item) (counter : ℕ) (whole : IsWhole items counter) where
  put_item : Item
  put_item = record { update = update; sent = 0; size = size; id = counter + 1 }

  put_over : (o : Option Item) → find (is_about update.subject) items ≡ o → IsWholeQueue (with_item put_item (without_pointed false o (queue_of items [] (counter + 1))))
  unfolding put_item
  put_over None none = add_whole put_item items counter whole.ordered whole.distinct whole.ids whole.used refl (none_counts (is_about update.subject) items none)
  put_over (Some x) found =
      let there = own_key (is_about update.subject) items x whole.ordered found in
      let own = passes_there (is_about update.subject) items x found in
      let counts = delete_counts items (counter + 1) x whole.ordered whole.distinct there in
      subst (λ (q : Queue). IsWholeQueue (with_item put_item q)) (sym (delete_one items (counter + 1) x whole.ordered whole.distinct there))
      (add_whole put_item (other_items x items) counter (in_order-filter _ items whole.ordered)
      (λ subject. omega (arith, counts (is_about subject), whole.distinct subject))
      (λ id. omega (arith, counts (has_id id), whole.ids id))
      (λ id above. omega (arith, counts (has_id id), whole.used id above))
      refl
      (omega (arith, counts (is_about update.subject), whole.distinct update.subject, one_of _ own)))

  pointer_is : get (queue_of items [] counter).pointers update.subject ≡ find (is_about update.subject) items
  unfolding queue_of
  pointer_is = get-pointers update.subject (items ++ []) ∙ ap (find (is_about update.subject)) (append-nil items)

  put_whole : IsWholeQueue (after_put false update size (queue_of items [] counter))
  unfolding after_put put_item queue_of
  put_whole = subst (λ (o : Option Item). IsWholeQueue (with_item put_item (without_pointed false o (queue_of items [] (counter + 1))))) (sym pointer_is) (put_over (find (is_about update.subject) items) refl)

nothing_used : (p : Item → Bool) → count_by p [] ≡ 0
nothing_used p = refl

pub all_whole : (uses : List Use) → IsWholeQueue (queue_after false uses)
unfolding queue_of
all_whole [] = ([], (0, (sym no_items, record { ordered = tt; distinct = λ s. omega (arith, nothing_used (is_about s)); ids = λ n. omega (arith, nothing_used (has_id n)); used = λ n above. nothing_used (has_id n) })))
all_whole (Put update size ∷ uses) =
    let rest = all_whole uses in
    subst (λ (q : Queue). IsWholeQueue (after_put false update size q)) (sym rest.1.1.0) (put_whole update size rest.0 rest.1.0 rest.1.1.1)
all_whole (Pick measure room limit ∷ uses) =
    let rest = all_whole uses in
    subst (λ (q : Queue). IsWholeQueue (after_pick false (those_that_fit measure room q.items) limit q)) (sym rest.1.1.0) (pick_whole measure room limit rest.0 rest.1.0 rest.1.1.1)

-- so each pointer points to an item of the set
pub points_within : (uses : List Use) (subject : ℕ) → get (queue_after false uses).pointers subject ≡ find (is_about subject) (queue_after false uses).items
unfolding queue_of
points_within uses subject =
    let rest = all_whole uses in
    subst (λ (q : Queue). get q.pointers subject ≡ find (is_about subject) q.items) (sym rest.1.1.0)
    (get-pointers subject (rest.0 ++ []) ∙ ap (find (is_about subject)) (append-nil rest.0))
