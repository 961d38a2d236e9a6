-- What is picked: each time the first item that fits.
use Rattle.std.proofs.Common.{◌≡◌, ℕ, suc, ◌+◌, ◌-◌, ◌<◌, ◌≤◌, Bool, true, false, cond, leb, List, [], ◌∷◌, length, drop, get_or, Option, Some, None, ◌⊎◌, refl, sym, ap, subst, ◌∙◌, inl, inr, arith, add-one, drop-cons}
use Rattle.std.specs.List.{AllByRecursion, find, sum_by}
use Rattle.std.proofs.lemmas.Bool.{cases_Bool, leb-true, leb-false, lt-leb}
use Rattle.std.proofs.lemmas.List.Sums.{sum_by-cons}
use Rattle.broadcast_queue.specs.declared.items.Item.{Item}
use Rattle.broadcast_queue.specs.declared.items.Measure.{Measure}
use Rattle.broadcast_queue.specs.declared.items.Measure.TheVariants.{Items, Bytes}
use Rattle.broadcast_queue.specs.Items.{cost, goes_before, has_key_of, picks_from, those_that_fit}
use Rattle.broadcast_queue.specs.Broadcasts.{other_items}
use Rattle.broadcast_queue.specs.Contents.{IsInOrder}
use Rattle.broadcast_queue.proofs.Order.{all_others, before_has_other_key, has_its_own_key}

same_head : (x y : Item) (xs ys : List Item) → x ∷ xs ≡ y ∷ ys → x ≡ y
same_head x y xs ys e = cc

same_tail : (x y : Item) (xs ys : List Item) → x ∷ xs ≡ y ∷ ys → xs ≡ ys
same_tail x y xs ys e = cc

none_and_some : (x : Item) → ◌≡◌ {A = Option Item} None (Some x) → ⊥
none_and_some x e = cc

one_value : (x y : Item) → Some x ≡ Some y → x ≡ y
one_value x y e = cc

empty_and_not : (x : Item) (xs : List Item) → x ∷ xs ≡ [] → ⊥
empty_and_not x xs e = cc

-- what holds of all holds of the one that is found
pub all_found : (P : Item → Type 0) (p : Item → Bool) (items : List Item) (x : Item) → AllByRecursion P items → find p items ≡ Some x → P x
all_found P p [] x all found = absurd (none_and_some x found)
all_found P p (y ∷ items) x all found = elim (cases_Bool (p y)) [
  | inl passes ↦ subst P (one_value y x (rw passes at found)) all.0
  | inr fails ↦ all_found P p items x all.1 (rw fails at found)
]

module _ (measure : Measure) where
  -- one that doesn't fit into the room doesn't fit into less
  still_too_large : (it : Item) (room less : ℕ) → leb (cost measure it) room ≡ false → leb (cost measure it) (room - less) ≡ false
  still_too_large it room less large = let gt : room < cost measure it = leb-false (cost measure it) room large in lt-leb (cost measure it) (room - less) (omega arith)

  pub next_pick : (room : ℕ) (items : List Item) (x : Item) (xs : List Item) → IsInOrder items → x ∷ xs ≡ those_that_fit measure room items → (find (has_key_of x) items ≡ Some x) × (xs ≡ those_that_fit measure (room - cost measure x) (other_items x items))
  next_pick room [] x xs h is = absurd (empty_and_not x xs is)
  next_pick room (y ∷ items) x xs h is = elim (cases_Bool (leb (cost measure y) room)) [
    | inl fits ↦
        let here : x ∷ xs ≡ y ∷ those_that_fit measure (room - cost measure y) items = rw fits at is in
        let same : x ≡ y = same_head x y _ _ here in
        let rest : xs ≡ those_that_fit measure (room - cost measure y) items = same_tail x y _ _ here in
        subst (λ (z : Item). (find (has_key_of z) (y ∷ items) ≡ Some z) × (xs ≡ those_that_fit measure (room - cost measure z) (other_items z (y ∷ items)))) (sym same)
        (rw (has_its_own_key y) refl, rw (has_its_own_key y, all_others y items h.0) rest)
    | inr large ↦
        let later = next_pick room items x xs h.1 (rw large at is) in
        let first : has_key_of x y ≡ false = before_has_other_key x y (all_found (λ z. goes_before y z ≡ true) (has_key_of x) items x h.0 later.0) in
        (rw first later.0, rw (first, still_too_large y room (cost measure x) large) later.1)
  ]

  pub fits_here : (room left : ℕ) (it : Item) (items : List Item) → Some left ≡ cond (leb (cost measure it) room) (Some (room - cost measure it)) None → those_that_fit measure room (it ∷ items) ≡ it ∷ those_that_fit measure left items
  fits_here room left it items is = elim (cases_Bool (leb (cost measure it) room)) [
    | inl fits ↦
        let some : left ≡ room - cost measure it = one_number left (room - cost measure it) (rw fits at is) in
        rw fits (ap (λ n. it ∷ those_that_fit measure n items) (sym some))
    | inr large ↦ absurd (no_number left (sym (rw large at is)))
  ]
    where
      one_number : (m n : ℕ) → Some m ≡ Some n → m ≡ n
      one_number m n e = cc

      no_number : (n : ℕ) → ◌≡◌ {A = Option ℕ} None (Some n) → ⊥
      no_number n e = cc

  pub too_large_here : (room : ℕ) (it : Item) (items : List Item) → None ≡ cond (leb (cost measure it) room) (Some (room - cost measure it)) None → those_that_fit measure room (it ∷ items) ≡ those_that_fit measure room items
  too_large_here room it items is = elim (cases_Bool (leb (cost measure it) room)) [
    | inl fits ↦ absurd (no_number (room - cost measure it) (rw fits at is))
    | inr large ↦ rw large refl
  ]
    where
      no_number : (n : ℕ) → ◌≡◌ {A = Option ℕ} None (Some n) → ⊥
      no_number n e = cc

costs_some : (measure : Measure) (it : Item) → 0 < cost measure it
costs_some Items it = omega arith
costs_some Bytes it = omega arith

pub none_fits : (measure : Measure) (items : List Item) → those_that_fit measure 0 items ≡ []
none_fits measure [] = refl
none_fits measure (it ∷ items) = rw (lt-leb (cost measure it) 0 (costs_some measure it)) (none_fits measure items)

-- the next of a list that is gone through
pub next_of : (xs : List Item) (i : ℕ) (it : Item) → i < length xs → it ≡ get_or xs i it → drop i xs ≡ it ∷ drop (i + 1) xs
next_of xs i it lt is = rw add-one (drop-cons xs i it lt ∙ ap (λ y. y ∷ drop (suc i) xs) (sym is))

-- no more is picked than there is room for
pub within_room : (measure : Measure) (room : ℕ) (items : List Item) → sum_by (cost measure) (those_that_fit measure room items) ≤ room
within_room measure room [] = omega arith
within_room measure room (it ∷ items) = elim (cases_Bool (leb (cost measure it) room)) [
  | inl fits ↦
      let rest = within_room measure (room - cost measure it) items in
      rw fits (omega (arith, leb-true (cost measure it) room fits, sum_by-cons (cost measure) it (those_that_fit measure (room - cost measure it) items), rest))
  | inr large ↦ rw large (within_room measure room items)
]

takes_some : (measure : Measure) (picked : List Item) → (picked ≡ []) ⊎ (0 < sum_by (cost measure) picked)
takes_some measure [] = inl refl
takes_some measure (it ∷ picked) = inr (omega (arith, costs_some measure it, sum_by-cons (cost measure) it picked))

pub nothing_or_within : (packet taken : ℕ) (items : List Item) → (those_that_fit Bytes (packet - (2 + taken)) items ≡ []) ⊎ (2 + taken + sum_by (cost Bytes) (those_that_fit Bytes (packet - (2 + taken)) items) ≤ packet)
nothing_or_within packet taken items =
    let picked = those_that_fit Bytes (packet - (2 + taken)) items in
    elim (takes_some Bytes picked) [
      | inl none ↦ inl none
      | inr some ↦ inr (omega (arith, within_room Bytes (packet - (2 + taken)) items))
    ]

-- each time the first that fits is picked
pub first_fits : (measure : Measure) (room : ℕ) (items : List Item) (o : Option Item) → IsInOrder items → find (λ it. leb (cost measure it) room) items ≡ o → those_that_fit measure room items ≡ picks_from measure room items o
first_fits measure room [] o h is = ap (picks_from measure room []) is
first_fits measure room (y ∷ items) o h is = elim (cases_Bool (leb (cost measure y) room)) [
  | inl fits ↦
      let first : Some y ≡ o = rw fits at is in
      rw fits (ap (λ l. y ∷ those_that_fit measure (room - cost measure y) l) (sym (all_others y items h.0) ∙ sym (own_gone y items)) ∙ ap (picks_from measure room (y ∷ items)) first)
  | inr large ↦
      let later : find (λ it. leb (cost measure it) room) items ≡ o = rw large at is in
      rw large (first_fits measure room items o h.1 later ∙ skip_first measure room y items o large h.0 later)
]
  where
    own_gone : (z : Item) (zs : List Item) → other_items z (z ∷ zs) ≡ other_items z zs
    own_gone z zs = rw (has_its_own_key z) refl

    skip_first : (m : Measure) (n : ℕ) (z : Item) (zs : List Item) (p : Option Item) → leb (cost m z) n ≡ false → AllByRecursion (λ w. goes_before z w ≡ true) zs → find (λ it. leb (cost m it) n) zs ≡ p → picks_from m n zs p ≡ picks_from m n (z ∷ zs) p
    skip_first m n z zs None large all found = refl
    skip_first m n z zs (Some x) large all found =
        rw (before_has_other_key x z (all_found (λ w. goes_before z w ≡ true) (λ it. leb (cost m it) n) zs x all found), still_too_large m z n (cost m x) large) refl
