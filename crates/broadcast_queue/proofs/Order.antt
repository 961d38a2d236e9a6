-- The order of keys, and where a key stands among items in order.
use Rattle.std.proofs.Common.{◌≡◌, ℕ, zero, suc, ◌+◌, ◌<◌, ◌≤◌, Bool, true, false, cond, List, [], ◌∷◌, ◌++◌, filter, length, Option, Some, None, drop, set, get_or, refl, sym, ap, ◌∙◌, inl, inr, ◌⊎◌, arith}
use Rattle.std.specs.List.{AllByRecursion, find, prefix_len, insert, remove}
use Rattle.std.specs.Option.{is_some, option_to_list}
use Rattle.std.specs.Prelude.{is_ok, Result}
use Rattle.std.specs.List.Sorted.{IsPartitionedBy, IsPartitionPoint}
use Rattle.std.proofs.lemmas.List.Sums.{prefix_len_is}
use Rattle.std.proofs.lemmas.Bool.{false≢true}
use Rattle.std.proofs.lemmas.Bool.Decides.{nat_tests}
use Rattle.incarnation.specs.declared.Claim.TheVariants.{Alive}
use Rattle.broadcast_queue.specs.declared.items.Item.{Item}
use Rattle.broadcast_queue.specs.Items.{goes_before, has_key_of}
use Rattle.broadcast_queue.specs.Broadcasts.{placed, other_items}
use Rattle.broadcast_queue.specs.Contents.{IsInOrder, begins_with_key_of}

pub before_all_later : (x y z : Item) → goes_before x y ≡ true → goes_before y z ≡ true → goes_before x z ≡ true
before_all_later x y z h k = grind (arith, nat_tests)

pub before_as_its_key : (x y z : Item) → has_key_of x y ≡ true → goes_before y z ≡ true → goes_before x z ≡ true
before_as_its_key x y z h k = grind (arith, nat_tests)

pub not_after : (x y : Item) → goes_before x y ≡ true → goes_before y x ≡ false
not_after x y h = grind (arith, nat_tests)

pub before_has_other_key : (x y : Item) → goes_before y x ≡ true → has_key_of x y ≡ false
before_has_other_key x y h = grind (arith, nat_tests)

pub behind_has_other_key : (x y : Item) → goes_before x y ≡ true → has_key_of x y ≡ false
behind_has_other_key x y h = grind (arith, nat_tests)

pub key_not_before : (x y : Item) → has_key_of x y ≡ true → goes_before y x ≡ false
key_not_before x y h = grind (arith, nat_tests)

pub key_not_behind : (x y : Item) → has_key_of x y ≡ true → goes_before x y ≡ false
key_not_behind x y h = grind (arith, nat_tests)

pub has_its_own_key : (x : Item) → has_key_of x x ≡ true
has_its_own_key x = grind (arith, nat_tests)

pub before_key_or_behind : (x y : Item) → (goes_before y x ≡ true) ⊎ ((has_key_of x y ≡ true) ⊎ (goes_before x y ≡ true))
before_key_or_behind x y = grind (arith, nat_tests)

pub all_of : (P Q : Item → Type 0) (items : List Item) → ((it : Item) → P it → Q it) → AllByRecursion P items → AllByRecursion Q items
all_of P Q [] then h = tt
all_of P Q (x ∷ items) then h = (then x h.0, all_of P Q items then h.1)

one_more : (n : ℕ) → 1 + n ≡ suc n
one_more n = omega arith

module _ (x : Item) where
  abbrev pub before : Item → Bool
  before it = goes_before it x

  abbrev pub behind : Item → Bool
  behind it = goes_before x it

  abbrev pub of_key : Item → Bool
  of_key it = has_key_of x it

  abbrev pub AllBehind : List Item → Type 0
  AllBehind items = AllByRecursion (λ y. goes_before x y ≡ true) items

  pub none_before : (items : List Item) → AllBehind items → filter before items ≡ []
  none_before [] h = refl
  none_before (y ∷ items) h = rw (not_after x y h.0) (none_before items h.1)

  pub all_behind : (items : List Item) → AllBehind items → filter behind items ≡ items
  all_behind [] h = refl
  all_behind (y ∷ items) h = rw h.0 (ap (λ l. y ∷ l) (all_behind items h.1))

  pub all_others : (items : List Item) → AllBehind items → other_items x items ≡ items
  all_others [] h = refl
  all_others (y ∷ items) h = rw (behind_has_other_key x y h.0) (ap (λ l. y ∷ l) (all_others items h.1))

  pub none_of_key : (items : List Item) → AllBehind items → find of_key items ≡ None
  none_of_key [] h = refl
  none_of_key (y ∷ items) h = rw (behind_has_other_key x y h.0) (none_of_key items h.1)

  -- the items are those before it, the one of its key, and those behind it
  pub whole : (items : List Item) → IsInOrder items → items ≡ filter before items ++ (option_to_list (find of_key items) ++ filter behind items)
  whole [] h = refl
  whole (y ∷ items) h = elim (before_key_or_behind x y) [
    | inl first ↦ rw (first, before_has_other_key x y first, not_after y x first) (ap (λ l. y ∷ l) (whole items h.1))
    | inr rest ↦ elim rest [
      | inl own ↦
          let later : AllBehind items = all_of _ _ items (λ z after. before_as_its_key x y z own after) h.0 in
          rw (key_not_before x y own, own, key_not_behind x y own, none_before items later, all_behind items later) refl
      | inr last ↦
          let later : AllBehind items = all_of _ _ items (λ z after. before_all_later x y z last after) h.0 in
          rw (not_after x y last, behind_has_other_key x y last, last, none_before items later, none_of_key items later, all_behind items later) refl
    ]
  ]

  pub others_are : (items : List Item) → IsInOrder items → other_items x items ≡ filter before items ++ filter behind items
  others_are [] h = refl
  others_are (y ∷ items) h = elim (before_key_or_behind x y) [
    | inl first ↦ rw (first, before_has_other_key x y first, not_after y x first) (ap (λ l. y ∷ l) (others_are items h.1))
    | inr rest ↦ elim rest [
      | inl own ↦
          let later : AllBehind items = all_of _ _ items (λ z after. before_as_its_key x y z own after) h.0 in
          rw (key_not_before x y own, own, key_not_behind x y own, none_before items later, all_behind items later, all_others items later) refl
      | inr last ↦
          let later : AllBehind items = all_of _ _ items (λ z after. before_all_later x y z last after) h.0 in
          rw (not_after x y last, behind_has_other_key x y last, last, none_before items later, all_behind items later, all_others items later) refl
    ]
  ]

  -- the place of its key
  pub begins-found : (items : List Item) → IsInOrder items → begins_with_key_of x (drop (prefix_len before items) items) ≡ is_some (find of_key items)
  begins-found [] h = refl
  begins-found (y ∷ items) h = elim (before_key_or_behind x y) [
    | inl first ↦ rw (first, before_has_other_key x y first, one_more (prefix_len before items)) (begins-found items h.1)
    | inr rest ↦ elim rest [
      | inl own ↦ rw (key_not_before x y own, own) refl
      | inr last ↦
          let later : AllBehind items = all_of _ _ items (λ z after. before_all_later x y z last after) h.0 in
          rw (not_after x y last, behind_has_other_key x y last, none_of_key items later) refl
    ]
  ]

  pub removed : (items : List Item) → IsInOrder items → is_some (find of_key items) ≡ true → remove items (prefix_len before items) ≡ other_items x items
  removed [] h some = absurd (false≢true some)
  removed (y ∷ items) h some = elim (before_key_or_behind x y) [
    | inl first ↦
        let rest : is_some (find of_key items) ≡ true = rw (before_has_other_key x y first) at some in
        rw (first, before_has_other_key x y first, one_more (prefix_len before items)) (ap (λ l. y ∷ l) (removed items h.1 rest))
    | inr rest ↦ elim rest [
      | inl own ↦
          let later : AllBehind items = all_of _ _ items (λ z after. before_as_its_key x y z own after) h.0 in
          rw (key_not_before x y own, own, all_others items later) refl
      | inr last ↦
          let later : AllBehind items = all_of _ _ items (λ z after. before_all_later x y z last after) h.0 in
          absurd (false≢true (rw (behind_has_other_key x y last, none_of_key items later) at some))
    ]
  ]

  pub found_there : (items : List Item) (d : Item) → IsInOrder items → is_some (find of_key items) ≡ true → find of_key items ≡ Some (get_or items (prefix_len before items) d)
  found_there [] d h some = absurd (false≢true some)
  found_there (y ∷ items) d h some = elim (before_key_or_behind x y) [
    | inl first ↦
        let rest : is_some (find of_key items) ≡ true = rw (before_has_other_key x y first) at some in
        rw (first, before_has_other_key x y first, one_more (prefix_len before items)) (found_there items d h.1 rest)
    | inr rest ↦ elim rest [
      | inl own ↦ rw (key_not_before x y own, own) refl
      | inr last ↦
          let later : AllBehind items = all_of _ _ items (λ z after. before_all_later x y z last after) h.0 in
          absurd (false≢true (rw (behind_has_other_key x y last, none_of_key items later) at some))
    ]
  ]

  pub set_there : (items : List Item) → IsInOrder items → is_some (find of_key items) ≡ true → set items (prefix_len before items) x ≡ placed x items
  set_there [] h some = absurd (false≢true some)
  set_there (y ∷ items) h some = elim (before_key_or_behind x y) [
    | inl first ↦
        let rest : is_some (find of_key items) ≡ true = rw (before_has_other_key x y first) at some in
        rw (first, not_after y x first, one_more (prefix_len before items)) (ap (λ l. y ∷ l) (set_there items h.1 rest))
    | inr rest ↦ elim rest [
      | inl own ↦
          let later : AllBehind items = all_of _ _ items (λ z after. before_as_its_key x y z own after) h.0 in
          rw (key_not_before x y own, key_not_behind x y own, none_before items later, all_behind items later) refl
      | inr last ↦
          let later : AllBehind items = all_of _ _ items (λ z after. before_all_later x y z last after) h.0 in
          absurd (false≢true (rw (behind_has_other_key x y last, none_of_key items later) at some))
    ]
  ]

  pub insert_there : (items : List Item) → IsInOrder items → is_some (find of_key items) ≡ false → insert items (prefix_len before items) x ≡ placed x items
  insert_there [] h none = refl
  insert_there (y ∷ items) h none = elim (before_key_or_behind x y) [
    | inl first ↦
        let rest : is_some (find of_key items) ≡ false = rw (before_has_other_key x y first) at none in
        rw (first, not_after y x first, one_more (prefix_len before items)) (ap (λ l. y ∷ l) (insert_there items h.1 rest))
    | inr rest ↦ elim rest [
      | inl own ↦ absurd (false≢true (sym (rw own at none)))
      | inr last ↦
          let later : AllBehind items = all_of _ _ items (λ z after. before_all_later x y z last after) h.0 in
          rw (not_after x y last, last, none_before items later, all_behind items later) refl
    ]
  ]

  pub found_within : (items : List Item) → IsInOrder items → is_some (find of_key items) ≡ true → suc (prefix_len before items) ≤ length items
  found_within [] h some = absurd (false≢true some)
  found_within (y ∷ items) h some = elim (before_key_or_behind x y) [
    | inl first ↦
        let rest : is_some (find of_key items) ≡ true = rw (before_has_other_key x y first) at some in
        rw (first, one_more (prefix_len before items)) (omega (arith, found_within items h.1 rest))
    | inr rest ↦ elim rest [
      | inl own ↦ rw (key_not_before x y own) (omega arith)
      | inr last ↦
          let later : AllBehind items = all_of _ _ items (λ z after. before_all_later x y z last after) h.0 in
          absurd (false≢true (rw (behind_has_other_key x y last, none_of_key items later) at some))
    ]
  ]

pub none_from : (o : Option Item) → is_some o ≡ false → o ≡ None
none_from None h = refl
none_from (Some x) h = absurd (false≢true (sym h))

-- what is at a place
all_get : (P : Item → Type 0) (items : List Item) (i : ℕ) (d : Item) → AllByRecursion P items → i < length items → P (get_or items i d)
all_get P [] i d h lt = absurd (omega arith)
all_get P (x ∷ items) zero d h lt = h.0
all_get P (x ∷ items) (suc i) d h lt = all_get P items i d h.1 (omega arith)

-- those before an item are separated from the others
pub partitioned : (e : Item) (items : List Item) → IsInOrder items → IsPartitionedBy (λ it. goes_before it e) items
partitioned e [] h i j d le lt passes = absurd (omega arith)
partitioned e (x ∷ items) h zero zero d le lt passes = passes
partitioned e (x ∷ items) h zero (suc j) d le lt passes = before_all_later x (get_or items j d) e (all_get (λ y. goes_before x y ≡ true) items j d h.0 (omega arith)) passes
partitioned e (x ∷ items) h (suc i) zero d le lt passes = absurd (omega arith)
partitioned e (x ∷ items) h (suc i) (suc j) d le lt passes = partitioned e items h.1 i j d (omega arith) (omega arith) passes

-- a partition point is where those that pass end
pub prefix_len_from_point : (p : Item → Bool) (items : List Item) (n : ℕ) → n ≤ length items → IsPartitionPoint (λ it. p it ≡ true) (λ it. p it ≡ false) items n → n ≡ prefix_len p items
prefix_len_from_point p [] n le point = omega arith
prefix_len_from_point p (it ∷ items) n le point = sym (prefix_len_is p (it ∷ items) n it le (λ k lt. point.0 k it (omega arith) lt) (λ lt. point.1 n it (omega arith) lt))

-- what the code finds at the place of an item's key
pub finds : (x : Item) (items : List Item) (place : ℕ) (b : Bool) → IsInOrder items → place ≡ prefix_len (λ it. goes_before it x) items → b ≡ begins_with_key_of x (drop place items) → is_some (find (has_key_of x) items) ≡ b
finds x items place b h at test = sym (test ∙ ap (λ n. begins_with_key_of x (drop n items)) at ∙ begins-found x items h)

pub others_kept : (x : Item) (items : List Item) → IsInOrder items → is_some (find (has_key_of x) items) ≡ false → items ≡ other_items x items
others_kept x items h none =
    whole x items h
    ∙ ap (λ o. filter (before x) items ++ (option_to_list o ++ filter (behind x) items)) (none_from _ none)
    ∙ sym (others_are x items h)

-- the one that stands there
pub taken_there : (x : Item) (items : List Item) (place : ℕ) (taken : Item) → IsInOrder items → place ≡ prefix_len (λ it. goes_before it x) items → is_some (find (has_key_of x) items) ≡ true → taken ≡ get_or items place taken → Some taken ≡ find (has_key_of x) items
taken_there x items place taken h at some is =
    ap Some (is ∙ ap (λ n. get_or items n taken) at) ∙ sym (found_there x items taken h some)

-- an insertion for which there is room
pub inserted : {E : Type 0} (r : Result Unit E) (items new : List Item) (place : ℕ) (x : Item) → new ≡ cond (is_ok r) (insert items place x) items → is_ok r ≡ true → new ≡ insert items place x
inserted r items new place x is ok = is ∙ ap (λ b. cond b (insert items place x) items) ok

-- the item at a place is the one of its key
pub own_key_at : (items : List Item) (place : ℕ) (d : Item) → IsInOrder items → place < length items → find (has_key_of (get_or items place d)) items ≡ Some (get_or items place d)
own_key_at [] place d h lt = absurd (omega arith)
own_key_at (y ∷ items) zero d h lt = rw (has_its_own_key y) refl
own_key_at (y ∷ items) (suc place) d h lt =
    rw (before_has_other_key (get_or items place d) y (all_get (λ z. goes_before y z ≡ true) items place d h.0 (omega arith))) (own_key_at items place d h.1 (omega arith))

-- an item that stands past the end of a list
pub nobody : ℕ → Item
nobody n = record { update = record { subject = n; claim = Alive; inc = 0; accuser = n }; sent = 0; size = 0; id = 0 }
