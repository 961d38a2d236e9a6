-- The entries at the front, which left with a message, counted and merged into the others.
use Rattle.std.proofs.Common.{◌≡◌, ◌≢◌, ℕ, zero, suc, ◌+◌, ◌-◌, ◌^◌, ◌<◌, ◌≤◌, Bool, true, false, ltb, eqb, ◌&&◌, List, [], ◌∷◌, ◌++◌, length, get_or, set, take, drop, map, Option, Some, None, IfSome, refl, sym, ap, subst, ◌∙◌, inl, inr, arith, drop-cons}
use Rattle.std.specs.List.{AllByRecursion}
use Rattle.std.specs.Option.{option_map}
use Rattle.std.proofs.lemmas.Bool.{cases_Bool, cases_eq, cases_lt, and_parts, eqb-true, eq-eqb, ne_eqb, ltb-true, false≢true}
use Rattle.std.proofs.lemmas.Bool.Decides.{nat_tests}
use Rattle.std.proofs.lemmas.List.{take_more_set, drop-set-lt, drop_all}
use Rattle.incarnation.specs.declared.Update.{Update}
use Rattle.piggyback.specs.Picked.{Counted, goes_before}
use Rattle.piggyback.specs.Keyed.{found_of, is_in_order, placed, all_placed, counted_once, counted_within, goes_first, stands_first, begins_with}
use Rattle.piggyback.proofs.Counts.{tied, not_tied}
use Rattle.piggyback.proofs.Counting.{counted_first, suc_is}
use Rattle.piggyback.proofs.Sorting.{Differ, Precedes, IsInOrder, DifferPairwise, not_after, before_all_later, all_placed-in_order}
use Rattle.piggyback.proofs.Sending.{order_is, order_test, own_found, or_found, found-all_placed, differ_in_order}

-- the first stays where none of those that are placed goes before it
first_stays : (y : Counted) (ys xs : List Counted) → AllByRecursion (λ x. goes_before x y ≡ false) xs → all_placed (y ∷ ys) xs ≡ y ∷ all_placed ys xs
first_stays y ys [] h = refl
first_stays y ys (x ∷ xs) h = rw h.0 (first_stays y (placed x ys) xs h.1)

not_before_too : (x y z : Counted) → goes_before x y ≡ false → goes_before x z ≡ true → goes_before z y ≡ false
not_before_too x y z later first =
    elim (cases_Bool (goes_before z y)) [
      | inl before ↦ absurd (false≢true (sym later ∙ before_all_later x z y first before))
      | inr after ↦ after
    ]

none_before_too : (x y : Counted) (xs : List Counted) → goes_before x y ≡ false → AllByRecursion (Precedes x) xs → AllByRecursion (λ z. goes_before z y ≡ false) xs
none_before_too x y [] later h = tt
none_before_too x y (z ∷ xs) later h = (not_before_too x y z later h.0.0, none_before_too x y xs later h.1)

none_before_first : (x : Counted) (xs : List Counted) → AllByRecursion (Precedes x) xs → AllByRecursion (λ z. goes_before z x ≡ false) xs
none_before_first x [] h = tt
none_before_first x (z ∷ xs) h = (not_after x z h.0.0, none_before_first x xs h.1)

-- the next of the others comes first
pub next_first : (x y : Counted) (ys xs : List Counted) → IsInOrder (x ∷ xs) → goes_before x y ≡ false → all_placed (y ∷ ys) (x ∷ xs) ≡ y ∷ all_placed ys (x ∷ xs)
next_first x y ys xs ordered later = first_stays y ys (x ∷ xs) (later, none_before_too x y xs later ordered.0)

placed_first : (x : Counted) (ys : List Counted) → goes_first x ys ≡ true → placed x ys ≡ x ∷ ys
placed_first x [] first = refl
placed_first x (y ∷ ys) first = rw first refl

-- the next of those that were sent comes first
sent_first : (x : Counted) (ys xs : List Counted) → IsInOrder (x ∷ xs) → goes_first x ys ≡ true → all_placed ys (x ∷ xs) ≡ x ∷ all_placed ys xs
sent_first x ys xs ordered first = ap (λ l. all_placed l xs) (placed_first x ys first) ∙ first_stays x ys xs (none_before_first x xs ordered.0)

pub in_order-drop : (n : ℕ) (xs : List Counted) → IsInOrder xs → IsInOrder (drop n xs)
in_order-drop zero xs h = h
in_order-drop (suc n) [] h = tt
in_order-drop (suc n) (x ∷ xs) h = in_order-drop n xs h.1

all-drop : (P : Counted → Type 0) (n : ℕ) (xs : List Counted) → AllByRecursion P xs → AllByRecursion P (drop n xs)
all-drop P zero xs h = h
all-drop P (suc n) [] h = tt
all-drop P (suc n) (x ∷ xs) h = all-drop P n xs h.1

pub drop_at : {X : Type 0} (these : List X) (i : ℕ) (x : X) → i < length these → x ≡ get_or these i x → drop i these ≡ x ∷ drop (i + 1) these
drop_at these i x lt is =
    drop-cons these i x lt ∙ ap (λ y. y ∷ drop (suc i) these) (sym is) ∙ ap (λ n. x ∷ drop n these) (suc_is i)

push_moves : (xs : List Counted) (x : Counted) (ys : List Counted) → (xs ++ x ∷ []) ++ ys ≡ xs ++ (x ∷ ys)
push_moves [] x ys = refl
push_moves (z ∷ xs) x ys = ap (λ l. z ∷ l) (push_moves xs x ys)

-- what stands up to a place, and what is then still to be merged
abbrev pub merging : List Counted → ℕ → ℕ → List Counted → List Counted
merging these place next sent = take place these ++ all_placed (drop next these) sent

one_read : (xs : List Counted) (i : ℕ) (x y : Counted) → i < length xs → x ≡ get_or xs i x → y ≡ get_or xs i y → x ≡ y
one_read [] i x y lt is is' = absurd (omega arith)
one_read (z ∷ xs) zero x y lt is is' = is ∙ sym is'
one_read (z ∷ xs) (suc i) x y lt is is' = one_read xs i x y (omega arith) is is'

-- one more of those that were sent is written
pub merged_sent : (these sent all : List Counted) (place next done next' : ℕ) (x x' : Counted) → next' ≡ next → place < next → place < length these → done < length sent → x ≡ get_or sent done x → x' ≡ get_or sent done x' → is_in_order sent ≡ true → true ≡ goes_first x (drop next these) → merging these place next (drop done sent) ≡ all → merging (set these place x') (place + 1) next' (drop (done + 1) sent) ≡ all
merged_sent these sent all place next done next' x x' same before within lt is is' ordered first h =
    let rest = all_placed (drop next these) (drop (done + 1) sent) in
    let sent_is = drop_at sent done x lt is in
    let inside : IsInOrder (x ∷ drop (done + 1) sent) = subst IsInOrder sent_is (in_order-drop done sent (order_is sent ordered)) in
    ap (λ n. merging (set these place x') (place + 1) n (drop (done + 1) sent)) same
    ∙ ap (λ v. merging (set these place v) (place + 1) next (drop (done + 1) sent)) (one_read sent done x' x lt is' is)
    ∙ ap (λ l. take (place + 1) (set these place x) ++ all_placed l (drop (done + 1) sent)) (drop-set-lt next these place x before)
    ∙ ap (λ l. l ++ rest) (take_more_set these place x within)
    ∙ push_moves (take place these) x rest
    ∙ ap (λ l. take place these ++ l) (sym (sent_first x (drop next these) (drop (done + 1) sent) inside (sym first)) ∙ ap (all_placed (drop next these)) (sym sent_is))
    ∙ h

pub within_from : (x : Counted) (these : List Counted) (next : ℕ) → goes_first x (drop next these) ≡ false → next < length these
within_from x these next later =
    elim (cases_lt next (length these)) [
      | inl within ↦ within
      | inr past ↦ absurd (false≢true (sym later ∙ ap (goes_first x) (drop_all next these past)))
    ]

-- one more of the others moves forward
pub merged_next : (these sent all : List Counted) (place next done next' : ℕ) (x y : Counted) → next' ≡ next + 1 → place < next → done < length sent → x ≡ get_or sent done x → y ≡ get_or these next y → is_in_order sent ≡ true → false ≡ goes_first x (drop next these) → merging these place next (drop done sent) ≡ all → merging (set these place y) (place + 1) next' (drop done sent) ≡ all
merged_next these sent all place next done next' x y same before lt is y_is ordered later h =
    let within = within_from x these next (sym later) in
    let rest = all_placed (drop (next + 1) these) (drop done sent) in
    let sent_is = drop_at sent done x lt is in
    let these_is = drop_at these next y within y_is in
    let inside : IsInOrder (x ∷ drop (done + 1) sent) = subst IsInOrder sent_is (in_order-drop done sent (order_is sent ordered)) in
    let second : goes_before x y ≡ false = ap (goes_first x) (sym these_is) ∙ sym later in
    ap (λ n. merging (set these place y) (place + 1) n (drop done sent)) same
    ∙ ap (λ l. take (place + 1) (set these place y) ++ all_placed l (drop done sent)) (drop-set-lt (next + 1) these place y (omega (arith, before)))
    ∙ ap (λ l. l ++ rest) (take_more_set these place y (omega (arith, before, within)))
    ∙ push_moves (take place these) y rest
    ∙ ap (λ l. take place these ++ l) (ap (λ l. y ∷ all_placed (drop (next + 1) these) l) sent_is ∙ sym (next_first x y (drop (next + 1) these) (drop (done + 1) sent) inside second) ∙ ap (all_placed (y ∷ drop (next + 1) these)) (sym sent_is) ∙ ap (λ l. all_placed l (drop done sent)) (sym these_is))
    ∙ h

-- the counts of the first can rise
abbrev pub Risable : List Counted → Type 0
Risable these = AllByRecursion (λ it. it.1 < 2 ^ 64 - 1) these

precede_counted : (x y : Counted) → x.1 < 2 ^ 64 - 1 → y.1 < 2 ^ 64 - 1 → Precedes x y → Precedes (counted_once x) (counted_once y)
precede_counted x y low low' before = (raised x y low low' before.0, before.1)
  where
    raised : (x y : Counted) → x.1 < 2 ^ 64 - 1 → y.1 < 2 ^ 64 - 1 → goes_before x y ≡ true → goes_before (counted_once x) (counted_once y) ≡ true
    raised x y low low' before = grind (arith, nat_tests)

all_counted : (x : Counted) (xs : List Counted) → x.1 < 2 ^ 64 - 1 → Risable xs → AllByRecursion (Precedes x) xs → AllByRecursion (Precedes (counted_once x)) (map counted_once xs)
all_counted x [] low risable h = tt
all_counted x (y ∷ xs) low risable h = (precede_counted x y low risable.0 h.0, all_counted x xs low risable.1 h.1)

in_order-counted : (xs : List Counted) → Risable xs → IsInOrder xs → IsInOrder (map counted_once xs)
in_order-counted [] risable h = tt
in_order-counted (x ∷ xs) risable h = (all_counted x xs risable.0 risable.1 h.0, in_order-counted xs risable.1 h.1)

all-take : (P : Counted → Type 0) (n : ℕ) (xs : List Counted) → AllByRecursion P xs → AllByRecursion P (take n xs)
all-take P zero xs h = tt
all-take P (suc n) [] h = tt
all-take P (suc n) (x ∷ xs) h = (h.0, all-take P n xs h.1)

in_order-take : (n : ℕ) (xs : List Counted) → IsInOrder xs → IsInOrder (take n xs)
in_order-take zero xs h = tt
in_order-take (suc n) [] h = tt
in_order-take (suc n) (x ∷ xs) h = (all-take (Precedes x) n xs h.0, in_order-take n xs h.1)

apart_front : (n : ℕ) (these : List Counted) → DifferPairwise these → AllByRecursion (λ y. AllByRecursion (Differ y) (drop n these)) (map counted_once (take n these))
apart_front zero these h = tt
apart_front (suc n) [] h = tt
apart_front (suc n) (x ∷ these) h = (all-drop (Differ x) n these h.0, apart_front n these h.1)

risable_front : (us : List Update) (these : List Counted) → begins_with us these ≡ true → Risable (take (length us) these)
risable_front [] these h = tt
risable_front (u ∷ us) [] h = tt
risable_front (u ∷ us) (x ∷ these) h =
    let parts = and_parts (stands_first u (x ∷ these)) (begins_with us these) h in
    let here = and_parts (eqb x.0.subject u.subject) (ltb x.1 (2 ^ 64 - 1)) parts.0 in
    (ltb-true _ _ here.1, risable_front us these parts.1)

-- of each subject stands what stood of it, counted if it is one of these updates'
not_first : (u : Update) (us : List Update) (subject : ℕ) (o : Option Counted) → IfSome o (λ it. it.0.subject ≡ subject) → subject ≢ u.subject → option_map (counted_within us) o ≡ option_map (counted_within (u ∷ us)) o
not_first u us subject None own other = refl
not_first u us subject (Some it) own other = rw (ne_eqb u.subject it.0.subject (λ same. other (sym own ∙ sym same))) refl

found_front : (us : List Update) (these : List Counted) (subject : ℕ) → begins_with us these ≡ true → or_found (found_of subject (map counted_once (take (length us) these))) (found_of subject (drop (length us) these)) ≡ option_map (counted_within us) (found_of subject these)
found_front [] these subject h = counted_first (found_of subject these)
found_front (u ∷ us) [] subject h = absurd (false≢true h)
found_front (u ∷ us) (x ∷ these) subject h =
    let parts = and_parts (stands_first u (x ∷ these)) (begins_with us these) h in
    let own : x.0.subject ≡ u.subject = eqb-true _ _ (and_parts (eqb x.0.subject u.subject) (ltb x.1 (2 ^ 64 - 1)) parts.0).0 in
    elim (cases_eq subject x.0.subject) [
      | inl same ↦ rw (tied subject x.0.subject same, eq-eqb u.subject x.0.subject (sym own)) refl
      | inr other ↦
          rw (not_tied subject x.0.subject other)
          (found_front us these subject parts.1 ∙ not_first u us subject (found_of subject these) (own_found subject these) (λ k. other (k ∙ sym own)))
    ]

drop_one : (i : ℕ) (xs : List Counted) → drop 1 (drop i xs) ≡ drop (suc i) xs
drop_one zero xs = refl
drop_one (suc i) [] = refl
drop_one (suc i) (x ∷ xs) = drop_one i xs

-- one more update has its entry
pub begun_more : (us : List Update) (these : List Counted) (i : ℕ) (u : Update) (all : Bool) → i < length us → u ≡ get_or us i u → true ≡ stands_first u (drop i these) → begins_with (drop i us) (drop i these) ≡ all → begins_with (drop (i + 1) us) (drop (i + 1) these) ≡ all
begun_more us these i u all lt is stands h =
    ap (begins_with (drop (i + 1) us)) (sym (drop_one i these ∙ ap (λ n. drop n these) (suc_is i)))
    ∙ ap (λ b. b && begins_with (drop (i + 1) us) (drop 1 (drop i these))) stands
    ∙ ap (λ l. begins_with l (drop i these)) (sym (drop_at us i u lt is))
    ∙ h

pub begins_within : (us : List Update) (these : List Counted) → begins_with us these ≡ true → length us ≤ length these
begins_within [] these h = omega arith
begins_within (u ∷ us) [] h = absurd (false≢true h)
begins_within (u ∷ us) (x ∷ these) h = omega (arith, begins_within us these (and_parts (stands_first u (x ∷ these)) (begins_with us these) h).1)

module _ (us : List Update) (these : List Counted) (ordered : is_in_order these ≡ true) (begins : begins_with us these ≡ true) where
  pub front_in_order : is_in_order (map counted_once (take (length us) these)) ≡ true
  front_in_order = order_test _ (in_order-counted _ (risable_front us these begins) (in_order-take (length us) these (order_is these ordered)))

  inside : IsInOrder (map counted_once (take (length us) these))
  inside = order_is _ front_in_order

  pub rest_in_order : is_in_order (drop (length us) these) ≡ true
  rest_in_order = order_test _ (in_order-drop (length us) these (order_is these ordered))

  pub merged_in_order : is_in_order (all_placed (drop (length us) these) (map counted_once (take (length us) these))) ≡ true
  merged_in_order =
      let all = order_is these ordered in
      order_test _ (all_placed-in_order (drop (length us) these) (map counted_once (take (length us) these)) (in_order-drop (length us) these all) (differ_in_order _ inside) (apart_front (length us) these (differ_in_order these all)))

  pub merged_counted : (subject : ℕ) → found_of subject (all_placed (drop (length us) these) (map counted_once (take (length us) these))) ≡ option_map (counted_within us) (found_of subject these)
  merged_counted subject =
      found-all_placed subject (drop (length us) these) (map counted_once (take (length us) these)) (differ_in_order _ inside) (apart_front (length us) these (differ_in_order these (order_is these ordered)))
      ∙ found_front us these subject begins
