-- Entries in the order in which they are sent: what stands of each subject where one is taken out, put in or left.
use Rattle.std.proofs.Common.{◌≡◌, ◌≢◌, ℕ, zero, suc, ◌+◌, ◌<◌, ◌≤◌, Bool, true, false, cond, not, eqb, List, [], ◌∷◌, length, get_or, filter, Option, Some, None, IfSome, Result, Ok, Err, OnOk, refl, sym, ap, subst, ◌∙◌, inl, inr, arith, ltb, take}
use Rattle.std.specs.List.{AllByRecursion, list_all, prefix_len, insert, remove, position_or_len, position}
use Rattle.std.specs.List.Sorted.{IsNonDecreasingBy, IsPartitionedBy, IsPartitionPoint}
use Rattle.std.specs.Option.{option_and_then}
use Rattle.std.specs.Ordering.{nat_cmp, eq_by_cmp}
use Rattle.std.proofs.lemmas.Bool.{cases_Bool, cases_eq, cases_lt, cond_both, and_parts, and_from, eqb-true, eqb-false, eq-eqb, ne_eqb, lt-ltb, le-ltb, ltb-false, false≢true}
use Rattle.std.proofs.lemmas.Bool.Decides.{nat_tests}
use Rattle.std.proofs.lemmas.List.Quantifiers.{position-Some}
use Rattle.std.proofs.lemmas.List.Sums.{prefix_len_is}
use Rattle.piggyback.specs.Picked.{Counted, goes_before}
use Rattle.piggyback.specs.Keyed.{found_of, placed, all_placed, precedes, is_in_order, IsPut}
use Rattle.piggyback.proofs.Counts.{tied, not_tied}
use Rattle.piggyback.proofs.Rising.{Rises}
use Rattle.piggyback.proofs.Sorting.{insert-position, Differ, Precedes, IsInOrder, DifferPairwise, all_of_both, turned, not_after, before_all_later, placed-in_order, differ_from_placed, none_there}

-- the test of the order and its meaning
apart : (b : Bool) → not b ≡ true → b ≡ true → ⊥
apart true n e = false≢true n
apart false n e = false≢true e

all_precede : (x : Counted) (these : List Counted) → list_all (precedes x) these ≡ true → AllByRecursion (Precedes x) these
all_precede x [] h = tt
all_precede x (y ∷ these) h =
    let parts = and_parts (precedes x y) (list_all (precedes x) these) h in
    let here = and_parts (goes_before x y) (not (eqb x.0.subject y.0.subject)) parts.0 in
    ((here.0, λ same. apart (eqb x.0.subject y.0.subject) here.1 (eq-eqb _ _ same)), all_precede x these parts.1)

pub order_is : (these : List Counted) → is_in_order these ≡ true → IsInOrder these
order_is [] h = tt
order_is (x ∷ these) h =
    let parts = and_parts (list_all (precedes x) these) (is_in_order these) h in
    (all_precede x these parts.0, order_is these parts.1)

all_precede_test : (x : Counted) (these : List Counted) → AllByRecursion (Precedes x) these → list_all (precedes x) these ≡ true
all_precede_test x [] h = refl
all_precede_test x (y ∷ these) h =
    and_from (precedes x y) (list_all (precedes x) these)
    (and_from (goes_before x y) (not (eqb x.0.subject y.0.subject)) h.0.0 (ap not (ne_eqb _ _ h.0.1)))
    (all_precede_test x these h.1)

pub order_test : (these : List Counted) → IsInOrder these → is_in_order these ≡ true
order_test [] h = refl
order_test (x ∷ these) h = and_from (list_all (precedes x) these) (is_in_order these) (all_precede_test x these h.0) (order_test these h.1)

pub differ_in_order : (these : List Counted) → IsInOrder these → DifferPairwise these
differ_in_order [] h = tt
differ_in_order (x ∷ these) h = (all_of_both (Precedes x) (Precedes x) (Differ x) these (λ y before _. before.1) h.0 h.0, differ_in_order these h.1)

pub differ_rising : (these : List Counted) → Rises these → DifferPairwise these
differ_rising [] h = tt
differ_rising (x ∷ these) h =
    let above : Counted → Type 0 = λ y. x.0.subject < y.0.subject in
    (all_of_both above above (Differ x) these (λ y lt _ same. omega (arith, lt, same)) h.0 h.0, differ_rising these h.1)

-- what is found of a subject is about it
untied : (m n : ℕ) → eq_by_cmp nat_cmp m n ≡ true → m ≡ n
untied m n h = grind (arith, nat_tests)

pub ties : (m n : ℕ) → eq_by_cmp nat_cmp m n ≡ eqb m n
ties m n = elim (cases_eq m n) [
  | inl same ↦ tied m n same ∙ sym (eq-eqb m n same)
  | inr other ↦ not_tied m n other ∙ sym (ne_eqb m n other)
]

pub own_found : (subject : ℕ) (these : List Counted) → IfSome (found_of subject these) (λ it. it.0.subject ≡ subject)
own_found subject [] = tt
own_found subject (x ∷ these) =
    cond_both (eq_by_cmp nat_cmp subject x.0.subject) (Some x) (found_of subject these) (λ o. IfSome o (λ it. it.0.subject ≡ subject))
    (λ same. sym (untied subject x.0.subject same)) (λ _. own_found subject these)

none_found : (x : Counted) (these : List Counted) → AllByRecursion (Differ x) these → found_of x.0.subject these ≡ None
none_found x [] h = refl
none_found x (y ∷ these) h = rw (not_tied x.0.subject y.0.subject h.0) (none_found x these h.1)

none_found_too : (subject : ℕ) (x : Counted) (these : List Counted) → subject ≡ x.0.subject → AllByRecursion (Differ x) these → found_of subject these ≡ None
none_found_too subject x these same h = subst (λ s. found_of s these ≡ None) (sym same) (none_found x these h)

pub first_found : (x : Counted) (these : List Counted) → found_of x.0.subject (x ∷ these) ≡ Some x
first_found x these = rw (tied x.0.subject x.0.subject refl) refl

same_entry : (x y : Counted) → Some x ≡ Some y → x ≡ y
same_entry x y e = cc

none_some : (x : Counted) → ◌≡◌ {A = Option Counted} None (Some x) → ⊥
none_some x e = cc

all_found : (P : Counted → Type 0) (subject : ℕ) (these : List Counted) (it : Counted) → AllByRecursion P these → found_of subject these ≡ Some it → P it
all_found P subject [] it all found = absurd (none_some it found)
all_found P subject (x ∷ these) it all found =
    elim (cases_eq subject x.0.subject) [
      | inl same ↦ subst P (same_entry x it (rw (tied subject x.0.subject same) at found)) all.0
      | inr other ↦ all_found P subject these it all.1 (rw (not_tied subject x.0.subject other) at found)
    ]

-- an entry in its place is found as at the front
pub found-placed : (subject : ℕ) (x : Counted) (these : List Counted) → AllByRecursion (Differ x) these → found_of subject (placed x these) ≡ found_of subject (x ∷ these)
found-placed subject x [] h = refl
found-placed subject x (y ∷ these) h =
    cond_both (goes_before x y) (x ∷ y ∷ these) (y ∷ placed x these) (λ l. found_of subject l ≡ found_of subject (x ∷ y ∷ these))
    (λ _. refl)
    (λ _. elim (cases_eq subject y.0.subject) [
      | inl same ↦ rw (tied subject y.0.subject same, not_tied subject x.0.subject (λ own. h.0 (sym own ∙ same))) refl
      | inr other ↦ rw (not_tied subject y.0.subject other) (found-placed subject x these h.1)
    ])

abbrev pub or_found : Option Counted → Option Counted → Option Counted
or_found None o = o
or_found (Some x) o = Some x

or_none : (o : Option Counted) → or_found o None ≡ o
or_none None = refl
or_none (Some x) = refl

found_later : (subject : ℕ) (x : Counted) (these xs : List Counted) → AllByRecursion (Differ x) xs → or_found (found_of subject xs) (found_of subject (x ∷ these)) ≡ or_found (found_of subject (x ∷ xs)) (found_of subject these)
found_later subject x these xs h =
    elim (cases_eq subject x.0.subject) [
      | inl same ↦ rw (tied subject x.0.subject same, none_found_too subject x xs same h) refl
      | inr other ↦ rw (not_tied subject x.0.subject other) refl
    ]

pub found-all_placed : (subject : ℕ) (these xs : List Counted) → DifferPairwise xs → AllByRecursion (λ y. AllByRecursion (Differ y) these) xs → found_of subject (all_placed these xs) ≡ or_found (found_of subject xs) (found_of subject these)
found-all_placed subject these [] distinct different = refl
found-all_placed subject these (x ∷ xs) distinct different =
    found-all_placed subject (placed x these) xs distinct.1 (differ_from_placed x these xs distinct.0 different.1)
    ∙ ap (or_found (found_of subject xs)) (found-placed subject x these different.0)
    ∙ found_later subject x these xs distinct.0

pub found-placed_all : (subject : ℕ) (xs : List Counted) → DifferPairwise xs → found_of subject (all_placed [] xs) ≡ found_of subject xs
found-placed_all subject xs distinct = found-all_placed subject [] xs distinct (none_there xs) ∙ or_none (found_of subject xs)

-- of those that pass
module _ (p : Counted → Bool) where
  abbrev pub if_passes : Counted → Option Counted
  if_passes it = cond (p it) (Some it) None

  pub found-filter : (subject : ℕ) (these : List Counted) → DifferPairwise these → found_of subject (filter p these) ≡ option_and_then if_passes (found_of subject these)
  found-filter subject [] distinct = refl
  found-filter subject (x ∷ these) distinct =
      let rest = found-filter subject these distinct.1 in
      elim (cases_eq subject x.0.subject) [
        | inl same ↦
            let none = none_found_too subject x these same distinct.0 in
            rw (tied subject x.0.subject same) (elim (cases_Bool (p x)) [
              | inl passes ↦ rw (passes, tied subject x.0.subject same) refl
              | inr fails ↦ rw fails (rest ∙ ap (option_and_then if_passes) none)
            ])
        | inr other ↦
            rw (not_tied subject x.0.subject other) (elim (cases_Bool (p x)) [
              | inl passes ↦ rw (passes, not_tied subject x.0.subject other) rest
              | inr fails ↦ rw fails rest
            ])
      ]

  all-filter : (P : Counted → Type 0) (these : List Counted) → AllByRecursion P these → AllByRecursion P (filter p these)
  all-filter P [] h = tt
  all-filter P (x ∷ these) h = cond_both (p x) (x ∷ filter p these) (filter p these) (AllByRecursion P) (λ _. (h.0, all-filter P these h.1)) (λ _. all-filter P these h.1)

  pub in_order-filter : (these : List Counted) → IsInOrder these → IsInOrder (filter p these)
  in_order-filter [] h = tt
  in_order-filter (x ∷ these) h =
      cond_both (p x) (x ∷ filter p these) (filter p these) IsInOrder
      (λ _. (all-filter (Precedes x) these h.0, in_order-filter these h.1))
      (λ _. in_order-filter these h.1)

-- two lists in order in which the same stands of each subject are one
pub same_order : (xs ys : List Counted) → IsInOrder xs → IsInOrder ys → ((subject : ℕ) → found_of subject xs ≡ found_of subject ys) → xs ≡ ys
same_order [] [] in_xs in_ys same = refl
same_order [] (y ∷ ys) in_xs in_ys same = absurd (none_some y (same y.0.subject ∙ first_found y ys))
same_order (x ∷ xs) [] in_xs in_ys same = absurd (none_some x (sym (same x.0.subject) ∙ first_found x xs))
same_order (x ∷ xs) (y ∷ ys) in_xs in_ys same =
    let first : Some x ≡ found_of x.0.subject (y ∷ ys) = sym (first_found x xs) ∙ same x.0.subject in
    elim (cases_eq x.0.subject y.0.subject) [
      | inl own ↦
          let one : x ≡ y = same_entry x y (first ∙ subst (λ s. found_of s (y ∷ ys) ≡ Some y) (sym own) (first_found y ys)) in
          let rest : (subject : ℕ) → found_of subject xs ≡ found_of subject ys = λ subject.
          elim (cases_eq subject x.0.subject) [
            | inl here ↦
                none_found_too subject x xs here (differ_in_order (x ∷ xs) in_xs).0
                ∙ sym (none_found_too subject y ys (here ∙ own) (differ_in_order (y ∷ ys) in_ys).0)
            | inr other ↦
                rw (not_tied subject x.0.subject other, not_tied subject y.0.subject (λ k. other (k ∙ sym own))) at (same subject)
          ] in
          ap (λ z. z ∷ xs) one ∙ ap (λ l. y ∷ l) (same_order xs ys in_xs.1 in_ys.1 rest)
      | inr differ ↦
          let x_later : found_of x.0.subject ys ≡ Some x = rw (not_tied x.0.subject y.0.subject differ) at (sym first) in
          let second : Some y ≡ found_of y.0.subject (x ∷ xs) = sym (first_found y ys) ∙ sym (same y.0.subject) in
          let y_later : found_of y.0.subject xs ≡ Some y = rw (not_tied y.0.subject x.0.subject (λ k. differ (sym k))) at (sym second) in
          let before = (all_found (Precedes y) x.0.subject ys x in_ys.0 x_later).0 in
          let after = (all_found (Precedes x) y.0.subject xs y in_xs.0 y_later).0 in
          absurd (false≢true (sym (not_after x y after) ∙ before))
    ]

-- what is at a place
all_get : (P : Counted → Type 0) (these : List Counted) (i : ℕ) (d : Counted) → AllByRecursion P these → i < length these → P (get_or these i d)
all_get P [] i d h lt = absurd (omega arith)
all_get P (x ∷ these) zero d h lt = h.0
all_get P (x ∷ these) (suc i) d h lt = all_get P these i d h.1 (omega arith)

-- where an entry has its place, those before it are separated from the others
pub partitioned : (e : Counted) (these : List Counted) → IsInOrder these → IsPartitionedBy (λ it. not (goes_before e it)) these
partitioned e [] h i j d le lt passes = absurd (omega arith)
partitioned e (x ∷ these) h zero zero d le lt passes = passes
partitioned e (x ∷ these) h zero (suc j) d le lt passes =
    elim (cases_Bool (goes_before e x)) [
      | inl first ↦ absurd (apart (goes_before e (get_or these j d)) passes (before_all_later e x (get_or these j d) first (all_get (Precedes x) these j d h.0 (omega arith)).0))
      | inr later ↦ ap not later
    ]
partitioned e (x ∷ these) h (suc i) zero d le lt passes = absurd (omega arith)
partitioned e (x ∷ these) h (suc i) (suc j) d le lt passes = partitioned e these h.1 i j d (omega arith) (omega arith) passes

-- a partition point is where those that pass end
pub prefix_len_from_point : (p : Counted → Bool) (these : List Counted) (n : ℕ) → n ≤ length these → IsPartitionPoint (λ it. p it ≡ true) (λ it. p it ≡ false) these n → n ≡ prefix_len p these
prefix_len_from_point p [] n le point = omega arith
prefix_len_from_point p (it ∷ these) n le point = sym (prefix_len_is p (it ∷ these) n it le (λ k lt. point.0 k it (omega arith) lt) (λ lt. point.1 n it (omega arith) lt))

-- an entry is taken out
taken-all : (P : Counted → Type 0) (these : List Counted) (i : ℕ) → AllByRecursion P these → i < length these → AllByRecursion P (remove these i)
taken-all P [] i h lt = absurd (omega arith)
taken-all P (x ∷ these) zero h lt = h.1
taken-all P (x ∷ these) (suc i) h lt = (h.0, taken-all P these i h.1 (omega arith))

pub taken-in_order : (these : List Counted) (i : ℕ) → IsInOrder these → i < length these → IsInOrder (remove these i)
taken-in_order [] i h lt = absurd (omega arith)
taken-in_order (x ∷ these) zero h lt = h.1
taken-in_order (x ∷ these) (suc i) h lt = (taken-all (Precedes x) these i h.0 (omega arith), taken-in_order these i h.1 (omega arith))

taken-apart : (these : List Counted) (i : ℕ) (d : Counted) → DifferPairwise these → i < length these → AllByRecursion (Differ (get_or these i d)) (remove these i)
taken-apart [] i d h lt = absurd (omega arith)
taken-apart (x ∷ these) zero d h lt = h.0
taken-apart (x ∷ these) (suc i) d h lt = (turned x (get_or these i d) (all_get (Differ x) these i d h.0 (omega arith)), taken-apart these i d h.1 (omega arith))

-- and stands before the others as it stood among them
found-taken : (subject : ℕ) (these : List Counted) (i : ℕ) (d : Counted) → DifferPairwise these → i < length these → found_of subject (get_or these i d ∷ remove these i) ≡ found_of subject these
found-taken subject [] i d h lt = absurd (omega arith)
found-taken subject (x ∷ these) zero d h lt = refl
found-taken subject (x ∷ these) (suc i) d h lt =
    let z = get_or these i d in
    let differ : Differ x z = all_get (Differ x) these i d h.0 (omega arith) in
    elim (cases_eq subject x.0.subject) [
      | inl same ↦ rw (tied subject x.0.subject same, not_tied subject z.0.subject (λ own. differ (sym same ∙ own))) refl
      | inr other ↦ rw (not_tied subject x.0.subject other) (found-taken subject these i d h.1 (omega arith))
    ]

-- the subject's entry is found at the first place that is about it
abbrev pub about : ℕ → Counted → Bool
about subject it = eqb it.0.subject subject

no_number : (n : ℕ) → ◌≡◌ {A = Option ℕ} None (Some n) → ⊥
no_number n e = cc

one_number : (m n : ℕ) → Some m ≡ Some n → m ≡ n
one_number m n e = cc

pub place_within : (subject : ℕ) (these : List Counted) (i : ℕ) → Some i ≡ position (about subject) these → i < length these
place_within subject these i is =
    let place = position_or_len (about subject) these in
    elim (cases_lt place (length these)) [
      | inl within ↦
          let some : position (about subject) these ≡ Some place = rw (lt-ltb place (length these) within) refl in
          let same : i ≡ place = one_number i place (is ∙ some) in
          omega (arith, same, within)
      | inr past ↦
          let none : position (about subject) these ≡ None = rw (le-ltb place (length these) past) refl in
          absurd (no_number i (sym (is ∙ none)))
    ]

pub place_own : (subject : ℕ) (these : List Counted) (i : ℕ) (d : Counted) → Some i ≡ position (about subject) these → (get_or these i d).0.subject ≡ subject
place_own subject these i d is = eqb-true _ _ (position-Some (about subject) these i d (sym is)).1

pub found_at_place : (subject : ℕ) (these : List Counted) (i : ℕ) (d : Counted) → is_in_order these ≡ true → i < length these → (get_or these i d).0.subject ≡ subject → found_of subject these ≡ Some (get_or these i d)
found_at_place subject these i d ordered lt own =
    sym (found-taken subject these i d (differ_in_order these (order_is these ordered)) lt)
    ∙ subst (λ s. found_of s (get_or these i d ∷ remove these i) ≡ Some (get_or these i d)) own (first_found (get_or these i d) (remove these i))

-- where there is no such place, none is
pub past_the_end : (subject : ℕ) (these : List Counted) → None ≡ position (about subject) these → length these ≤ position_or_len (about subject) these
past_the_end subject these is =
    elim (cases_lt (position_or_len (about subject) these) (length these)) [
      | inl within ↦
          let some : position (about subject) these ≡ Some (position_or_len (about subject) these) = rw (lt-ltb _ _ within) refl in
          absurd (no_number _ (is ∙ some))
      | inr past ↦ past
    ]

none_about : (subject : ℕ) (these : List Counted) → length these ≤ position_or_len (about subject) these → AllByRecursion (λ it. subject ≢ it.0.subject) these
none_about subject [] past = tt
none_about subject (x ∷ these) past =
    elim (cases_Bool (about subject x)) [
      | inl own ↦
          let first : position_or_len (about subject) (x ∷ these) ≡ 0 = rw own refl in
          absurd (omega (arith, first, past))
      | inr other ↦
          let later : position_or_len (about subject) (x ∷ these) ≡ 1 + position_or_len (about subject) these = rw other refl in
          ((λ same. eqb-false _ _ other (sym same)), none_about subject these (omega (arith, later, past)))
    ]

none_stands : (subject : ℕ) (these : List Counted) → AllByRecursion (λ it. subject ≢ it.0.subject) these → found_of subject these ≡ None
none_stands subject [] h = refl
none_stands subject (x ∷ these) h = rw (not_tied subject x.0.subject h.0) (none_stands subject these h.1)

pub absent : (subject : ℕ) (these : List Counted) → None ≡ position (about subject) these → found_of subject these ≡ None
absent subject these is = none_stands subject these (none_about subject these (past_the_end subject these is))

-- an entry that is put in its place, where none is about its subject
put_among : (v : Counted) (old others : List Counted) → IsInOrder others → AllByRecursion (Differ v) others → ((subject : ℕ) → subject ≢ v.0.subject → found_of subject others ≡ found_of subject old) → IsPut v old (placed v others)
put_among v old others ordered different kept = record {
  ordered = order_test (placed v others) (placed-in_order v others ordered different);
  stands = λ subject. found-placed subject v others different ∙ elim (cases_eq subject v.0.subject) [
    | inl same ↦ rw (tied subject v.0.subject same, eq-eqb subject v.0.subject same) refl
    | inr other ↦ rw (not_tied subject v.0.subject other, ne_eqb subject v.0.subject other) (kept subject other)
  ];
}

pub put_new : (v : Counted) (these : List Counted) → is_in_order these ≡ true → None ≡ position (about v.0.subject) these → IsPut v these (placed v these)
put_new v these ordered is =
    put_among v these these (order_is these ordered) (none_about v.0.subject these (past_the_end v.0.subject these is)) (λ subject other. refl)

pub put_instead : (v : Counted) (these : List Counted) (i : ℕ) (d : Counted) → is_in_order these ≡ true → i < length these → (get_or these i d).0.subject ≡ v.0.subject → IsPut v these (placed v (remove these i))
put_instead v these i d ordered lt own =
    let z = get_or these i d in
    let h = order_is these ordered in
    let distinct = differ_in_order these h in
    let different = taken-apart these i d distinct lt in
    put_among v these (remove these i) (taken-in_order these i h lt)
    (all_of_both (Differ z) (Differ z) (Differ v) (remove these i) (λ it differ _ same. differ (own ∙ same)) different different)
    (λ subject other. rw (not_tied subject z.0.subject (λ same. other (same ∙ own))) at (found-taken subject these i d distinct lt))

-- a call that puts one may be refused
pub put_on : {A E : Type 0} (r : Result A E) (v : Counted) (these new : List Counted) → OnOk r (new ≡ insert these (position_or_len (goes_before v) these) v) → is_in_order these ≡ true → None ≡ position (about v.0.subject) these → OnOk r (IsPut v these new)
put_on (Ok x) v these new is ordered none = subst (IsPut v these) (sym (is ∙ insert-position v these)) (put_new v these ordered none)
put_on (Err e) v these new is ordered none = tt

pub put_over : (v : Counted) (these new : List Counted) (i : ℕ) → new ≡ insert (remove these i) (position_or_len (goes_before v) (remove these i)) v → is_in_order these ≡ true → i < length these → (get_or these i v).0.subject ≡ v.0.subject → IsPut v these new
put_over v these new i is ordered lt own = subst (IsPut v these) (sym (is ∙ insert-position v (remove these i))) (put_instead v these i v ordered lt own)

-- the counts never fall, so that those below a limit stand first
no_less : (x y : Counted) → goes_before x y ≡ true → x.1 ≤ y.1
no_less x y before = grind (arith, nat_tests)

pub counts_rise : (these : List Counted) → IsInOrder these → IsNonDecreasingBy (λ it. it.1) these
counts_rise [] h i j d le lt = absurd (omega arith)
counts_rise (x ∷ these) h zero zero d le lt = omega arith
counts_rise (x ∷ these) h zero (suc j) d le lt = no_less x (get_or these j d) (all_get (Precedes x) these j d h.0 (omega arith)).0
counts_rise (x ∷ these) h (suc i) zero d le lt = absurd (omega arith)
counts_rise (x ∷ these) h (suc i) (suc j) d le lt = counts_rise these h.1 i j d (omega arith) (omega arith)

module _ (limit : ℕ) where
  abbrev below : Counted → Bool
  below it = ltb it.1 limit

  none_below : (x : Counted) (these : List Counted) → below x ≡ false → AllByRecursion (Precedes x) these → filter below these ≡ []
  none_below x [] past h = refl
  none_below x (y ∷ these) past h =
      rw (le-ltb y.1 limit (omega (arith, no_less x y h.0.0, ltb-false x.1 limit past))) (none_below x these past h.1)

  pub first_below : (these : List Counted) → IsInOrder these → take (prefix_len below these) these ≡ filter below these
  first_below [] h = refl
  first_below (x ∷ these) h =
      elim (cases_Bool (below x)) [
        | inl within ↦ rw (within, one_after (prefix_len below these)) (ap (λ l. x ∷ l) (first_below these h.1))
        | inr past ↦ rw past (sym (none_below x these past h.0))
      ]
    where
      one_after : (n : ℕ) → 1 + n ≡ suc n
      one_after n = omega arith
