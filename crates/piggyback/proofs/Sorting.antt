-- Entries put in order one after another, which is the order by places.
use Rattle.std.proofs.Common.{◌≡◌, ◌≢◌, ℕ, zero, suc, ◌+◌, ◌<◌, ◌≤◌, Bool, true, false, cond, eqb, List, [], ◌∷◌, length, take, Option, Some, refl, sym, ap, subst, ◌∙◌, inl, inr, arith, filter, get_or, zero-add}
use Rattle.std.specs.List.{AllByRecursion, AllPairs, insert, position_or_len, count_by, find, filter_map, range_with_len, slice_get}
use Rattle.std.proofs.lemmas.Bool.{cases_Bool, cond_both, eqb-true, eqb-false, eq-eqb}
use Rattle.std.proofs.lemmas.List.{length-take}
use Rattle.std.proofs.lemmas.Bool.Decides.{nat_tests}
use Rattle.piggyback.specs.Picked.{Counted, AreDistinct, goes_before, count_before, in_order}
use Rattle.piggyback.specs.Keyed.{placed, all_placed}
use Rattle.piggyback.proofs.Tally.{one_of, none_of, count_by-cons}
use Rattle.piggyback.proofs.Rising.{AllAbove, Rises}

one_more : (n : ℕ) → 1 + n ≡ suc n
one_more n = omega arith

not_before_itself : (x : Counted) → goes_before x x ≡ false
not_before_itself x = grind (arith, nat_tests)

pub not_after : (x y : Counted) → goes_before x y ≡ true → goes_before y x ≡ false
not_after x y h = grind (arith, nat_tests)

pub before_all_later : (x y z : Counted) → goes_before x y ≡ true → goes_before y z ≡ true → goes_before x z ≡ true
before_all_later x y z h k = grind (arith, nat_tests)

one_before_the_other : (x y : Counted) → x.0.subject ≢ y.0.subject → goes_before x y ≡ false → goes_before y x ≡ true
one_before_the_other x y apart h = grind (arith, nat_tests)

-- the machine's insertion
pub insert-position : (x : Counted) (these : List Counted) → insert these (position_or_len (goes_before x) these) x ≡ placed x these
insert-position x [] = refl
insert-position x (y ∷ these) =
    elim (cases_Bool (goes_before x y)) [
      | inl first ↦ rw first refl
      | inr later ↦ rw (later, one_more (position_or_len (goes_before x) these)) (ap (λ l. y ∷ l) (insert-position x these))
    ]

-- what holds of all is kept
placed-all : (P : Counted → Type 0) (x : Counted) (these : List Counted) → P x → AllByRecursion P these → AllByRecursion P (placed x these)
placed-all P x [] here h = (here, tt)
placed-all P x (y ∷ these) here h = cond_both (goes_before x y) (x ∷ y ∷ these) (y ∷ placed x these) (AllByRecursion P) (λ _. (here, h)) (λ _. (h.0, placed-all P x these here h.1))

of_placed : (P : Counted → Type 0) (x : Counted) (these : List Counted) → AllByRecursion P (placed x these) → P x × AllByRecursion P these
of_placed P x [] h = (h.0, tt)
of_placed P x (y ∷ these) h =
    cond_both (goes_before x y) (x ∷ y ∷ these) (y ∷ placed x these) (λ l. AllByRecursion P l → P x × AllByRecursion P (y ∷ these))
    (λ _ all. (all.0, all.1))
    (λ _ all. let rest = of_placed P x these all.1 in (rest.0, (all.0, rest.1)))
    h

of_all_placed : (P : Counted → Type 0) (these xs : List Counted) → AllByRecursion P (all_placed these xs) → AllByRecursion P these × AllByRecursion P xs
of_all_placed P these [] h = (h, tt)
of_all_placed P these (x ∷ xs) h =
    let rest = of_all_placed P (placed x these) xs h in
    let parts = of_placed P x these rest.0 in
    (parts.1, (parts.0, rest.1))

pub all_of_both : (P Q R : Counted → Type 0) (these : List Counted) → ((it : Counted) → P it → Q it → R it) → AllByRecursion P these → AllByRecursion Q these → AllByRecursion R these
all_of_both P Q R [] then p q = tt
all_of_both P Q R (it ∷ these) then p q = (then it p.0 q.0, all_of_both P Q R these then p.1 q.1)

-- about different subjects
abbrev pub Differ : Counted → Counted → Type 0
Differ x y = x.0.subject ≢ y.0.subject

-- x goes before y, and they are about different subjects
abbrev pub Precedes : Counted → Counted → Type 0
Precedes x y = (goes_before x y ≡ true) × Differ x y

-- each precedes all later ones
abbrev pub IsInOrder : List Counted → Type 0
IsInOrder [] = Unit {0}
IsInOrder (x ∷ these) = AllByRecursion (Precedes x) these × IsInOrder these

-- no two are about one subject
abbrev pub DifferPairwise : List Counted → Type 0
DifferPairwise [] = Unit {0}
DifferPairwise (x ∷ these) = AllByRecursion (Differ x) these × DifferPairwise these

pub turned : (x y : Counted) → Differ x y → Differ y x
turned x y differ same = differ (sym same)

pub placed-in_order : (x : Counted) (these : List Counted) → IsInOrder these → AllByRecursion (Differ x) these → IsInOrder (placed x these)
placed-in_order x [] h differ = (tt, tt)
placed-in_order x (y ∷ these) h differ =
    cond_both (goes_before x y) (x ∷ y ∷ these) (y ∷ placed x these) IsInOrder
    (λ first. (((first, differ.0), all_of_both (Precedes y) (Differ x) (Precedes x) these (λ z after apart. (before_all_later x y z first after.0, apart)) h.0 differ.1), h))
    (λ later. (placed-all (Precedes y) x these (one_before_the_other x y differ.0 later, turned x y differ.0) h.0, placed-in_order x these h.1 differ.1))

pub differ_from_placed : (x : Counted) (these xs : List Counted) → AllByRecursion (Differ x) xs → AllByRecursion (λ y. AllByRecursion (Differ y) these) xs → AllByRecursion (λ y. AllByRecursion (Differ y) (placed x these)) xs
differ_from_placed x these xs apart old =
    all_of_both (Differ x) (λ y. AllByRecursion (Differ y) these) (λ y. AllByRecursion (Differ y) (placed x these)) xs (λ y differ h. placed-all (Differ y) x these (turned x y differ) h) apart old

pub all_placed-in_order : (these xs : List Counted) → IsInOrder these → DifferPairwise xs → AllByRecursion (λ y. AllByRecursion (Differ y) these) xs → IsInOrder (all_placed these xs)
all_placed-in_order these [] h distinct apart = h
all_placed-in_order these (x ∷ xs) h distinct apart =
    all_placed-in_order (placed x these) xs (placed-in_order x these h apart.0) distinct.1 (differ_from_placed x these xs distinct.0 apart.1)

-- placing keeps how many there are of each kind
count_by-placed : (p : Counted → Bool) (x : Counted) (these : List Counted) → count_by p (placed x these) ≡ cond (p x) 1 0 + count_by p these
count_by-placed p x [] = count_by-cons p x []
count_by-placed p x (y ∷ these) =
    cond_both (goes_before x y) (x ∷ y ∷ these) (y ∷ placed x these) (λ l. count_by p l ≡ cond (p x) 1 0 + count_by p (y ∷ these))
    (λ _. count_by-cons p x (y ∷ these))
    (λ _. omega (arith, count_by-cons p y (placed x these), count_by-cons p y these, count_by-placed p x these))

pub count_by-all_placed : (p : Counted → Bool) (these xs : List Counted) → count_by p (all_placed these xs) ≡ count_by p these + count_by p xs
count_by-all_placed p these [] = omega arith
count_by-all_placed p these (x ∷ xs) = omega (arith, count_by-all_placed p (placed x these) xs, count_by-placed p x these, count_by-cons p x xs)

length-placed : (x : Counted) (these : List Counted) → length (placed x these) ≡ suc (length these)
length-placed x [] = refl
length-placed x (y ∷ these) =
    cond_both (goes_before x y) (x ∷ y ∷ these) (y ∷ placed x these) (λ l. length l ≡ suc (suc (length these)))
    (λ _. refl)
    (λ _. ap suc (length-placed x these))

pub length-all_placed : (these xs : List Counted) → length (all_placed these xs) ≡ length these + length xs
length-all_placed these [] = omega arith
length-all_placed these (x ∷ xs) = omega (arith, length-all_placed (placed x these) xs, length-placed x these)

-- what precedes all of these: none of them goes before it
none_before : (x : Counted) (these : List Counted) → AllByRecursion (Precedes x) these → count_before these x ≡ 0
none_before x [] h = refl
none_before x (y ∷ these) h = omega (arith, count_by-cons (λ it. goes_before it x) y these, none_before x these h.1, none_of _ (not_after x y h.0.0))

-- the first has none before it, and goes before each of the others
first_place : (x : Counted) (these : List Counted) → AllByRecursion (Precedes x) these → count_before (x ∷ these) x ≡ 0
first_place x these h = omega (arith, count_by-cons (λ it. goes_before it x) x these, none_before x these h, none_of _ (not_before_itself x))

later_place : (x y : Counted) (these : List Counted) → Precedes x y → count_before (x ∷ these) y ≡ suc (count_before these y)
later_place x y these h = omega (arith, count_by-cons (λ it. goes_before it y) x these, one_of _ h.0)

-- in a list in order each stands at the place that its number of predecessors says
pub its_place : (these : List Counted) → IsInOrder these → AllByRecursion (λ it. slice_get these (count_before these it) ≡ Some it) these
its_place [] h = tt
its_place (x ∷ these) h = (
  rw (first_place x these h.0) refl,
  all_of_both (Precedes x) (λ it. slice_get these (count_before these it) ≡ Some it) (λ it. slice_get (x ∷ these) (count_before (x ∷ these) it) ≡ Some it) these
      (λ it after there. rw (later_place x it these after) there) h.0 (its_place these h.1),
)

all_at : (P : Counted → Type 0) (these : List Counted) (i : ℕ) (it : Counted) → AllByRecursion P these → slice_get these i ≡ Some it → P it
all_at P [] i it h found = cc
all_at P (x ∷ these) zero it h found = let same : x ≡ it = cc in subst P same h.0
all_at P (x ∷ these) (suc i) it h found = all_at P these i it h.1 found

-- and the number of its predecessors is its place
pub place_of_each : (these : List Counted) → IsInOrder these → (i : ℕ) (it : Counted) → slice_get these i ≡ Some it → count_before these it ≡ i
place_of_each [] h i it found = cc
place_of_each (x ∷ these) h zero it found = let same : x ≡ it = cc in subst (λ y. count_before (x ∷ these) y ≡ 0) same (first_place x these h.0)
place_of_each (x ∷ these) h (suc i) it found =
    later_place x it these (all_at (Precedes x) these i it h.0 found) ∙ ap suc (place_of_each these h.1 i it found)

counted_at : (p : Counted → Bool) (these : List Counted) (i : ℕ) (it : Counted) → slice_get these i ≡ Some it → p it ≡ true → 0 < count_by p these
counted_at p [] i it found passes = cc
counted_at p (x ∷ these) zero it found passes =
    let same : x ≡ it = cc in
    omega (arith, count_by-cons p x these, one_of _ (ap p same ∙ passes))
counted_at p (x ∷ these) (suc i) it found passes = omega (arith, count_by-cons p x these, counted_at p these i it found passes)

-- the one that passes, if there is one
find_only : (p : Counted → Bool) (v : Counted) (these : List Counted) → AllByRecursion (λ it. p it ≡ true → it ≡ v) these → 0 < count_by p these → find p these ≡ Some v
find_only p v [] only some = absurd (omega arith)
find_only p v (x ∷ these) only some =
    elim (cases_Bool (p x)) [
      | inl passes ↦ rw passes (ap Some (only.0 passes))
      | inr fails ↦ rw fails (find_only p v these only.1 (omega (arith, count_by-cons p x these, none_of _ fails)))
    ]

trivial : (these : List Counted) → AllByRecursion (λ it. Unit {0}) these
trivial [] = tt
trivial (x ∷ these) = (tt, trivial these)

one_value : (o : Option Counted) (x y : Counted) → o ≡ Some x → o ≡ Some y → x ≡ y
one_value o x y p q = cc

module _ (these sorted : List Counted) (ordered : IsInOrder sorted) (same : (p : Counted → Bool) → count_by p these ≡ count_by p sorted) (places : AllByRecursion (λ it. slice_get sorted (count_before sorted it) ≡ Some it) these) where
  -- the one with so many before it is the one at that place
  found_at : (i : ℕ) (v : Counted) → slice_get sorted i ≡ Some v → find (λ it. eqb (count_before these it) i) these ≡ Some v
  found_at i v there =
      let test : Counted → Bool = λ it. eqb (count_before these it) i in
      let here : count_before these v ≡ i = same (λ it. goes_before it v) ∙ place_of_each sorted ordered i v there in
      let some : 0 < count_by test these = subst (λ n. 0 < n) (sym (same test)) (counted_at test sorted i v there (eq-eqb _ _ here)) in
      find_only test v these
      (all_of_both (λ it. slice_get sorted (count_before sorted it) ≡ Some it) (λ it. Unit {0}) (λ it. test it ≡ true → it ≡ v) these
      (λ it at _ passes.
      let its : count_before sorted it ≡ i = sym (same (λ other. goes_before other it)) ∙ eqb-true _ _ passes in
      one_value (slice_get sorted i) it v (rw its at at) there)
      places (trivial these))
      some

one_further : (k i : ℕ) → k + 1 + i ≡ k + suc i
one_further k i = omega arith

zero_plus : (i : ℕ) → i ≡ 0 + i
zero_plus i = omega arith

pub none_there : (these : List Counted) → AllByRecursion (λ y. AllByRecursion (Differ y) []) these
none_there [] = tt
none_there (x ∷ these) = (tt, none_there these)

-- the items at all places are the list
listed : (f : ℕ → Option Counted) (k : ℕ) (these : List Counted) → ((i : ℕ) (v : Counted) → slice_get these i ≡ Some v → f (k + i) ≡ Some v) → filter_map f (range_with_len k (length these)) ≡ these
listed f k [] at = refl
listed f k (x ∷ these) at =
    let here : f k ≡ Some x = ap f (omega arith) ∙ at 0 x refl in
    rw here (ap (λ l. x ∷ l) (listed f (k + 1) these (λ i v there. ap f (one_further k i) ∙ at (suc i) v there)))

-- entries about different subjects, placed one after another, are in order
pub in_order-all_placed : (these : List Counted) → DifferPairwise these → in_order these ≡ all_placed [] these
in_order-all_placed these distinct =
    let sorted = all_placed [] these in
    let ordered : IsInOrder sorted = all_placed-in_order [] these tt distinct (none_there these) in
    let same : (p : Counted → Bool) → count_by p these ≡ count_by p sorted = λ p. omega (arith, count_by-all_placed p [] these) in
    let places = (of_all_placed (λ it. slice_get sorted (count_before sorted it) ≡ Some it) [] these (its_place sorted ordered)).1 in
    let long : length these ≡ length sorted = omega (arith, length-all_placed [] these) in
    ap (λ n. filter_map (λ place. find (λ it. eqb (count_before these it) place) these) (range_with_len 0 n)) long
    ∙ listed (λ place. find (λ it. eqb (count_before these it) place) these) 0 sorted (λ i v there. found_at these sorted ordered same places (0 + i) v (subst (λ n. slice_get sorted n ≡ Some v) (zero_plus i) there))

differ_above : (p : Counted → Bool) (x : Counted) (these : List Counted) → AllAbove x.0.subject these → AllByRecursion (Differ x) (filter p these)
differ_above p x [] h = tt
differ_above p x (y ∷ these) h =
    cond_both (p y) (y ∷ filter p these) (filter p these) (AllByRecursion (Differ x))
    (λ _. ((λ same. omega (arith, h.0)), differ_above p x these h.1))
    (λ _. differ_above p x these h.1)

-- entries whose subjects rise are about different subjects, those of them that pass too
pub distinct-filter : (p : Counted → Bool) (these : List Counted) → Rises these → DifferPairwise (filter p these)
distinct-filter p [] h = tt
distinct-filter p (x ∷ these) h =
    cond_both (p x) (x ∷ filter p these) (filter p these) DifferPairwise
    (λ _. (differ_above p x these h.0, distinct-filter p these h.1))
    (λ _. distinct-filter p these h.1)

pub no_longer : {X : Type 0} (room : ℕ) (these next : List X) → next ≡ take room these → length next ≤ room
no_longer room these next is = omega (arith, ap length is, length-take room these)

-- the order has as many of each kind
pub count_by-in_order : (p : Counted → Bool) (these : List Counted) → DifferPairwise these → count_by p (in_order these) ≡ count_by p these
count_by-in_order p these distinct = ap (count_by p) (in_order-all_placed these distinct) ∙ count_by-all_placed p [] these ∙ zero-add (count_by p these)

-- each goes before all later ones
pub in_order-is : (these : List Counted) → DifferPairwise these → IsInOrder (in_order these)
in_order-is these distinct = subst IsInOrder (sym (in_order-all_placed these distinct)) (all_placed-in_order [] these tt distinct (none_there these))

-- where no two are about one subject, each differs from the later ones
differ_from_counts : (x : Counted) (these : List Counted) → count_by (λ it. eqb it.0.subject x.0.subject) these ≡ 0 → AllByRecursion (Differ x) these
differ_from_counts x [] none = tt
differ_from_counts x (y ∷ these) none =
    let about = λ (it : Counted). eqb it.0.subject x.0.subject in
    let split = count_by-cons about y these in
    elim (cases_Bool (eqb y.0.subject x.0.subject)) [
      | inl own ↦ absurd (omega (arith, one_of _ own))
      | inr other ↦ ((λ same. eqb-false _ _ other (sym same)), differ_from_counts x these (omega arith))
    ]

pub pairwise_from_distinct : (these : List Counted) → AreDistinct these → DifferPairwise these
pairwise_from_distinct [] once = tt
pairwise_from_distinct (x ∷ these) once = (
  differ_from_counts x these (omega (arith, once x.0.subject, count_by-cons (λ it. eqb it.0.subject x.0.subject) x these, one_of _ (eq-eqb x.0.subject x.0.subject refl))),
  pairwise_from_distinct these (λ subject. omega (arith, once subject, count_by-cons (λ it. eqb it.0.subject subject) x these)),
)

precedes_at : (x : Counted) (these : List Counted) (j : ℕ) (d : Counted) → AllByRecursion (Precedes x) these → j < length these → goes_before x (get_or these j d) ≡ true
precedes_at x [] j d h lt = absurd (omega arith)
precedes_at x (y ∷ these) zero d h lt = h.0.0
precedes_at x (y ∷ these) (suc j) d h lt = precedes_at x these j d h.1 (omega arith)

-- each goes before all later ones, by places
pub pairs_in_order : (these : List Counted) → IsInOrder these → AllPairs (λ x y. goes_before x y ≡ true) these
pairs_in_order [] h i j d lt in_range = absurd (omega arith)
pairs_in_order (x ∷ these) h zero zero d lt in_range = absurd (omega arith)
pairs_in_order (x ∷ these) h zero (suc j) d lt in_range = precedes_at x these j d h.0 (omega arith)
pairs_in_order (x ∷ these) h (suc i) zero d lt in_range = absurd (omega arith)
pairs_in_order (x ∷ these) h (suc i) (suc j) d lt in_range = pairs_in_order these h.1 i j d (omega arith) (omega arith)

pub place_in_order : (these : List Counted) → DifferPairwise these → (i : ℕ) (it : Counted) → slice_get (in_order these) i ≡ Some it → count_before these it ≡ i
place_in_order these distinct i it there =
    sym (count_by-in_order (λ other. goes_before other it) these distinct) ∙ place_of_each (in_order these) (in_order-is these distinct) i it there
