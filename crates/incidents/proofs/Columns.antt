-- Sets of numbers and columns of them: when one is empty, and what one number more or less makes.
use Rattle.std.proofs.Common.{◌≡◌, ℕ, zero, suc, ◌+◌, ◌<◌, ◌≤◌, ◌⊎◌, inl, inr, Bool, true, false, cond, ◌&&◌, ◌==◌, List, [], ◌∷◌, ◌++◌, length, ◌↔◌, IsTrue, true≢false, refl, sym, ap, ◌∙◌, ◌||◌, eq-eqb, arith}
use Rattle.std.specs.Prelude.{if◌then◌else◌, nat_lt}
use Rattle.std.proofs.Math.Bool.{and-false}
use Rattle.std.proofs.lemmas.Bool.{cases_eq, cases_lt, ne_eqb, lt-ltb, le-ltb}
use Rattle.std.specs.Bool.{OnTrue, OnFalse}
use Rattle.std.specs.Ordering.{nat_cmp}
use Rattle.std.specs.Cmp.{unsigned_tied}
use Rattle.std.specs.List.{list_any}
use Rattle.std.specs.BTreeMap.{is_at}
use Rattle.std.specs.BTreeSet.{BTreeSet}
use Rattle.incidents.specs.Pairs.{has_in, has_with, has_without}

-- whether a list of numbers has one
abbrev pub has_number : List ℕ → ℕ → Bool
has_number keys a = list_any (is_at (nat_cmp a)) keys

none_at : (keys : List ℕ) (a : ℕ) → length keys ≡ 0 → has_number keys a ≡ false
none_at [] a none = refl
none_at (k ∷ keys) a none = absurd (omega (arith, none))

pub empty_has_none : (empty : Bool) (keys : List ℕ) → (IsTrue empty ↔ (length keys ≡ 0)) → OnTrue empty ((a : ℕ) → has_number keys a ≡ false)
empty_has_none true keys is = λ a. none_at keys a (is.0 refl)
empty_has_none false keys is = tt

pub other_has_some : (empty : Bool) (keys : List ℕ) → (IsTrue empty ↔ (length keys ≡ 0)) → OnFalse empty ((a : ℕ) × (has_number keys a ≡ true))
other_has_some true keys is = tt
other_has_some false [] is = absurd (true≢false (sym (is.1 refl)))
other_has_some false (k ∷ keys) is = (k, ap (λ b. b || has_number keys k) (unsigned_tied k k ∙ eq-eqb k k refl))

-- a number more or less
pub with_number : (keys : List ℕ) (k a : ℕ) (is_in : Bool) → cond (is_at (nat_cmp k) a) is_in (has_number keys a) ≡ (if k == a then is_in else has_number keys a)
with_number keys k a is_in = ap (λ b. cond b is_in (has_number keys a)) (unsigned_tied k a)

-- ---- columns

-- a column more that is empty has no pair more
pub column_more : (columns : List (BTreeSet ℕ)) (column : BTreeSet ℕ) → column.keys ≡ [] → ((a b : ℕ) → has_in columns a b ≡ false) → (a b : ℕ) → has_in (columns ++ column ∷ []) a b ≡ false
column_more [] column none were a zero = ap (list_any (is_at (nat_cmp a))) none
column_more [] column none were a (suc b) = refl
column_more (first ∷ columns) column none were a zero = were a zero
column_more (first ∷ columns) column none were a (suc b) = column_more columns column none (λ x y. were x (suc y)) a b

-- past the last column there is no pair
pub past_end : (columns : List (BTreeSet ℕ)) (a b : ℕ) → length columns ≤ b → has_in columns a b ≡ false
past_end [] a b low = refl
past_end (column ∷ columns) a zero low = absurd (omega (arith, low))
past_end (column ∷ columns) a (suc b) low = past_end columns a b (omega (arith, low))

-- where a first member has no pairs, they are the same without its
pub without_none : (first : ℕ) (pairs : ℕ → ℕ → Bool) → ((b : ℕ) → pairs first b ≡ false) → (a b : ℕ) → pairs a b ≡ has_without first pairs a b
without_none first pairs none a b =
    elim (cases_eq first a) [
      | inl here ↦ ap (λ m. pairs m b) (sym here) ∙ none b ∙ sym (ap (λ t. if t then false else pairs a b) (eq-eqb first a here))
      | inr other ↦ sym (ap (λ t. if t then false else pairs a b) (ne_eqb first a other))
    ]

-- pairs of a first member, taken out column by column
abbrev pub dropped_below : ℕ → ℕ → (ℕ → ℕ → Bool) → ℕ → ℕ → Bool
dropped_below place first pairs a b = if nat_lt b place then has_without first pairs a b else pairs a b

pub none_dropped : (first : ℕ) (pairs : ℕ → ℕ → Bool) (a b : ℕ) → pairs a b ≡ dropped_below 0 first pairs a b
none_dropped first pairs a b = ap (λ t. if t then has_without first pairs a b else pairs a b) (sym (le-ltb b 0 (omega arith)))

and-true : (b : Bool) → (b && true) ≡ b
and-true true = refl
and-true false = refl

taken_twice : (own old : Bool) → (if own then false else (if own then false else old)) ≡ (if own then false else old)
taken_twice true old = refl
taken_twice false old = refl

pub one_dropped : (first place : ℕ) (old now new : ℕ → ℕ → Bool) → ((a b : ℕ) → now a b ≡ dropped_below place first old a b)
    → ((a b : ℕ) → new a b ≡ has_with first place false now a b) → (a b : ℕ) → new a b ≡ dropped_below (place + 1) first old a b
one_dropped first place old now new so_far one a b =
    elim (cases_eq place b) [
      | inl here ↦
          one a b ∙ ap (λ t. if (first == a) && t then false else now a b) (eq-eqb place b here)
          ∙ ap (λ t. if t then false else now a b) (and-true (first == a))
          ∙ ap (λ x. if first == a then false else x) (so_far a b ∙ ap (λ t. if t then has_without first old a b else old a b) (le-ltb b place (omega (arith, here))))
          ∙ sym (ap (λ t. if t then has_without first old a b else old a b) (lt-ltb b (place + 1) (omega (arith, here))))
      | inr other ↦
          one a b ∙ ap (λ t. if (first == a) && t then false else now a b) (ne_eqb place b other)
          ∙ ap (λ t. if t then false else now a b) (and-false (first == a))
          ∙ so_far a b
          ∙ ap (λ t. if t then has_without first old a b else old a b) (same_side (cases_lt b place) other)
    ]
  where
    same_side : ((b < place) ⊎ (place ≤ b)) → (place ≡ b → ⊥) → nat_lt b place ≡ nat_lt b (place + 1)
    same_side (inl low) other = lt-ltb b place low ∙ sym (lt-ltb b (place + 1) (omega (arith, low)))
    same_side (inr high) other = le-ltb b place high ∙ sym (le-ltb b (place + 1) (omega (arith, high, other)))

pub all_dropped : (first : ℕ) (columns : List (BTreeSet ℕ)) (now : ℕ → ℕ → Bool) → ((a b : ℕ) → now a b ≡ dropped_below (length columns) first (has_in columns) a b)
    → (a b : ℕ) → now a b ≡ has_without first (has_in columns) a b
all_dropped first columns now are a b =
    elim (cases_lt b (length columns)) [
      | inl low ↦ are a b ∙ ap (λ t. if t then has_without first (has_in columns) a b else has_in columns a b) (lt-ltb b (length columns) low)
      | inr high ↦
          are a b ∙ ap (λ t. if t then has_without first (has_in columns) a b else has_in columns a b) (le-ltb b (length columns) high)
          ∙ past_end columns a b high ∙ sym (ap (λ x. if first == a then false else x) (past_end columns a b high) ∙ never (first == a))
    ]
  where
    never : (own : Bool) → (if own then false else false) ≡ false
    never true = refl
    never false = refl
