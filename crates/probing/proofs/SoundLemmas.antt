-- What keeps the members of a list distinct, and that there are few of them.
use Rattle.std.proofs.Common.{◌≡◌, ◌≢◌, ℕ, zero, suc, ◌+◌, ◌^◌, ◌<◌, ◌≤◌, ◌==◌, Bool, not, cond, List, [], ◌∷◌, ◌++◌, length, get_or, filter, insert, remove, length-append, refl, sym, ap, ◌∙◌, inl, inr, arith}
use Rattle.std.specs.List.Sorted.{IsPermutation}
use Rattle.std.proofs.lemmas.Bool.{cases_Bool, cases_lt, eqb-true, ne_eqb, eq-eqb}
use Rattle.std.proofs.lemmas.List.Sums.{length-filter, sum_by-insert, sum_by-remove, sum_by-cons}
use Rattle.std.proofs.lemmas.List.Sorted.{IsPermutation-filter_both, sum_by-IsPermutation, length_permutation}
use Rattle.std.proofs.lemmas.List.Filters.{sum_by-filter_both}
use Rattle.probing.specs.ProbeOrder.{NoRepeats, AreMembers, times_in}
use Rattle.probing.specs.Rounds.{others}

-- one more or not
abbrev pub one_if : Bool → ℕ
one_if test = cond test 1 0

-- by the first member
pub times_in-cons : (x : ℕ) (xs : List ℕ) (m : ℕ) → times_in (x ∷ xs) m ≡ one_if (x == m) + times_in xs m
times_in-cons x xs m = sum_by-cons (λ other. one_if (other == m)) x xs

pub one_if-same : (x m : ℕ) → x ≡ m → one_if (x == m) ≡ 1
one_if-same x m same = rw (eq-eqb x m same) refl

pub one_if-other : (x m : ℕ) → x ≢ m → one_if (x == m) ≡ 0
one_if-other x m other = rw (ne_eqb x m other) refl

-- a member at a place is there
pub times_in-get_or : (xs : List ℕ) (i : ℕ) → i < length xs → 1 ≤ times_in xs (get_or xs i 0)
times_in-get_or xs i within =
    let x = get_or xs i 0 in
    omega (arith, sum_by-remove (λ other. one_if (other == x)) xs i 0 within, one_if-same x x refl)

-- in another order
pub are_members-permutation : (xs ys : List ℕ) → IsPermutation xs ys → AreMembers xs → AreMembers ys
are_members-permutation xs ys same h =
    let kept : (m : ℕ) → times_in ys m ≡ times_in xs m =
    λ m. sum_by-IsPermutation (λ other. one_if (other == m)) xs ys same in
    record {
      distinct = λ m. omega (arith, kept m, h.distinct m);
      numbers = λ m high. kept m ∙ h.numbers m high;
    }

-- with one more
pub are_members-more : (xs ys : List ℕ) (m : ℕ) → ((k : ℕ) → times_in ys k ≡ times_in xs k + one_if (m == k)) → m < 2 ^ 16 → times_in xs m ≡ 0 → AreMembers xs → AreMembers ys
are_members-more xs ys m counted low absent h =
    record {
      distinct = λ k. elim (cases_Bool (m == k)) [
        | inl own ↦
            let same : m ≡ k = eqb-true m k own in
            omega (arith, counted k, one_if-same m k same, ap (times_in xs) same, absent)
        | inr apart ↦
            let none : one_if (m == k) ≡ 0 = rw apart refl in
            omega (arith, counted k, none, h.distinct k)
      ];
      numbers = λ k high.
          let apart : m ≢ k = λ same. omega arith in
          omega (arith, counted k, one_if-other m k apart, h.numbers k high);
    }

pub are_members-insert : (xs : List ℕ) (i m : ℕ) → m < 2 ^ 16 → times_in xs m ≡ 0 → AreMembers xs → AreMembers (insert xs i m)
are_members-insert xs i m low absent h =
    are_members-more xs (insert xs i m) m (λ k. sum_by-insert (λ other. one_if (other == k)) xs i m) low absent h

-- with one less
pub are_members-remove : (xs : List ℕ) (i : ℕ) → i < length xs → AreMembers xs → AreMembers (remove xs i)
are_members-remove xs i within h =
    let counted : (k : ℕ) → times_in (remove xs i) k ≤ times_in xs k =
    λ k. omega (arith, sum_by-remove (λ other. one_if (other == k)) xs i 0 within) in
    record {
      distinct = λ k. omega (arith, counted k, h.distinct k);
      numbers = λ k high. omega (arith, counted k, h.numbers k high);
    }

pub times_in-others-same : (m : ℕ) (xs : List ℕ) → times_in (others m xs) m ≡ 0
times_in-others-same m [] = refl
times_in-others-same m (x ∷ xs) =
    elim (cases_Bool (x == m)) [
      | inl own ↦ rw own (times_in-others-same m xs)
      | inr apart ↦
          let none : one_if (x == m) ≡ 0 = rw apart refl in
          rw apart (times_in-cons x (others m xs) m ∙ omega (arith, none, times_in-others-same m xs))
    ]

pub times_in-others-other : (m k : ℕ) (xs : List ℕ) → m ≢ k → times_in (others m xs) k ≡ times_in xs k
times_in-others-other m k [] other = refl
times_in-others-other m k (x ∷ xs) other =
    elim (cases_Bool (x == m)) [
      | inl own ↦
          let none = one_if-other x k (λ same. other (sym (eqb-true x m own) ∙ same)) in
          rw own (times_in-others-other m k xs other ∙ omega (arith, times_in-cons x xs k, none))
      | inr apart ↦
          rw apart (times_in-cons x (others m xs) k
          ∙ omega (arith, times_in-cons x xs k, times_in-others-other m k xs other))
    ]

pub times_in-others-le : (m k : ℕ) (xs : List ℕ) → times_in (others m xs) k ≤ times_in xs k
times_in-others-le m k xs =
    omega (arith, sum_by-filter_both (λ other. other == m) (λ other. not (other == m)) (λ _. refl) (λ other. one_if (other == k)) xs)

pub length-others : (m : ℕ) (xs : List ℕ) → length (others m xs) + times_in xs m ≡ length xs
length-others m xs =
    let own : ℕ → Bool = λ other. other == m in
    let apart : ℕ → Bool = λ other. not (other == m) in
    omega (
      arith,
      length-append (filter own xs) (filter apart xs),
      length_permutation xs (filter own xs ++ filter apart xs) (IsPermutation-filter_both own apart (λ _. refl) xs),
      length-filter own xs,
    )

-- as many distinct numbers as there are below a bound, or fewer
pub length_bounded : (n : ℕ) (xs : List ℕ) → NoRepeats xs → ((m : ℕ) → n ≤ m → times_in xs m ≡ 0) → length xs ≤ n
length_bounded zero [] distinct low = omega arith
length_bounded zero (x ∷ xs) distinct low =
    absurd (omega (arith, low x (omega arith), times_in-cons x xs x, one_if-same x x refl))
length_bounded (suc n) xs distinct low =
    let fewer : length (others n xs) ≤ n =
    length_bounded n (others n xs)
    (λ m. omega (arith, times_in-others-le n m xs, distinct m))
    (λ m high. elim (cases_lt n m) [
      | inl more ↦ omega (arith, times_in-others-le n m xs, low m (omega arith))
      | inr least ↦
          let same : n ≡ m = omega arith in
          ap (times_in (others n xs)) (sym same) ∙ times_in-others-same n xs
    ]) in
    omega (arith, fewer, length-others n xs, distinct n)

-- members are at most 65536
pub members_bounded : (xs : List ℕ) → AreMembers xs → length xs ≤ 2 ^ 16
members_bounded xs h = length_bounded (2 ^ 16) xs h.distinct h.numbers
