-- The finer logarithm: the entries of its table, and a number's leading digits.
use Rattle.std.proofs.Common.{◌≡◌, ℕ, zero, suc, ◌+◌, ◌-◌, ◌*◌, ◌/◌, ◌%◌, ◌<◌, ◌≤◌, ◌^◌, Bool, true, false, cond, ◌&&◌, leb, ltb, ◌⊎◌, inl, inr, List, [], ◌∷◌, length, get_or, refl, sym, ap, subst, ◌∙◌, arith, lit≤}
use Rattle.std.proofs.Math.Nat.{pow-le-pow_right, pow-suc, div-div-eq-div-mul, div-one, div-le_of_le-mul, mul-le-mul_left}
use Rattle.std.proofs.lemmas.Bool.{leb-true, ltb-true, lt-leb}
use Rattle.base.specs.Logarithm.{greatest, is_within_log, digit_count, tenth_log_of, fine_log_of, tenths_further, close_log_of}

-- ---- the greatest number that passes a test

top_or_below : (k n : ℕ) → k ≤ suc n → (k ≤ n) ⊎ (k ≡ suc n)
top_or_below k n h = grind arith

at_top : (passes : ℕ → Bool) (n k : ℕ) → (k ≤ n) ⊎ (k ≡ suc n) → passes k ≡ true → ((j : ℕ) → k < j → passes j ≡ false)
    → (k ≤ n → greatest passes n ≡ k) → greatest passes (suc n) ≡ k
at_top passes n k (inl below) passed others rest = ap (λ b. cond b (suc n) (greatest passes n)) (others (suc n) (omega arith)) ∙ rest below
at_top passes n k (inr top) passed others rest = ap (λ b. cond b (suc n) (greatest passes n)) (subst (λ x. passes x ≡ true) top passed) ∙ sym top

greatest_is : (passes : ℕ → Bool) (n k : ℕ) → k ≤ n → passes k ≡ true → ((j : ℕ) → k < j → passes j ≡ false) → greatest passes n ≡ k
greatest_is passes zero k h passed others = let none : k ≡ 0 = omega arith in sym none
greatest_is passes (suc n) k h passed others = at_top passes n k (top_or_below k n h) passed others (λ below. greatest_is passes n k below passed others)

greatest-le : (passes : ℕ → Bool) (n : ℕ) → greatest passes n ≤ n
greatest-le passes zero = lit≤ tt
greatest-le passes (suc n) = either (passes (suc n)) (greatest-le passes n)
  where
    either : (b : Bool) → greatest passes n ≤ n → cond b (suc n) (greatest passes n) ≤ suc n
    either true h = omega arith
    either false h = omega arith

pub tenth-le : (d : ℕ) → tenth_log_of d ≤ 1000
unfolding tenth_log_of
tenth-le d = greatest-le (is_within_log d) 1000

-- ---- the table

abbrev pub tenths : List ℕ
tenths =
    0 ∷ 41 ∷ 79 ∷ 113 ∷ 146 ∷ 176 ∷ 204 ∷ 230 ∷ 255 ∷ 278 ∷ 301 ∷ 322 ∷ 342 ∷ 361 ∷ 380 ∷ 397 ∷ 414 ∷ 431 ∷ 447 ∷ 462
    ∷ 477 ∷ 491 ∷ 505 ∷ 518 ∷ 531 ∷ 544 ∷ 556 ∷ 568 ∷ 579 ∷ 591 ∷ 602 ∷ 612 ∷ 623 ∷ 633 ∷ 643 ∷ 653 ∷ 662 ∷ 672 ∷ 681 ∷ 690
    ∷ 698 ∷ 707 ∷ 716 ∷ 724 ∷ 732 ∷ 740 ∷ 748 ∷ 755 ∷ 763 ∷ 770 ∷ 778 ∷ 785 ∷ 792 ∷ 799 ∷ 806 ∷ 812 ∷ 819 ∷ 826 ∷ 832 ∷ 838
    ∷ 845 ∷ 851 ∷ 857 ∷ 863 ∷ 869 ∷ 875 ∷ 880 ∷ 886 ∷ 892 ∷ 897 ∷ 903 ∷ 908 ∷ 913 ∷ 919 ∷ 924 ∷ 929 ∷ 934 ∷ 939 ∷ 944 ∷ 949
    ∷ 954 ∷ 959 ∷ 963 ∷ 968 ∷ 973 ∷ 977 ∷ 982 ∷ 986 ∷ 991 ∷ 995 ∷ []

-- k is the logarithm of the thousandth root of power, over 10
fits : ℕ → ℕ → Bool
fits power k = leb k 1000 && (leb (10 ^ (1000 + k)) power && ltb power (10 ^ (1000 + k + 1)))

all_fit : ℕ → List ℕ → Bool
all_fit d [] = true
all_fit d (k ∷ ks) = fits (d ^ 1000) k && all_fit (d + 1) ks

tenths_fit : all_fit 10 tenths ≡ true
unfolding all_fit fits
tenths_fit = refl

first : (a b : Bool) → (a && b) ≡ true → a ≡ true
first true b h = refl
first false b h = h

second : (a b : Bool) → (a && b) ≡ true → b ≡ true
second true b h = h
second false b h = absurd (false≢true h)
  where
    false≢true : ¬ (false ≡ true)
    false≢true = cc

fits_at : (ks : List ℕ) (d i : ℕ) → i < length ks → all_fit d ks ≡ true → fits ((d + i) ^ 1000) (get_or ks i 0) ≡ true
unfolding all_fit fits
fits_at [] d i h all = absurd (omega (arith, h))
fits_at (k ∷ ks) d zero h all = subst (λ x. fits (x ^ 1000) k ≡ true) (let same : d ≡ d + 0 = omega arith in same) (first (fits (d ^ 1000) k) (all_fit (d + 1) ks) all)
fits_at (k ∷ ks) d (suc i) h all =
    let rest = fits_at ks (d + 1) i (omega arith) (second (fits (d ^ 1000) k) (all_fit (d + 1) ks) all) in
    subst (λ x. fits (x ^ 1000) (get_or ks i 0) ≡ true) (let same : d + 1 + i ≡ d + suc i = omega arith in same) rest

above : (power k j : ℕ) → power < 10 ^ (1000 + k + 1) → k < j → leb (10 ^ (1000 + j)) power ≡ false
above power k j few h =
    let up : 1000 + k + 1 ≤ 1000 + j = omega arith in
    let ten : 0 < 10 = lit≤ tt in
    let more = pow-le-pow_right ten up in
    lt-leb (10 ^ (1000 + j)) power (omega (arith, more))

entry_is : (d k : ℕ) → fits (d ^ 1000) k ≡ true → tenth_log_of d ≡ k
unfolding tenth_log_of fits
entry_is d k h =
    let small = first (leb k 1000) (leb (10 ^ (1000 + k)) (d ^ 1000) && ltb (d ^ 1000) (10 ^ (1000 + k + 1))) h in
    let both = second (leb k 1000) (leb (10 ^ (1000 + k)) (d ^ 1000) && ltb (d ^ 1000) (10 ^ (1000 + k + 1))) h in
    let within = first (leb (10 ^ (1000 + k)) (d ^ 1000)) (ltb (d ^ 1000) (10 ^ (1000 + k + 1))) both in
    let past = ltb-true (d ^ 1000) (10 ^ (1000 + k + 1)) (second (leb (10 ^ (1000 + k)) (d ^ 1000)) (ltb (d ^ 1000) (10 ^ (1000 + k + 1))) both) in
    greatest_is (is_within_log d) 1000 k (leb-true k 1000 small) within (λ j more. above (d ^ 1000) k j past more)

-- the table has the logarithms of 10 to 99
pub tenth_is : (d : ℕ) → 10 ≤ d → d ≤ 99 → tenth_log_of d ≡ get_or tenths (d - 10) 0
tenth_is d least most =
    let long : length tenths ≡ 90 = refl in
    let at = fits_at tenths 10 (d - 10) (omega (arith, long)) tenths_fit in
    let same : 10 + (d - 10) ≡ d = omega arith in
    entry_is d (get_or tenths (d - 10) 0) (subst (λ x. fits (x ^ 1000) (get_or tenths (d - 10) 0) ≡ true) same at)

hundred_fits : fits (100 ^ 1000) 1000 ≡ true
unfolding fits
hundred_fits = refl

-- and the logarithm of ten is 1
pub hundred_is : tenth_log_of 100 ≡ 1000
hundred_is = entry_is 100 1000 hundred_fits

-- ---- the leading digits

-- a quotient by one ten more
pub one_ten_more : (n k : ℕ) → n / 10 ^ (k + 1) ≡ n / 10 ^ k / 10
one_ten_more n k =
    let next : 10 ^ (k + 1) ≡ 10 ^ k * 10 = ap (λ e. 10 ^ e) (let same : k + 1 ≡ suc k = omega arith in same) ∙ pow-suc 10 k in
    ap (λ p. n / p) next ∙ sym (div-div-eq-div-mul n (10 ^ k) 10)

-- ---- between two tenths

further-le : (a b t : ℕ) → a ≤ 1000 → b ≤ 1000 → t ≤ 10 → a + (b - a) * t / 10 ≤ 1000
further-le a b t small next few =
    let times = mul-le-mul_left (b - a) few in
    let gone : (b - a) * t / 10 ≤ b - a = div-le_of_le-mul 10 (omega (arith, times)) in
    omega (arith, small, next, gone)

-- no way on goes past the next ten
pub further-le_thousand : (d t : ℕ) → t ≤ 10 → tenths_further d t ≤ 1000
further-le_thousand d t few = further-le (tenth_log_of d) (tenth_log_of (d + 1)) t (tenth-le d) (tenth-le (d + 1)) few

no_further : (a b : ℕ) → a + (b - a) * 0 / 10 ≡ a
no_further a b = let none : (b - a) * 0 ≡ 0 = omega arith in omega (arith, none)

-- a number with its third digit 0 is where the two leading digits are
at_start : (x n : ℕ) → x ≡ n * 10 → tenths_further (x / 10) (x % 10) ≡ tenth_log_of n
at_start x n is =
    let two : x / 10 ≡ n = omega (arith, is) in
    let none : x % 10 ≡ 0 = omega (arith, is) in
    ap (λ d. tenths_further d (x % 10)) two ∙ ap (tenths_further n) none ∙ no_further (tenth_log_of n) (tenth_log_of (n + 1))

of_one_digit : (n : ℕ) → tenths_further (n * 100 / 10 ^ 0 / 10) (n * 100 / 10 ^ 0 % 10) ≡ tenth_log_of (n * 10 / 10 ^ 0)
of_one_digit n =
    at_start (n * 100 / 10 ^ 0) (n * 10 / 10 ^ 0) (div-one (n * 100) ∙ (let same : n * 100 ≡ n * 10 * 10 = omega arith in same) ∙ sym (ap (λ m. m * 10) (div-one (n * 10))))

of_two_digits : (n : ℕ) → tenths_further (n * 100 / 10 ^ 1 / 10) (n * 100 / 10 ^ 1 % 10) ≡ tenth_log_of (n * 10 / 10 ^ 1)
of_two_digits n = at_start (n * 100 / 10 ^ 1) (n * 10 / 10 ^ 1) (let same : n * 100 / 10 ≡ n * 10 / 10 * 10 = omega arith in same)

up_to_one : (k : ℕ) → k ≤ 1 → (k ≡ 0) ⊎ (k ≡ 1)
up_to_one k few = grind arith

by_digits : (n k : ℕ) → k ≤ 1 → tenths_further (n * 100 / 10 ^ k / 10) (n * 100 / 10 ^ k % 10) ≡ tenth_log_of (n * 10 / 10 ^ k)
by_digits n k few =
    elim (up_to_one k few) [
      | inl e ↦ subst (λ j. tenths_further (n * 100 / 10 ^ j / 10) (n * 100 / 10 ^ j % 10) ≡ tenth_log_of (n * 10 / 10 ^ j)) (sym e) (of_one_digit n)
      | inr e ↦ subst (λ j. tenths_further (n * 100 / 10 ^ j / 10) (n * 100 / 10 ^ j % 10) ≡ tenth_log_of (n * 10 / 10 ^ j)) (sym e) (of_two_digits n)
    ]

-- of one or two digits all logarithms by two digits say the same
pub close_is_fine : (n : ℕ) → digit_count n ≤ 2 → close_log_of n ≡ fine_log_of n
close_is_fine n few = ap (λ m. 1000 * (digit_count n - 1) + m) (by_digits n (digit_count n - 1) (omega (arith, few)))
