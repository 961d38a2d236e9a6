-- The groups of a number's digits: those of a thousandth of it, and one more.
use Rattle.std.proofs.Common.{◌≡◌, ℕ, zero, suc, ◌*◌, ◌/◌, ◌%◌, ◌^◌, ◌<◌, ◌≤◌, List, [], ◌∷◌, ◌++◌, map, length, take, refl, ap, sym, ◌∙◌, subst, arith, inl, inr}
use Rattle.std.specs.Prelude.{codes, decimal, nat_le, if◌then◌else◌}
use Rattle.std.specs.List.{flat_map}
use Rattle.std.proofs.Math.Nat.{div-div-eq-div-mul, div-one, div-eq_of_lt, le-div_iff_mul-le, div-lt_iff_lt-mul, mod-eq_of_lt, mul_comm}
use Rattle.std.proofs.lemmas.List.{append-nil, take_all}
use Rattle.std.proofs.lemmas.Grind.{flat_map-append}
use Rattle.std.proofs.lemmas.Bool.{cond-true, cond-false, le-leb, lt-leb, cases_lt}
use Rattle.drawing.specs.Numbers.{three_digits, grouped_within, group_digits, digit_group}

-- what the groups of so many digits count, from the greatest
abbrev groups_of : ℕ → List ℕ
groups_of zero = 1 ∷ []
groups_of (suc k) = map (λ count. 1000 * count) (groups_of k) ++ 1 ∷ []

-- a number past so many groups and one
abbrev past : ℕ → ℕ
past zero = 1000
past (suc k) = past k * 1000

reaches : (count n : ℕ) → nat_le (1000 * count) n ≡ nat_le count (n / 1000)
reaches count n =
    elim (cases_lt n (1000 * count)) as (λ _. nat_le (1000 * count) n ≡ nat_le count (n / 1000)) [
      | inl less ↦ lt-leb (1000 * count) n less ∙ sym (lt-leb count (n / 1000) ((div-lt_iff_lt-mul {k = 1000} (omega arith)).1 (subst (λ p. n < p) (mul_comm 1000 count) less)))
      | inr more ↦ le-leb (1000 * count) n more ∙ sym (le-leb count (n / 1000) ((le-div_iff_mul-le {k = 1000} (omega arith)).1 (subst (λ p. p ≤ n) (mul_comm 1000 count) more)))
    ]

of_thousandth : (n count : ℕ) → digit_group n (1000 * count) ≡ digit_group (n / 1000) count
of_thousandth n count =
    ap (λ test. if test then group_digits (n / (1000 * count)) else []) (reaches count n)
    ∙ ap (λ q. if nat_le count (n / 1000) then group_digits q else []) (sym (div-div-eq-div-mul n 1000 count))

of_thousandths : (n : ℕ) (counts : List ℕ) → flat_map (digit_group n) (map (λ count. 1000 * count) counts) ≡ flat_map (digit_group (n / 1000)) counts
of_thousandths n [] = refl
of_thousandths n (count ∷ counts) =
    ap (λ t. t ++ flat_map (digit_group n) (map (λ c. 1000 * c) counts)) (of_thousandth n count) ∙ ap (λ t. digit_group (n / 1000) count ++ t) (of_thousandths n counts)

-- the groups of nothing
none : (k : ℕ) → flat_map (digit_group 0) (groups_of k) ≡ []
none zero = refl
none (suc k) =
    flat_map-append (digit_group 0) (map (λ count. 1000 * count) (groups_of k)) (1 ∷ [])
    ∙ ap (λ t. t ++ []) (of_thousandths 0 (groups_of k)) ∙ append-nil (flat_map (digit_group 0) (groups_of k)) ∙ none k

-- the last group
last_group : (n : ℕ) → 0 < n → digit_group n 1 ++ [] ≡ group_digits n
last_group n some = append-nil (digit_group n 1) ∙ cond-true _ _ _ (le-leb 1 n some) ∙ ap group_digits (div-one n)

short : (n : ℕ) → n < 1000 → group_digits n ≡ decimal n
short n few = cond-false _ _ _ (lt-leb 1000 n few) ∙ ap decimal (mod-eq_of_lt few)

long : (n : ℕ) → 1000 ≤ n → group_digits n ≡ codes "," ++ three_digits (n % 1000)
long n many = cond-true _ _ _ (le-leb 1000 n many)

split : (k n : ℕ) → 0 < n → flat_map (digit_group n) (groups_of (suc k)) ≡ flat_map (digit_group (n / 1000)) (groups_of k) ++ group_digits n
split k n some =
    flat_map-append (digit_group n) (map (λ count. 1000 * count) (groups_of k)) (1 ∷ [])
    ∙ ap (λ t. t ++ (digit_group n 1 ++ [])) (of_thousandths n (groups_of k)) ∙ ap (λ t. flat_map (digit_group (n / 1000)) (groups_of k) ++ t) (last_group n some)

whole : (k n : ℕ) → 0 < n → n < past k → flat_map (digit_group n) (groups_of k) ≡ grouped_within k n
whole zero n some few = last_group n some ∙ short n few
whole (suc k) n some few =
    elim (cases_lt n 1000) as (λ _. flat_map (digit_group n) (groups_of (suc k)) ≡ grouped_within (suc k) n) [
      | inl less ↦
          split k n some ∙ ap (λ q. flat_map (digit_group q) (groups_of k) ++ group_digits n) (div-eq_of_lt less) ∙ ap (λ t. t ++ group_digits n) (none k)
          ∙ short n less ∙ sym (cond-false _ _ _ (lt-leb 1000 n less))
      | inr more ↦
          split k n some
          ∙ ap (λ t. t ++ group_digits n) (whole k (n / 1000) (omega (arith, more)) ((div-lt_iff_lt-mul {k = 1000} (omega arith)).1 few))
          ∙ ap (λ t. grouped_within k (n / 1000) ++ t) (long n more) ∙ sym (cond-true _ _ _ (le-leb 1000 n more))
    ]

-- what the groups of 64 bits count
abbrev pub counts : List ℕ
counts = 1000000000000000000 ∷ 1000000000000000 ∷ 1000000000000 ∷ 1000000000 ∷ 1000000 ∷ 1000 ∷ 1 ∷ []

pub all_groups : (n place : ℕ) → 1000 ≤ n → n < 2 ^ 64 → length counts ≤ place → flat_map (digit_group n) (take place counts) ≡ grouped_within 6 n
all_groups n place many fits all = ap (flat_map (digit_group n)) (take_all place counts all) ∙ whole 6 n (omega (arith, many)) (omega (arith, fits))
