-- Counts over the members of a cluster, and over pairs of them.
use Rattle.std.proofs.Common.{◌≡◌, ◌≢◌, ℕ, zero, suc, ◌+◌, ◌*◌, ◌≤◌, ◌<◌, ◌^◌, Bool, true, false, cond, ◌&&◌, ◌||◌, ◌==◌, [], ◌∷◌, ◌++◌, refl, sym, ap, ◌∙◌, inl, inr, arith, add-zero, zero-add, add-one}
use Rattle.std.specs.Prelude.{not, count_by, sum_by}
use Rattle.std.specs.List.{list_any, range_with_len}
use Rattle.std.proofs.Math.Path.{fun_ext}
use Rattle.std.proofs.lemmas.Bool.{cases_eq, eq-eqb, ne_eqb}
use Rattle.std.proofs.lemmas.List.FromFn.{length-range_with_len}
use Rattle.std.proofs.lemmas.List.Sums.{sum_by-cons, sum_by_push, count_by-le-length}
use Rattle.incidents.specs.Lives.{members, weight}
use Rattle.incidents.specs.Missed.{pair_count, pairs_around}

-- ---- sums over numbers from one on

-- functions that agree from there on have one sum
same_from : (f g : ℕ → ℕ) (start n : ℕ) → ((q : ℕ) → start ≤ q → g q ≡ f q) → sum_by g (range_with_len start n) ≡ sum_by f (range_with_len start n)
same_from f g start zero same = refl
same_from f g start (suc n) same =
    let rest = same_from f g (start + 1) n (λ q later. same q (omega (arith, later))) in
    sum_by-cons g start (range_with_len (start + 1) n) ∙ ap (λ x. x + sum_by g (range_with_len (start + 1) n)) (same start (omega arith))
    ∙ ap (λ x. f start + x) rest ∙ sym (sum_by-cons f start (range_with_len (start + 1) n))

-- where they agree but at one number, so do the sums
pub change_from : (f g : ℕ → ℕ) (k start n : ℕ) → start ≤ k → k < start + n → ((q : ℕ) → q ≢ k → g q ≡ f q)
    → sum_by g (range_with_len start n) + f k ≡ sum_by f (range_with_len start n) + g k
change_from f g k start zero low high same = absurd (omega (arith, low, high))
change_from f g k start (suc n) low high same =
    let more = sum_by-cons g start (range_with_len (start + 1) n) in
    let too = sum_by-cons f start (range_with_len (start + 1) n) in
    elim (cases_eq start k) [
      | inl here ↦
          let rest = same_from f g (start + 1) n (λ q later. same q (λ is. absurd (omega (arith, later, is, here)))) in
          let first : f start ≡ f k = ap f here in
          let second : g start ≡ g k = ap g here in
          omega (arith, more, too, rest, first, second)
      | inr other ↦
          let later : start + 1 ≤ k = omega (arith, low, other) in
          let rest = change_from f g k (start + 1) n later (omega (arith, high)) same in
          let first : g start ≡ f start = same start other in
          omega (arith, more, too, rest, first)
    ]

-- the sum of two functions
both_from : (f g : ℕ → ℕ) (start n : ℕ) → sum_by (λ k. f k + g k) (range_with_len start n) ≡ sum_by f (range_with_len start n) + sum_by g (range_with_len start n)
both_from f g start zero = refl
both_from f g start (suc n) =
    let all = sum_by-cons (λ k. f k + g k) start (range_with_len (start + 1) n) in
    let more = sum_by-cons f start (range_with_len (start + 1) n) in
    let too = sum_by-cons g start (range_with_len (start + 1) n) in
    let rest = both_from f g (start + 1) n in
    omega (arith, all, more, too, rest)

range-push : (start n : ℕ) → range_with_len start (suc n) ≡ range_with_len start n ++ (start + n) ∷ []
range-push start zero = ap (λ k. k ∷ []) (sym (add-zero start))
range-push start (suc n) =
    let next : start + 1 + n ≡ start + suc n = omega arith in
    ap (λ l. start ∷ l) (range-push (start + 1) n ∙ ap (λ k. range_with_len (start + 1) n ++ k ∷ []) next)

-- one member more is counted
pub count-more : (test : ℕ → Bool) (k : ℕ) → count_by test (members (k + 1)) ≡ count_by test (members k) + weight (test k)
count-more test k =
    ap (λ n. count_by test (members n)) (add-one k) ∙ ap (count_by test) (range-push 0 k)
    ∙ sum_by_push (λ x. cond (test x) 1 0) (members k) (0 + k) ∙ ap (λ x. count_by test (members k) + weight (test x)) (zero-add k)

-- and the pairs with one member
pub around_more : (test : ℕ → ℕ → Bool) (i k old first second : ℕ) → old ≡ pairs_around k test i → first ≡ weight (test i k) → second ≡ weight (test k i)
    → old + first + second ≡ pairs_around (k + 1) test i
around_more test i k old first second so_far here there =
    let one = count-more (test i) k in
    let two = count-more (λ n. test n i) k in
    omega (arith, so_far, here, there, one, two)

-- ---- pairs

pub same_pairs : (count : ℕ) (test other : ℕ → ℕ → Bool) → ((a b : ℕ) → test a b ≡ other a b) → pair_count count test ≡ pair_count count other
same_pairs count test other same = ap (pair_count count) (fun_ext (λ a. fun_ext (λ b. same a b)))

pub same_around : (count : ℕ) (test other : ℕ → ℕ → Bool) (i : ℕ) → ((a b : ℕ) → test a b ≡ other a b) → pairs_around count test i ≡ pairs_around count other i
same_around count test other i same = ap (λ t. pairs_around count t i) (fun_ext (λ a. fun_ext (λ b. same a b)))

-- one pair of members changes
pub one_pair : (count : ℕ) (test other : ℕ → ℕ → Bool) (i j : ℕ) → i < count → j < count
    → ((a b : ℕ) → (a ≡ i → b ≡ j → ⊥) → other a b ≡ test a b)
    → pair_count count other + weight (test i j) ≡ pair_count count test + weight (other i j)
one_pair count test other i j first second same =
    let rows : pair_count count other + count_by (test i) (members count) ≡ pair_count count test + count_by (other i) (members count) =
    change_from (λ a. count_by (test a) (members count)) (λ a. count_by (other a) (members count)) i 0 count (omega arith) (omega (arith, first))
    (λ a apart. ap (λ t. count_by t (members count)) (fun_ext (λ b. same a b (λ is. λ _. apart is)))) in
    let cells : count_by (other i) (members count) + weight (test i j) ≡ count_by (test i) (members count) + weight (other i j) =
    change_from (λ b. weight (test i b)) (λ b. weight (other i b)) j 0 count (omega arith) (omega (arith, second))
    (λ b apart. ap weight (same i b (λ _. λ is. apart is))) in
    omega (arith, rows, cells)

-- the pairs that don't have a member in one of their places
abbrev pub apart_from : ℕ → (ℕ → ℕ → Bool) → ℕ → ℕ → Bool
apart_from i test a b = (not (a == i) && not (b == i)) && test a b

pub none_count : (test : ℕ → Bool) (start n : ℕ) → ((k : ℕ) → test k ≡ false) → count_by test (range_with_len start n) ≡ 0
none_count test start zero none = refl
none_count test start (suc n) none =
    sum_by-cons (λ k. cond (test k) 1 0) start (range_with_len (start + 1) n) ∙ ap (λ b. weight b + count_by test (range_with_len (start + 1) n)) (none start)
    ∙ zero-add _ ∙ none_count test (start + 1) n none

not_own : (i : ℕ) → not (i == i) ≡ false
not_own i = ap not (eq-eqb i i refl)

not_other : (a i : ℕ) → a ≢ i → not (a == i) ≡ true
not_other a i apart = ap not (ne_eqb a i apart)

-- the pairs of a first member that isn't the one: with the one, and the others
row_apart : (count : ℕ) (test : ℕ → ℕ → Bool) (i a : ℕ) → i < count → a ≢ i
    → count_by (test a) (members count) ≡ count_by (apart_from i test a) (members count) + weight (test a i)
row_apart count test i a low apart =
    let one : apart_from i test a i ≡ false = ap (λ b. b && not (i == i) && test a i) (not_other a i apart) ∙ ap (λ b. b && test a i) (not_own i) in
    let rest : count_by (apart_from i test a) (members count) + weight (test a i) ≡ count_by (test a) (members count) + weight (apart_from i test a i) =
    change_from (λ b. weight (test a b)) (λ b. weight (apart_from i test a b)) i 0 count (omega arith) (omega (arith, low))
    (λ b other. ap (λ x. weight ((x && not (b == i)) && test a b)) (not_other a i apart) ∙ ap (λ x. weight (x && test a b)) (not_other b i other)) in
    let none : weight (apart_from i test a i) ≡ 0 = ap weight one in
    omega (arith, rest, none)

-- all pairs are those around a member, and the others
pub around_and_apart : (count : ℕ) (test : ℕ → ℕ → Bool) (i : ℕ) → i < count → test i i ≡ false
    → pair_count count test ≡ pair_count count (apart_from i test) + pairs_around count test i
around_and_apart count test i low itself =
    let own_none : count_by (apart_from i test i) (members count) ≡ 0 = none_count (apart_from i test i) 0 count (λ b. ap (λ x. (x && not (b == i)) && test i b) (not_own i)) in
    let col_none : weight (test i i) ≡ 0 = ap weight itself in
    let rows : sum_by (λ a. count_by (apart_from i test a) (members count) + weight (test a i)) (members count) + count_by (test i) (members count)
    ≡ pair_count count test + (count_by (apart_from i test i) (members count) + weight (test i i)) =
    change_from (λ a. count_by (test a) (members count)) (λ a. count_by (apart_from i test a) (members count) + weight (test a i)) i 0 count (omega arith) (omega (arith, low))
    (λ a apart. sym (row_apart count test i a low apart)) in
    let split : sum_by (λ a. count_by (apart_from i test a) (members count) + weight (test a i)) (members count)
    ≡ pair_count count (apart_from i test) + count_by (λ k. test k i) (members count) =
    both_from (λ a. count_by (apart_from i test a) (members count)) (λ a. weight (test a i)) 0 count in
    omega (arith, own_none, col_none, rows, split)

none_sum : (f : ℕ → ℕ) (start n : ℕ) → ((k : ℕ) → f k ≡ 0) → sum_by f (range_with_len start n) ≡ 0
none_sum f start zero none = refl
none_sum f start (suc n) none =
    sum_by-cons f start (range_with_len (start + 1) n) ∙ ap (λ x. x + sum_by f (range_with_len (start + 1) n)) (none start) ∙ zero-add _ ∙ none_sum f (start + 1) n none

-- nobody passes
pub no_pairs : (count : ℕ) (test : ℕ → ℕ → Bool) → ((a b : ℕ) → test a b ≡ false) → pair_count count test ≡ 0
no_pairs count test none = none_sum (λ i. count_by (test i) (members count)) 0 count (λ i. none_count (test i) 0 count (none i))

-- ---- how many there may be

pub few_members : (count : ℕ) (test : ℕ → Bool) → count_by test (members count) ≤ count
few_members count test = let most = count_by-le-length test (members count) in let long = length-range_with_len 0 count in omega (arith, most, long)

sum_bound : (f : ℕ → ℕ) (start n : ℕ) → ((k : ℕ) → f k ≤ 65536) → sum_by f (range_with_len start n) ≤ n * 65536
sum_bound f start zero few = omega arith
sum_bound f start (suc n) few =
    let here = few start in
    let rest = sum_bound f (start + 1) n few in
    let more = sum_by-cons f start (range_with_len (start + 1) n) in
    omega (arith, here, rest, more)

pub few_pairs : (count : ℕ) (test : ℕ → ℕ → Bool) → count ≤ 2 ^ 16 → pair_count count test ≤ 2 ^ 32
few_pairs count test few =
    let most = sum_bound (λ i. count_by (test i) (members count)) 0 count (λ i. let low = few_members count (test i) in omega (arith, low, few)) in
    omega (arith, most, few)

-- ---- none, or some

any_step : (b rest : Bool) (n : ℕ) → rest ≡ not (n == 0) → (b || rest) ≡ not ((weight b + n) == 0)
any_step true rest n is = sym (ap not (ne_eqb (1 + n) 0 (λ none. absurd (omega (arith, none)))))
any_step false rest n is = is ∙ ap (λ m. not (m == 0)) (sym (zero-add n))

any_from : (test : ℕ → Bool) (start n : ℕ) → list_any test (range_with_len start n) ≡ not (count_by test (range_with_len start n) == 0)
any_from test start zero = refl
any_from test start (suc n) =
    any_step (test start) (list_any test (range_with_len (start + 1) n)) (count_by test (range_with_len (start + 1) n)) (any_from test (start + 1) n)
    ∙ ap (λ m. not (m == 0)) (sym (sum_by-cons (λ k. cond (test k) 1 0) start (range_with_len (start + 1) n)))

some_step : (first rest : Bool) (m n : ℕ) → first ≡ not (m == 0) → rest ≡ not (n == 0) → (first || rest) ≡ not ((m + n) == 0)
some_step first rest zero n here further = ap (λ b. b || rest) here ∙ further ∙ ap (λ k. not (k == 0)) (sym (zero-add n))
some_step first rest (suc m) n here further =
    ap (λ b. b || rest) (here ∙ ap not (ne_eqb (suc m) 0 (λ none. absurd (omega (arith, none)))))
    ∙ sym (ap not (ne_eqb (suc m + n) 0 (λ none. absurd (omega (arith, none)))))

pairs_from : (count : ℕ) (test : ℕ → ℕ → Bool) (start n : ℕ)
    → list_any (λ i. list_any (test i) (members count)) (range_with_len start n) ≡ not (sum_by (λ i. count_by (test i) (members count)) (range_with_len start n) == 0)
pairs_from count test start zero = refl
pairs_from count test start (suc n) =
    some_step _ _ (count_by (test start) (members count)) (sum_by (λ i. count_by (test i) (members count)) (range_with_len (start + 1) n))
    (any_from (test start) 0 count) (pairs_from count test (start + 1) n)
    ∙ ap (λ m. not (m == 0)) (sym (sum_by-cons (λ i. count_by (test i) (members count)) start (range_with_len (start + 1) n)))

not_twice : (b : Bool) → not (not b) ≡ b
not_twice true = refl
not_twice false = refl

-- no pair passes just if they are none
pub no_pair : (count : ℕ) (test : ℕ → ℕ → Bool) → not (list_any (λ i. list_any (test i) (members count)) (members count)) ≡ (pair_count count test == 0)
no_pair count test = ap not (pairs_from count test 0 count) ∙ not_twice (pair_count count test == 0)
