-- How many members are in a state: those that came to it less those that went from it.
use Rattle.std.proofs.Common.{◌≡◌, ℕ, zero, suc, ◌+◌, ◌<◌, ◌≤◌, Bool, true, false, cond, ◌&&◌, ◌==◌, not, List, [], ◌∷◌, ◌++◌, refl, sym, ap, ◌∙◌, arith, inl, inr, append-nil, append_assoc}
use Rattle.std.specs.Prelude.{All, count_by, sum_by}
use Rattle.std.specs.List.{range_with_len}
use Rattle.std.proofs.lemmas.Bool.{cases_Bool, cases_eq}
use Rattle.std.proofs.lemmas.List.Sums.{sum_by-cons}
use Rattle.std.proofs.lemmas.List.Elements.{All-head, All-tail}
use Rattle.series.specs.Changes.{Change, state_after, passing_after, came, went, holding}
use Rattle.series.proofs.Passing.{state-push}

-- ---- counts over members of which one changes

count-cons : (f : ℕ → Bool) (x : ℕ) (xs : List ℕ) → count_by f (x ∷ xs) ≡ cond (f x) 1 0 + count_by f xs
count-cons f x xs = sum_by-cons (λ y. cond (f y) 1 0) x xs

count_same : (f g : ℕ → Bool) (first n : ℕ) → ((m : ℕ) → first ≤ m → f m ≡ g m) → count_by f (range_with_len first n) ≡ count_by g (range_with_len first n)
count_same f g first zero same = refl
count_same f g first (suc n) same =
    count-cons f first (range_with_len (first + 1) n)
    ∙ ap (λ b. cond b 1 0 + count_by f (range_with_len (first + 1) n)) (same first (omega arith))
    ∙ ap (λ k. cond (g first) 1 0 + k) (count_same f g (first + 1) n (λ m low. same m (omega (arith, low))))
    ∙ sym (count-cons g first (range_with_len (first + 1) n))

count_one : (f g : ℕ → Bool) (i first n : ℕ) → first ≤ i → i < first + n → ((m : ℕ) → ¬ (m ≡ i) → f m ≡ g m)
    → count_by f (range_with_len first n) + cond (g i) 1 0 ≡ count_by g (range_with_len first n) + cond (f i) 1 0
count_one f g i first zero low high same = absurd (none low high)
  where
    none : first ≤ i → i < first + 0 → ⊥
    none a b = omega (arith, a, b)
count_one f g i first (suc n) low high same =
    elim (cases_eq first i) as (λ _. count_by f (range_with_len first (suc n)) + cond (g i) 1 0 ≡ count_by g (range_with_len first (suc n)) + cond (f i) 1 0) [
      | inl at ↦
          let rest : count_by f (range_with_len (first + 1) n) ≡ count_by g (range_with_len (first + 1) n) = count_same f g (first + 1) n (λ m past. same m (λ is. apart m past is at)) in
          let here : ◌≡◌ {A = ℕ} (cond (f first) 1 0) (cond (f i) 1 0) = ap (λ m. cond (f m) 1 0) at in
          let there : ◌≡◌ {A = ℕ} (cond (g first) 1 0) (cond (g i) 1 0) = ap (λ m. cond (g m) 1 0) at in
          omega (arith, count-cons f first (range_with_len (first + 1) n), count-cons g first (range_with_len (first + 1) n), rest, here, there)
      | inr other ↦
          let here : ◌≡◌ {A = ℕ} (cond (f first) 1 0) (cond (g first) 1 0) = ap (λ b. cond b 1 0) (same first other) in
          omega (arith, count-cons f first (range_with_len (first + 1) n), count-cons g first (range_with_len (first + 1) n), here, count_one f g i (first + 1) n (later first i low other) (omega (arith, high)) same)
    ]
  where
    apart : (m : ℕ) → first + 1 ≤ m → m ≡ i → first ≡ i → ⊥
    apart m past is at = omega (arith, past, is, at)

    later : (a b : ℕ) → a ≤ b → ¬ (a ≡ b) → a + 1 ≤ b
    later a b le ne = omega (arith, le, ne)

-- ---- one change

balanced : (a b : ℕ) (x y : Bool) → a + cond x 1 0 ≡ b + cond y 1 0 → a + cond (x && not y) 1 0 ≡ b + cond (y && not x) 1 0
balanced a b true true is = omega (arith, is)
balanced a b true false is = is
balanced a b false true is = is
balanced a b false false is = is

-- a test that doesn't look at spans
abbrev pub arrives : ℕ → List Change → Change → Bool
arrives state earlier change = (state == change.state) && not (state == state_after earlier change.member)

abbrev pub departs : ℕ → List Change → Change → Bool
departs state earlier change = (state == state_after earlier change.member) && not (state == change.state)

one_change : (members state : ℕ) (earlier : List Change) (change : Change) → change.member < members
    → holding members state (earlier ++ change ∷ []) + cond (departs state earlier change) 1 0 ≡ holding members state earlier + cond (arrives state earlier change) 1 0
one_change members state earlier change within =
    let f : ℕ → Bool = λ m. state_after (earlier ++ change ∷ []) m == state in
    let g : ℕ → Bool = λ m. state_after earlier m == state in
    let others : (m : ℕ) → ¬ (m ≡ change.member) → f m ≡ g m = λ m apart. ap (λ s. s == state) (state-push earlier change m ∙ ap (λ t. cond t change.state (state_after earlier m)) (unlike m apart)) in
    let its : f change.member ≡ (state == change.state) = ap (λ s. s == state) (state-push earlier change change.member ∙ ap (λ t. cond t change.state (state_after earlier change.member)) (itself change.member)) ∙ turned change.state state in
    let was : g change.member ≡ (state == state_after earlier change.member) = turned (state_after earlier change.member) state in
    balanced (holding members state (earlier ++ change ∷ [])) (holding members state earlier) (state == state_after earlier change.member) (state == change.state)
    (ap (λ b. holding members state (earlier ++ change ∷ []) + cond b 1 0) (sym was)
    ∙ count_one f g change.member 0 members (omega arith) (omega (arith, within)) others
    ∙ ap (λ b. holding members state earlier + cond b 1 0) its)
  where
    unlike : (m : ℕ) → ¬ (m ≡ change.member) → (change.member == m) ≡ false
    unlike m apart = elim (cases_Bool (change.member == m)) as (λ _. (change.member == m) ≡ false) [ inl h ↦ absurd (apart (equal change.member m h)) | inr h ↦ h ]
      where
        equal : (a b : ℕ) → (a == b) ≡ true → b ≡ a
        equal a b h = grind (arith)

    itself : (a : ℕ) → (a == a) ≡ true
    itself a = grind (arith)

    turned : (a b : ℕ) → (a == b) ≡ (b == a)
    turned a b = elim (cases_Bool (a == b)) as (λ _. (a == b) ≡ (b == a)) [ inl h ↦ grind (arith, h) | inr h ↦ grind (arith, h) ]

-- ---- all changes

all_changes : (members state : ℕ) (earlier later : List Change) → All (λ c. c.member < members) later
    → holding members state (earlier ++ later) + passing_after (departs state) earlier later ≡ holding members state earlier + passing_after (arrives state) earlier later
all_changes members state earlier [] few = ap (λ l. holding members state l + 0) (append-nil earlier)
all_changes members state earlier (change ∷ later) few =
    let rest = all_changes members state (earlier ++ change ∷ []) later (All-tail (λ c. c.member < members) change later few) in
    let same : holding members state ((earlier ++ change ∷ []) ++ later) ≡ holding members state (earlier ++ change ∷ later) = ap (holding members state) (append_assoc earlier (change ∷ []) later) in
    let here = one_change members state earlier change (All-head (λ c. c.member < members) change later few) in
    omega (arith, rest, same, here)

-- those that are in a state are those that were at first, with those that came to it, without those that went from it
pub held : (members state : ℕ) (changes : List Change) → All (λ c. c.member < members) changes
    → holding members state changes + passing_after (departs state) [] changes ≡ holding members state [] + passing_after (arrives state) [] changes
held members state changes few = all_changes members state [] changes few

-- ---- what came and went in each span, and in all

sum_zero : (first n : ℕ) → sum_by (λ k. 0) (range_with_len first n) ≡ 0
sum_zero first zero = refl
sum_zero first (suc n) = omega (arith, sum_by-cons (λ (k : ℕ). 0) first (range_with_len (first + 1) n), sum_zero (first + 1) n)

sum_both : (f g : ℕ → ℕ) (xs : List ℕ) → sum_by (λ k. f k + g k) xs ≡ sum_by f xs + sum_by g xs
sum_both f g [] = refl
sum_both f g (x ∷ xs) = omega (arith, sum_by-cons (λ k. f k + g k) x xs, sum_by-cons f x xs, sum_by-cons g x xs, sum_both f g xs)

abbrev at_span : Bool → Bool → ℕ → ℕ → ℕ
at_span a b s k = cond ((a && k == s) && b) 1 0

none_at : (a b : Bool) (s k : ℕ) → ¬ (k ≡ s) → at_span a b s k ≡ 0
none_at a b s k apart = elim (cases_Bool (k == s)) as (λ _. at_span a b s k ≡ 0) [ inl h ↦ absurd (apart (equal k s h)) | inr h ↦ rw h (by_cases a b) ]
  where
    equal : (x y : ℕ) → (x == y) ≡ true → x ≡ y
    equal x y h = grind (arith)

    by_cases : (x y : Bool) → ◌≡◌ {A = ℕ} (cond ((x && false) && y) 1 0) 0
    by_cases true y = refl
    by_cases false y = refl

one_at : (a b : Bool) (s : ℕ) → at_span a b s s ≡ cond (a && b) 1 0
one_at a b s = ap (λ t. cond ((a && t) && b) 1 0) (itself s) ∙ by_cases a b
  where
    itself : (x : ℕ) → (x == x) ≡ true
    itself x = grind (arith)

    by_cases : (x y : Bool) → ◌≡◌ {A = ℕ} (cond ((x && true) && y) 1 0) (cond (x && y) 1 0)
    by_cases true y = refl
    by_cases false y = refl

past_span : (a b : Bool) (s first n : ℕ) → s < first → sum_by (at_span a b s) (range_with_len first n) ≡ 0
past_span a b s first zero past = refl
past_span a b s first (suc n) past =
    omega (arith, sum_by-cons (at_span a b s) first (range_with_len (first + 1) n), none_at a b s first (λ is. apart is past), past_span a b s (first + 1) n (omega (arith, past)))
  where
    apart : first ≡ s → s < first → ⊥
    apart is low = omega (arith, is, low)

in_spans : (a b : Bool) (s first n : ℕ) → first ≤ s → s < first + n → sum_by (at_span a b s) (range_with_len first n) ≡ cond (a && b) 1 0
in_spans a b s first zero low high = absurd (none low high)
  where
    none : first ≤ s → s < first + 0 → ⊥
    none x y = omega (arith, x, y)
in_spans a b s first (suc n) low high =
    elim (cases_eq first s) as (λ _. sum_by (at_span a b s) (range_with_len first (suc n)) ≡ cond (a && b) 1 0) [
      | inl at ↦ omega (arith, sum_by-cons (at_span a b s) first (range_with_len (first + 1) n), ap (at_span a b s) at, one_at a b s, past_span a b s (first + 1) n (omega (arith, at)))
      | inr other ↦ omega (arith, sum_by-cons (at_span a b s) first (range_with_len (first + 1) n), none_at a b s first other, in_spans a b s (first + 1) n (later low other) (omega (arith, high)))
    ]
  where
    later : first ≤ s → ¬ (first ≡ s) → first + 1 ≤ s
    later le ne = omega (arith, le, ne)

over_spans : (a b : List Change → Change → Bool) (earlier later : List Change) → All (λ c. c.span < 120) later
    → sum_by (λ k. passing_after (λ e c. (a e c && k == c.span) && b e c) earlier later) (range_with_len 0 120) ≡ passing_after (λ e c. a e c && b e c) earlier later
over_spans a b earlier [] few = sum_zero 0 120
over_spans a b earlier (change ∷ later) few =
    sum_both (at_span (a earlier change) (b earlier change) change.span) (λ k. passing_after (λ e c. (a e c && k == c.span) && b e c) (earlier ++ change ∷ []) later) (range_with_len 0 120)
    ∙ ap (λ n. n + sum_by (λ k. passing_after (λ e c. (a e c && k == c.span) && b e c) (earlier ++ change ∷ []) later) (range_with_len 0 120))
    (in_spans (a earlier change) (b earlier change) change.span 0 120 (omega arith) (omega (arith, All-head (λ c. c.span < 120) change later few)))
    ∙ ap (λ n. cond (a earlier change && b earlier change) 1 0 + n) (over_spans a b (earlier ++ change ∷ []) later (All-tail (λ c. c.span < 120) change later few))

pub held_by_spans : (members state : ℕ) (changes : List Change) → All (λ c. c.member < members) changes → All (λ c. c.span < 120) changes
    → holding members state changes + sum_by (λ span. went state span changes) (range_with_len 0 120) ≡ holding members state [] + sum_by (λ span. came state span changes) (range_with_len 0 120)
held_by_spans members state changes few low =
    ap (λ n. holding members state changes + n) (over_spans (λ e c. state == state_after e c.member) (λ e c. not (state == c.state)) [] changes low)
    ∙ held members state changes few
    ∙ ap (λ n. holding members state [] + n) (sym (over_spans (λ e c. state == c.state) (λ e c. not (state == state_after e c.member)) [] changes low))
