-- Tests over the members of a cluster.
use Rattle.std.proofs.Common.{◌≡◌, ℕ, zero, suc, ◌+◌, ◌<◌, Bool, true, false, ◌&&◌, ◌||◌, refl, sym, ap, subst, ◌∙◌, zero-add}
use Rattle.std.specs.Prelude.{not}
use Rattle.std.specs.Bool.{OnTrue, OnFalse}
use Rattle.std.specs.List.{list_any, range_with_len}
use Rattle.std.proofs.lemmas.List.Folds.{list_any_at}
use Rattle.std.proofs.lemmas.List.FromFn.{length-range_with_len, get_or-range_with_len}
use Rattle.incidents.specs.Lives.{members}

none_from : (P : ℕ → Bool) (start n : ℕ) → ((a : ℕ) → P a ≡ false) → list_any P (range_with_len start n) ≡ false
none_from P start zero none = refl
none_from P start (suc n) none = ap (λ b. b || list_any P (range_with_len (start + 1) n)) (none start) ∙ none_from P (start + 1) n none

-- no member passes a test that nobody passes
pub none_in : (P : ℕ → Bool) (count : ℕ) → ((a : ℕ) → P a ≡ false) → list_any P (members count) ≡ false
none_in P count none = none_from P 0 count none

-- some member passes a test that this one passes
pub some_in : (P : ℕ → Bool) (count k : ℕ) → k < count → P k ≡ true → list_any P (members count) ≡ true
some_in P count k low is =
    list_any_at P (members count) k 0 (subst (λ n. k < n) (sym (length-range_with_len 0 count)) low)
    (ap P (get_or-range_with_len 0 count k 0 low ∙ zero-add k) ∙ is)

-- an answer that says by other marks whether no member passes a test
pub no_member : (answer : Bool) (mark P : ℕ → Bool) (count : ℕ) → ((a : ℕ) → mark a ≡ P a) → ((a : ℕ) → P a ≡ true → a < count)
    → OnTrue answer ((a : ℕ) → mark a ≡ false) → OnFalse answer ((a : ℕ) × (mark a ≡ true)) → answer ≡ not (list_any P (members count))
no_member true mark P count same low none some = sym (ap not (none_in P count (λ a. sym (same a) ∙ none a)))
no_member false mark P count same low none some =
    let is = sym (same some.0) ∙ some.1 in
    sym (ap not (some_in P count some.0 (low some.0 is) is))

pub and-first : (p q : Bool) → (p && q) ≡ true → p ≡ true
and-first true q both = refl
and-first false q both = both

-- one test or another, of those that pass a third
pub either : (up s d : Bool) → ((up && s) || (up && d)) ≡ (up && (s || d))
either true s d = refl
either false s d = refl

either_false : (p q : Bool) → p ≡ false → q ≡ false → (p || q) ≡ false
either_false p q first second = ap (λ b. b || q) first ∙ second

or-true : (b : Bool) → (b || true) ≡ true
or-true true = refl
or-true false = refl

-- the same by two marks, where each of them says so
pub no_doubter : (first second : Bool) (mark other P : ℕ → Bool) (count : ℕ) → ((a : ℕ) → (mark a || other a) ≡ P a) → ((a : ℕ) → P a ≡ true → a < count)
    → OnTrue first ((a : ℕ) → mark a ≡ false) → OnFalse first ((a : ℕ) × (mark a ≡ true))
    → OnTrue second ((a : ℕ) → other a ≡ false) → OnFalse second ((a : ℕ) × (other a ≡ true))
    → (first && second) ≡ not (list_any P (members count))
no_doubter true true mark other P count same low none some nobody somebody =
    sym (ap not (none_in P count (λ a. sym (same a) ∙ either_false (mark a) (other a) (none a) (nobody a))))
no_doubter true false mark other P count same low none some nobody somebody =
    let is = sym (same somebody.0) ∙ ap (λ b. mark somebody.0 || b) somebody.1 ∙ or-true (mark somebody.0) in
    sym (ap not (some_in P count somebody.0 (low somebody.0 is) is))
no_doubter false second mark other P count same low none some nobody somebody =
    let is = sym (same some.0) ∙ ap (λ b. b || other some.0) some.1 in
    sym (ap not (some_in P count some.0 (low some.0 is) is))
