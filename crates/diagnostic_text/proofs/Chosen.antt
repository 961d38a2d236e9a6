-- The diagnostics that are shown have the least rule of all.
use Rattle.std.proofs.Common.{◌≡◌, ◌∙◌, ◌&&◌, ◌||◌, ◌++◌, ◌∷◌, ℕ, zero, suc, Bool, true, false, List, [], ◌+◌, ◌<◌, Option, None, Some, cond, drop, find, get_or, length, nat_eq, nat_le, ap, sym, subst, refl, take, arith}
use Rattle.std.proofs.lemmas.Bool.{false≢true}
use Rattle.std.proofs.lemmas.Bool.Decides.{nat_tests}
use Rattle.std.specs.Option.{option_map_or}
use Rattle.std.proofs.lemmas.List.{append-nil, drop_more}
use Rattle.std.proofs.lemmas.List.Folds.{list_all-append, list_any-append}
use Rattle.diagnostics.specs.Told.{IsLeastRule, are_from, has_rule}
use Rattle.diagnostics.specs.declared.list.Diagnostic.{Diagnostic}
use Rattle.diagnostic_text.specs.Told.{AreShown, first_of_rule, shown_of}

abbrev pub is_of : ℕ → Diagnostic → Bool
is_of rule m = nat_eq m.rule rule

-- the first of a rule, in a loop
pub first_here : (rule : ℕ) (ms : List Diagnostic) (i : ℕ) (d : Diagnostic) → i < length ms → (get_or ms i d).rule ≡ rule
    → find (is_of rule) ms ≡ find (is_of rule) (drop i ms) → Some (get_or ms i d) ≡ find (is_of rule) ms
first_here rule ms i d inside same so_far =
    let m = get_or ms i d in
    let is : nat_eq m.rule rule ≡ true = grind (arith, nat_tests) in
    sym (so_far ∙ ap (find (is_of rule)) (drop_more ms i d inside) ∙ ap (λ b. cond b (Some m) (find (is_of rule) (drop (i + 1) ms))) is)

pub first_later : (rule : ℕ) (ms : List Diagnostic) (i : ℕ) (d : Diagnostic) → i < length ms → ¬ ((get_or ms i d).rule ≡ rule)
    → find (is_of rule) ms ≡ find (is_of rule) (drop i ms) → find (is_of rule) ms ≡ find (is_of rule) (drop (i + 1) ms)
first_later rule ms i d inside unlike so_far =
    let m = get_or ms i d in
    let other : nat_eq m.rule rule ≡ false = grind (arith, nat_tests) in
    so_far ∙ ap (find (is_of rule)) (drop_more ms i d inside) ∙ ap (λ b. cond b (Some m) (find (is_of rule) (drop (i + 1) ms))) other

-- a part of diagnostics that are from a rule on
from_take : (rule n : ℕ) (ms : List Diagnostic) → are_from rule ms ≡ true → are_from rule (take n ms) ≡ true
from_take rule zero ms all = refl
from_take rule (suc n) [] all = refl
from_take rule (suc n) (m ∷ ms) all = go (nat_le rule m.rule) refl all (from_take rule n ms)
  where
    go : (low : Bool) → nat_le rule m.rule ≡ low → are_from rule (m ∷ ms) ≡ true → (are_from rule ms ≡ true → are_from rule (take n ms) ≡ true)
        → are_from rule (take (suc n) (m ∷ ms)) ≡ true
    go true e h rest = rw e (rest (subst (λ b. (b && are_from rule ms) ≡ true) e h))
    go false e h rest = absurd (false≢true (subst (λ b. (b && are_from rule ms) ≡ true) e h))

first_from : (rule : ℕ) (ms : List Diagnostic) → are_from rule (first_of_rule rule ms) ≡ true
first_from rule [] = refl
first_from rule (m ∷ ms) = go (nat_eq m.rule rule) refl (first_from rule ms)
  where
    go : (same : Bool) → nat_eq m.rule rule ≡ same → are_from rule (first_of_rule rule ms) ≡ true → are_from rule (first_of_rule rule (m ∷ ms)) ≡ true
    go true e rest =
        let low : nat_le rule m.rule ≡ true = grind (arith, nat_tests) in
        rw (e, low) refl
    go false e rest = rw e rest

first_has : (rule : ℕ) (ms : List Diagnostic) → has_rule rule ms ≡ true → has_rule rule (first_of_rule rule ms) ≡ true
first_has rule [] h = h
first_has rule (m ∷ ms) h = go (nat_eq m.rule rule) refl h (first_has rule ms)
  where
    go : (same : Bool) → nat_eq m.rule rule ≡ same → has_rule rule (m ∷ ms) ≡ true → (has_rule rule ms ≡ true → has_rule rule (first_of_rule rule ms) ≡ true)
        → has_rule rule (first_of_rule rule (m ∷ ms)) ≡ true
    go true e h rest = rw (e, e) refl
    go false e h rest = rw e (rest (subst (λ b. (b || has_rule rule ms) ≡ true) e h))

both_true : (a b : Bool) → a ≡ true → b ≡ true → (a && b) ≡ true
both_true a b p q = rw (p, q) refl

or_true : (a b : Bool) → b ≡ true → (a || b) ≡ true
or_true true b q = refl
or_true false b q = q

-- the beginning of what was found, and the first of the rule
pub least_given : (rule n : ℕ) (ms : List Diagnostic) → IsLeastRule rule ms → IsLeastRule rule (take n ms ++ first_of_rule rule ms)
least_given rule n ms least = record {
  from = list_all-append (λ m. nat_le rule m.rule) (take n ms) (first_of_rule rule ms)
      ∙ both_true (are_from rule (take n ms)) (are_from rule (first_of_rule rule ms)) (from_take rule n ms least.from) (first_from rule ms);
  there = list_any-append (λ m. nat_eq m.rule rule) (take n ms) (first_of_rule rule ms)
      ∙ or_true (has_rule rule (take n ms)) (has_rule rule (first_of_rule rule ms)) (first_has rule ms least.there);
}

pub least_begun : (rule n : ℕ) (ms : List Diagnostic) → IsLeastRule rule ms → has_rule rule (take n ms) ≡ true → IsLeastRule rule (take n ms)
least_begun rule n ms least there = record { from = from_take rule n ms least.from; there = there }

-- what is shown of what was found: its beginning, or the first of the rule behind a shorter one
pub begun : (rule : ℕ) (found first shown : List Diagnostic) → IsLeastRule rule found → first ≡ take 50 found → has_rule rule first ≡ true
    → shown ≡ first → AreShown rule found shown
begun rule found first shown least is there same =
    let has : has_rule rule (take 50 found) ≡ true = subst (λ ms. has_rule rule ms ≡ true) is there in
    let chosen : shown_of rule found ≡ take 50 found = rw has refl in
    let all : shown ≡ take 50 found = same ∙ is in
    record { chosen = all ∙ sym chosen; least = subst (IsLeastRule rule) (sym all) (least_begun rule 50 found least has) }

led : (rule : ℕ) (found first front shown : List Diagnostic) → IsLeastRule rule found → first ≡ take 50 found → has_rule rule first ≡ false
    → front ≡ take 49 found → shown ≡ front ++ first_of_rule rule found → AreShown rule found shown
led rule found first front shown least is none begins same =
    let has : has_rule rule (take 50 found) ≡ false = subst (λ ms. has_rule rule ms ≡ false) is none in
    let chosen : shown_of rule found ≡ take 49 found ++ first_of_rule rule found = rw has refl in
    let all : shown ≡ take 49 found ++ first_of_rule rule found = same ∙ ap (λ ms. ms ++ first_of_rule rule found) begins in
    record { chosen = all ∙ sym chosen; least = subst (IsLeastRule rule) (sym all) (least_given rule 49 found least) }

pub led_by : (rule : ℕ) (found first front shown : List Diagnostic) (last : Diagnostic) → IsLeastRule rule found → first ≡ take 50 found → has_rule rule first ≡ false
    → front ≡ take 49 found → find (is_of rule) found ≡ Some last → shown ≡ front ++ last ∷ [] → AreShown rule found shown
led_by rule found first front shown last least is none begins finds same =
    let one : first_of_rule rule found ≡ last ∷ [] = ap (λ (o : Option Diagnostic). option_map_or (λ m. m ∷ []) o []) finds in
    led rule found first front shown least is none begins (same ∙ ap (λ ms. front ++ ms) (sym one))

pub led_by_none : (rule : ℕ) (found first front shown : List Diagnostic) → IsLeastRule rule found → first ≡ take 50 found → has_rule rule first ≡ false
    → front ≡ take 49 found → find (is_of rule) found ≡ None → shown ≡ front → AreShown rule found shown
led_by_none rule found first front shown least is none begins finds same =
    let no_one : first_of_rule rule found ≡ [] = ap (λ (o : Option Diagnostic). option_map_or (λ m. m ∷ []) o []) finds in
    led rule found first front shown least is none begins (same ∙ sym (append-nil front) ∙ ap (λ ms. front ++ ms) (sym no_one))
