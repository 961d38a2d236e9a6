-- One change more.
use Rattle.std.proofs.Common.{◌≡◌, ℕ, ◌+◌, ◌≤◌, Bool, true, false, cond, ◌==◌, List, [], ◌∷◌, ◌++◌, length, Option, Some, None, refl, sym, ap, ◌∙◌, arith, add-zero, zero-add, add_assoc, append-nil, append_assoc}
use Rattle.std.specs.Prelude.{filter}
use Rattle.std.specs.List.{last_or}
use Rattle.std.specs.Option.{option_map_or}
use Rattle.std.proofs.lemmas.List.Elements.{filter-append}
use Rattle.series.specs.Changes.{Change, is_of, state_after, passing_after}

-- a count over changes, with one change more
pub passing-push : (test : List Change → Change → Bool) (earlier changes : List Change) (change : Change)
    → passing_after test earlier (changes ++ change ∷ []) ≡ passing_after test earlier changes + cond (test (earlier ++ changes) change) 1 0
passing-push test earlier [] change = ap (λ e. cond (test e change) 1 0 + 0) (sym (append-nil earlier)) ∙ add-zero _ ∙ sym (zero-add _)
passing-push test earlier (first ∷ changes) change =
    ap (λ n. cond (test earlier first) 1 0 + n)
    (passing-push test (earlier ++ first ∷ []) changes change
    ∙ ap (λ e. passing_after test (earlier ++ first ∷ []) changes + cond (test e change) 1 0) (append_assoc earlier (first ∷ []) changes))
    ∙ sym (add_assoc (cond (test earlier first) 1 0) (passing_after test (earlier ++ first ∷ []) changes) (cond (test (earlier ++ first ∷ changes) change) 1 0))

one_or_none : (b : Bool) → cond b 1 0 ≤ 1
one_or_none true = omega arith
one_or_none false = omega arith

-- no more pass than there are
pub passing-few : (test : List Change → Change → Bool) (earlier changes : List Change) → passing_after test earlier changes ≤ length changes
passing-few test earlier [] = omega arith
passing-few test earlier (first ∷ changes) = omega (arith, one_or_none (test earlier first), passing-few test (earlier ++ first ∷ []) changes)

last-append : (o : Option Change) (changes : List Change) (change : Change) → last_or o (changes ++ change ∷ []) ≡ Some change
last-append o [] change = refl
last-append o (first ∷ changes) change = last-append (Some first) changes change

state-one : (test : Bool) (changes : List Change) (change : Change)
    → option_map_or (λ c. c.state) (last_or None (changes ++ cond test (change ∷ []) [])) 0 ≡ cond test change.state (option_map_or (λ c. c.state) (last_or None changes) 0)
state-one true changes change = ap (λ o. option_map_or (λ c. c.state) o 0) (last-append None changes change)
state-one false changes change = ap (λ l. option_map_or (λ c. c.state) (last_or None l) 0) (append-nil changes)

-- a member's state, with one change more
pub state-push : (changes : List Change) (change : Change) (member : ℕ) → state_after (changes ++ change ∷ []) member ≡ cond (change.member == member) change.state (state_after changes member)
state-push changes change member =
    ap (λ l. option_map_or (λ c. c.state) (last_or None l) 0) (filter-append (is_of member) changes (change ∷ []))
    ∙ state-one (change.member == member) (filter (is_of member) changes) change
