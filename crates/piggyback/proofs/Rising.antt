-- Entries whose subjects rise, as the values of a map do.
use Rattle.std.proofs.Common.{◌≡◌, ℕ, ◌<◌, T, Bool, true, false, List, [], ◌∷◌, refl, arith}
use Rattle.std.specs.List.{AllByRecursion}
use Rattle.std.specs.Ordering.{nat_cmp, is_lt}
use Rattle.std.specs.FinMap.Entries as by
use Rattle.std.proofs.lemmas.Bool.{and_parts}
use Rattle.std.proofs.lemmas.Bool.Decides.{nat_tests}
use Rattle.piggyback.specs.Picked.{Counted}
use Rattle.piggyback.specs.Keyed.{keyed}

-- whether the subjects rise
abbrev pub is_rising : List Counted → Bool
is_rising these = by.is_sorted nat_cmp (keyed these)

pub true_from_T : (b : Bool) → T b → b ≡ true
true_from_T true h = refl
true_from_T false h = absurd h

-- each is about a greater subject
abbrev pub AllAbove : ℕ → List Counted → Type 0
AllAbove subject these = AllByRecursion (λ it. subject < it.0.subject) these

-- each is about a greater subject than those before it
abbrev pub Rises : List Counted → Type 0
Rises [] = Unit {0}
Rises (it ∷ these) = AllAbove it.0.subject these × Rises these

below_here : (m n : ℕ) → is_lt (nat_cmp m n) ≡ true → m < n
below_here m n h = grind (arith, nat_tests)

all_above : (subject : ℕ) (these : List Counted) → by.below_all nat_cmp subject (keyed these) ≡ true → AllAbove subject these
all_above subject [] h = tt
all_above subject (it ∷ these) h =
    let parts = and_parts (is_lt (nat_cmp subject it.0.subject)) (by.below_all nat_cmp subject (keyed these)) h in
    (below_here subject it.0.subject parts.0, all_above subject these parts.1)

pub rises : (these : List Counted) → is_rising these ≡ true → Rises these
rises [] h = tt
rises (it ∷ these) h =
    let parts = and_parts (by.below_all nat_cmp it.0.subject (keyed these)) (is_rising these) h in
    (all_above it.0.subject these parts.0, rises these parts.1)
