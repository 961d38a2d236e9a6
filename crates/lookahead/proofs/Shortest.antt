-- Where by way of no part a length can be made less, no walk is shorter.
use Rattle.std.proofs.Common.{◌≡◌, ℕ, ◌+◌, ◌<◌, List, [], ◌∷◌, Option, Some, None, refl, subst, arith}
use Rattle.scenario.specs.Setup.{Setup}
use Rattle.windows.specs.Cluster.{IsPeopled}
use Rattle.windows.specs.Horizon.{IsWalk, walk_end, walk_length, length_of}
use Rattle.lookahead.specs.Least.{IsAtMost}
use Rattle.lookahead.specs.Lengths.{length_at, IsSettledAt}
use Rattle.lookahead.specs.Walks.{IsLeastWalk, AreLengthsOfWalks}
use Rattle.lookahead.proofs.LeastOf.{no_more, sums_of}

module _ (parts : ℕ) (s : Setup) (division : ℕ → ℕ) (between : ℕ → ℕ → ℕ) (lengths : List (Option ℕ)) (are : AreLengthsOfWalks parts s division between lengths)
    (settled : (from to : ℕ) → from < parts → to < 64 → IsSettledAt parts lengths from to) (to : ℕ) (there : to < 64) where
  up_to_walk : (rest : List ℕ) (part next : ℕ) → IsPeopled s division part → IsWalk (IsPeopled s division) part (next ∷ rest) → walk_end next rest ≡ to
      → IsAtMost (length_at lengths part to) (walk_length between part (next ∷ rest))
  up_to_walk [] part next begins walk ends =
      let direct = subst (λ q. IsAtMost (length_at lengths part q) (between part next)) ends (are.direct part next walk.0 begins walk.1) in
      no_more (length_at lengths part to) (between part next) (between part next + 0) direct (omega arith)
  up_to_walk (other ∷ rest) part next begins walk ends =
      let goes_on = up_to_walk rest next other walk.1 walk.2 ends in
      sums_of (length_at lengths part next) (length_at lengths next to) (length_at lengths part to) (between part next) (walk_length between next (other ∷ rest))
      (are.direct part next walk.0 begins walk.1) goes_on (λ n is. settled part to (are.few part begins) there next n (are.few next walk.1) is)

  least_walk : (from : ℕ) (o : Option ℕ) → from < 64 → length_at lengths from to ≡ o → IsLeastWalk (IsPeopled s division) between from to o
  least_walk from None here is = λ walk. subst (λ o. IsAtMost o (length_of between walk)) is (up_to_walk walk.rest from walk.next walk.begins walk.apart walk.ends)
  least_walk from (Some n) here is = (
    are.walked from to n here there is,
    λ walk. subst (λ o. IsAtMost o (length_of between walk)) is (up_to_walk walk.rest from walk.next walk.begins walk.apart walk.ends),
  )

  pub is_least_walk : (from : ℕ) → from < 64 → IsLeastWalk (IsPeopled s division) between from to (length_at lengths from to)
  is_least_walk from here = least_walk from (length_at lengths from to) here refl
