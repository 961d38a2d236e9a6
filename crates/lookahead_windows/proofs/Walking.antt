-- The least of the walks between pairs of parts, and how long those into a part are at least.
use Rattle.std.proofs.Common.{◌≡◌, ℕ, ◌+◌, ◌<◌, ◌≤◌, ◌⊎◌, inl, inr, min, Option, Some, None, IfSome, IfNone, refl, sym, subst, arith}
use Rattle.std.specs.Option.{option_map_or}
use Rattle.std.proofs.lemmas.Bool.{cases_lt}
use Rattle.scenario.specs.Setup.{Setup, IsSound, member_count}
use Rattle.links.specs.Least.{lesser_of}
use Rattle.windows.specs.Cluster.{IsPeopled}
use Rattle.windows.specs.Horizon.{Walk, length_of}
use Rattle.lookahead.specs.Between.{IsLeastBetween}
use Rattle.lookahead.specs.Walks.{Table, AreWalksOf, IsLengthOfAWalk, IsNoLonger}
use Rattle.lookahead_windows.specs.Walks.{IsLeastAmong, IsLeastWalkAmong, IsFrom, IsInto, AreBelow}

module _ (HasMembers : ℕ → Type 0) (between : ℕ → ℕ → ℕ) where
  abbrev Least : (ℕ → ℕ → Type 0) → Option ℕ → Type 0
  Least = IsLeastAmong HasMembers between

  -- the least walk between all pairs is the lesser of that between some and that between the others
  of_all : (One Other All : ℕ → ℕ → Type 0) → ((p q : ℕ) → All p q → One p q ⊎ Other p q) → ((p q : ℕ) → One p q → All p q) → ((p q : ℕ) → Other p q → All p q)
      → (a b : Option ℕ) → Least One a → Least Other b → Least All (lesser_of a b)
  of_all One Other All divided in_one in_other None None first second = λ p q here walk. elim (divided p q here) as (λ _. ⊥) [
    | inl x ↦ first p q x walk
    | inr y ↦ second p q y walk
  ]
  of_all One Other All divided in_one in_other None (Some e) first ((p, q, here, walk), fewer) = (
    (p, q, in_other p q here, walk),
    λ from to among walk. elim (divided from to among) as (λ _. e ≤ length_of between walk) [
      | inl x ↦ absurd (first from to x walk)
      | inr y ↦ fewer from to y walk
    ],
  )
  of_all One Other All divided in_one in_other (Some d) None ((p, q, here, walk), fewer) second = (
    (p, q, in_one p q here, walk),
    λ from to among walk. elim (divided from to among) as (λ _. d ≤ length_of between walk) [
      | inl x ↦ fewer from to x walk
      | inr y ↦ absurd (second from to y walk)
    ],
  )
  of_all One Other All divided in_one in_other (Some d) (Some e) first second = (
    elim (cases_lt e d) as (λ _. (p : ℕ) × (q : ℕ) × All p q × IsLengthOfAWalk HasMembers between p q (min d e)) [
      | inl a ↦ (
          let least : e ≡ min d e = omega (arith, a) in
          let (p, q, here, walk) = second.0 in
          (p, q, in_other p q here, subst (IsLengthOfAWalk HasMembers between p q) least walk))
      | inr b ↦ (
          let least : d ≡ min d e = omega (arith, b) in
          let (p, q, here, walk) = first.0 in
          (p, q, in_one p q here, subst (IsLengthOfAWalk HasMembers between p q) least walk))
    ],
    λ from to among walk. elim (divided from to among) as (λ _. min d e ≤ length_of between walk) [
      | inl x ↦ (let few = first.1 from to x walk in omega arith)
      | inr y ↦ (let few = second.1 from to y walk in omega arith)
    ],
  )

  abbrev IsPair : ℕ → ℕ → ℕ → ℕ → Type 0
  IsPair from to p q = (p ≡ from) × (q ≡ to)

  -- of one pair it is the length of its least walk
  of_pair : (from to : ℕ) (o : Option ℕ) → IfSome o (IsLengthOfAWalk HasMembers between from to) → IfSome o (IsNoLonger HasMembers between from to) → IfNone o (¬ (Walk HasMembers from to)) → Least (IsPair from to) o
  of_pair from to None walked fewer none = λ p q is walk. none (subst (λ x. Walk HasMembers x to) is.0 (subst (λ x. Walk HasMembers p x) is.1 walk))
  of_pair from to (Some d) walked fewer none = (
    (from, to, (refl, refl), walked),
    λ p q is. subst (λ x. IsNoLonger HasMembers between x q d) (sym is.0) (subst (λ x. IsNoLonger HasMembers between from x d) (sym is.1) fewer),
  )

module _ (table : Table) where
  -- whatever division the table has the walks of
  abbrev Always : ((ℕ → Type 0) → (ℕ → ℕ → ℕ) → Type 0) → Type 0
  Always Holds = (s : Setup) (division : ℕ → ℕ) (between : ℕ → ℕ → ℕ) → AreWalksOf table s division between → Holds (IsPeopled s division) between

  -- the walks to one part more
  pub to_one_more : (from to : ℕ) (least here : Option ℕ) → IsLeastWalkAmong table (IsFrom from to) least
      → Always (λ HasMembers between. IfSome here (IsLengthOfAWalk HasMembers between from to)) → Always (λ HasMembers between. IfSome here (IsNoLonger HasMembers between from to))
      → Always (λ HasMembers between. IfNone here (¬ (Walk HasMembers from to))) → IsLeastWalkAmong table (IsFrom from (to + 1)) (lesser_of least here)
  to_one_more from to least here so_far walked fewer none = λ s division between are.
      of_all (IsPeopled s division) between (IsFrom from to) (IsPair (IsPeopled s division) between from to) (IsFrom from (to + 1))
      (λ p q among. elim (cases_lt q to) as (λ _. IsFrom from to p q ⊎ ((p ≡ from) × (q ≡ to))) [ inl a ↦ inl (among.0, a) | inr b ↦ inr (among.0, omega (arith, among.1, b)) ])
      (λ p q among. (among.0, omega (arith, among.1))) (λ p q is. (is.0, omega (arith, is.1)))
      least here (so_far s division between are)
      (of_pair (IsPeopled s division) between from to here (walked s division between are) (fewer s division between are) (none s division between are))

  -- and those from one part more
  pub from_one_more : (from parts : ℕ) (least here : Option ℕ) → IsLeastWalkAmong table (AreBelow from parts) least → IsLeastWalkAmong table (IsFrom from parts) here → IsLeastWalkAmong table (AreBelow (from + 1) parts) (lesser_of least here)
  from_one_more from parts least here so_far next = λ s division between are.
      of_all (IsPeopled s division) between (AreBelow from parts) (IsFrom from parts) (AreBelow (from + 1) parts)
      (λ p q among. elim (cases_lt p from) as (λ _. AreBelow from parts p q ⊎ IsFrom from parts p q) [ inl a ↦ inl (a, among.1) | inr b ↦ inr (omega (arith, among.0, b), among.1) ])
      (λ p q among. (omega (arith, among.0), among.1)) (λ p q is. (omega (arith, is.0), is.1))
      least here (so_far s division between are) (next s division between are)

  -- the walks from one part more into one
  pub into_one_more : (from to : ℕ) (least here : Option ℕ) → IsLeastWalkAmong table (IsInto from to) least
      → Always (λ HasMembers between. IfSome here (IsLengthOfAWalk HasMembers between from to)) → Always (λ HasMembers between. IfSome here (IsNoLonger HasMembers between from to))
      → Always (λ HasMembers between. IfNone here (¬ (Walk HasMembers from to))) → IsLeastWalkAmong table (IsInto (from + 1) to) (lesser_of least here)
  into_one_more from to least here so_far walked fewer none = λ s division between are.
      of_all (IsPeopled s division) between (IsInto from to) (IsPair (IsPeopled s division) between from to) (IsInto (from + 1) to)
      (λ p q among. elim (cases_lt p from) as (λ _. IsInto from to p q ⊎ ((p ≡ from) × (q ≡ to))) [ inl a ↦ inl (a, among.1) | inr b ↦ inr (omega (arith, among.0, b), among.1) ])
      (λ p q among. (omega (arith, among.0), among.1)) (λ p q is. (omega (arith, is.0), is.1))
      least here (so_far s division between are)
      (of_pair (IsPeopled s division) between from to here (walked s division between are) (fewer s division between are) (none s division between are))

-- ---- the ways into the parts

module _ (s : Setup) (division : ℕ → ℕ) (between : ℕ → ℕ → ℕ) (sound : IsSound s) (near : IsLeastBetween s division between) where
  abbrev HasMembers : ℕ → Type 0
  HasMembers = IsPeopled s division

  -- each link takes a tick at least, so each walk does
  pub walk_lasts : (from to n : ℕ) → IsLengthOfAWalk HasMembers between from to n → 0 < n
  walk_lasts from to n (walk, is) =
      let first = near.reached from walk.next walk.apart.0 walk.begins walk.apart.1 in
      let delay = (sound.between first.0 first.1).delay in
      omega (arith, delay.0, first.6, is)

  module _ (parts to most : ℕ) (below : (m : ℕ) → m < member_count s → division m < parts) where
    -- no walk into a part is shorter than the least of all, also where that is cut
    pub none_shorter : (least : Option ℕ) → IsLeastAmong HasMembers between (IsInto parts to) least → (from : ℕ) (walk : Walk HasMembers from to) → option_map_or (λ d. min d most) least most ≤ length_of between walk
    none_shorter None none from walk = let (m, low, is) = walk.begins in absurd (none from to (subst (λ p. p < parts) is (below m low), refl) walk)
    none_shorter (Some d) (reached, fewer) from walk =
        let (m, low, is) = walk.begins in
        let few = fewer from to (subst (λ p. p < parts) is (below m low), refl) walk in
        omega arith

    pub some_ticks : (least : Option ℕ) → IsLeastAmong HasMembers between (IsInto parts to) least → 0 < most → 0 < option_map_or (λ d. min d most) least most
    some_ticks None none some = some
    some_ticks (Some d) (reached, fewer) some = let lasts = walk_lasts reached.0 reached.1 d reached.3 in omega arith
