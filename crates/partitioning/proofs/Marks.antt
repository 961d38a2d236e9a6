-- The sites of groups are those of a cluster.
use Rattle.std.proofs.Common.{◌≡◌, ℕ, zero, suc, ◌<◌, ◌≤◌, nat_lt, nat_eq, true, false, if◌then◌else◌, List, length, get_or, map, filter, All, inl, inr, sym, ap, ◌∙◌, arith}
use Rattle.std.proofs.lemmas.Bool.{cases_lt, cases_eq}
use Rattle.std.proofs.lemmas.Bool.Decides.{nat_tests}
use Rattle.scenario.specs.Setup.{Setup, member_count, group_at, last_link, leads}
use Rattle.windows.specs.Cluster.{link_delay}
use Rattle.partitioning.specs.Sites.{AreJoined, AreSites, AgreesOnNeighbours, AgreesOnSites, JoinsNeighbours, StandForGroups, group_for}

module _ (s : Setup) (ticks : ℕ) where
  own_group : (m : ℕ) → group_at s.groups m < 64 → group_for s m ≡ group_at s.groups m
  own_group m low =
      let test : nat_lt (group_at s.groups m) 64 ≡ true = grind (arith, nat_tests, low) in
      ap (λ b. if b then group_at s.groups m else 0) test

  looked_at : (m : ℕ) → group_for s m < 64
  looked_at m = elim (cases_lt (group_at s.groups m) 64) as (λ _. group_for s m < 64) [
    | inl low ↦ omega (arith, own_group m low, low)
    | inr high ↦ (
        let test : nat_lt (group_at s.groups m) 64 ≡ false = grind (arith, nat_tests, high) in
        let first : group_for s m ≡ 0 = ap (λ b. if b then group_at s.groups m else 0) test in
        omega (arith, first))
  ]

  module _ (others : List ℕ) (their : JoinsNeighbours s ticks others) where
    -- the part of the last of so many members whose site is a group's
    pub mark_of : ℕ → ℕ → ℕ
    mark_of zero group = 0
    mark_of (suc n) group = if nat_eq (group_for s n) group then get_or others n 0 else mark_of n group

    marked : (n m : ℕ) → m < n → n ≤ member_count s → mark_of n (group_for s m) ≡ get_or others m 0
    unfolding mark_of
    marked zero m below within = absurd (omega (arith, below))
    marked (suc n) m below within = elim (cases_eq (group_for s n) (group_for s m)) as (λ _. mark_of (suc n) (group_for s m) ≡ get_or others m 0) [
      | inl same ↦ (
          let test : nat_eq (group_for s n) (group_for s m) ≡ true = grind (arith, nat_tests, same) in
          ap (λ b. if b then get_or others n 0 else mark_of n (group_for s m)) test ∙ their.whole n m (omega (arith, within)) (omega (arith, below, within)) same)
      | inr apart ↦ (
          let test : nat_eq (group_for s n) (group_for s m) ≡ false = grind (arith, nat_tests, apart) in
          let another : m ≡ n → ⊥ = λ same. apart (ap (group_for s) (sym same)) in
          ap (λ b. if b then get_or others n 0 else mark_of n (group_for s m)) test ∙ marked n m (omega (arith, below, another)) (omega (arith, within)))
    ]

    -- marks of groups by any parts that join neighbours
    abbrev pub mark : ℕ → ℕ
    mark = mark_of (member_count s)

    pub marks : (m : ℕ) → m < member_count s → mark (group_for s m) ≡ get_or others m 0
    marks m within = marked (member_count s) m within (omega arith)

    pub neighbours_marked : (firsts : List ℕ) → StandForGroups s firsts → All (λ first. AgreesOnNeighbours s ticks firsts first mark) firsts
    neighbours_marked firsts stand = λ k d inside l e within short.
        let i = get_or firsts k d in
        let j = get_or firsts l e in
        let low_i = stand.looked_at k d inside in
        let low_j = stand.looked_at l e within in
        let here = stand.members k d inside in
        let there = stand.members l e within in
        ap mark (sym (own_group i low_i)) ∙ marks i here ∙ their.near i j here there low_i low_j short ∙ sym (marks j there) ∙ ap mark (own_group j low_j)

  module _ (firsts sites part_of : List ℕ) (stand : StandForGroups s firsts) (joined : AreJoined s ticks firsts firsts sites)
      (one_each : length part_of ≡ member_count s) (by_group : (m : ℕ) → m < length part_of → get_or part_of m 0 ≡ get_or sites (group_for s m) 0) where
    abbrev delay_of : ℕ → ℕ → ℕ
    delay_of from to = (last_link s.link (map (λ p. p.link) (filter (leads from to) s.paths))).delay

    at : (m : ℕ) → m < member_count s → get_or part_of m 0 ≡ get_or sites (group_for s m) 0
    at m within = by_group m (omega (arith, within, one_each))

    near : (i j : ℕ) → i < member_count s → j < member_count s → group_at s.groups i < 64 → group_at s.groups j < 64 → link_delay s i j < ticks → get_or part_of i 0 ≡ get_or part_of j 0
    near i j within_i within_j low_i low_j short =
        let one = stand.each i within_i low_i in
        let two = stand.each j within_j low_j in
        let from = get_or firsts one.0 0 in
        let to = get_or firsts two.0 0 in
        let same : link_delay s from to ≡ link_delay s i j = ap (λ g. delay_of g (group_at s.groups to)) one.2 ∙ ap (λ g. delay_of (group_at s.groups i) g) two.2 in
        let all = (joined (λ g. get_or sites g 0)).0 (λ a b _ _ met. met) in
        let met : get_or sites (group_at s.groups from) 0 ≡ get_or sites (group_at s.groups to) 0 = all one.0 0 one.1 two.0 0 two.1 (omega (arith, same, short)) in
        at i within_i ∙ ap (λ g. get_or sites g 0) (own_group i low_i ∙ sym one.2) ∙ met ∙ ap (λ g. get_or sites g 0) (two.2 ∙ sym (own_group j low_j)) ∙ sym (at j within_j)

    pub are_sites : AreSites s ticks part_of
    are_sites = record {
      joined = record {
        one_each = one_each;
        whole = λ i j within_i within_j same. at i within_i ∙ ap (λ g. get_or sites g 0) same ∙ sym (at j within_j);
        near = near;
      };
      smallest = λ others their i j within_i within_j same.
          let agree : AgreesOnSites sites (mark others their) = (joined (mark others their)).1 (neighbours_marked others their firsts stand) in
          let met : get_or sites (group_for s i) 0 ≡ get_or sites (group_for s j) 0 = sym (at i within_i) ∙ same ∙ at j within_j in
          sym (marks others their i within_i) ∙ agree (group_for s i) (group_for s j) (looked_at i) (looked_at j) met ∙ marks others their j within_j;
    }
