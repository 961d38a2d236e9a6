-- The delays of links are taken into the table, one after the other.
use Rattle.std.proofs.Common.{◌≡◌, ◌≢◌, ℕ, ◌+◌, ◌^◌, ◌<◌, ◌≤◌, ◌⊎◌, inl, inr, min, List, [], map, filter, Option, Some, None, refl, sym, ap, ◌∙◌, subst, arith}
use Rattle.std.specs.Option.{unwrap_or}
use Rattle.std.proofs.lemmas.Bool.{cases_lt}
use Rattle.scenario.specs.Setup.{Setup, member_count, group_at, last_link, leads}
use Rattle.links.specs.Least.{lesser_of}
use Rattle.windows.specs.Cluster.{link_delay, IsPeopled}
use Rattle.lookahead.specs.Least.{IsAtMost}
use Rattle.lookahead.specs.Lengths.{length_at}
use Rattle.lookahead.specs.Between.{IsDelayBetween, IsLeastBetween}
use Rattle.lookahead.specs.Walks.{IsLengthOfAWalk, AreLengthsOfWalks}
use Rattle.lookahead.specs.Direct.{ComesBefore, AreDirectUpTo}
use Rattle.lookahead.proofs.LeastOf.{some_same}
use Rattle.lookahead.proofs.Writing.{IsWritten, at_each}

-- this pair, or one before it
one_more : (from to i j : ℕ) → ComesBefore from (to + 1) i j → ComesBefore from to i j ⊎ ((i ≡ from) × (j ≡ to))
one_more from to i j (inl before) = inl (inl before)
one_more from to i j (inr (same, before)) = elim (cases_lt j to) as (λ _. ComesBefore from to i j ⊎ ((i ≡ from) × (j ≡ to))) [
  | inl a ↦ inl (inr (same, a))
  | inr b ↦ inr (same, omega arith)
]

-- the lesser is the one or the other, and is no more than either
lesser_is : (o : Option ℕ) (d n : ℕ) → lesser_of o (Some d) ≡ Some n → (o ≡ Some n) ⊎ (n ≡ d)
lesser_is None d n is = inr (some_same d n is)
lesser_is (Some a) d n is = elim (cases_lt d a) as (λ _. (Some a ≡ Some n) ⊎ (n ≡ d)) [
  | inl x ↦ (let e = some_same (min a d) n is in inr (omega arith))
  | inr x ↦ (let e = some_same (min a d) n is in let same : a ≡ n = omega arith in inl (ap (λ y. Some y) same))
]

lesser_old : (o : Option ℕ) (d m : ℕ) → IsAtMost o m → IsAtMost (lesser_of o (Some d)) m
lesser_old None d m most = absurd most
lesser_old (Some a) d m most = omega (arith, most)

lesser_new : (o : Option ℕ) (d m : ℕ) → d ≤ m → IsAtMost (lesser_of o (Some d)) m
lesser_new None d m most = most
lesser_new (Some a) d m most = omega (arith, most)

module _ (parts : ℕ) (s : Setup) (at_most_64 : parts ≤ 64) (division : ℕ → ℕ) (from to : ℕ) (old : List (Option ℕ)) (are : AreDirectUpTo parts s division from to old) where
  -- the link of members of one part is passed over
  pub link_within : division from ≡ division to → division to < parts → AreDirectUpTo parts s division from (to + 1) old
  link_within same low = record {
    found = are.found;
    short = are.short;
    few = λ i j before here. elim (one_more from to i j before) as (λ _. division j < parts) [
      | inl a ↦ are.few i j a here
      | inr b ↦ subst (λ m. division m < parts) (sym b.1) low
    ];
    lies = λ i j before here apart. elim (one_more from to i j before) as (λ _. IsAtMost (length_at old (division i) (division j)) (link_delay s i j)) [
      | inl a ↦ are.lies i j a here apart
      | inr b ↦ absurd (apart (ap division b.0 ∙ same ∙ ap division (sym b.1)))
    ];
  }

  -- what stands for a member's twin stands for the member
  pub twin_receiver : (twin : ℕ) → twin < to → to < member_count s → group_at s.groups twin ≡ group_at s.groups to → division twin ≡ division to → AreDirectUpTo parts s division from (to + 1) old
  twin_receiver twin before here group part =
      let delay : link_delay s from twin ≡ link_delay s from to = ap (λ g. (last_link s.link (map (λ p. p.link) (filter (leads (group_at s.groups from) g) s.paths))).delay) group in
      let low : twin < member_count s = omega arith in
      record {
        found = are.found;
        short = are.short;
        few = λ i j b within. elim (one_more from to i j b) as (λ _. division j < parts) [
          | inl x ↦ are.few i j x within
          | inr x ↦ subst (λ m. m < parts) (part ∙ ap division (sym x.1)) (are.few from twin (inr (refl, before)) low)
        ];
        lies = λ i j b within apart. elim (one_more from to i j b) as (λ _. IsAtMost (length_at old (division i) (division j)) (link_delay s i j)) [
          | inl x ↦ are.lies i j x within apart
          | inr x ↦ (
              let differs : division from ≢ division twin = λ same. apart (ap division x.0 ∙ same ∙ part ∙ ap division (sym x.1)) in
              let most = are.lies from twin (inr (refl, before)) low differs in
              subst (λ m. IsAtMost (length_at old (division m) (division j)) (link_delay s m j)) (sym x.0)
              (subst (λ m. IsAtMost (length_at old (division from) (division m)) (link_delay s from m)) (sym x.1)
              (subst (λ d. IsAtMost (length_at old (division from) (division to)) d) delay (subst (λ y. IsAtMost (length_at old (division from) y) (link_delay s from twin)) part most))))
        ];
      }

  pub link_taken : (new : List (Option ℕ)) (p q d : ℕ) → from < member_count s → to < member_count s → division from ≡ p → division to ≡ q → p ≢ q → q < parts → d ≤ 2 ^ 20 → d ≡ link_delay s from to
      → IsWritten p q (lesser_of (length_at old p q) (Some d)) old new → AreDirectUpTo parts s division from (to + 1) new
  link_taken new p q d here there of_from of_to apart low near delay written =
      let lesser = lesser_of (length_at old p q) (Some d) in
      let low_place : q < 64 = omega arith in
      let lowers : (x y m : ℕ) → y < 64 → IsAtMost (length_at old x y) m → IsAtMost (length_at new x y) m = λ x y m below most.
      at_each p q lesser old new written (λ x y o. (m : ℕ) → IsAtMost (length_at old x y) m → IsAtMost o m) (λ m most. lesser_old (length_at old p q) d m most) (λ x y below m most. most) x y below m most in
      record {
        found = λ x y n left below has.
            at_each p q lesser old new written (λ x y o. (n : ℕ) → x < 64 → o ≡ Some n → (x ≢ y) × IsDelayBetween s division x y n)
            (λ n left has. elim (lesser_is (length_at old p q) d n has) as (λ _. (p ≢ q) × IsDelayBetween s division p q n) [
              | inl a ↦ are.found p q n left (omega arith) a
              | inr b ↦ (apart, (from, to, here, there, of_from, of_to, sym delay ∙ sym b))
            ])
            (λ x y below n left has. are.found x y n left below has) x y below n left has;
        short = λ x y n left below has.
            at_each p q lesser old new written (λ x y o. (n : ℕ) → x < 64 → o ≡ Some n → n ≤ 2 ^ 20)
            (λ n left has. elim (lesser_is (length_at old p q) d n has) as (λ _. n ≤ 2 ^ 20) [ inl a ↦ are.short p q n left low_place a | inr b ↦ omega (arith, near, b) ])
            (λ x y below n left has. are.short x y n left below has) x y below n left has;
        few = λ i j before within. elim (one_more from to i j before) as (λ _. division j < parts) [
          | inl a ↦ are.few i j a within
          | inr b ↦ subst (λ m. m < parts) (sym of_to ∙ ap division (sym b.1)) low
        ];
        lies = λ i j before within other. elim (one_more from to i j before) as (λ _. IsAtMost (length_at new (division i) (division j)) (link_delay s i j)) [
          | inl a ↦ lowers (division i) (division j) (link_delay s i j) (omega (arith, are.few i j a within)) (are.lies i j a within other)
          | inr b ↦ (
              let least : IsAtMost (length_at new p q) (link_delay s from to) = subst (λ o. IsAtMost o (link_delay s from to)) (sym written.here) (lesser_new (length_at old p q) d (link_delay s from to) (omega arith)) in
              subst (λ m. IsAtMost (length_at new (division m) (division j)) (link_delay s m j)) (sym b.0)
              (subst (λ m. IsAtMost (length_at new (division from) (division m)) (link_delay s from m)) (sym b.1)
              (subst (λ x. IsAtMost (length_at new x (division to)) (link_delay s from to)) (sym of_from) (subst (λ y. IsAtMost (length_at new p y) (link_delay s from to)) (sym of_to) least))))
        ];
      }

-- after the pairs of one sender come those of the next
pub next_sender : (parts : ℕ) (s : Setup) (division : ℕ → ℕ) (from to : ℕ) (lengths : List (Option ℕ)) → to ≡ member_count s → AreDirectUpTo parts s division from to lengths → AreDirectUpTo parts s division (from + 1) 0 lengths
next_sender parts s division from to lengths all are =
    let before : (i j : ℕ) → ComesBefore (from + 1) 0 i j → j < member_count s → ComesBefore from to i j = λ i j before within. earlier i j before (omega arith) in
    record { found = are.found; short = are.short; few = λ i j b within. are.few i j (before i j b within) within; lies = λ i j b within apart. are.lies i j (before i j b within) within apart }
  where
    earlier : (i j : ℕ) → ComesBefore (from + 1) 0 i j → j < to → ComesBefore from to i j
    earlier i j (inl below) within = elim (cases_lt i from) as (λ _. ComesBefore from to i j) [ inl a ↦ inl a | inr b ↦ inr (omega arith, within) ]
    earlier i j (inr (same, none)) within = absurd (omega (arith, none))

-- what stands for a sender's twin stands for the sender
pub twin_sender : (parts : ℕ) (s : Setup) (division : ℕ → ℕ) (from twin : ℕ) (lengths : List (Option ℕ)) → twin < from → group_at s.groups twin ≡ group_at s.groups from → division twin ≡ division from
    → AreDirectUpTo parts s division from 0 lengths → AreDirectUpTo parts s division (from + 1) 0 lengths
twin_sender parts s division from twin lengths before group part are = record {
  found = are.found;
  short = are.short;
  few = λ i j b within. elim (earlier_or i j b) as (λ _. division j < parts) [
    | inl x ↦ are.few i j (inl x) within
    | inr x ↦ are.few twin j (inl before) within
  ];
  lies = λ i j b within apart. elim (earlier_or i j b) as (λ _. IsAtMost (length_at lengths (division i) (division j)) (link_delay s i j)) [
    | inl x ↦ are.lies i j (inl x) within apart
    | inr x ↦ (
        let delay : link_delay s twin j ≡ link_delay s from j = ap (λ g. (last_link s.link (map (λ p. p.link) (filter (leads g (group_at s.groups j)) s.paths))).delay) group in
        let differs : division twin ≢ division j = λ same. apart (ap division x ∙ sym part ∙ same) in
        let most = are.lies twin j (inl before) within differs in
        subst (λ m. IsAtMost (length_at lengths (division m) (division j)) (link_delay s m j)) (sym x)
        (subst (λ d. IsAtMost (length_at lengths (division from) (division j)) d) delay (subst (λ y. IsAtMost (length_at lengths y (division j)) (link_delay s twin j)) part most)))
  ];
}
  where
    earlier_or : (i j : ℕ) → ComesBefore (from + 1) 0 i j → (i < from) ⊎ (i ≡ from)
    earlier_or i j (inl below) = elim (cases_lt i from) as (λ _. (i < from) ⊎ (i ≡ from)) [ inl a ↦ inl a | inr b ↦ inr (omega arith) ]
    earlier_or i j (inr (same, none)) = absurd (omega (arith, none))

-- before any pair nothing is said of an empty table
pub none_taken : (parts : ℕ) (s : Setup) (division : ℕ → ℕ) (lengths : List (Option ℕ)) → ((p q : ℕ) → length_at lengths p q ≡ None) → AreDirectUpTo parts s division 0 0 lengths
none_taken parts s division lengths none = record {
  found = λ p q n left below has. absurd (absent p q n (none p q) has);
  short = λ p q n left below has. absurd (absent p q n (none p q) has);
  few = λ i j before within. absurd (nobody i j before);
  lies = λ i j before within apart. absurd (nobody i j before);
}
  where
    nobody : (i j : ℕ) → ComesBefore 0 0 i j → ⊥
    nobody i j (inl below) = omega (arith, below)
    nobody i j (inr (same, below)) = omega (arith, below)

    absent : (p q n : ℕ) → length_at lengths p q ≡ None → length_at lengths p q ≡ Some n → ⊥
    absent p q n none has = cc

-- all pairs taken: what lies between two parts is what stands for them
module _ (parts : ℕ) (at_most_64 : parts ≤ 64) (s : Setup) (division : ℕ → ℕ) (lengths : List (Option ℕ)) (are : AreDirectUpTo parts s division (member_count s) 0 lengths) where
  abbrev pub between : ℕ → ℕ → ℕ
  between p q = unwrap_or (length_at lengths p q) 0

  few : (p : ℕ) → IsPeopled s division p → p < parts
  few p (m, within, is) = subst (λ x. x < parts) is (are.few m m (inl within) within)

  -- what stands between two different parts
  Stands : ℕ → ℕ → Type 0
  Stands p q = (n : ℕ) × (length_at lengths p q ≡ Some n) × (between p q ≡ n) × IsDelayBetween s division p q n

  stands_by : (p q m : ℕ) (o : Option ℕ) → p < 64 → q < 64 → length_at lengths p q ≡ o → IsAtMost o m → Stands p q
  unfolding Stands
  stands_by p q m None left below is most = absurd most
  stands_by p q m (Some n) left below is most = (n, is, ap (λ o. unwrap_or o 0) is, (are.found p q n left below is).1)

  stands : (p q : ℕ) → p ≢ q → IsPeopled s division p → IsPeopled s division q → Stands p q
  stands p q apart begins ends =
      let at : IsAtMost (length_at lengths (division begins.0) (division ends.0)) (link_delay s begins.0 ends.0) =
      are.lies begins.0 ends.0 (inl begins.1) ends.1 (λ same. apart (sym begins.2 ∙ same ∙ ends.2)) in
      let here = subst (λ x. IsAtMost (length_at lengths x q) (link_delay s begins.0 ends.0)) begins.2 (subst (λ y. IsAtMost (length_at lengths (division begins.0) y) (link_delay s begins.0 ends.0)) ends.2 at) in
      stands_by p q (link_delay s begins.0 ends.0) (length_at lengths p q) (omega (arith, few p begins)) (omega (arith, few q ends)) refl here

  up_to_default : (o : Option ℕ) (d : ℕ) → IsAtMost o d → unwrap_or o 0 ≤ d
  up_to_default None d most = absurd most
  up_to_default (Some n) d most = most

  pub direct_between : IsLeastBetween s division between
  unfolding Stands
  direct_between = record {
    lies = λ i j here there apart. up_to_default (length_at lengths (division i) (division j)) (link_delay s i j) (are.lies i j (inl here) there apart);
    reached = λ p q apart begins ends.
        let is = stands p q apart begins ends in
        subst (IsDelayBetween s division p q) (sym is.2) is.3;
  }

  -- the walk of one link
  one_link : (p q n : ℕ) → p < 64 → q < 64 → length_at lengths p q ≡ Some n → IsLengthOfAWalk (IsPeopled s division) between p q n
  one_link p q n left below is =
      let of = are.found p q n left below is in
      let same : between p q ≡ n = ap (λ o. unwrap_or o 0) is in (
        record { next = q; rest = []; begins = (of.1.0, of.1.2, of.1.4); apart = (of.0, (of.1.1, of.1.3, of.1.5), tt); ends = refl },
        omega arith,
      )

  pub direct_walks : AreLengthsOfWalks parts s division between lengths
  unfolding Stands
  direct_walks = record {
    at_most_64 = at_most_64;
    few = few;
    near = λ p q apart begins ends.
        let is = stands p q apart begins ends in
        let short = are.short p q is.0 (omega (arith, few p begins)) (omega (arith, few q ends)) is.1 in
        omega (arith, is.2);
    walked = one_link;
    direct = λ p q apart begins ends.
        let is = stands p q apart begins ends in
        subst (λ o. IsAtMost o (between p q)) (sym is.1) (omega (arith, is.2));
    back = λ p n low is. absurd ((are.found p p n low low is).0 refl);
  }
