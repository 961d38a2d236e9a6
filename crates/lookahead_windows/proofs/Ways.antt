-- The ways into the parts of a division, and that rounds may go by them.
use Rattle.std.proofs.Common.{◌≡◌, ◌↔◌, ℕ, ◌<◌, ◌≤◌, ◌^◌, min, max, List, [], ◌∷◌, ◌++◌, length, unwrap_or, Option, Some, None, ap, ◌∙◌, sym, subst, refl, arith}
use Rattle.std.specs.List.{AllByRecursion, slice_get}
use Rattle.base.proofs.Rising.{all_append}
use Rattle.scenario.specs.Setup.{Setup, IsSound, member_count}
use Rattle.scenario.specs.Division.{Deal}
use Rattle.windows.specs.Cluster.{IsPeopled}
use Rattle.windows.specs.Horizon.{Walk, length_of}
use Rattle.lookahead.specs.Between.{part_number}
use Rattle.lookahead.specs.Walks.{Table}
use Rattle.turns.specs.Bounds.{AreHorizonsOf}
use Rattle.turns.proofs.Turning.{low_by_part}
use Rattle.turns.proofs.Bounding.{split_all}
use Rattle.lookahead_windows.specs.Plan.{AreWaysInto}
use Rattle.lookahead_windows.specs.declared.course.Rounds.{Rounds}
use Rattle.lookahead_windows.specs.Basis.{GoBy, way_at}
use Rattle.lookahead_windows.specs.Walks.{IsLeastWalkAmong, IsInto, AreRoundWays, likely_ticks, round_ticks}
use Rattle.lookahead_windows.proofs.Walking.{walk_lasts, none_shorter, some_ticks}
use Rattle.lookahead_windows.proofs.Places.{pushed_each}

-- the way into one part more
pub ways_more : (s : Setup) (table : Table) (ways more : List ℕ) (way part : ℕ) → more ≡ ways ++ way ∷ [] → length ways ≡ part → AreRoundWays s table ways
    → (least : Option ℕ) × IsLeastWalkAmong table (IsInto table.parts part) least × (way ≡ round_ticks s least) → AreRoundWays s table more
ways_more s table ways more way part joined count are is to other here =
    pushed_each (λ n w. (least : Option ℕ) × IsLeastWalkAmong table (IsInto table.parts n) least × (w ≡ round_ticks s least)) ways way are
    (subst (λ n. (least : Option ℕ) × IsLeastWalkAmong table (IsInto table.parts n) least × (way ≡ round_ticks s least)) (sym count) is) to other (ap (λ l. slice_get l to) (sym joined) ∙ here)

positive : (n : ℕ) → 0 < max n 1
positive n = omega arith

module _ (s : Setup) (sound : IsSound s) (deal : Deal) (table : Table) (below : (m : ℕ) → m < member_count s → part_number deal m < deal.parts) (horizons : AreHorizonsOf table s deal) (ways : List ℕ) (are : AreRoundWays s table ways) where
  abbrev division : ℕ → ℕ
  division = part_number deal

  within : (m : ℕ) → m < member_count s → division m < table.parts
  within m low = let under = below m low in omega (arith, horizons.parts)

  -- no walk is shorter than the way into the part where it ends
  no_shorter : (from to : ℕ) (walk : Walk (IsPeopled s division) from to) (o : Option ℕ) → slice_get ways to ≡ o → unwrap_or o 1 ≤ length_of horizons.between walk
  no_shorter from to walk None here = let lasts = walk_lasts s division horizons.between sound horizons.least from to (length_of horizons.between walk) (walk, refl) in omega arith
  no_shorter from to walk (Some way) here =
      let is = are to way here in
      subst (λ n. n ≤ length_of horizons.between walk) (sym is.2)
      (none_shorter s division horizons.between sound horizons.least table.parts to (likely_ticks s) within is.0 (is.1 s division horizons.between horizons.walks) from walk)

  some_way : (part : ℕ) (o : Option ℕ) → slice_get ways part ≡ o → 0 < unwrap_or o 1
  some_way part None here = omega arith
  some_way part (Some way) here =
      let is = are part way here in
      subst (λ n. 0 < n) (sym is.2)
      (some_ticks s division horizons.between sound horizons.least table.parts part (likely_ticks s) within is.0 (is.1 s division horizons.between horizons.walks) (positive _))

  pub ways_lead : AreWaysInto s division (way_at ways)
  ways_lead = record {
    between = horizons.between;
    lies = horizons.least.lies;
    shortest = λ from to walk. no_shorter from to walk (slice_get ways to) refl;
    some = λ part. some_way part (slice_get ways part) refl;
  }

-- ---- what the rounds go by

-- no way is shorter than the shortest
pub goes_by : (rounds : Rounds) → IsSound rounds.cluster.scenario.now → length rounds.division.now.part_of ≡ member_count rounds.cluster.scenario.now
    → ((m : ℕ) → m < member_count rounds.cluster.scenario.now → part_number rounds.division.now m < rounds.division.now.parts) → length rounds.ways.now ≡ rounds.division.now.parts
    → AreWaysInto rounds.cluster.scenario.now (part_number rounds.division.now) (way_at rounds.ways.now) → rounds.end ≡ rounds.cluster.scenario.now.end
    → AllByRecursion (λ way. rounds.shortest ≤ way) rounds.ways.now → GoBy rounds
goes_by rounds sound divides below count into end shortest = record {
  basis = record {
    divides = divides;
    ways = count;
    plan = record {
      sound = sound;
      below = below;
      named = λ m low. let there = low_by_part rounds.division.now m (part_number rounds.division.now m) low refl in omega (arith, there, divides);
      ways = into;
      in_time = omega arith;
    };
  };
  end = end;
  shortest = shortest;
}

-- the shortest of one way more
pub shortest_more : (ways more : List ℕ) (way so_far shortest : ℕ) → more ≡ ways ++ way ∷ [] → shortest ≡ min so_far way
    → ((t : ℕ) → t < 2 ^ 64 → AllByRecursion (λ w. t ≤ w) ways ↔ (t ≤ so_far)) → (t : ℕ) → t < 2 ^ 64 → AllByRecursion (λ w. t ≤ w) more ↔ (t ≤ shortest)
shortest_more ways more way so_far shortest joined least is t few = (
  λ all.
      let both = split_all (λ w. t ≤ w) ways (way ∷ []) (subst (AllByRecursion (λ w. t ≤ w)) joined all) in
      let old = (is t few).0 both.0 in
      let new = both.1.0 in
      omega (arith, least, old, new),
  λ low.
      subst (AllByRecursion (λ w. t ≤ w)) (sym joined)
      (all_append (λ w. t ≤ w) ways (way ∷ []) ((is t few).1 (omega (arith, least, low))) (omega (arith, least, low), tt)),
)
