-- What a process knows from round to round.
use Rattle.std.proofs.Common.{◌≡◌, ℕ, zero, suc, ◌+◌, ◌^◌, ◌<◌, ◌≤◌, min, zero-le, List, [], ◌∷◌, ◌++◌, map, get_or, unwrap_or, Option, Some, Vec, Global, append-nil, ap, ◌∙◌, sym, subst, refl, arith}
use Rattle.std.specs.FinMap.{FinMap}
use Rattle.std.specs.List.{AllByRecursion, slice_get}
use Rattle.std.proofs.lemmas.Option.{none-some, same_Some, slice_get-get_or}
use Rattle.base.specs.Order.{key_cmp}
use Rattle.scenario.specs.Setup.{Setup}
use Rattle.member.specs.declared.event.Event.{Event}
use Rattle.member.specs.StateOf.{pair_of}
use Rattle.member_laws.specs.Runs.{CounterOverflows}
use Rattle.windows.specs.declared.part.Part.{Part}
use Rattle.windows.specs.Window.{IsConsistentPart}
use Rattle.windows.specs.Wears.{OverflowsInWindow}
use Rattle.windows.specs.WorldOf.{world_of}
use Rattle.windows.proofs.Slots.{part_no_overflow}
use Rattle.lookahead_windows.specs.Plan.{bound_of}
use Rattle.lookahead_windows.specs.Starts.{IsUpTo, IsRound, HasRunTo}
use Rattle.lookahead_windows.specs.Lots.{IsLot, HasLasted}
use Rattle.lookahead_windows.proofs.Turns.{round_number}
use Rattle.lookahead_windows.proofs.WindowResult.{begins_consistent, window_here, overflow_here}
use Rattle.lookahead_windows.proofs.Lots.{lot_none, lot_joins}
use Rattle.lookahead_windows.proofs.LotWindows.{lot_of_window, lot_rest}
use Rattle.lookahead_windows.specs.declared.course.Rounds.{Rounds}
use Rattle.lookahead_windows.specs.Basis.{Basis, IsBasis, GoBy, basis_of, division_of, plan_of}
use Rattle.lookahead_windows.specs.Bounds.{IsOwnBound}
use Rattle.lookahead_windows.specs.Windows.{HasRan, Ran}
use Rattle.lookahead_windows.proofs.OwnBounds.{own_bound}
use Rattle.turns.proofs.After.{of_events}
use Rattle.parallel_run.specs.declared.of_run.OfRun.{Ghosts}
use Rattle.parallel_run.specs.declared.rows.Gathered.{Gathered}
use Rattle.parallel_run.specs.declared.peers.Peer.{Peer}
use Rattle.parallel_run.specs.declared.connections.Connections.{Connections}
use Rattle.parallel_run.specs.Peers.{AreOthers, AreLines, numbers_of}
use Rattle.parallel_run.specs.Windows.{HasRanRound, Begins, GathersUpTo, GathersSoFar}
use Rattle.parallel_run.proofs.HearingRounds.{to_pairs}

-- what holds of all holds of the one at a place
all_at : {A : Type 0} (P : A → Type 0) (xs : List A) (i : ℕ) (x : A) → AllByRecursion P xs → slice_get xs i ≡ Some x → P x
all_at P [] i x all here = absurd (none-some x here)
all_at P (y ∷ xs) zero x all here = subst P (same_Some y x here) all.0
all_at P (y ∷ xs) (suc i) x all here = all_at P xs i x all.1 here

-- ---- how far a part runs

-- the way into a part that there is
pub way_there : (rounds : Rounds) → GoBy rounds → (number : ℕ) → number < rounds.division.now.parts → slice_get rounds.ways.now number ≡ Some (get_or rounds.ways.now number 0)
way_there rounds going number low = slice_get-get_or rounds.ways.now number 0 (omega (arith, low, going.basis.ways))

module _ (rounds : Rounds) (going : GoBy rounds) (first : Option ℕ) (from : ℕ) (pends : first ≡ Some from) where
  -- the bound that was chosen is that of the part
  pub bound_here : (number way bound : ℕ) → slice_get rounds.ways.now number ≡ Some way → bound ≡ min (from + way) (rounds.end + 1) → bound ≡ bound_of (plan_of (basis_of rounds)) first number
  bound_here number way bound here chosen =
      chosen ∙ ap (λ e. min (from + way) (e + 1)) going.end ∙ ap (λ (o : Option ℕ). min (from + unwrap_or o 1) (rounds.cluster.scenario.now.end + 1)) (sym here)
      ∙ ap (λ o. bound_of (plan_of (basis_of rounds)) o number) (sym pends)

  -- and no less than the one in common
  pub common_bound : (number way common bound : ℕ) → slice_get rounds.ways.now number ≡ Some way → common ≡ min (from + rounds.shortest) (rounds.end + 1) → bound ≡ min (from + way) (rounds.end + 1) → common ≤ bound
  common_bound number way common bound here short chosen = let least = all_at (λ w. rounds.shortest ≤ w) rounds.ways.now number way going.shortest here in omega (arith, short, chosen, least)

  -- the moment that all parts have passed is no later than where the part has run to then
  pub common_passed : (number common : ℕ) → number < rounds.division.now.parts → common ≡ min (from + rounds.shortest) (rounds.end + 1) → common ≤ bound_of (plan_of (basis_of rounds)) first number
  common_passed number common low short =
      let there = way_there rounds going number low in
      let way = get_or rounds.ways.now number 0 in
      subst (λ t. common ≤ t) (bound_here number way (min (from + way) (rounds.end + 1)) there refl) (common_bound number way common (min (from + way) (rounds.end + 1)) there short refl)

module _ {Q : Type 0} (set : Q → FinMap key_cmp Event) (basis : Basis) (is : IsBasis basis) (number round : ℕ) (first : Option ℕ) (part : Part Q) (begins : Begins set basis number round first part) where
  abbrev s : Setup
  s = basis.setup

  -- while something pends up to the end, the round's number isn't past it
  pub round_low : (from end : ℕ) → (first ≡ Some from) × (from ≤ end) → end ≡ s.end → round ≤ 2 ^ 40
  round_low from end pends ends =
      let in_time = pends.1 in
      let low = round_number (plan_of basis) round from begins.world is.plan (subst (IsRound (plan_of basis) round begins.world) pends.0 begins.in_round) (omega (arith, in_time, ends)) in
      omega (arith, low, in_time, ends, is.plan.sound.end)

  pub consistent_here : IsConsistentPart s (world_of set part)
  consistent_here = begins_consistent (plan_of basis) number round first (world_of set part) is.plan begins

  -- nothing is left, and no member in memory has a counter past its limit
  pub lasted_here : IsUpTo first (s.end + 1) → HasLasted (plan_of basis) number round
  lasted_here past = record { last = world_of set part; first = first; begins = begins; past = past; no_overflow = λ m t here. part_no_overflow set part m t here }

  module _ (low : number < basis.deal.parts) where
    -- up to its bound the part has run as the next round begins
    pub runs_to_bound : HasRunTo (plan_of basis) (round + 1) number (bound_of (plan_of basis) first number)
    runs_to_bound = let same : suc round ≡ round + 1 = omega arith in subst (λ n. HasRunTo (plan_of basis) n number (bound_of (plan_of basis) first number)) same (begins.world, first, begins.in_round, refl)

    -- how far its window goes is the part's own bound
    pub own_bound_here : (from end bound : ℕ) → (first ≡ Some from) × (from ≤ end) → end ≡ s.end → bound ≡ bound_of (plan_of basis) (Some from) number → IsOwnBound (plan_of basis) round number bound
    own_bound_here from end bound pends ends chosen =
        let in_time = pends.1 in
        subst (IsOwnBound (plan_of basis) round number) (sym chosen)
        (own_bound (plan_of basis) round number from begins.world is.plan low (subst (IsRound (plan_of basis) round begins.world) pends.0 begins.in_round) (omega (arith, in_time, ends)))

    -- the window that was run is that of the round
    pub ran_round : (bound : ℕ) (ran : Ran Q) → bound ≡ bound_of (plan_of basis) first number → HasRan set basis bound (world_of set part) ran → HasRanRound set basis number round ran
    ran_round bound ran same given =
        let has = subst (λ t. HasRan set basis t (world_of set part) ran) same given in
        let window = window_here (plan_of basis) number round first (world_of set part) (world_of set ran.part) has.out ran.rows is.plan low begins has.window in
        record {
          window = record { part = number; keys = window.0; out = map pair_of has.out; rows = ran.rows; after = world_of set ran.part };
          own = refl;
          runs = window.1;
          after = refl;
          to = subst (HasRunTo (plan_of basis) (round + 1) number) (sym has.until) runs_to_bound;
          rows = refl;
          out = has.out;
          sent = refl;
          dealt = has.dealt;
          least = λ t. (
            λ both. (has.least t).0 (both.0, of_events (λ k. t ≤ k.at) has.out both.1),
            λ upto. let two = (has.least t).1 upto in (two.0, to_pairs (λ k. t ≤ k.at) has.out two.1),
          );
        }

    pub wears_here : OverflowsInWindow s (bound_of (plan_of basis) first number) (world_of set part) → CounterOverflows s
    wears_here = overflow_here (plan_of basis) number round first (world_of set part) is.plan low begins

    -- where nothing is left up to the end, what was gathered goes up to it
    pub gathers_rest : (gathered : Gathered) → IsUpTo first (s.end + 1) → GathersSoFar basis number round gathered → GathersUpTo basis number (s.end + 1) gathered
    gathers_rest gathered past (to, run, gathers) =
        subst (IsLot s (division_of basis) number gathered.since (s.end + 1)) (append-nil gathered.rows.items)
        (lot_joins s (division_of basis) number gathered.since to (s.end + 1) gathered.rows.items [] is.plan.sound gathers
        (lot_rest (plan_of basis) number round to first (world_of set part) is.plan low begins past run))

-- ---- rings that stay as they are

pub same_lines : {K : Type 0} {G : Ghosts K} (basis : Basis) (before after : Connections K G) → after.number ≡ before.number → after.peers ≡ before.peers → AreLines basis before → AreLines basis after
same_lines {K} basis before after number peers are = record {
  own = subst (λ n. n < basis.deal.parts) (sym number) are.own;
  peers =
      subst (λ n. AreOthers basis.deal.parts n (numbers_of after.peers.items)) (sym number)
      (subst (λ (list : Vec (Peer K) Global). AreOthers basis.deal.parts before.number (numbers_of list.items)) (sym peers) are.peers);
}

-- ---- the rows that wait

module _ (basis : Basis) (is : IsBasis basis) (number : ℕ) where
  -- as the first round begins none do
  pub gathers_none : (gathered : Gathered) → gathered.since ≡ 0 → gathered.rows.items ≡ [] → GathersSoFar basis number 0 gathered
  gathers_none gathered since none = (
    0,
    refl,
    subst (λ from. IsLot basis.setup (division_of basis) number from 0 gathered.rows.items) (sym since)
        (subst (IsLot basis.setup (division_of basis) number 0 0) (sym none) (lot_none basis.setup (division_of basis) number 0 is.plan.sound zero-le)),
  )

  pub gathers_still : (to : ℕ) (before after : Gathered) → after.since ≡ before.since → after.rows.items ≡ before.rows.items → GathersUpTo basis number to before → GathersUpTo basis number to after
  gathers_still to before after since rows gathers =
      subst (λ from. IsLot basis.setup (division_of basis) number from to after.rows.items) (sym since)
      (subst (IsLot basis.setup (division_of basis) number before.since to) (sym rows) gathers)

  -- with those of the round's window they go as far as that
  pub gathers_more : {Q : Type 0} (set : Q → FinMap key_cmp Event) (round : ℕ) (ran : Ran Q) (before after : Gathered) → number < basis.deal.parts → HasRanRound set basis number round ran → after.since ≡ before.since
      → after.rows.items ≡ before.rows.items ++ ran.rows → GathersSoFar basis number round before → GathersUpTo basis number ran.until after
  gathers_more set round ran before after low has since rows (to, run, gathers) =
      let own : has.window.part < basis.deal.parts = subst (λ n. n < basis.deal.parts) (sym has.own) low in
      let begun = subst (λ n. HasRunTo (plan_of basis) round n to) (sym has.own) run in
      let goes = subst (λ n. HasRunTo (plan_of basis) (round + 1) n ran.until) (sym has.own) has.to in
      let lot = lot_of_window (plan_of basis) round to ran.until has.window is.plan own has.runs begun goes in
      let lot_here = subst (IsLot basis.setup (division_of basis) number to ran.until) has.rows
      (subst (λ n. IsLot basis.setup (division_of basis) n to ran.until has.window.rows) has.own lot) in
      subst (λ from. IsLot basis.setup (division_of basis) number from ran.until after.rows.items) (sym since)
      (subst (IsLot basis.setup (division_of basis) number before.since ran.until) (sym rows)
      (lot_joins basis.setup (division_of basis) number before.since to ran.until before.rows.items ran.rows is.plan.sound gathers lot_here))
