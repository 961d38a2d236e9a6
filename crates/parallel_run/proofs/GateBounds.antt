-- A gate that allows for all windows of a scenario's run allows for those of its rounds.
use Rattle.std.proofs.Common.{◌≡◌, ℕ, ◌+◌, List, length, sym, subst, refl}
use Rattle.scenario.specs.Setup.{Setup}
use Rattle.scenario.specs.Division.{Deal}
use Rattle.lookahead.specs.Walks.{Table}
use Rattle.turns.specs.Bounds.{AreHorizonsOf}
use Rattle.lookahead_windows.specs.Basis.{Basis}
use Rattle.lookahead_windows.specs.Bounds.{AreWaysOf, AwaitsRounds, AwaitsRun}
use Rattle.lookahead_windows.specs.Walks.{AreRoundWays}

pub ways_of : {table : Table} (s : Setup) (deal : Deal) (ways : List ℕ) → AreHorizonsOf table s deal → length ways ≡ deal.parts → AreRoundWays s table ways → AreWaysOf s deal ways
ways_of {table} s deal ways horizons count ticks = record { table = table; horizons = horizons; count = count; ticks = ticks }

-- who allows for all windows of the scenario's run allows for those of these rounds
pub awaits_rounds : (awaits : ℕ → ℕ → ℕ → Type 0) (basis : Basis) (s : Setup) (deal : Deal) → basis.setup ≡ s → basis.deal ≡ deal → AreWaysOf s deal basis.ways → AwaitsRun awaits s deal → AwaitsRounds awaits basis
awaits_rounds awaits basis s deal setup deals by run round part bound low own =
    let ways = subst (λ d. AreWaysOf basis.setup d basis.ways) (sym deals) (subst (λ t. AreWaysOf t deal basis.ways) (sym setup) by) in
    let all = subst (λ d. AwaitsRun awaits basis.setup d) (sym deals) (subst (λ t. AwaitsRun awaits t deal) (sym setup) run) in
    all (round + 1) part bound (record { ways = basis.ways; by = ways; round = round; counts = refl; named = low; own = own })
