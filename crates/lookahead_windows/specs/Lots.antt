-- The rows of the parts of a cluster, from one moment up to another.
use Rattle.std.specs.Prelude.{◌≡◌, ◌≢◌, ℕ, ◌+◌, ◌<◌, ◌≤◌, nat_lt, nat_le, ◌&&◌, Bool, List, Option, Some}
use Rattle.std.specs.List.{AllByRecursion, filter, flat_map}
use Rattle.std.specs.FinMap.{get}
use Rattle.base.specs.Rising.{IsRising}
use Rattle.scenario.specs.Setup.{Setup, member_count}
use Rattle.trace.specs.declared.row.Row.{Row}
use Rattle.member.specs.State.{State}
use Rattle.member.specs.CounterOverflow.{IsOverflowed}
use Rattle.member_laws.specs.Runs.{Cluster, IsRunOf}
use Rattle.windows.specs.Parts.{is_in}
use Rattle.lookahead_windows.specs.Plan.{Plan}
use Rattle.lookahead_windows.specs.Starts.{IsUpTo}
use Rattle.lookahead_windows.specs.Messages.{IsOneOf, BeginsRound}

-- a row of a part's members, from one moment on and before another
abbrev pub is_within : (ℕ → ℕ) → ℕ → ℕ → ℕ → Row → Bool
is_within division part from to row = is_in division part row.member && (nat_le from row.at && nat_lt row.at to)

-- A lot of a part: of the rows of the scenario's run those of the part's members from one moment on and before another, which
-- is no later than the moment after the end.
pub record IsLot (s : Setup) (division : ℕ → ℕ) (part from to : ℕ) (rows : List Row) : Type 0 where
  pub ordered : from ≤ to
  pub in_time : to ≤ s.end + 1
  pub run : List Row
  pub is_run : IsRunOf s run
  pub same : rows ≡ filter (is_within division part from to) run

-- rows that came from a part
pub record PartRows : Type 0 where
  pub part : ℕ
  pub rows : List Row

abbrev pub writer_of : PartRows → ℕ
writer_of lot = lot.part

-- the rows of all of them
abbrev pub every_row : List PartRows → List Row
every_row = flat_map (λ (lot : PartRows). lot.rows)

-- Lots from one moment up to another, one of each part with members.
pub record AreLotsOfAll (s : Setup) (division : ℕ → ℕ) (from to : ℕ) (lots : List PartRows) : Type 0 where
  pub each : AllByRecursion (λ (lot : PartRows). IsLot s division lot.part from to lot.rows) lots
  pub different : IsRising (λ (a b : PartRows). a.part ≢ b.part) lots
  pub complete : (m : ℕ) → m < member_count s → IsOneOf writer_of lots (division m)

-- ---- the end

-- no counter of these members is past its limit
abbrev pub IsNotOverflowed : Cluster → Type 0
IsNotOverflowed p = (m : ℕ) (t : State) → get p.members m ≡ Some t → ¬ (IsOverflowed t)

-- A part has come to the end: nothing is left anywhere up to the end as a round of that number begins, and no counter of the
-- part's members is past its limit.
pub record HasLasted (plan : Plan) (part round : ℕ) : Type 0 where
  pub last : Cluster
  pub first : Option ℕ
  pub begins : BeginsRound plan part round first last
  pub past : IsUpTo first (plan.setup.end + 1)
  pub no_overflow : IsNotOverflowed last
