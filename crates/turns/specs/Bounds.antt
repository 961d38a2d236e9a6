-- How far the next windows may reach.
use Rattle.std.specs.Prelude.{◌≡◌, ℕ, ◌≤◌, List}
use Rattle.std.specs.FinMap.{FinMap}
use Rattle.base.specs.Order.{key_cmp}
use Rattle.member.specs.declared.event.Event.{Event}
use Rattle.windows.specs.declared.part.Part.{Part}
use Rattle.scenario.specs.Setup.{Setup}
use Rattle.scenario.specs.Division.{Deal}
use Rattle.lookahead.specs.Between.{part_number, IsLeastBetween}
use Rattle.lookahead.specs.Walks.{Table, AreWalksOf}
use Rattle.turns.specs.Parts.{NonePendsBefore}

-- the first moment at which something pends in these parts, no later than the end
pub record IsFirstMoment {Q : Type 0} (set : Q → FinMap key_cmp Event) (parts : List (Part Q)) (end first : ℕ) : Type 0 where
  pub none : NonePendsBefore set parts first
  pub some : (t : ℕ) → NonePendsBefore set parts t → t ≤ first
  pub in_time : first ≤ end

-- the table has the least walks among the parts of this division of the scenario's members
pub record AreHorizonsOf (table : Table) (s : Setup) (deal : Deal) : Type 0 where
  pub parts : table.parts ≡ deal.parts
  pub between : ℕ → ℕ → ℕ
  pub least : IsLeastBetween s (part_number deal) between
  pub walks : AreWalksOf table s (part_number deal) between
