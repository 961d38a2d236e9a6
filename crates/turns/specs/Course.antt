-- What every turn of a run goes by.
use Rattle.std.specs.Prelude.{◌≡◌, ℕ, ◌<◌, length}
use Rattle.scenario.specs.Setup.{IsSound, member_count}
use Rattle.turns.specs.declared.turns.Course.{Course}
use Rattle.lookahead.specs.Between.{part_number}

-- The end and the division are those of the scenario, and each member has a part.
pub record IsCourse (course : Course) : Type 0 where
  pub sound : IsSound course.cluster.scenario.now
  pub end : course.end ≡ course.cluster.scenario.now.end
  pub divides : length course.division.now.part_of ≡ member_count course.cluster.scenario.now
  pub below : (m : ℕ) → m < member_count course.cluster.scenario.now → part_number course.division.now m < course.division.now.parts
