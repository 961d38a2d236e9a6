-- What a worker holds.
use Rattle.std.specs.List.{AllByRecursion}
use Rattle.std.specs.FinMap.{FinMap}
use Rattle.base.specs.Order.{key_cmp}
use Rattle.member.specs.declared.event.Event.{Event}
use Rattle.lookahead_windows.specs.Basis.{Basis}
use Rattle.parallel_run.specs.declared.of_run.OfRun.{Ghosts}
use Rattle.parallel_run.specs.declared.hold.Hold.{Hold}
use Rattle.parallel_run.specs.Processes.{IsReady, IsWaiting}

-- the processes that it holds are the run's, each in its round
pub record Holds {K Q : Type 0} {G : Ghosts K} (set : Q → FinMap key_cmp Event) (basis : Basis) (hold : Hold K Q G) : Type 0 where
  pub ready : AllByRecursion (IsReady set basis) hold.ready.items
  pub waiting : AllByRecursion (IsWaiting set basis) hold.waiting.items
