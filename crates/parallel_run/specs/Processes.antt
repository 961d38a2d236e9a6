-- The processes of a run, between the rounds and in them, and what lies on its board.
use Rattle.std.specs.Prelude.{◌≡◌, ℕ, ◌+◌, ◌≤◌, Option, Some}
use Rattle.std.specs.Box.{box_value}
use Rattle.std.specs.FinMap.{FinMap}
use Rattle.base.specs.Order.{key_cmp}
use Rattle.member.specs.declared.event.Event.{Event}
use Rattle.lookahead_windows.specs.Starts.{HasRunTo}
use Rattle.lookahead_windows.specs.Basis.{Basis, plan_of}
use Rattle.parallel_run.specs.declared.of_run.OfRun.{Ghosts}
use Rattle.parallel_run.specs.declared.process.Process.{Process}
use Rattle.parallel_run.specs.declared.process.Waiting.{Waiting}
use Rattle.parallel_run.specs.declared.board_item.BoardItem.{BoardItem}
use Rattle.parallel_run.specs.declared.board_item.BoardEntry.{BoardEntry}
use Rattle.parallel_run.specs.Returned.{ended_entry}
use Rattle.parallel_run.specs.Peers.{AreLines}
use Rattle.parallel_run.specs.Windows.{AfterWindow, Begins, GathersUpTo, GathersSoFar}

module _ {K Q : Type 0} {G : Ghosts K} (set : Q → FinMap key_cmp Event) (basis : Basis) where
  -- The process begins its round: its part and what is known with it are the run's there, its rows wait up to where the part has run,
  -- and its lines are to all others. All this is a function of the basis and the round.
  pub record IsReady (process : Process K Q G) : Type 0 where
    pub begins : Begins set basis (box_value process.state).lines.number process.round process.first (box_value process.state).part
    pub gathered : GathersSoFar basis (box_value process.state).lines.number process.round (box_value process.state).gathered
    pub lines : AreLines basis (box_value process.state).lines

  -- The process has run its window of a round and sent the others its messages.
  pub record IsWaiting (process : Waiting K Q G) : Type 0 where
    pub from : process.told.from ≡ (box_value process.state).lines.number
    pub next : process.next ≡ process.told.round + 1
    pub window : AfterWindow set basis (box_value process.state).lines.number process.told.round process.told.least (box_value process.state).part
    pub to : ℕ
    pub run : HasRunTo (plan_of basis) (process.told.round + 1) (box_value process.state).lines.number to
    pub passed : process.common ≤ to
    pub gathered : GathersUpTo basis (box_value process.state).lines.number to (box_value process.state).gathered
    pub lines : AreLines basis (box_value process.state).lines

-- what a process stands for in the accounts of the board's seats
abbrev pub begun_entry : {K Q : Type 0} {G : Ghosts K} → Process K Q G → BoardEntry
begun_entry process = BoardEntry.Process (box_value process.state).lines.number

-- what an item stands for there: the process of a part, or the end of the relay of one that has come to the end
abbrev pub account_entry : {K Q : Type 0} {G : Ghosts K} → BoardItem K Q G → BoardEntry
account_entry (BoardItem.Process process) = begun_entry process
account_entry (BoardItem.Ended lines) = ended_entry lines.lots

-- a process belongs to the board of a run where it is the run's as its round begins
abbrev pub Belongs : {K Q : Type 0} {G : Ghosts K} (set : Q → FinMap key_cmp Event) (given : Option Basis) → BoardItem K Q G → Type 0
Belongs set given (BoardItem.Process process) = (basis : Basis) → given ≡ Some basis → IsReady set basis process
Belongs set given (BoardItem.Ended lines) = Unit {0}
