-- A process's rings to the others.
use Rattle.std.specs.Prelude.{◌≡◌, ◌≢◌, ◌⊎◌, ℕ, ◌<◌, List, length, map, Some}
use Rattle.std.specs.List.{AllByRecursion, slice_get}
use Rattle.base.specs.Rising.{IsRising}
use Rattle.lookahead_windows.specs.Messages.{IsOneOf}
use Rattle.parallel_run.specs.declared.of_run.OfRun.{Ghosts}
use Rattle.parallel_run.specs.declared.peers.Peer.{Peer}
use Rattle.parallel_run.specs.declared.connections.Connections.{Connections}
use Rattle.lookahead_windows.specs.Basis.{Basis}

-- which parts the processes at the other ends have
abbrev pub numbers_of : {K : Type 0} → List (Peer K) → List ℕ
numbers_of peers = map (λ peer. peer.number) peers

-- these are the numbers below a count, but for one, each once
pub record AreOthers (count own : ℕ) (numbers : List ℕ) : Type 0 where
  pub others : AllByRecursion (λ n. (n ≢ own) × (n < count)) numbers
  pub different : IsRising (λ m n. m ≢ n) numbers
  pub complete : (n : ℕ) → n < count → (own ≡ n) ⊎ IsOneOf (λ m. m) numbers n

-- a process's rings are to all others of the run
pub record AreLines {K : Type 0} {G : Ghosts K} (basis : Basis) (lines : Connections K G) : Type 0 where
  pub own : lines.number < basis.deal.parts
  pub peers : AreOthers basis.deal.parts lines.number (numbers_of lines.peers.items)

-- so many processes are joined, each to all others
pub record AreJoined {K : Type 0} (count : ℕ) (all : List (List (Peer K))) : Type 0 where
  pub counted : length all ≡ count
  pub each : (i : ℕ) (peers : List (Peer K)) → slice_get all i ≡ Some peers → AreOthers count i (numbers_of peers)
