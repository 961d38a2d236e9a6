-- What comes back to the calling thread over the board of a run.
use Rattle.std.specs.Prelude.{◌≡◌, ℕ, ◌+◌, List, ◌++◌, map, Vec, Option, Some, None, Result, Ok, Err, IfOk, IfSome}
use Rattle.std.specs.List.{sum_by}
use Rattle.std.specs.declared.alloc.Global.{Global}
use Rattle.base.specs.declared.fault.Memory.{Memory}
use Rattle.board.specs.declared.rule.Hand.{Hand}
use Rattle.board.specs.Deal.{SameBag}
use Rattle.parallel_run.specs.declared.of_run.OfRun.{Ghosts}
use Rattle.parallel_run.specs.declared.batch_sender.BatchSender.{BatchSender}
use Rattle.parallel_run.specs.declared.board_item.BoardEntry.{BoardEntry}
use Rattle.parallel_run.specs.Dealt.{all_ended}

module _ {K : Type 0} {G : Ghosts K} where
  -- the end of a part's relay, once the part has come to the end
  abbrev pub ended_entry : BatchSender K G → BoardEntry
  ended_entry sender = BoardEntry.Ended sender.number

  -- these ends were taken, where all that came were such ends, and nothing was dealt
  abbrev pub TakesBack : Hand BoardEntry → Hand BoardEntry → Result (Option (Vec (BatchSender K G) Global)) Memory → Type 0
  TakesBack old new senders = IfOk senders (λ back. IfSome back (λ ends. (new.dealt ≡ old.dealt) × (new.taken ≡ old.taken ++ map ended_entry ends.items)))

  -- these are the ends of so many parts, each once
  abbrev pub AreAllBack : ℕ → Result (Option (Vec (BatchSender K G) Global)) Memory → Type 0
  AreAllBack count (Ok (Some ends)) = SameBag (map ended_entry ends.items) (all_ended count)
  AreAllBack count (Ok None) = ⊥
  AreAllBack count (Err memory) = ⊥

  -- one of them was taken out
  abbrev pub TakesOut : List (BatchSender K G) → List (BatchSender K G) → BatchSender K G → Type 0
  TakesOut old new one = (weight : BatchSender K G → ℕ) → sum_by weight new + weight one ≡ sum_by weight old
