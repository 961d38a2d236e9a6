-- What is dealt and taken on the board of a run, from its beginning to its end.
use Rattle.std.specs.Prelude.{◌≡◌, ℕ, ◌<◌, Bool, true, false, nat_eq, List, map}
use Rattle.std.specs.List.{list_any, range_with_len}
use Rattle.board.specs.declared.record.BoardRecord.{BoardRecord}
use Rattle.board.specs.Deal.{SameBag}
use Rattle.board.specs.Records.{all_dealt, all_taken, others_dealt, others_taken, own_dealt, own_taken}
use Rattle.parallel_run.specs.declared.board_item.BoardEntry.{BoardEntry}

-- each of so many parts, as it begins
abbrev pub all_begun : ℕ → List BoardEntry
all_begun parts = map (λ (n : ℕ). BoardEntry.Process n) (range_with_len 0 parts)

-- each of them, as it has come to the end
abbrev pub all_ended : ℕ → List BoardEntry
all_ended parts = map (λ (n : ℕ). BoardEntry.Ended n) (range_with_len 0 parts)

-- at the one seat each part was dealt as it begins, and each was taken as it had come to the end
abbrev pub DealtAll : ℕ → BoardRecord BoardEntry → Type 0
DealtAll parts board = (own_dealt board ≡ all_begun parts) × SameBag (own_taken board) (all_ended parts)

-- the process of that part
abbrev pub is_process : ℕ → BoardEntry → Bool
is_process part (BoardEntry.Process n) = nat_eq part n
is_process part (BoardEntry.Ended n) = false

-- the end of that part's relay
abbrev pub is_ended : ℕ → BoardEntry → Bool
is_ended part (BoardEntry.Process n) = false
is_ended part (BoardEntry.Ended n) = nat_eq part n

-- at another seat each part was taken as it begins, and at another one it was dealt as it had come to the end
abbrev pub AreWorked : ℕ → BoardRecord BoardEntry → Type 0
AreWorked parts board = (part : ℕ) → part < parts → (list_any (is_process part) (others_taken board) ≡ true) × (list_any (is_ended part) (others_dealt board) ≡ true)

-- The calling thread dealt each part as it begins, in the order of their numbers, and took back each as it had come to the end, once. Over
-- all seats of the board, what was dealt is what was taken, as often. So a worker took each part, and a worker dealt it back.
pub record AreDealt (parts : ℕ) (board : BoardRecord BoardEntry) : Type 0 where
  pub dealt : own_dealt board ≡ all_begun parts
  pub taken_back : SameBag (own_taken board) (all_ended parts)
  pub balance : SameBag (all_dealt board) (all_taken board)
  pub worked : AreWorked parts board
