-- What stands of the table of a shard in a text.
use Rattle.std.specs.Prelude.{◌≡◌, ◌≢◌, ◌⊎◌, ◌≤◌, ◌+◌, ◌-◌, ℕ, List, ◌++◌, length}
use Rattle.toml.specs.Data.{Data}
use Rattle.sweep_plan.specs.Sweep.{Sweep, run_count}
use Rattle.shards.specs.declared.shard.Shard.{Shard}
use Rattle.shards.specs.Shards.{first_run, past_run}
use Rattle.sweep.specs.Table.{columns_of}
use Rattle.sweep.specs.Shards.{shard_header}
use Rattle.sweep.specs.Sums.{BeginsWithLines, HasLineOf, IsOlder, key_of_text}
use Rattle.sweep.specs.declared.summing.LineKey.{LineKey}
use Rattle.sweep.specs.declared.begun.BegunFault.{BegunFault}
use Rattle.sweep.specs.declared.begun.BegunFault.TheVariants.{Other, Older, Memory}

-- the text is a beginning of this line, and has no run
pub record IsShort (header text : List ℕ) (kept runs : ℕ) : Type 0 where
  pub rest : List ℕ
  pub written : header ≡ text ++ rest
  pub all : kept ≡ length text
  pub no_run : runs ≡ 0

-- Behind that line come those of so many runs, from that of a number on, and no more of them than so many: the first bytes of the text, up to what is left.
pub record IsLong (key : LineKey) (sweep : Sweep) (first most : ℕ) (header text : List ℕ) (kept runs : ℕ) : Type 0 where
  pub rest : List ℕ
  pub written : text ≡ header ++ rest
  pub left : List ℕ
  pub begins : BeginsWithLines key sweep first rest left runs
  pub stay : kept + length left ≡ length text
  pub no_more : (runs ≡ most) ⊎ ¬ (HasLineOf key sweep (first + runs) left)

-- how many runs the shard has
abbrev pub runs_in : Sweep → Shard → ℕ
runs_in sweep p = past_run p (run_count sweep) - first_run p (run_count sweep)

-- So much of the table of a shard stands in the text, of a sweep of this document: so many bytes stay, with the lines of so many runs. Each is genuine at its
-- place. They are all such lines with which the text goes on behind its first one.
pub record IsBegun (tree : Data) (mark : List ℕ) (sweep : Sweep) (p : Shard) (text : List ℕ) (kept runs : ℕ) : Type 0 where
  pub stands : IsShort (shard_header (columns_of tree) mark sweep p) text kept runs
      ⊎ IsLong (key_of_text tree mark sweep) sweep (first_run p (run_count sweep)) (runs_in sweep p) (shard_header (columns_of tree) mark sweep p) text kept runs
  pub few : first_run p (run_count sweep) + runs ≤ past_run p (run_count sweep)

-- of the text and the first line neither begins with the other
pub record IsApart (header text : List ℕ) : Type 0 where
  pub no_more : (rest : List ℕ) → text ≢ header ++ rest
  pub no_less : (rest : List ℕ) → header ≢ text ++ rest

-- behind that line comes one without a checksum
pub record IsOfBefore (header text : List ℕ) : Type 0 where
  pub rest : List ℕ
  pub written : text ≡ header ++ rest
  pub older : IsOlder rest

-- why nothing of such a table stands in the text, unless memory was refused
abbrev pub RefusesStart : List ℕ → List ℕ → BegunFault → Type 0
RefusesStart header text Other = IsApart header text
RefusesStart header text Older = IsOfBefore header text
RefusesStart header text Memory = Unit {0}

abbrev pub RefusesBegun : Data → List ℕ → Sweep → Shard → List ℕ → BegunFault → Type 0
RefusesBegun tree mark sweep p text fault = RefusesStart (shard_header (columns_of tree) mark sweep p) text fault
