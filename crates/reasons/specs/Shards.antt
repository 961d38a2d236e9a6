-- What users read of the file of a shard that can't be joined or resumed.
use Rattle.std.specs.Prelude.{ℕ, List, ◌++◌, codes}
use Rattle.std.specs.Fmt.{decimal}
use Rattle.shown_names.specs.Shown.{shown_name}
use Rattle.reasons.specs.declared.shards.ShardReason.{ShardReason}
use Rattle.reasons.specs.declared.shards.ShardReason.TheVariants.{NoTable, Other, Twice, Torn, TornAt, Missing, Resumed}

-- a name and what is said of its file
abbrev pub of_table : List ℕ → List ℕ → List ℕ
of_table name what = shown_name name ++ what

-- which line of a table it is
abbrev pub line_text : ℕ → List ℕ
line_text line = codes ": line " ++ decimal line

-- it isn't what the sweep wrote
abbrev pub torn_text : ℕ → List ℕ
torn_text line = line_text line ++ codes " is wrong or missing; run that sweep with --shard and --resume"

-- no file is the shard of this number
abbrev pub absent_shard : ℕ → List ℕ
absent_shard number = codes "no file is shard " ++ decimal number

-- and how it is made
abbrev pub missing_shard : ℕ → List ℕ
missing_shard number = absent_shard number ++ codes "; run the same sweep with its --shard, and name that table too"

-- what is wrong with the file, and what to do
abbrev pub shard_reason_text : ShardReason → List ℕ
shard_reason_text (NoTable name) = of_table name.now (codes " isn't a table of a sweep; name files that sweep --table or join --table wrote")
shard_reason_text (Other name) = of_table name.now (codes " doesn't belong to the first table; take tables of one scenario text with the same options")
shard_reason_text (Twice name) = of_table name.now (codes " has the same runs as another file; leave one of them out")
shard_reason_text (Torn name) = of_table name.now (codes " lacks a line, or one has changed; run the same sweep with --shard and --resume, which makes the rest")
shard_reason_text (TornAt name line) = shown_name name.now ++ torn_text line
shard_reason_text (Missing number) = missing_shard number
shard_reason_text (Resumed name) = of_table name.now (codes " begins with other runs; resume with the scenario and the options that it was made with, or name another table")
