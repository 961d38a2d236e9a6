-- Why tables aren't joined, and what to do, in words.
use Rattle.std.specs.Prelude.{ℕ, nat_eq, if◌then◌else◌, List, ◌++◌, codes}
use Rattle.std.specs.Fmt.{decimal}
use Rattle.shown_names.specs.Shown.{shown_name}
use Rattle.table_reasons.specs.declared.reason.TableReason.{TableReason}
use Rattle.table_reasons.specs.declared.reason.TableReason.TheVariants as reason

-- a name, and what is said of it
abbrev pub one_text : List ℕ → List ℕ → List ℕ
one_text name what = shown_name name ++ what

-- two names, and what is said of both
abbrev pub two_text : List ℕ → List ℕ → List ℕ → List ℕ
two_text name other what = shown_name name ++ codes " and " ++ shown_name other ++ what

-- a range of seeds, or its only seed
abbrev pub seeds_text : ℕ → ℕ → List ℕ
seeds_text first last =
    if nat_eq first last then codes "seed " ++ decimal first else codes "seeds " ++ decimal first ++ codes ".." ++ decimal last

-- the same, and what is said of it
abbrev pub range_text : ℕ → ℕ → List ℕ → List ℕ
range_text first last behind = seeds_text first last ++ behind

-- the seeds that two tables have in common
abbrev pub shared_text : List ℕ → List ℕ → ℕ → ℕ → List ℕ
shared_text name other first last = two_text name other (codes " both have the ") ++ range_text first last (codes "; leave one table out, or make it with other seeds")

-- the seeds between those of two tables
abbrev pub missing_text : List ℕ → List ℕ → ℕ → ℕ → List ℕ
missing_text name other first last = two_text name other (codes " leave out the ") ++ range_text first last (codes "; make a table of what is missing, and join it too")

abbrev pub reason_text : TableReason → List ℕ
reason_text (reason.Shard name) = one_text name.now (codes " is a shard; join the shards of each range of seeds first, and then the tables")
reason_text (reason.Scenarios name other) = two_text name.now other.now (codes " were made from two scenario texts; make both from one text, byte for byte")
reason_text (reason.Settings name other) = two_text name.now other.now (codes " were made with different --set or --until; make both with the same")
reason_text (reason.Width name) = one_text name.now (codes " was made with --until, so it can't get more seeds; make one table with all seeds")
reason_text (reason.NoSeeds name) = one_text name.now (codes " was made without --seeds; make it with a range of seeds")
reason_text (reason.Shared name other first last) = shared_text name.now other.now first last
reason_text (reason.Missing name other first last) = missing_text name.now other.now first last
