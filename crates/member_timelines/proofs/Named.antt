-- Lines of the trace name members of the cluster.
use Rattle.std.proofs.Common.{ℕ, ◌+◌, ◌<◌, Bool, true, false, cond, List, [], ◌∷◌, All}
use Rattle.std.specs.Prelude.{IfSome, slice_get}
use Rattle.std.proofs.lemmas.List.Elements.{All-nil, All-cons, All-head, All-tail}
use Rattle.scenario.specs.Setup.{Setup, member_count}
use Rattle.trace.specs.Text.{NamesMembers}
use Rattle.trace.specs.declared.row.Row.{Row}
use Rattle.series.specs.declared.lines.TraceLine.{TraceLine}
use Rattle.series.specs.Lines.{line_at, lines_from, lines_of}

abbrev IsNamed : Setup → TraceLine → Type 0
IsNamed s line = line.member < member_count s

named_from : (s : Setup) (number : ℕ) (test : Row → Bool) (rows : List Row) → All (NamesMembers s) rows → All (IsNamed s) (lines_from number test rows)
named_from s number test [] named = All-nil (IsNamed s)
named_from s number test (row ∷ rows) named =
    one (test row) (lines_from (number + 1) test rows) (All-head (NamesMembers s) row rows named).member (named_from s (number + 1) test rows (All-tail (NamesMembers s) row rows named))
  where
    one : (keep : Bool) (lines : List TraceLine) → row.member < member_count s → All (IsNamed s) lines → All (IsNamed s) (cond keep (line_at number row ∷ lines) lines)
    one true lines here later = All-cons (IsNamed s) (line_at number row) lines here later
    one false lines here later = later

first_is : (s : Setup) (lines : List TraceLine) → All (IsNamed s) lines → IfSome (slice_get lines 0) (λ line. line.member < member_count s)
first_is s [] all = tt
first_is s (line ∷ lines) all = All-head (IsNamed s) line lines all

-- the first of the rows that pass a test
pub first_named : (s : Setup) (test : Row → Bool) (rows : List Row) → All (NamesMembers s) rows → IfSome (slice_get (lines_of test rows) 0) (λ line. line.member < member_count s)
first_named s test rows named = first_is s (lines_of test rows) (named_from s 2 test rows named)
