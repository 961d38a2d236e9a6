use Rattle.std.proofs.Common.{◌≡◌, ℕ, List, ◌++◌, map, take}
use Rattle.membership.specs.Columns.{entries_from}
use Rattle.membership.specs.Deaths.{since_of}
use Rattle.membership.specs.Candidates.{does_fit, known_candidate}
use Rattle.membership.specs.Held.{claims_in}
use Rattle.membership.proofs.candidates.append_known.Given as goal

abbrev pub invariant-loop-place : goal.invariant-loop-place
invariant-loop-place l = (incs : List ℕ) → l.them.items
    ≡ l.fn.them.items ++ map (known_candidate (does_fit l.fitting (since_of l.deaths))) (entries_from l.first (claims_in (take l.place l.claims)) incs)
