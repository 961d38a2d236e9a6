-- Whom one chooses among those whom one knows, where some fit (memberlist's rules). A call that draws gives the rest of the words too.
use Rattle.std.specs.Prelude.{ℕ, zero, suc, ◌*◌, ◌==◌, ◌&&◌, Bool, false, not, nat_lt, if◌then◌else◌, List, [], ◌∷◌, ◌++◌, length, slice_index_or}
use Rattle.std.specs.List.{list_any}
use Rattle.streams.specs.Draw.{Words, below_of}
use Rattle.membership.specs.declared.candidates.Candidate.{Candidate}

-- whether a member is among these
abbrev pub is_in : ℕ → List ℕ → Bool
is_in member members = list_any (λ other. other == member) members

-- one that was drawn is taken, if it fits and wasn't taken before
abbrev pub with_drawn : List ℕ → Candidate → List ℕ
with_drawn taken drawn = if drawn.fits && not (is_in drawn.member taken) then taken ++ drawn.member ∷ [] else taken

-- who stands at a place; past the end nobody who fits
abbrev pub candidate_at : List Candidate → ℕ → Candidate
candidate_at candidates place = slice_index_or candidates place (record { member = 0; fits = false })

-- So many more draws at most, each of all candidates, as long as fewer than k are taken.
abbrev pub sampled_by : ℕ → ℕ → List Candidate → List ℕ → Words → List ℕ × Words
sampled_by zero k candidates taken words = (taken, words)
sampled_by (suc draws) k candidates taken words =
    if nat_lt (length taken) k
    then sampled_by draws k candidates (with_drawn taken (candidate_at candidates (below_of words (length candidates)).0)) (below_of words (length candidates)).1
    else (taken, words)

-- There are three draws at most for each candidate.
unfoldable pub sample_of : Words → ℕ → List Candidate → List ℕ × Words
sample_of words k candidates = sampled_by (3 * length candidates) k candidates [] words

-- whether a member is one that fits
abbrev pub does_fit_in : List Candidate → ℕ → Bool
does_fit_in candidates member = list_any (λ candidate. candidate.fits && candidate.member == member) candidates

-- the words after so many draws below a bound
abbrev pub words_after : ℕ → ℕ → Words → Words
words_after zero bound words = words
words_after (suc draws) bound words = words_after draws bound (below_of words bound).1
