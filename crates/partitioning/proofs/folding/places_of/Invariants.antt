use Rattle.std.proofs.Common.{◌≡◌, ◌≤◌, ◌<◌, ◌*◌, All, vec_len}
use Rattle.partitioning.proofs.Evenly.{EvenSoFar}
use Rattle.partitioning.proofs.folding.places_of.Given as goal

-- each part so far has a place, evenly; no place has more members than so many parts
abbrev pub invariant-loop-size : goal.invariant-loop-size
invariant-loop-size l =
    (vec_len l.filled ≡ l.most)
    × (vec_len l.places ≡ l.size-index)
    × All (λ filled. filled ≤ 16384 * l.size-index) l.filled.items
    × All (λ place. place < l.most) l.places.items
    × EvenSoFar l.most l.division l.filled.items l.places.items
