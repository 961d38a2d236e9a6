-- Where a new member comes among those who are probed by memberlist 0.5.0's rules (state.go: aliveNode): it is put at the end, and changes places with
-- one that is drawn. A call that draws gives the rest of the words too.
use Rattle.std.specs.Prelude.{ℕ, ◌==◌, if◌then◌else◌, [], ◌∷◌, ◌++◌, length, swap}
use Rattle.streams.specs.Draw.{Words, below_of}
use Rattle.probing.specs.ProbeOrder.{ProbeOrder}

-- a place that is drawn among so many: where there are none it is the first, and nothing is drawn
abbrev pub place_among : Words → ℕ → ℕ × Words
place_among words count = if count == 0 then (0, words) else below_of words count

-- A new member takes the place of one that is drawn, who goes to the end. The mark stays.
unfoldable pub displaced_of : Words → ℕ → ProbeOrder → ProbeOrder × Words
displaced_of words member order =
    let drawn = place_among words (length order.members) in
    (record order { members = swap (order.members ++ member ∷ []) drawn.0 (length order.members) }, drawn.1)
