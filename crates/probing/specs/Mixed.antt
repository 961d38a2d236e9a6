-- Somewhere in a round (memberlist 0.5.0's rules): as a member is that has probed others for long. A call that draws gives the rest of the words too.
use Rattle.std.specs.Prelude.{ℕ, ◌+◌, length}
use Rattle.streams.specs.Draw.{Words, below_of, shuffle_of}
use Rattle.probing.specs.ProbeOrder.{ProbeOrder}

-- The members in a new order, and the mark at a place that is drawn, the end too.
unfoldable pub mixed_of : Words → ProbeOrder → ProbeOrder × Words
mixed_of words order =
    let shuffled = shuffle_of words order.members in
    let drawn = below_of shuffled.1 (length order.members + 1) in
    (record { members = shuffled.0; mark = drawn.0 }, drawn.1)
