-- What many probes answer, and how a mark parts the members.
use Rattle.std.specs.Prelude.{ℕ, zero, suc, ◌==◌, not, Option, List, [], ◌∷◌, take, drop, filter}
use Rattle.streams.specs.Draw.{Words}
use Rattle.probing.specs.ProbeOrder.{ProbeOrder, next_of}

-- the answers of so many probes, one after another, and what they leave
abbrev pub probes_of : ℕ → Words → ProbeOrder → List (Option ℕ) × ProbeOrder × Words
probes_of zero words order = ([], order, words)
probes_of (suc n) words order =
    let first = next_of words order in
    let more = probes_of n first.2 first.1 in
    (first.0 ∷ more.0, more.1, more.2)

-- the members before the mark, whose turn in this round is over
abbrev pub probed : ProbeOrder → List ℕ
probed order = take order.mark order.members

-- the members behind it, whose turn is still to come
abbrev pub coming : ProbeOrder → List ℕ
coming order = drop order.mark order.members

-- all but one member
abbrev pub others : ℕ → List ℕ → List ℕ
others member members = filter (λ other. not (other == member)) members
