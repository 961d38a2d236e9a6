-- In which order a member probes the others: round-robin over a list, in a new order for each round
-- (SWIM, section 4.3). A call that draws gives the rest of the words too.
use Rattle.std.specs.Prelude.{◌≡◌, ℕ, ◌+◌, ◌-◌, ◌^◌, ◌≤◌, ◌==◌, nat_lt, if◌then◌else◌, Option, None, List, length, count_by, position, insert, remove, take, slice_get}
use Rattle.std.specs.Option.{option_map_or}
use Rattle.streams.specs.Draw.{Words, below_of, shuffle_of}

-- the members in the order of the present round, and a mark before the next one: at the end of the
-- list the round is over
pub record ProbeOrder : Type 0 where
  pub members : List ℕ
  pub mark : ℕ

-- how often a member is in a list
abbrev pub times_in : List ℕ → ℕ → ℕ
times_in members member = count_by (λ other. other == member) members

-- no member is there twice
abbrev pub NoRepeats : List ℕ → Type 0
NoRepeats members = (member : ℕ) → times_in members member ≤ 1

-- members, none of them twice: their numbers have 16 bits
pub record AreMembers (members : List ℕ) : Type 0 where
  pub distinct : NoRepeats members
  pub numbers : (member : ℕ) → 2 ^ 16 ≤ member → times_in members member ≡ 0

-- members, and a mark within their list
pub record IsSoundOrder (order : ProbeOrder) : Type 0 where
  pub listed : AreMembers order.members
  pub within : order.mark ≤ length order.members

-- a round that is over, so that the first probe begins one
abbrev pub round_over : List ℕ → ProbeOrder
round_over members = record { members = members; mark = length members }

-- the order for the next probe: a round that is over begins again with the members shuffled
abbrev pub ready_of : Words → ProbeOrder → ProbeOrder × Words
ready_of words order =
    if order.mark == length order.members
    then (record { members = (shuffle_of words order.members).0; mark = 0 }, (shuffle_of words order.members).1)
    else (order, words)

-- the member at the mark, which goes on by one
abbrev pub probed_at : ProbeOrder × Words → Option ℕ × ProbeOrder × Words
probed_at (order, words) = (slice_get order.members order.mark, record order { mark = order.mark + 1 }, words)

-- The next member to probe. Where there is none, nothing is drawn and nothing changes.
unfoldable pub next_of : Words → ProbeOrder → Option ℕ × ProbeOrder × Words
next_of words order =
    if length order.members == 0 then (None, order, words) else probed_at (ready_of words order)

-- a member put at a place: the mark stands where it stood among the others
abbrev pub put_at : ℕ → ℕ → ProbeOrder → ProbeOrder
put_at place member order = record {
  members = insert order.members place member;
  mark = (if nat_lt place order.mark then order.mark + 1 else order.mark);
}

-- A new member comes to a place that is drawn, the last one too.
unfoldable pub insert_of : Words → ℕ → ProbeOrder → ProbeOrder × Words
insert_of words member order =
    (put_at (below_of words (length order.members + 1)).0 member order, (below_of words (length order.members + 1)).1)

-- the member at a place taken out: the mark stands where it stood among the others
abbrev pub taken_at : ℕ → ProbeOrder → ProbeOrder
taken_at place order = record {
  members = remove order.members place;
  mark = (if nat_lt place order.mark then order.mark - 1 else order.mark);
}

-- A member is taken out. Where it isn't there, nothing changes.
unfoldable pub remove_of : ℕ → ProbeOrder → ProbeOrder
remove_of member order =
    option_map_or (λ place. taken_at place order) (position (λ other. other == member) order.members) order

-- The helpers of an indirect probe: the first of the candidates in a new order, or all (SWIM, section 3.1).
unfoldable pub helpers_of : Words → ℕ → List ℕ → List ℕ × Words
helpers_of words count candidates =
    (take count (shuffle_of words candidates).0, (shuffle_of words candidates).1)
