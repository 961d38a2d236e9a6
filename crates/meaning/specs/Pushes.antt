-- How often members exchange their whole tables.
use Rattle.std.specs.Prelude.{ℕ, ◌/◌, nat_lt, if◌then◌else◌}
use Rattle.std.specs.Option.{option_map_or}
use Rattle.scenario.specs.Setup.{Setup, member_count}
use Rattle.member.specs.Step.{push_period as period_among}

-- how long a member that knows all members, none of them as confirmed, waits from one push to the next; 0 where nobody pushes
abbrev pub push_period : Setup → ℕ
push_period s = option_map_or (λ g. period_among g.push (member_count s)) s.gossip 0

-- how many pushes begin in so many ticks, rounded down
abbrev pub pushes_in : Setup → ℕ → ℕ
pushes_in s ticks = if nat_lt 0 (push_period s) then ticks / push_period s else 0

-- the middle of the numbers below `push`, of which chance picks one; 0 where nobody pushes
abbrev pub half_push : Setup → ℕ
half_push s = option_map_or (λ g. g.push / 2) s.gossip 0
