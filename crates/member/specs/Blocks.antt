-- When messages depart and arrive where processes are blocked, by memberlist 0.5.0's rules: a blocked process runs, but what it sends and receives stands still
-- until the block is over. A message departs when its sender isn't blocked, and is handled when its receiver isn't.
use Rattle.std.specs.Prelude.{ℕ, Option, option_map}
use Rattle.base.specs.declared.profile.Profile.{Profile}
use Rattle.base.specs.declared.profile.Profile.TheVariants.{Papers, Memberlist, Hashicorp}
use Rattle.base.specs.declared.key.Key.{Key}
use Rattle.scenario.specs.Setup.{Setup, free}
use Rattle.streams.specs.Draw.{Words}

-- a way of a message: when it is there, by when it departs
abbrev pub Way : Type 0
Way = ℕ → Words → Option ℕ × Words

-- when what the receiver of an event sends now departs
abbrev pub departs_at : Setup → Key → ℕ
departs_at s k = free s k.to k.at

-- the same by the rules of a profile
abbrev pub departs_by : Profile → Setup → Key → ℕ
departs_by Papers s k = k.at
departs_by Memberlist s k = k.at
departs_by Hashicorp s k = departs_at s k

-- when a message that comes gets through to a member, by the rules of a profile
abbrev pub got_through_by : Profile → Setup → ℕ → Option ℕ → Option ℕ
got_through_by Papers s to arrival = arrival
got_through_by Memberlist s to arrival = arrival
got_through_by Hashicorp s to arrival = option_map (free s to) arrival

-- a message by a way to a member
abbrev pub on_its_way : Profile → Setup → Key → ℕ → Way → Words → Option ℕ × Words
on_its_way profile s k to way words =
    let arrival = way (departs_by profile s k) words in
    (got_through_by profile s to arrival.0, arrival.1)
