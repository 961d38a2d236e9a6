-- How far an update spreads among all members.
use Rattle.std.specs.Prelude.{ℕ, ◌*◌}
use Rattle.base.specs.Logarithm.{digit_count}
use Rattle.scenario.specs.Setup.{Setup, member_count}

-- on how many messages of a member that knows all members, none of them as confirmed, an update rides at the most
abbrev pub message_limit : Setup → ℕ
message_limit s = s.swim.lambda * digit_count (member_count s)
