-- Which updates ride on a message (SWIM, section 4.1).
use Rattle.std.specs.Prelude.{ℕ, ◌*◌, List, Option}
use Rattle.base.specs.Logarithm.{digit_count}
use Rattle.scenario.specs.Setup.{Setup}
use Rattle.scenario.specs.Profile.{profile_of}
use Rattle.incarnation.specs.declared.Update.{Update}
use Rattle.membership.specs.Table.{size_by}
use Rattle.piggyback.specs.Picked.{picked, left_by_pick}
use Rattle.member.specs.State.{State}

-- An update rides on lambda messages for each digit of n, the cluster's members as the rules count them (SWIM, section 4.1).
abbrev pub limit_of : Setup → State → ℕ
limit_of s t = s.swim.lambda * digit_count (size_by (profile_of s) t.table)

-- the updates that a message takes along, the buddy first where there is one
abbrev pub carried : Setup → Option Update → State → List Update
carried s buddy t = picked t.buffer s.swim.carry (limit_of s t) buddy

-- what taking them leaves
abbrev pub with_picks : Setup → Option Update → State → State
with_picks s buddy t = record t { buffer = left_by_pick t.buffer s.swim.carry (limit_of s t) buddy }
