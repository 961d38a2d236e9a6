-- Counters past their limit, which the definitions do not have.
use Rattle.std.specs.Prelude.{◌<◌, ◌^◌, ◌⊎◌}
use Rattle.member.specs.State.{State}

abbrev pub IsOverflowed : State → Type 0
IsOverflowed t = (2 ^ 63 < t.next_number) ⊎ (2 ^ 63 < t.sequence) ⊎ (2 ^ 63 < t.incarnation)
