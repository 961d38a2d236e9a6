-- How many of all processes each worker holds.
use Rattle.std.specs.Prelude.{ℕ, ◌+◌, ◌/◌, ◌%◌, nat_lt, if◌then◌else◌}

-- all workers hold as many, and the first ones one more each, as many of them as processes are left
abbrev pub share_of : ℕ → ℕ → ℕ → ℕ
share_of all workers number = all / workers + (if nat_lt number (all % workers) then 1 else 0)
