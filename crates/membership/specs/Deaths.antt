-- Since when a member holds others as confirmed (memberlist's rules).
use Rattle.std.specs.Prelude.{ℕ, nat_eq, if◌then◌else◌, slice_index}
use Rattle.membership.specs.declared.deaths.Deaths.{Deaths}

-- the moment of the last Confirm of each, which means something for those alone that the table holds so
abbrev pub Since : Type 0
Since = ℕ → ℕ

-- at first
abbrev pub never : Since
never = λ member. 0

-- with one that is confirmed now
abbrev pub confirmed_at : ℕ → ℕ → Since → Since
confirmed_at subject now since = λ member. if nat_eq member subject then now else since member

-- what is kept in memory
abbrev pub since_of : Deaths → Since
since_of deaths = λ member. slice_index deaths.moments.items member
