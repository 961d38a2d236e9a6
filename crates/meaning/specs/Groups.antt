-- The members by their groups, and which path is another one's.
use Rattle.std.specs.Prelude.{ℕ, ◌+◌, ◌-◌, Bool, List, take, drop, map, length, codes, if◌then◌else◌, nat_eq, nat_lt, count_by}
use Rattle.std.specs.List.{list_any, range_with_len}
use Rattle.std.specs.Str.{bytes_eq}
use Rattle.scenario.specs.Setup.{Setup, group_at, leads, member_count, name_of}
use Rattle.scenario.specs.declared.settings.Path.{Path}

-- the groups of all members, by the members' numbers
abbrev pub groups_of : Setup → List ℕ
groups_of s = map (group_at s.groups) (range_with_len 0 (member_count s))

-- how many of the members of these groups are of this one
abbrev pub size_of : List ℕ → ℕ → ℕ
size_of groups number = count_by (λ g. nat_eq g number) groups

-- its first member: members are numbered in the order of groups, so those of earlier groups come before it
abbrev pub first_of_group : List ℕ → ℕ → ℕ
first_of_group groups number = count_by (λ g. nat_lt g number) groups

-- NAME of NAME-0
abbrev pub without_index : List ℕ → List ℕ
without_index name = if bytes_eq (codes "-0") (drop (length name - 2) name) then take (length name - 2) name else name

-- the name of a group, by the name of its first member
abbrev pub group_name : Setup → ℕ → List ℕ
group_name s number = without_index (name_of s (first_of_group (groups_of s) number))

-- a later path names the same two groups
abbrev pub is_hidden : List Path → ℕ → Path → Bool
is_hidden paths place p = list_any (leads p.from p.to) (drop (place + 1) paths)
