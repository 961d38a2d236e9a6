-- The groups of all members, in a list.
use Rattle.std.proofs.Common.{◌≡◌, ℕ, ◌<◌, List, length, get_or, zero-add, ap, ◌∙◌, arith}
use Rattle.std.proofs.lemmas.List.FromFn.{length-map-range_with_len, get_or-map-range_with_len}
use Rattle.scenario.specs.Setup.{Setup, member_count, group_at}
use Rattle.meaning.specs.Groups.{groups_of}

module _ (s : Setup) (groups : List ℕ) (m : ℕ) (all : groups ≡ groups_of s) (below : m < member_count s) where
  pub within : m < length groups
  within = omega (arith, ap length all, length-map-range_with_len (group_at s.groups) 0 (member_count s), below)

  pub group_there : get_or groups m 0 ≡ group_at s.groups m
  group_there = ap (λ gs. get_or gs m 0) all ∙ get_or-map-range_with_len (group_at s.groups) 0 (member_count s) m m 0 below (zero-add m)
