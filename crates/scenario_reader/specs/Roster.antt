-- What a `Roster` stands for: the groups of a text, their contacts left out.
use Rattle.std.specs.Prelude.{◌≡◌, ℕ, ◌+◌, ◌<◌, ◌^◌, sum_by, List, [], ◌∷◌, false, map, slice_get, bytes_eq, None, String, string_bytes}
use Rattle.std.specs.Option.{option_map_or}
use Rattle.std.specs.declared.alloc.Global.{Global}
use Rattle.scenario.specs.Setup.{Group, group_at}
use Rattle.scenario_reader.specs.Rules.{any_two}
use Rattle.scenario_reader.specs.declared.roster.Block.{Block}
use Rattle.scenario_reader.specs.declared.roster.Roster.TheInside.{Inside}

-- a group under its name
abbrev pub named_group : (String Global × Block) → Group
named_group entry = record { name = string_bytes entry.0; count = entry.1.count; start = entry.1.start; contact = None }

-- the first group's members have the numbers from n on, and each further group's those after them
abbrev pub AreNumberedFrom : ℕ → List Block → Type 0
AreNumberedFrom n [] = Unit {0}
AreNumberedFrom n (block ∷ blocks) = (block.first ≡ n) × (block.count < 2 ^ 64) × AreNumberedFrom (n + block.count) blocks

abbrev pub roster_of : Inside → List Group
roster_of r = map named_group r.groups.entries

-- the numbers follow one another and aren't too many, and the names differ
pub record IsRoster (r : Inside) : Type 0 where
  pub numbered : AreNumberedFrom 0 (map (λ entry. entry.1) r.groups.entries)
  pub small : sum_by (λ g. g.count) (roster_of r) < 2 ^ 128
  pub apart : any_two bytes_eq (map (λ g. g.name) (roster_of r)) ≡ false

-- when a member of groups starts
abbrev pub start_in : List Group → ℕ → ℕ
start_in groups m = option_map_or (λ g. g.start) (slice_get groups (group_at groups m)) 0
