-- Divisions of the members into parts, and numbers of workers.
use Rattle.std.specs.Prelude.{◌≡◌, ℕ, ◌≤◌, ◌%◌, List, Bool, false, not, ◌&&◌, if◌then◌else◌, Option, Some, None, Result, Ok, Err, nat_le, nat_eq, length, map}
use Rattle.std.specs.List.{list_any, range_with_len}
use Rattle.scenario.specs.declared.division.Division.TheInside.{Inside}
use Rattle.scenario.specs.declared.division.DivisionFault.{DivisionFault}
use Rattle.scenario.specs.declared.division.DivisionFault.TheVariants.{Parts, Length, PartNumber}

-- how many parts there are, and the part of each member, in the members' order
pub record Deal : Type 0 where
  pub parts : ℕ
  pub part_of : List ℕ

-- 1 to 64
abbrev pub is_few : ℕ → Bool
is_few n = nat_le 1 n && nat_le n 64

-- a part number isn't below the number of parts
abbrev pub has_part_past : ℕ → List ℕ → Bool
has_part_past parts part_of = list_any (λ part. nat_le parts part) part_of

-- One part below their number for each member; else the first fault of: not 1 to 64 parts, not one
-- number a member, a number past the parts.
abbrev pub divided : ℕ → ℕ → List ℕ → Result Deal DivisionFault
divided members parts part_of =
    if not (is_few parts) then Err Parts
    else if not (nat_eq (length part_of) members) then Err Length
    else if has_part_past parts part_of then Err PartNumber
    else Ok (record { parts = parts; part_of = part_of })

-- member m in part m mod the number of parts
abbrev pub in_turn : ℕ → ℕ → Deal
in_turn members parts = record { parts = parts; part_of = map (λ m. m % parts) (range_with_len 0 members) }

-- 1 to 64 workers
abbrev pub workers_of : ℕ → Option ℕ
workers_of n = if is_few n then Some n else None

abbrev pub deal_of : Inside → Deal
deal_of d = record { parts = d.parts; part_of = d.part_of.items }

-- 1 to 64 parts, and each part number is below their number
pub record IsDivision (d : Inside) : Type 0 where
  pub some : 1 ≤ d.parts
  pub few : d.parts ≤ 64
  pub below : has_part_past d.parts d.part_of.items ≡ false
