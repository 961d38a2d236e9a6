-- False suspicions and false deaths as an operator counts them: each is one incident from the first member that holds it on, until no member that is up holds it.
use Rattle.std.specs.Prelude.{ℕ, ◌-◌, Bool, false, not, ◌&&◌, ◌||◌, ◌==◌, nat_le, nat_lt, List, count_by}
use Rattle.std.specs.Option.{option_map_or}
use Rattle.std.specs.List.{list_any}
use Rattle.trace.specs.declared.row.What.TheVariants as what
use Rattle.trace.specs.declared.row.Row.{Row}
use Rattle.trace_rows.specs.Rows.{Placed, rows_in_place, has_kind, is_about}
use Rattle.incidents.specs.declared.cluster.Trouble.{Trouble}
use Rattle.incidents.specs.Lives.{members, is_up}
use Rattle.incidents.specs.Views.{suspects, holds_dead}

-- a member that is up holds member j dead, in a cluster of so many
abbrev pub is_held_dead : ℕ → List Row → ℕ → Bool
is_held_dead count rows j = list_any (λ i. is_up rows i && holds_dead rows i j) (members count)

-- a member that is up suspects member j, or holds it dead
abbrev pub is_doubted : ℕ → List Row → ℕ → Bool
is_doubted count rows j = list_any (λ i. is_up rows i && (suspects rows i j || holds_dead rows i j)) (members count)

-- the row suspects a member or holds it dead, which is up and which nobody doubts yet: a false alarm
abbrev pub is_alarm : ℕ → Placed → Bool
is_alarm count p = (has_kind what.Suspect p.row || has_kind what.Confirm p.row)
    && option_map_or (λ j. is_up p.earlier j && not (is_doubted count p.earlier j)) p.row.about false

-- the row holds a member dead, which is up and which nobody holds dead yet: a false death
abbrev pub is_death : ℕ → Placed → Bool
is_death count p = has_kind what.Confirm p.row
    && option_map_or (λ j. is_up p.earlier j && not (is_held_dead count p.earlier j)) p.row.about false

-- the trouble is the member's, and lies in the time from the one moment to the other, with both its ends
abbrev pub meets : ℕ → ℕ → ℕ → Trouble → Bool
meets member least last trouble = (trouble.member == member) && (nat_le trouble.from last && nat_lt least trouble.until)

-- whom the row is about had no trouble at its moment, nor so many ticks before
abbrev pub is_well : List Trouble → ℕ → Row → Bool
is_well troubles reach row = option_map_or (λ j. not (list_any (meets j (row.at - reach) row.at) troubles)) row.about false

-- how many false alarms a trace has
abbrev pub alarms : ℕ → List Row → ℕ
alarms count rows = count_by (is_alarm count) (rows_in_place rows)

-- how many false deaths
abbrev pub deaths : ℕ → List Row → ℕ
deaths count rows = count_by (is_death count) (rows_in_place rows)

-- how many of these are of members that were well
abbrev pub deaths_well : ℕ → List Trouble → ℕ → List Row → ℕ
deaths_well count troubles reach rows = count_by (λ p. is_death count p && is_well troubles reach p.row) (rows_in_place rows)

-- the member had a false death
abbrev pub has_died : ℕ → List Row → ℕ → Bool
has_died count rows j = list_any (λ p. is_death count p && is_about j p.row) (rows_in_place rows)

-- how many members had one
abbrev pub members_dead : ℕ → List Row → ℕ
members_dead count rows = count_by (has_died count rows) (members count)
