-- Crashes and leaves, and the restarts of those that are back.
use Rattle.std.specs.Prelude.{◌≤◌, ℕ, zero, suc, ◌+◌, ◌*◌, ◌^◌, Bool, true, false, List, [], ◌∷◌, map, flat_map, Option, Some, None}
use Rattle.streams.specs.Draw.{Words}
use Rattle.script_draws.specs.Again.{moments_of, IsRecurrence}
use Rattle.plain_entries.specs.declared.departures.Back.{Back}
use Rattle.plain_entries.specs.declared.departures.Departure.{Departure}
use Rattle.plain_entries.specs.declared.departures.DepartureTime.{DepartureTime}
use Rattle.plain_entries.specs.declared.departures.DepartureTime.TheVariants as departure
use Rattle.plain_entries.specs.declared.restarts.Restart.{Restart}
use Rattle.plain_entries.specs.declared.plain.Plain.{Plain}
use Rattle.plain_entries.specs.Entries.{Timing}

-- one that is back as the entry says
abbrev pub gone_at : Option Back → ℕ → Departure
gone_at back moment = record { at = moment; back = back }

abbrev pub departure_recurs : DepartureTime → Bool
departure_recurs (departure.Once at each back) = false
departure_recurs (departure.Again recurrence back) = true

-- the k-th member goes k times `each` after the first; or each again and again, always after its start
abbrev pub departure_times : DepartureTime → ℕ → ℕ → Words → List Departure × Words
departure_times (departure.Once at each back) k start words = (gone_at back (at + k * each) ∷ [], words)
departure_times (departure.Again recurrence back) k start words =
    let moments = moments_of recurrence back.after start words in
    (map (gone_at (Some back)) moments.0, moments.1)

abbrev pub departure_timing : Timing DepartureTime Departure
departure_timing = record { recurs = departure_recurs; times = departure_times }

-- whom a member asks that is back: the one that the entry names, else the first member of the text that isn't the
-- one itself
abbrev pub contact_of : Option ℕ → ℕ → ℕ
contact_of (Some contact) member = contact
contact_of None zero = 1
contact_of None (suc before) = 0

-- the restart of one that is back
abbrev pub back_of : Option Back → Plain Departure → List (Plain Restart)
back_of None gone = []
back_of (Some back) gone =
    record {
      entry = gone.entry;
      member = gone.member;
      time = record { at = gone.time.at + back.after; contact = Some (contact_of back.contact gone.member) };
      again = gone.again;
    }
    ∷ []

-- the restarts of those that are back, in the order in which they went
abbrev pub returns_of : List (Plain Departure) → List (Plain Restart)
returns_of departures = flat_map (λ gone. back_of gone.time.back gone) departures

-- what the format allows
abbrev pub IsBack : Option Back → Type 0
IsBack None = Unit {0}
IsBack (Some back) = back.after ≤ 2 ^ 40

abbrev pub IsDepartureTime : DepartureTime → Type 0
IsDepartureTime (departure.Once at each back) = (at ≤ 2 ^ 40) × (each ≤ 2 ^ 40) × IsBack back
IsDepartureTime (departure.Again recurrence back) = IsRecurrence recurrence × (back.after ≤ 2 ^ 40)

-- so that a restart's moment is one of 64 bits
pub record CanReturn (gone : Plain Departure) : Type 0 where
  pub at : gone.time.at ≤ 2 ^ 60
  pub back : IsBack gone.time.back
