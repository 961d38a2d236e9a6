-- Plain entries at moments that no text may name: rule 5 of the plain text.
use Rattle.std.specs.Prelude.{ℕ, ◌^◌, Bool, ◌||◌, nat_lt}
use Rattle.std.specs.List.{list_any}
use Rattle.plain_entries.specs.declared.departures.Departure.{Departure}
use Rattle.plain_entries.specs.declared.restarts.Restart.{Restart}
use Rattle.plain_entries.specs.declared.plain.Plain.{Plain}
use Rattle.plain_entries.specs.Script.{PlainLists}

-- the last moment that a text may name
abbrev pub last_moment : ℕ
last_moment = 2 ^ 40

abbrev pub is_late_departure : Plain Departure → Bool
is_late_departure it = nat_lt last_moment it.time.at

abbrev pub is_late_restart : Plain Restart → Bool
is_late_restart it = nat_lt last_moment it.time.at

-- a crash, leave or restart is past the last moment; a time ends when its entry says, at the latest
unfoldable pub has_late : PlainLists → Bool
has_late lists = list_any is_late_departure lists.crashes || (list_any is_late_departure lists.leaves || list_any is_late_restart lists.restarts)
