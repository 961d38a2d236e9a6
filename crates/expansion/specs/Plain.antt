-- Entries that stand for themselves: of one member, at one time, with nothing of chance.
use Rattle.std.specs.Prelude.{◌≡◌, ℕ, suc, false, List, [], ◌∷◌, None}
use Rattle.std.specs.List.{AllByRecursion}
use Rattle.streams.specs.Draw.{Words}
use Rattle.plain_entries.specs.declared.entry.Entry.{Entry}
use Rattle.plain_entries.specs.declared.plain.Plain.{Plain}
use Rattle.plain_entries.specs.declared.departures.DepartureTime.{DepartureTime}
use Rattle.plain_entries.specs.declared.script.Script.{Script}
use Rattle.plain_entries.specs.Departures.{departure_timing}
use Rattle.plain_entries.specs.Entries.{plain_at, Timing}
use Rattle.plain_entries.specs.Restarts.{restart_timing}
use Rattle.plain_entries.specs.Script.{PlainLists}
use Rattle.plain_entries.specs.Spells.{spell_timing}

-- the entry is about one member, at one time, which isn't drawn
pub record IsPlainEntry {W T : Type 0} (timing : Timing W T) (entry : Entry W) : Type 0 where
  pub member : ℕ
  pub time : T
  pub alone : entry.who.members.items ≡ member ∷ []
  pub all : entry.who.count ≡ None
  pub once : timing.recurs entry.when ≡ false
  pub says : (start : ℕ) (words : Words) → timing.times entry.when 0 start words ≡ (time ∷ [], words)

-- each of them with its place, from k on, its member and its time
abbrev pub as_they_are : {W T : Type 0} (timing : Timing W T) (k : ℕ) (entries : List (Entry W)) → AllByRecursion (IsPlainEntry timing) entries → List (Plain T)
as_they_are timing k [] plain = []
as_they_are timing k (entry ∷ entries) plain = plain_at k plain.0.member false plain.0.time ∷ as_they_are timing (suc k) entries plain.1

-- ---- the six lists

-- a crash or leave of one member at one moment, which isn't back by itself
pub record IsPlainDeparture (entry : Entry DepartureTime) : Type 0 where
  pub plain : IsPlainEntry departure_timing entry
  pub gone : plain.time.back ≡ None

-- such crashes or leaves as plain entries
abbrev pub are_plain : (entries : List (Entry DepartureTime)) → AllByRecursion IsPlainDeparture entries → AllByRecursion (IsPlainEntry departure_timing) entries
are_plain [] all = tt
are_plain (entry ∷ entries) all = (all.0.plain, are_plain entries all.1)

-- a text's six lists are plain
pub record IsPlainScript (script : Script) : Type 0 where
  pub crashes : AllByRecursion IsPlainDeparture script.crashes.items
  pub leaves : AllByRecursion IsPlainDeparture script.leaves.items
  pub restarts : AllByRecursion (IsPlainEntry restart_timing) script.restarts.items
  pub slows : AllByRecursion (IsPlainEntry spell_timing) script.slows.items
  pub pauses : AllByRecursion (IsPlainEntry spell_timing) script.pauses.items
  pub blocks : AllByRecursion (IsPlainEntry spell_timing) script.blocks.items

-- the lists as they are
abbrev pub lists_as_they_are : (script : Script) → IsPlainScript script → PlainLists
lists_as_they_are script plain = record {
  crashes = as_they_are departure_timing 0 script.crashes.items (are_plain script.crashes.items plain.crashes);
  leaves = as_they_are departure_timing 0 script.leaves.items (are_plain script.leaves.items plain.leaves);
  restarts = as_they_are restart_timing 0 script.restarts.items plain.restarts;
  slows = as_they_are spell_timing 0 script.slows.items plain.slows;
  pauses = as_they_are spell_timing 0 script.pauses.items plain.pauses;
  blocks = as_they_are spell_timing 0 script.blocks.items plain.blocks;
}
