-- The six lists of a text, and the plain ones for which they stand. They draw in the order crash, leave, restart, slow,
-- pause, block.
use Rattle.std.specs.Prelude.{ℕ, ◌+◌, List, ◌++◌, All}
use Rattle.streams.specs.Draw.{Words}
use Rattle.scenario.specs.declared.spells.Spell.{Spell}
use Rattle.plain_entries.specs.declared.departures.Departure.{Departure}
use Rattle.plain_entries.specs.declared.restarts.Restart.{Restart}
use Rattle.plain_entries.specs.declared.plain.Plain.{Plain}
use Rattle.plain_entries.specs.declared.script.Script.{Script}
use Rattle.plain_entries.specs.declared.script.PlainScript.{PlainScript}
use Rattle.plain_entries.specs.Entries.{list_of, made_again, IsEntry}
use Rattle.plain_entries.specs.Departures.{departure_timing, returns_of, IsDepartureTime}
use Rattle.plain_entries.specs.Restarts.{restart_timing, IsRestartTime}
use Rattle.plain_entries.specs.Spells.{spell_timing, IsSpellTime}

-- the plain lists; `restarts` are the text's own, then those of `back`: of crashes, then of leaves
pub record PlainLists : Type 0 where
  pub crashes : List (Plain Departure)
  pub leaves : List (Plain Departure)
  pub restarts : List (Plain Restart)
  pub slows : List (Plain Spell)
  pub pauses : List (Plain Spell)
  pub blocks : List (Plain Spell)

unfoldable pub plain_of : (start : ℕ → ℕ) → Script → Words → PlainLists
plain_of start script words =
    let crashes = list_of departure_timing start script.crashes.items words in
    let leaves = list_of departure_timing start script.leaves.items crashes.1 in
    let restarts = list_of restart_timing start script.restarts.items leaves.1 in
    let slows = list_of spell_timing start script.slows.items restarts.1 in
    let pauses = list_of spell_timing start script.pauses.items slows.1 in
    let blocks = list_of spell_timing start script.blocks.items pauses.1 in
    record {
      crashes = crashes.0;
      leaves = leaves.0;
      restarts = restarts.0 ++ returns_of crashes.0 ++ returns_of leaves.0;
      slows = slows.0;
      pauses = pauses.0;
      blocks = blocks.0;
    }

-- the lists as they are handed out
abbrev pub lists_of : PlainScript → PlainLists
lists_of made = record {
  crashes = made.crashes.items;
  leaves = made.leaves.items;
  restarts = made.restarts.items;
  slows = made.slows.items;
  pauses = made.pauses.items;
  blocks = made.blocks.items;
}

-- how many entries `every` makes; a crash or leave and its restart are one
abbrev pub entries_made : PlainLists → ℕ
entries_made lists =
    made_again lists.crashes + made_again lists.leaves + made_again lists.slows + made_again lists.pauses + made_again lists.blocks

-- the most that `every` may make
abbrev pub most_made : ℕ
most_made = 100000

-- what the format allows of the six lists, where there are so many members
pub record IsScript (count : ℕ) (script : Script) : Type 0 where
  pub crashes : All (IsEntry IsDepartureTime count) script.crashes.items
  pub leaves : All (IsEntry IsDepartureTime count) script.leaves.items
  pub restarts : All (IsEntry IsRestartTime count) script.restarts.items
  pub slows : All (IsEntry IsSpellTime count) script.slows.items
  pub pauses : All (IsEntry IsSpellTime count) script.pauses.items
  pub blocks : All (IsEntry IsSpellTime count) script.blocks.items
