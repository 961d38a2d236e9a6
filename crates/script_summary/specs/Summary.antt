-- The entries of all six lists of a text of version 4, and what they stand for.
use Rattle.std.specs.Prelude.{◌≡◌, ℕ, List, ◌++◌, map, Bool, true, false, Option, Some, None}
use Rattle.std.specs.List.{AllZip}
use Rattle.toml.specs.Data.{Data}
use Rattle.scenario.specs.Setup.{is_fourth}
use Rattle.scenario_reader.specs.Reading.{version_of}
use Rattle.schema.specs.Tree.{items_at}
use Rattle.schema.specs.declared.schema.FormatKey.TheVariants as key
use Rattle.plain_entries.specs.declared.plain.Plain.{Plain}
use Rattle.plain_entries.specs.declared.restarts.Restart.{Restart}
use Rattle.plain_entries.specs.declared.script.Script.{Script}
use Rattle.plain_entries.specs.Departures.{returns_of}
use Rattle.plain_entries.specs.Entries.{start_in}
use Rattle.plain_entries.specs.Script.{plain_of, PlainLists}
use Rattle.script_draws.specs.Turns.{text_words}
use Rattle.script_reader.specs.Script.{IsScriptIn}
use Rattle.written_groups.specs.Groups.{IsExtraIn}
use Rattle.written_names.specs.Roster.{group_of}
use Rattle.written_names.specs.declared.roster.WrittenGroup.{WrittenGroup}
use Rattle.expanded_text.specs.Rule.{seed_in, starts_of, Says}
use Rattle.script_summary.specs.Entries.{AreOf}
use Rattle.script_summary.specs.Happenings.{of_departure, of_restart, of_slow, of_spell}
use Rattle.script_summary.specs.declared.summary.RestartSummary.{RestartSummary}
use Rattle.script_summary.specs.declared.summary.ScriptSummary.{ScriptSummary}

-- the restarts are the text's own, then those of crashes and of leaves that are back
pub record HasReturns (lists : PlainLists) : Type 0 where
  pub own : List (Plain Restart)
  pub whole : lists.restarts ≡ own ++ returns_of lists.crashes ++ returns_of lists.leaves

-- the entries of a document that stand for restarts
pub record SumsUpRestarts (d : Data) (lists : PlainLists) (made : RestartSummary) : Type 0 where
  pub returns : HasReturns lists
  pub own : AreOf (items_at key.Restart d) (map of_restart returns.own) made.own.items
  pub of_crashes : AreOf (items_at key.Crash d) (map of_restart (returns_of lists.crashes)) made.of_crashes.items
  pub of_leaves : AreOf (items_at key.Leave d) (map of_restart (returns_of lists.leaves)) made.of_leaves.items

-- the entries of its six lists, which stand for these plain ones
pub record SumsUp (d : Data) (lists : PlainLists) (extras : List ℕ) (made : ScriptSummary) : Type 0 where
  pub crashes : AreOf (items_at key.Crash d) (map of_departure lists.crashes) made.crashes.items
  pub leaves : AreOf (items_at key.Leave d) (map of_departure lists.leaves) made.leaves.items
  pub restarts : SumsUpRestarts d lists made.restarts
  pub slows : AreOf (items_at key.Slow d) (map (of_slow extras) lists.slows) made.slows.items
  pub pauses : AreOf (items_at key.Pause d) (map of_spell lists.pauses) made.pauses.items
  pub blocks : AreOf (items_at key.Block d) (map of_spell lists.blocks) made.blocks.items

-- the plain entries for which a document stands, under its seed
pub record StandsFor (d : Data) (tick : ℕ) (groups : List WrittenGroup) (lists : PlainLists) : Type 0 where
  pub script : Script
  pub read : IsScriptIn tick d (map group_of groups) groups script
  pub plain : lists ≡ plain_of (start_in (starts_of groups)) script (text_words (seed_in d))

-- a document of version 4 summed up
pub record IsSummaryOf (d : Data) (made : ScriptSummary) : Type 0 where
  pub tick : ℕ
  pub groups : List WrittenGroup
  pub lists : PlainLists
  pub extras : List ℕ
  pub says : Says d tick groups
  pub stands : StandsFor d tick groups lists
  pub slow : AllZip (IsExtraIn tick) (items_at key.Slow d) extras
  pub sums : SumsUp d lists extras made

-- documents of other versions aren't summed up
abbrev pub IsSummaryBy : (fourth : Bool) → Data → Option ScriptSummary → Type 0
IsSummaryBy true d (Some made) = IsSummaryOf d made
IsSummaryBy true d None = ⊥
IsSummaryBy false d made = made ≡ None

-- nor are bytes that are no document
abbrev pub IsSummaryIn : Option Data → Option ScriptSummary → Type 0
IsSummaryIn None made = made ≡ None
IsSummaryIn (Some d) made = IsSummaryBy (is_fourth (version_of d)) d made
