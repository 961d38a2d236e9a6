-- The six lists of a document as entries, or the lowest rule that they break as they are written.
use Rattle.std.specs.Prelude.{◌≡◌, ℕ, if◌then◌else◌, List, map, nat_eq, nat_lt}
use Rattle.toml.specs.Data.{Data}
use Rattle.scenario.specs.Setup.{Group}
use Rattle.plain_entries.specs.declared.script.Script.{Script}
use Rattle.written_entries.specs.Ranges.{AreInRange}
use Rattle.written_names.specs.declared.roster.WrittenGroup.{WrittenGroup}
use Rattle.script_reader.specs.declared.lists.WrittenScript.{WrittenScript}
use Rattle.script_reader.specs.declared.script.ScriptFault.{ScriptFault}
use Rattle.script_reader.specs.declared.script.ScriptFault.TheVariants as fault
use Rattle.script_reader.specs.Entries.{departure_said, restart_said, said, spell_said}
use Rattle.script_reader.specs.Lists.{script_rule, IsWritten}
use Rattle.script_reader.specs.Rules.{no_rule}
use Rattle.script_reader.specs.Who.{member_total}

-- the lowest rule of the lists; else 10 where a text has too many members
unfoldable pub text_rule : List Group → List WrittenGroup → WrittenScript → ℕ
text_rule roster groups written =
    if nat_eq (script_rule roster written) no_rule then (if nat_lt 16384 (member_total groups) then 10 else no_rule) else script_rule roster written

-- item by item, the entries say what the items do
pub record IsScriptOf (roster : List Group) (groups : List WrittenGroup) (written : WrittenScript) (script : Script) : Type 0 where
  pub crashes : map said script.crashes.items ≡ map (departure_said roster groups) written.crashes.items.items
  pub leaves : map said script.leaves.items ≡ map (departure_said roster groups) written.leaves.items.items
  pub restarts : map said script.restarts.items ≡ map (restart_said roster groups) written.restarts.items.items
  pub slows : map said script.slows.items ≡ map (spell_said roster groups) written.slows.items.items
  pub pauses : map said script.pauses.items ≡ map (spell_said roster groups) written.pauses.items.items
  pub blocks : map said script.blocks.items ≡ map (spell_said roster groups) written.blocks.items.items

-- a document's lists as it writes them break no rule, and are this script
pub record IsScriptIn (tick : ℕ) (d : Data) (roster : List Group) (groups : List WrittenGroup) (script : Script) : Type 0 where
  pub written : WrittenScript
  pub reads : IsWritten tick d written
  pub fine : text_rule roster groups written ≡ no_rule
  pub says : IsScriptOf roster groups written script
  pub range : AreInRange (member_total groups) script

-- a document's lists as it writes them break this rule, and no lower one
pub record Breaks (tick : ℕ) (d : Data) (roster : List Group) (groups : List WrittenGroup) (rule : ℕ) : Type 0 where
  pub written : WrittenScript
  pub reads : IsWritten tick d written
  pub lowest : text_rule roster groups written ≡ rule

abbrev pub IsRefused : ℕ → Data → List Group → List WrittenGroup → ScriptFault → Type 0
IsRefused tick d roster groups (fault.Rule rule) = Breaks tick d roster groups rule
IsRefused tick d roster groups fault.Memory = Unit {0}
