-- What is kept of a document that breaks no rule as it is written.
use Rattle.std.specs.Prelude.{map}
use Rattle.toml.specs.Data.{Data}
use Rattle.lengths.specs.Lengths.{IsTick}
use Rattle.script_reader.specs.Script.{IsScriptIn}
use Rattle.written_names.specs.Roster.{group_of}
use Rattle.written_schema.specs.Lowest.{no_rule}
use Rattle.expanded_text.specs.Rule.{IsWrittenRule, Says}
use Rattle.expanded_text.specs.declared.written.WrittenText.{WrittenText}

pub record IsWrittenText (d : Data) (text : WrittenText) : Type 0 where
  pub range : IsTick text.tick
  pub says : Says d text.tick text.groups.items
  pub fine : IsWrittenRule text.tick text.groups.items d no_rule
  pub read : IsScriptIn text.tick d (map group_of text.groups.items) text.groups.items text.script
