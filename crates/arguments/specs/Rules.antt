-- The kinds of a command's arguments, as `clap` knows them.
use Rattle.std.specs.Prelude.{◌≡◌, Bool, true, false, Option, Some, None, codes}
use Rattle.std.specs.Str.{bytes_eq}
use Rattle.clap.specs.Words.{App, Rule, Text, app_of, new_rule}
use Rattle.clap.specs.declared.builder.command.Command.{Command}
use Rattle.clap.specs.declared.builder.command.Command.TheViews.{out-Command}
use Rattle.clap.specs.declared.builder.action.ArgAction.TheVariants.{Append, SetTrue}

-- the scenario's file
abbrev pub file_rule : Rule
file_rule = record (new_rule (codes "FILE")) { required = true }

-- an option with one value, which may be left out
abbrev pub option_rule : Text → Rule
option_rule name = record (new_rule name) { long = Some name; value_names = 1 }

-- one that must be given
abbrev pub required_rule : Text → Rule
required_rule name = record (option_rule name) { required = true }

-- one that may be given any number of times, with a value each time
abbrev pub repeated_rule : Text → Rule
repeated_rule name = record (option_rule name) { action = Some Append }

-- a flag, which takes no value and may be left out
abbrev pub flag_rule : Text → Rule
flag_rule name = record (new_rule name) { long = Some name; action = Some SetTrue }

-- what `clap` knows as this, with no argument that holds for what stands below it
abbrev pub IsLocal : App → Command → Type 0
IsLocal app command = (app_of command ≡ app) × ((out-Command command).has_globals ≡ false)

-- a flag that was given has the value "true"
abbrev pub is_given : Option Text → Bool
is_given None = false
is_given (Some word) = bytes_eq word (codes "true")
