-- What the scenario of a file stands for, and why no plain text is printed.
use Rattle.std.specs.Prelude.{ℕ, List}
use Rattle.clap.specs.Words.{Text}
use Rattle.files.specs.Files.{KnownFile, Holds}
use Rattle.command_line.specs.declared.failure.Failure.{Failure}
use Rattle.command_line.specs.declared.failure.Failure.TheVariants.{Rule}
use Rattle.scenario_files.specs.Shelves.{IsUnread}
use Rattle.expand_command.specs.Texts.{RefusesBytes, StandsFor}

-- the plain text of the text that the file holds
abbrev pub ExpandsTo : KnownFile → List ℕ → Type 0
ExpandsTo known text = (bytes : List ℕ) × Holds known bytes × StandsFor bytes text

-- there is none: the text breaks this rule and no lower one, the file can't be read, or memory was refused
abbrev pub ExpandFails : KnownFile → Text → Failure → Type 0
ExpandFails known file (Rule rule) = (bytes : List ℕ) × Holds known bytes × RefusesBytes bytes rule
ExpandFails known file failure = IsUnread known file failure
