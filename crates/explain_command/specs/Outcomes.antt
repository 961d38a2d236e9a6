-- What `explain` prints of the scenario of a file, and why it prints nothing.
use Rattle.std.specs.Prelude.{◌≡◌, ℕ, List, Bool, true, false, Option, Some, None, Result, Ok, Err}
use Rattle.std.specs.Io.KnownBytes.{Appends}
use Rattle.scenario.specs.Setup.{Setup}
use Rattle.diagnostic_text.specs.Told.{TellsDocument, TellsLines}
use Rattle.explain_command.specs.Told.{TellsMeaning, TellsMeaningDocument}
use Rattle.files.specs.Files.{KnownFile, Holds}
use Rattle.shown_names.specs.Shown.{shown_name}
use Rattle.command_line.specs.declared.explaining.ExplainWords.{ExplainWords}
use Rattle.command_line.specs.declared.failure.Failure.{Failure}
use Rattle.command_line.specs.declared.failure.Failure.TheVariants.{Mistaken, Output}
use Rattle.text_reader.specs.Answers.{Answers}
use Rattle.scenario_files.specs.Shelves.{IsUnread}

-- the text has the diagnostics of a scenario that is refused by this rule, as a JSON document or in lines
abbrev pub TellsDiagnostics : Bool → ℕ → List ℕ → Type 0
TellsDiagnostics true rule text = TellsDocument rule text
TellsDiagnostics false rule text = TellsLines rule text

-- the text says what a scenario means that the file of this name says in these bytes, as a JSON document or in lines
abbrev pub TellsSetup : Bool → (bytes : List ℕ) → Setup → (file text : List ℕ) → Type 0
TellsSetup true bytes s file text = TellsMeaningDocument bytes s file text
TellsSetup false bytes s file text = TellsMeaning bytes s (shown_name file) text

-- The text explains a scenario in these bytes with this verdict: of one that breaks no rule what it means; of another its diagnostics, the
-- least rule among which is the one that it is refused by.
abbrev pub TellsText : (bytes : List ℕ) → Result Setup ℕ → ExplainWords → Option ℕ → List ℕ → Type 0
TellsText bytes (Ok s) explain broken text = (broken ≡ None) × TellsSetup explain.json bytes s explain.file.now text
TellsText bytes (Err rule) explain broken text = (broken ≡ Some rule) × TellsDiagnostics explain.json rule text

-- the text explains what bytes are answered
abbrev pub TellsBytes : List ℕ → ExplainWords → Option ℕ → List ℕ → Type 0
TellsBytes bytes explain broken text = (answer : Result Setup ℕ) × Answers bytes answer × TellsText bytes answer explain broken text

-- the text explains the scenario of the file
abbrev pub TellsOf : KnownFile → ExplainWords → Option ℕ → List ℕ → Type 0
TellsOf known explain broken text = (bytes : List ℕ) × Holds known bytes × TellsBytes bytes explain broken text

-- what an accepted scenario means was printed
abbrev pub PrintsMeaning : KnownFile → ExplainWords → Option (List ℕ) → Option (List ℕ) → Type 0
PrintsMeaning known explain old new = (text : List ℕ) × TellsOf known explain None text × Appends old new text

-- some text explains the scenario
abbrev pub IsExplained : KnownFile → ExplainWords → Type 0
IsExplained known explain = (broken : Option ℕ) × (text : List ℕ) × TellsOf known explain broken text

-- No scenario's meaning was printed: the text is refused by this rule, and its diagnostics were printed; standard output took
-- less than the explanation; or the file was not read.
abbrev pub ExplainFails : KnownFile → ExplainWords → Option (List ℕ) → Option (List ℕ) → Failure → Type 0
ExplainFails known explain old new (Mistaken rule) = (text : List ℕ) × TellsOf known explain (Some rule) text × Appends old new text
ExplainFails known explain old new Output = IsExplained known explain
ExplainFails known explain old new failure = IsUnread known explain.file.now failure
