-- What was printed of a file, or why nothing was.
use Rattle.std.proofs.Common.{◌≡◌, ℕ, List, Option, None, Some, sym, subst}
use Rattle.std.specs.Io.KnownBytes.{Appends}
use Rattle.files.specs.Files.{KnownFile}
use Rattle.command_line.specs.declared.explaining.ExplainWords.{ExplainWords}
use Rattle.command_line.specs.declared.failure.Failure.{Failure}
use Rattle.command_line.specs.declared.failure.Failure.TheVariants.{File, Usage, Preset, NoItem, Rule, Mistaken, Setting, Shards, Workers, Division, Run, Memory, Drive, Output}
use Rattle.scenario_files.specs.Shelves.{IsUnread}
use Rattle.explain_command.specs.Outcomes.{ExplainFails, IsExplained, PrintsMeaning, TellsOf}

-- a file that was not read isn't explained
pub unread : (known : KnownFile) (explain : ExplainWords) (old new : Option (List ℕ)) (failure : Failure)
    → IsUnread known explain.file.now failure → ExplainFails known explain old new failure
unread known explain old new (File name) h = h
unread known explain old new Memory h = h
unread known explain old new Usage h = h
unread known explain old new Preset h = h
unread known explain old new (NoItem key) h = h
unread known explain old new (Rule rule) h = h
unread known explain old new (Mistaken rule) h = absurd h
unread known explain old new (Setting rule settings) h = h
unread known explain old new (Shards cause) h = h
unread known explain old new Workers h = h
unread known explain old new (Division cause) h = h
unread known explain old new (Run cause) h = h
unread known explain old new (Drive cause) h = h
unread known explain old new Output h = absurd h

-- standard output took less than the explanation
pub unprinted : (known : KnownFile) (explain : ExplainWords) (old new : Option (List ℕ)) (failure : Failure)
    → failure ≡ Output → IsExplained known explain → ExplainFails known explain old new failure
unprinted known explain old new failure is h = subst (ExplainFails known explain old new) (sym is) h

-- what a scenario means was printed, or the diagnostics of one that is refused
pub meant : (known : KnownFile) (explain : ExplainWords) (old new : Option (List ℕ)) (broken : Option ℕ) (text shown : List ℕ)
    → broken ≡ None → TellsOf known explain broken text → shown ≡ text → Appends old new shown → PrintsMeaning known explain old new
meant known explain old new broken text shown is told whole printed =
    (text, subst (λ (b : Option ℕ). TellsOf known explain b text) is told, subst (Appends old new) whole printed)

pub mistaken : (known : KnownFile) (explain : ExplainWords) (old new : Option (List ℕ)) (broken : Option ℕ) (text shown : List ℕ) (rule : ℕ)
    → broken ≡ Some rule → TellsOf known explain broken text → shown ≡ text → Appends old new shown → ExplainFails known explain old new (Mistaken rule)
mistaken known explain old new broken text shown rule is told whole printed =
    (text, subst (λ (b : Option ℕ). TellsOf known explain b text) is told, subst (Appends old new) whole printed)
