-- What the file of a scenario holds, and why nothing was read from it.
use Rattle.std.specs.Prelude.{◌≡◌, ℕ, List, Option, None, Some, Result, Err}
use Rattle.toml.specs.Data.{Data}
use Rattle.hex.specs.Hex.{encode_lower}
use Rattle.sha2.specs.Sha256.{sha256}
use Rattle.clap.specs.Words.{Text}
use Rattle.scenario.specs.Setup.{Setup}
use Rattle.scenario_reader.specs.Rules.{tree_of}
use Rattle.text_reader.specs.Answers.{Answers}
use Rattle.files.specs.Files.{KnownFile, Holds}
use Rattle.command_line.specs.declared.failure.Failure.{Failure}
use Rattle.command_line.specs.declared.failure.Failure.TheVariants.{Rule}
use Rattle.scenario_files.specs.Shelves.{IsUnread}

-- a scenario's text that the file holds is answered so
abbrev pub HasVerdict : KnownFile → Result Setup ℕ → Type 0
HasVerdict known answer = (bytes : List ℕ) × Holds known bytes × Answers bytes answer

-- no scenario was read from the file of this name: it can't be read, its text breaks a rule, or memory was refused
abbrev pub LoadFails : KnownFile → Text → Failure → Type 0
LoadFails known file (Rule rule) = HasVerdict known (Err rule)
LoadFails known file failure = IsUnread known file failure

-- the bytes that the file holds are this document, or none
abbrev pub HasDocument : KnownFile → Option Data → Type 0
HasDocument known tree = (bytes : List ℕ) × Holds known bytes × (tree_of bytes ≡ tree)

-- the mark of a text: its SHA-256 in lower-case hex
abbrev pub mark_of : List ℕ → List ℕ
mark_of bytes = encode_lower (sha256 bytes)

-- the bytes that the file holds are this document, and have this mark
abbrev pub HasMarkedDocument : KnownFile → Data → List ℕ → Type 0
HasMarkedDocument known tree mark = (bytes : List ℕ) × Holds known bytes × (tree_of bytes ≡ Some tree) × (mark ≡ mark_of bytes)

-- no document was read from the file of this name: it can't be read, its bytes are none, which is rule 1, or memory was refused
abbrev pub HasNoDocument : KnownFile → Text → Failure → Type 0
HasNoDocument known file (Rule rule) = (rule ≡ 1) × HasDocument known None
HasNoDocument known file failure = IsUnread known file failure
