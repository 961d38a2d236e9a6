-- The explanation of an accepted scenario.
use Rattle.std.specs.Prelude.{◌≡◌, ◌++◌, List, ℕ, codes, map, Option}
use Rattle.scenario.specs.Setup.{Setup}
use Rattle.serde_json.specs.Written.{IsInOrder}
use Rattle.warnings.specs.declared.about.Placed.{Placed}
use Rattle.warnings.specs.declared.findings.Findings.{Findings}
use Rattle.warnings.specs.Findings.{AreFindings}
use Rattle.meaning_text.specs.Text.{text_of}
use Rattle.meaning_json.specs.Document.{document}
use Rattle.scenario_reader.specs.Rules.{tree_of}
use Rattle.script_summary.specs.Summary.{IsSummaryIn}
use Rattle.script_summary.specs.declared.summary.ScriptSummary.{ScriptSummary}

-- what is found in the scenario, each warning with some place in its text
pub record IsFound (s : Setup) (found : Findings) (placed : List Placed) : Type 0 where
  pub are : AreFindings s found
  pub each : map (λ p. p.warning) placed ≡ found.warnings.items

-- the text has the lines of a scenario in these bytes: its figures, what happens, and each of its warnings
pub record TellsMeaning (bytes : List ℕ) (s : Setup) (file text : List ℕ) : Type 0 where
  pub found : Findings
  pub placed : List Placed
  pub script : Option ScriptSummary
  pub is : IsFound s found placed
  pub sums : IsSummaryIn (tree_of bytes) script
  pub lines : text ≡ text_of file s script found placed

-- the text is the JSON document of a scenario in these bytes, and a line feed
pub record TellsMeaningDocument (bytes : List ℕ) (s : Setup) (file text : List ℕ) : Type 0 where
  pub found : Findings
  pub placed : List Placed
  pub script : Option ScriptSummary
  pub is : IsFound s found placed
  pub sums : IsSummaryIn (tree_of bytes) script
  pub json : List ℕ
  pub written : IsInOrder json (document file s script found placed)
  pub whole : text ≡ json ++ codes "\n"
