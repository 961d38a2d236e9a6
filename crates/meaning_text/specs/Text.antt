-- The whole text: the figures, the warnings, and how many there are.
use Rattle.std.specs.Prelude.{ℕ, List, [], ◌++◌, codes, decimal, flat_map, length, Option, Some, None}
use Rattle.scenario.specs.Setup.{Setup}
use Rattle.reports.specs.Text.{count_line}
use Rattle.warnings.specs.declared.warning.Warning.{Warning}
use Rattle.warnings.specs.declared.about.Placed.{Placed}
use Rattle.warnings.specs.declared.findings.Findings.{Findings}
use Rattle.script_summary.specs.declared.summary.ScriptSummary.{ScriptSummary}
use Rattle.meaning_text.specs.Figures.{figure_lines}
use Rattle.meaning_text.specs.Numbers.{numbers_of}
use Rattle.meaning_text.specs.Words.{kind_of, reason_of, remedy_of}
use Rattle.meaning_text.specs.declared.numbers.Pair.{Pair}

-- two numbers that are compared, if there are
abbrev pub numbers_text : Option Pair → List ℕ
numbers_text None = []
numbers_text (Some p) = codes " (" ++ decimal p.left ++ codes " against " ++ decimal p.right ++ codes ")"

-- the reason of a warning
unfoldable pub message_of : Setup → ℕ → Warning → List ℕ
message_of s trip w = reason_of w ++ numbers_text (numbers_of s trip w)

-- the word for a warning
unfoldable pub warning_head : Warning → List ℕ
warning_head w = codes "warning[" ++ kind_of w ++ codes "]: "

-- where a warning is, and what mends it
unfoldable pub warning_end : List ℕ → Placed → List ℕ
warning_end file w =
    codes "\n  --> " ++ file ++ codes ":" ++ decimal w.place.line ++ codes ":" ++ decimal w.place.column ++ codes "\n   = " ++ remedy_of w.warning ++ codes "\n"

-- the lines of a warning: its kind and its reason, where it is, and what mends it
unfoldable pub warning_text : List ℕ → Setup → ℕ → Placed → List ℕ
warning_text file s trip w = warning_head w.warning ++ message_of s trip w.warning ++ warning_end file w

abbrev pub text_of : List ℕ → Setup → Option ScriptSummary → Findings → List Placed → List ℕ
text_of file s script found placed =
    figure_lines s script found.window found.round_trip ++ flat_map (warning_text file s found.round_trip) placed ++ count_line (codes "warnings") (length placed)
