-- The lines of all figures of a scenario, and of what happens in it.
use Rattle.std.specs.Prelude.{ℕ, List, ◌++◌, Option, Some, None}
use Rattle.scenario.specs.Setup.{Setup}
use Rattle.script_summary.specs.declared.summary.ScriptSummary.{ScriptSummary}
use Rattle.meaning_text.specs.Lines.{cluster_lines, quiet_lines, script_lines, time_lines}
use Rattle.meaning_text.specs.Summaries.{summary_lines}

-- what happens: entry by entry of a text of version 4, which is summed up; of another text each plain entry
abbrev pub script_lines_by : Setup → Option ScriptSummary → List ℕ
script_lines_by s None = script_lines s
script_lines_by s (Some script) = summary_lines s script

-- all lines but for the warnings
unfoldable pub figure_lines : Setup → Option ScriptSummary → Option ℕ → ℕ → List ℕ
figure_lines s script window trip = cluster_lines s window trip ++ time_lines s ++ script_lines_by s script ++ quiet_lines s
