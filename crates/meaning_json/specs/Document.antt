-- The whole document.
use Rattle.std.specs.Prelude.{ℕ, List, true, codes, map, Option}
use Rattle.scenario.specs.Setup.{Setup, member_count}
use Rattle.serde_json.specs.Data.{Data, boolean, string, object, put, no_members}
use Rattle.warnings.specs.declared.about.Place.{Place}
use Rattle.warnings.specs.declared.about.Placed.{Placed}
use Rattle.warnings.specs.declared.findings.Findings.{Findings}
use Rattle.meaning_text.specs.Words.{kind_of, remedy_of}
use Rattle.meaning_text.specs.Text.{message_of}
use Rattle.meaning_json.specs.Figures.{whole, whole_or_null, list_of, link_data, groups_data, paths_data, times_data, news_data, quiet_data}
use Rattle.script_summary.specs.declared.summary.ScriptSummary.{ScriptSummary}
use Rattle.meaning_json.specs.Summaries.{script_data_by}

-- a kind, a reason, what mends that, and where it is
unfoldable pub warning_with : List ℕ → List ℕ → List ℕ → Place → Data
warning_with kind message remedy place =
    object (put (codes "length") (whole place.length) (put (codes "column") (whole place.column) (put (codes "line") (whole place.line)
    (put (codes "remedy") (string remedy) (put (codes "message") (string message) (put (codes "kind") (string kind) no_members))))))

-- a warning
abbrev pub warning_data : Setup → ℕ → Placed → Data
warning_data s trip w = warning_with (kind_of w.warning) (message_of s trip w.warning) (remedy_of w.warning) w.place

abbrev pub warnings_data : Setup → ℕ → List Placed → Data
warnings_data s trip placed = list_of (map (warning_data s trip) placed)

-- the members, their links, and how long answers take
unfoldable pub cluster_data : Setup → Option ℕ → ℕ → Data
cluster_data s window trip =
    object (put (codes "round_trip") (whole trip) (put (codes "window") (whole_or_null window) (put (codes "paths") (paths_data s) (put (codes "link") (link_data s.link)
    (put (codes "groups") (groups_data s) (put (codes "members") (whole (member_count s)) no_members))))))

-- the figures of a scenario
unfoldable pub figures_data : Setup → Option ScriptSummary → Option ℕ → ℕ → Data
figures_data s script window trip =
    object (put (codes "quiet") (quiet_data s) (put (codes "script") (script_data_by s script) (put (codes "news") (news_data s) (put (codes "times") (times_data s)
    (put (codes "cluster") (cluster_data s window trip) no_members)))))

-- that the scenario of a file is accepted, figures and warnings
unfoldable pub document_with : List ℕ → Data → Data → Data
document_with file figures warnings =
    object (put (codes "warnings") warnings (put (codes "figures") figures (put (codes "accepted") (boolean true) (put (codes "file") (string file) no_members))))

-- those of a scenario
abbrev pub document : List ℕ → Setup → Option ScriptSummary → Findings → List Placed → Data
document file s script found placed = document_with file (figures_data s script found.window found.round_trip) (warnings_data s found.round_trip placed)
