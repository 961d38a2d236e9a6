-- What words ask for, as `clap` reads them by the commands below.
use Rattle.std.specs.Prelude.{◌≡◌, ◌≢◌, ◌⊎◌, ◌&&◌, ◌||◌, ℕ, List, Option, Some, None, [], Bool, true, false, bytes_eq, not, codes, is_none, is_some, map, option_map, unwrap_or}
use Rattle.clap.specs.Lexer.{usize_max}
use Rattle.clap.specs.Words.{App, Row, Rule, Text, new_app, new_rule, with_rule, with_subcommand}
use Rattle.clap.specs.Words.{all_of, first_of, fault_of, subcommand_of, kind_of, IsAmong}
use Rattle.clap.specs.declared.error.kind.ErrorKind.{ErrorKind}
use Rattle.clap.specs.declared.error.kind.ErrorKind.TheVariants.{DisplayHelp, DisplayVersion}
use Rattle.sweep_plan.specs.Sweep.{Sweep as Planned}
use Rattle.sweep_plan.specs.Asked.{IsSweepOf}
use Rattle.goals.specs.Words.{AreWants}
use Rattle.goals.specs.declared.want.Want.{Want}
use Rattle.shards.specs.Shards.{IsShardWord}
use Rattle.shards.specs.declared.shard.Shard.{Shard}
use Rattle.presets.specs.Presets.{word_of}
use Rattle.presets.specs.declared.preset.Preset.{Preset}
use Rattle.decimals.specs.Numbers.{IsDecimal}
use Rattle.arguments.specs.Rules.{file_rule, flag_rule, is_given, option_rule, repeated_rule, required_rule}
use Rattle.ticks.specs.Ticks.{IsTickWord}
use Rattle.ticks.specs.declared.tick.Tick.{Tick}
use Rattle.command_line.specs.declared.words.Asked.{Asked}
use Rattle.command_line.specs.declared.words.Asked.TheVariants.{Run, Check, Explain, Expand, Sweep, Init, Join, Page, Drive, Help, Version}
use Rattle.command_line.specs.declared.driving.DriveWords.{DriveWords}
use Rattle.command_line.specs.declared.explaining.ExplainWords.{ExplainWords}
use Rattle.command_line.specs.declared.joining.JoinWords.{JoinWords}
use Rattle.command_line.specs.declared.paging.PageWords.{PageWords}
use Rattle.command_line.specs.declared.words.RunWords.{RunWords}
use Rattle.command_line.specs.declared.words.SweepWords.{SweepWords}
use Rattle.command_line.specs.declared.words.Split.{Split}
use Rattle.command_line.specs.declared.words.Split.TheVariants as split

-- a command, and what says how long a tick lasts: the option --tick
abbrev pub with_tick : App → App
with_tick app = with_rule app (option_rule (codes "tick"))

-- a command, and what says which files a run is written to: the option --trace, which is required; --report and --page
abbrev pub with_written : App → App
with_written app =
    let traced = with_rule app (required_rule (codes "trace")) in
    with_rule (with_rule traced (option_rule (codes "report"))) (option_rule (codes "page"))

-- and how long a tick lasts: --tick
abbrev pub with_outputs : App → App
with_outputs app = with_tick (with_written app)

-- and how many workers run it, and which part each member is in: --workers, --parts and --division
abbrev pub with_parting : App → App
with_parting app =
    let worked = with_rule app (option_rule (codes "workers")) in
    with_rule (with_rule worked (option_rule (codes "parts"))) (option_rule (codes "division"))

-- the command `run`: a file, which is required, the options of where it is written and those of who runs it, and the flag --progress
abbrev pub run_app : App
run_app = with_rule (with_parting (with_outputs (with_rule (new_app (codes "run")) file_rule))) (flag_rule (codes "progress"))

-- the command `drive`: a file, which is required, and the options of where the run is written
abbrev pub drive_app : App
drive_app = with_written (with_rule (new_app (codes "drive")) file_rule)

-- the command `check`: a file
abbrev pub check_app : App
check_app = with_rule (new_app (codes "check")) file_rule

-- the command `explain`: a file, and the flag --json
abbrev pub explain_app : App
explain_app = with_rule (with_rule (new_app (codes "explain")) file_rule) (flag_rule (codes "json"))

-- the command `expand`: a file
abbrev pub expand_app : App
expand_app = with_rule (new_app (codes "expand")) file_rule

-- a command, and what says which settings a sweep has, and by how many seeds: the options --seeds and --until; and --set, which may stand more
-- than once
abbrev pub with_settings : App → App
with_settings app =
    let seeded = with_rule app (option_rule (codes "seeds")) in
    with_rule (with_rule seeded (option_rule (codes "until"))) (repeated_rule (codes "set"))

-- and what says which runs are made and where their table goes: the option --table, which is required; the settings; --shard and --workers; and the
-- flag --resume
abbrev pub with_runs : App → App
with_runs app =
    let cased = with_settings (with_rule app (required_rule (codes "table"))) in
    let sharded = with_rule cased (option_rule (codes "shard")) in
    with_rule (with_rule sharded (flag_rule (codes "resume"))) (option_rule (codes "workers"))

-- a command, and what says which settings are printed, and how: the option --want, which may stand more than once; the flag --jsonl; and the
-- options --page and --tick
abbrev pub with_telling : App → App
with_telling app =
    let wanted = with_rule app (repeated_rule (codes "want")) in
    with_tick (with_rule (with_rule wanted (flag_rule (codes "jsonl"))) (option_rule (codes "page")))

-- the command `sweep`: a file, which is required, the options of its runs and those on the printed settings, and the flag --progress
abbrev pub sweep_app : App
sweep_app = with_rule (with_telling (with_runs (with_rule (new_app (codes "sweep")) file_rule))) (flag_rule (codes "progress"))

-- the files of shards: one or more
abbrev pub shards_rule : Rule
shards_rule = record (new_rule (codes "SHARD")) { required = true; range = Some (record { start_inclusive = 1; end_inclusive = usize_max }) }

-- the command `join`: files of shards and the option --table, both required, the options on the printed settings, and the option --name
abbrev pub join_app : App
join_app =
    let tabled = with_rule (with_rule (new_app (codes "join")) shards_rule) (required_rule (codes "table")) in
    with_rule (with_telling tabled) (option_rule (codes "name"))

-- the command `page`: files of shards and the option --out, both required, and the options --name and --tick
abbrev pub page_app : App
page_app = with_tick (with_rule (with_rule (with_rule (new_app (codes "page")) shards_rule) (required_rule (codes "out"))) (option_rule (codes "name")))

-- the command `init`: the name of a preset
abbrev pub preset_rule : Rule
preset_rule = record (new_rule (codes "PRESET")) { required = true }

abbrev pub init_app : App
init_app = with_rule (new_app (codes "init")) preset_rule

-- the program, whose words come without its name, and which has a version to print
abbrev pub bare_app : App
bare_app = let app = new_app (codes "swimsim") in
    record app { top = record app.top { has_version = true; no_binary_name = true; subcommand_required = true } }

unfoldable pub swimsim_app : App
swimsim_app =
    let checked = with_subcommand (with_subcommand bare_app run_app.top) check_app.top in
    let explained = with_subcommand (with_subcommand checked explain_app.top) expand_app.top in
    let swept = with_subcommand explained sweep_app.top in
    let joined = with_subcommand (with_subcommand swept init_app.top) join_app.top in
    with_subcommand (with_subcommand joined page_app.top) drive_app.top

-- the command that was met has this name
abbrev pub Meets : Text → Option (Text × List Row) → Type 0
Meets name met = (rows : List Row) × (met ≡ Some (name, rows))

-- how the members are to be divided: by --parts, by --division or, with neither, by the number of workers
abbrev pub IsSplitIn : List Row → Split → Type 0
IsSplitIn rows split.Workers = (first_of (codes "parts") rows ≡ None) × (first_of (codes "division") rows ≡ None)
IsSplitIn rows (split.Parts word) = (first_of (codes "parts") rows ≡ Some word.now) × (first_of (codes "division") rows ≡ None)
IsSplitIn rows (split.List list) = (first_of (codes "parts") rows ≡ None) × (first_of (codes "division") rows ≡ Some list.now)

-- the word says how long a tick lasts; nothing is said of it where there is no word
abbrev pub AsksForTick : Option Text → Option Tick → Type 0
AsksForTick None None = Unit {0}
AsksForTick None (Some tick) = ⊥
AsksForTick (Some word) None = ⊥
AsksForTick (Some word) (Some tick) = IsTickWord word tick

-- the word is `-`, by which other programs mean standard output
abbrev pub is_dash : Option Text → Bool
is_dash None = false
is_dash (Some word) = bytes_eq word (codes "-")

-- no file that is written is named so
abbrev pub names_files : List Row → Bool
names_files rows =
    not (is_dash (first_of (codes "trace") rows)) && (not (is_dash (first_of (codes "report") rows)) && (not (is_dash (first_of (codes "table") rows))
    && (not (is_dash (first_of (codes "page") rows)) && not (is_dash (first_of (codes "out") rows)))))

-- the command that was met is `run`, with these words
pub record IsRunIn (met : Option (Text × List Row)) (run : RunWords) : Type 0 where
  pub rows : List Row
  pub met_run : met ≡ Some (codes "run", rows)
  pub file : first_of (codes "FILE") rows ≡ Some run.file.now
  pub trace : first_of (codes "trace") rows ≡ Some run.trace.now
  pub report : first_of (codes "report") rows ≡ option_map (λ word. word.now) run.report
  pub page : first_of (codes "page") rows ≡ option_map (λ word. word.now) run.page
  pub tick : AsksForTick (first_of (codes "tick") rows) run.tick
  pub workers : first_of (codes "workers") rows ≡ option_map (λ word. word.now) run.workers
  pub divided : IsSplitIn rows run.split
  pub progress : is_given (first_of (codes "progress") rows) ≡ run.progress
  pub written : names_files rows ≡ true

-- the command that was met is `drive`, with these words
pub record IsDriveIn (met : Option (Text × List Row)) (drive : DriveWords) : Type 0 where
  pub rows : List Row
  pub met_drive : met ≡ Some (codes "drive", rows)
  pub file : first_of (codes "FILE") rows ≡ Some drive.file.now
  pub trace : first_of (codes "trace") rows ≡ Some drive.trace.now
  pub report : first_of (codes "report") rows ≡ option_map (λ word. word.now) drive.report
  pub page : first_of (codes "page") rows ≡ option_map (λ word. word.now) drive.page
  pub written : names_files rows ≡ true

-- the command that was met is `check`, with this file
pub record IsCheckIn (met : Option (Text × List Row)) (file : Text) : Type 0 where
  pub rows : List Row
  pub met_check : met ≡ Some (codes "check", rows)
  pub named : first_of (codes "FILE") rows ≡ Some file

-- the command that was met is `explain`, with these words
pub record IsExplainIn (met : Option (Text × List Row)) (explain : ExplainWords) : Type 0 where
  pub rows : List Row
  pub met_explain : met ≡ Some (codes "explain", rows)
  pub file : first_of (codes "FILE") rows ≡ Some explain.file.now
  pub json : is_given (first_of (codes "json") rows) ≡ explain.json

-- the command that was met is `expand`, with this file
pub record IsExpandIn (met : Option (Text × List Row)) (file : Text) : Type 0 where
  pub rows : List Row
  pub met_expand : met ≡ Some (codes "expand", rows)
  pub named : first_of (codes "FILE") rows ≡ Some file

-- the word is the number of hundredths that the interval of a setting may be wide for it to get no more seeds; nothing is said of it where there
-- is no word
abbrev pub AsksForWidth : Option Text → Option ℕ → Type 0
AsksForWidth None None = Unit {0}
AsksForWidth None (Some width) = ⊥
AsksForWidth (Some word) None = ⊥
AsksForWidth (Some word) (Some width) = IsDecimal word width

-- The words of all swept keys, in their order, that of the seeds and that of the width, if there are any, ask for this plan. Words that ask for
-- none, as a key that stands twice, make no sweep.
pub record IsPlanIn (rows : List Row) (plan : Planned) : Type 0 where
  pub width : AsksForWidth (first_of (codes "until") rows) plan.until
  pub planned : IsSweepOf (unwrap_or (all_of (codes "set") rows) []) (first_of (codes "seeds") rows) plan.until plan

-- this shard is asked for; none, and so the whole, where there is no word
abbrev pub AsksForShard : Option Text → Option Shard → Type 0
AsksForShard None None = Unit {0}
AsksForShard None (Some p) = ⊥
AsksForShard (Some word) None = ⊥
AsksForShard (Some word) (Some p) = IsShardWord word p

-- only a shard goes on where it was cut off; and only a whole sweep prints its settings and has a page
abbrev pub go_together : Option Text → Option Text → Bool → Bool → Bool
go_together None page resume jsonl = not resume
go_together (Some shard) page resume jsonl = is_none page && not jsonl

-- the words go together
abbrev pub have_sense : List Row → Bool
have_sense rows =
    go_together (first_of (codes "shard") rows) (first_of (codes "page") rows) (is_given (first_of (codes "resume") rows)) (is_given (first_of (codes "jsonl") rows))

-- the words of all that is wanted of settings, in their order, want these
abbrev pub AreWantsIn : List Row → List Want → Type 0
AreWantsIn rows wants = AreWants (unwrap_or (all_of (codes "want") rows) []) wants

-- the command that was met is `sweep`, with these words
pub record IsSweepIn (met : Option (Text × List Row)) (sweep : SweepWords) : Type 0 where
  pub rows : List Row
  pub met_sweep : met ≡ Some (codes "sweep", rows)
  pub file : first_of (codes "FILE") rows ≡ Some sweep.file.now
  pub table : first_of (codes "table") rows ≡ Some sweep.table.now
  pub plan : IsPlanIn rows sweep.plan
  pub shard : AsksForShard (first_of (codes "shard") rows) sweep.shard
  pub wants : AreWantsIn rows sweep.wants.items
  pub workers : first_of (codes "workers") rows ≡ option_map (λ word. word.now) sweep.workers
  pub progress : is_given (first_of (codes "progress") rows) ≡ sweep.progress
  pub resume : is_given (first_of (codes "resume") rows) ≡ sweep.resume
  pub jsonl : is_given (first_of (codes "jsonl") rows) ≡ sweep.jsonl
  pub page : first_of (codes "page") rows ≡ option_map (λ word. word.now) sweep.page
  pub tick : AsksForTick (first_of (codes "tick") rows) sweep.tick
  pub sense : have_sense rows ≡ true
  pub written : names_files rows ≡ true

-- the command that was met is `init`, with the name of this preset
pub record IsInitIn (met : Option (Text × List Row)) (preset : Preset) : Type 0 where
  pub rows : List Row
  pub met_init : met ≡ Some (codes "init", rows)
  pub named : first_of (codes "PRESET") rows ≡ Some (word_of preset)

-- the command that was met is `init`, with a word that is no preset's name
pub record NamesNoPreset (met : Option (Text × List Row)) : Type 0 where
  pub rows : List Row
  pub met_init : met ≡ Some (codes "init", rows)
  pub word : Text
  pub given : first_of (codes "PRESET") rows ≡ Some word
  pub unknown : (preset : Preset) → ¬ (word_of preset ≡ word)

-- a name for the scenario may be given only where there is a page that takes it
abbrev pub may_name : Option Text → Option Text → Bool
may_name page name = is_none name || is_some page

-- the command that was met is `join`, with these words
pub record IsJoinIn (met : Option (Text × List Row)) (join : JoinWords) : Type 0 where
  pub rows : List Row
  pub met_join : met ≡ Some (codes "join", rows)
  pub files : map (λ word. word.now) join.files.items ≡ unwrap_or (all_of (codes "SHARD") rows) []
  pub table : first_of (codes "table") rows ≡ Some join.table.now
  pub wants : AreWantsIn rows join.wants.items
  pub jsonl : is_given (first_of (codes "jsonl") rows) ≡ join.jsonl
  pub page : first_of (codes "page") rows ≡ option_map (λ word. word.now) join.page
  pub name : first_of (codes "name") rows ≡ option_map (λ word. word.now) join.name
  pub tick : AsksForTick (first_of (codes "tick") rows) join.tick
  pub sense : may_name (first_of (codes "page") rows) (first_of (codes "name") rows) ≡ true
  pub written : names_files rows ≡ true

-- the command that was met is `page`, with these words
pub record IsPageIn (met : Option (Text × List Row)) (wish : PageWords) : Type 0 where
  pub rows : List Row
  pub met_page : met ≡ Some (codes "page", rows)
  pub files : map (λ word. word.now) wish.files.items ≡ unwrap_or (all_of (codes "SHARD") rows) []
  pub page : first_of (codes "out") rows ≡ Some wish.page.now
  pub name : first_of (codes "name") rows ≡ option_map (λ word. word.now) wish.name
  pub tick : AsksForTick (first_of (codes "tick") rows) wish.tick
  pub written : names_files rows ≡ true

-- the words have no fault, and ask for this run
abbrev pub AsksForRun : List Text → RunWords → Type 0
AsksForRun words run = (fault_of swimsim_app words ≡ []) × IsRunIn (subcommand_of swimsim_app words) run

-- the words have no fault, and ask to check this file
abbrev pub AsksForCheck : List Text → Text → Type 0
AsksForCheck words file = (fault_of swimsim_app words ≡ []) × IsCheckIn (subcommand_of swimsim_app words) file

-- the words have no fault, and ask to explain a file so
abbrev pub AsksForExplain : List Text → ExplainWords → Type 0
AsksForExplain words explain = (fault_of swimsim_app words ≡ []) × IsExplainIn (subcommand_of swimsim_app words) explain

-- the words ask to explain some file
abbrev pub AsksToExplain : List Text → Type 0
AsksToExplain words = (explain : ExplainWords) × AsksForExplain words explain

-- the words have no fault, and ask to expand this file
abbrev pub AsksForExpand : List Text → Text → Type 0
AsksForExpand words file = (fault_of swimsim_app words ≡ []) × IsExpandIn (subcommand_of swimsim_app words) file

-- the words have no fault, and ask for this sweep
abbrev pub AsksForSweep : List Text → SweepWords → Type 0
AsksForSweep words sweep = (fault_of swimsim_app words ≡ []) × IsSweepIn (subcommand_of swimsim_app words) sweep

-- the words have no fault, and ask for the scenario of this preset
abbrev pub AsksForInit : List Text → Preset → Type 0
AsksForInit words preset = (fault_of swimsim_app words ≡ []) × IsInitIn (subcommand_of swimsim_app words) preset

-- the words have no fault, and ask to join so
abbrev pub AsksForJoin : List Text → JoinWords → Type 0
AsksForJoin words join = (fault_of swimsim_app words ≡ []) × IsJoinIn (subcommand_of swimsim_app words) join

-- the words have no fault, and ask for this page
abbrev pub AsksForPage : List Text → PageWords → Type 0
AsksForPage words page = (fault_of swimsim_app words ≡ []) × IsPageIn (subcommand_of swimsim_app words) page

-- the words have no fault, and ask for this drive
abbrev pub AsksForDrive : List Text → DriveWords → Type 0
AsksForDrive words drive = (fault_of swimsim_app words ≡ []) × IsDriveIn (subcommand_of swimsim_app words) drive

-- the words ask for some drive
abbrev pub AsksToDrive : List Text → Type 0
AsksToDrive words = (drive : DriveWords) × AsksForDrive words drive

-- the words ask for help
abbrev pub AsksForHelp : List Text → Type 0
AsksForHelp words = IsAmong DisplayHelp (fault_of swimsim_app words)

-- the words ask which release of the program this is
abbrev pub AsksForVersion : List Text → Type 0
AsksForVersion words = IsAmong DisplayVersion (fault_of swimsim_app words)

-- what the words ask for
abbrev pub Answers : List Text → Asked → Type 0
Answers words (Run run) = AsksForRun words run
Answers words (Check file) = AsksForCheck words file.now
Answers words (Explain explain) = AsksForExplain words explain
Answers words (Expand file) = AsksForExpand words file.now
Answers words (Sweep sweep) = AsksForSweep words sweep
Answers words (Init preset) = AsksForInit words preset
Answers words (Join join) = AsksForJoin words join
Answers words (Page page) = AsksForPage words page
Answers words (Drive drive) = AsksForDrive words drive
Answers words (Help help) = (kind_of help ≡ DisplayHelp) × AsksForHelp words
Answers words Version = AsksForVersion words

-- the words have no fault, but ask for no run, no check, no explanation, no sweep, no preset's scenario, no joining, no page, no drive and no
-- plain text
abbrev pub AsksForNone : List Text → Type 0
AsksForNone words = (fault_of swimsim_app words ≡ []) × ((run : RunWords) → ¬ (AsksForRun words run))
    × ((file : Text) → ¬ (AsksForCheck words file)) × ((explain : ExplainWords) → ¬ (AsksForExplain words explain))
    × ((sweep : SweepWords) → ¬ (AsksForSweep words sweep)) × ((preset : Preset) → ¬ (AsksForInit words preset))
    × ((join : JoinWords) → ¬ (AsksForJoin words join)) × ((page : PageWords) → ¬ (AsksForPage words page))
    × ((drive : DriveWords) → ¬ (AsksForDrive words drive)) × ((file : Text) → ¬ (AsksForExpand words file))

-- the words have a fault that is no wish for help or for the version, or none but ask for nothing else that there is
abbrev pub IsNoCommand : List Text → Type 0
IsNoCommand words = ((kind : ErrorKind) × (kind ≢ DisplayHelp) × (kind ≢ DisplayVersion) × IsAmong kind (fault_of swimsim_app words)) ⊎ AsksForNone words

-- the words ask for the scenario of a preset that there isn't, and so for nothing that there is
abbrev pub AsksForNoPreset : List Text → Type 0
AsksForNoPreset words = NamesNoPreset (subcommand_of swimsim_app words) × AsksForNone words

-- the words ask for a run, a check, an explanation, a sweep, a preset's scenario, a joining, a page, a drive, help, the version or a plain text
abbrev pub IsCommand : List Text → Type 0
IsCommand words = ((run : RunWords) × AsksForRun words run) ⊎ (((file : Text) × AsksForCheck words file)
    ⊎ (((explain : ExplainWords) × AsksForExplain words explain)
    ⊎ (((sweep : SweepWords) × AsksForSweep words sweep)
    ⊎ (((preset : Preset) × AsksForInit words preset) ⊎ (((join : JoinWords) × AsksForJoin words join)
    ⊎ (((page : PageWords) × AsksForPage words page) ⊎ (((drive : DriveWords) × AsksForDrive words drive)
    ⊎ (AsksForHelp words ⊎ (AsksForVersion words ⊎ ((file : Text) × AsksForExpand words file))))))))))
