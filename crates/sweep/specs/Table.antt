-- The lines of a sweep's table, and how far they have come.
use Rattle.std.specs.Prelude.{◌≡◌, ◌≤◌, ℕ, ◌⊎◌, List, ◌++◌, true, false, Option, Result, Ok, Err, IfOk, Vec, map}
use Rattle.std.specs.List.{AllZip, flat_map}
use Rattle.std.specs.Io.KnownBytes.{Appends}
use Rattle.std.specs.declared.alloc.Global.{Global}
use Rattle.toml.specs.Data.{Data}
use Rattle.base.specs.declared.fault.Fault.{Fault}
use Rattle.base.specs.declared.fault.Fault.TheVariants as fault
use Rattle.base.specs.declared.fault.Memory.{Memory}
use Rattle.schema.specs.declared.schema.Version.{Version}
use Rattle.schema.specs.declared.schema.Version.TheVariants.{One, Two, Three, Four}
use Rattle.scenario.specs.Setup.{Setup}
use Rattle.scenario_reader.specs.Reading.{version_of}
use Rattle.trace.specs.Sinks.{AppendsBeginning}
use Rattle.member_laws.specs.Runs.{CounterOverflows}
use Rattle.run_output.specs.Promise.{ReportOverflows}
use Rattle.figures.specs.declared.column_set.ColumnSet.{ColumnSet}
use Rattle.figures.specs.declared.column_set.ColumnSet.TheVariants.{First, WithRevived, WithIncidents}
use Rattle.figures.specs.Figures.{figures_of}
use Rattle.figures.specs.Lines.{run_line}
use Rattle.figures.specs.Notes.{note_cell}
use Rattle.sweep_plan.specs.Keys.{key_name}
use Rattle.sweep_plan.specs.Values.{value_text}
use Rattle.sweep_plan.specs.Sweep.{KeyValues, Sweep}
use Rattle.sweep_plan.specs.declared.choice.Choice.{Choice}
use Rattle.line_sums.specs.Sums.{summed}
use Rattle.sweep.specs.declared.making.MadeRun.{MadeRun}
use Rattle.sweep.specs.Runs.{Planned, Made, IsMadeAs, AreMadeBetween, IsAnswered, IsRunAt, noted}

-- the values of a setting, as words say them
abbrev pub texts_of : List Choice → List (List ℕ)
texts_of chosen = map (λ c. value_text c.value) chosen

-- the keys that are set, in the order of the words
abbrev pub names_of : List KeyValues → List (List ℕ)
names_of swept_keys = map (λ s. key_name s.key) swept_keys

-- the columns of a version
abbrev pub columns_in : Version → ColumnSet
columns_in One = First
columns_in Two = First
columns_in Three = WithRevived
columns_in Four = WithIncidents

-- those of the sweep of a text of that version
abbrev pub columns_of : Data → ColumnSet
columns_of tree = columns_in (version_of tree)

-- the line of a run that was made
abbrev pub made_line : ColumnSet → Made → List ℕ
made_line columns m = run_line columns (texts_of m.setting) m.scenario.seed (figures_of m.scenario m.rows)

-- the line of a run that was made, with its note before it, and before that its checksum with a key
abbrev pub noted_line : ColumnSet → List ℕ → Made → List ℕ
noted_line columns key m = summed key (note_cell (noted m) ++ made_line columns m)

-- What lines are put one after the other: the key of their checksums, what was held before, and what is put ahead of them; and the numbers of the
-- first run and of the one past the last.
pub record Course : Type 0 where
  pub key : List ℕ
  pub start : Option (List ℕ)
  pub front : List ℕ
  pub from : ℕ
  pub till : ℕ

-- what is put, with the lines of these runs
abbrev pub lines_text : Data → Course → List Made → List ℕ
lines_text tree course made = course.front ++ flat_map (noted_line (columns_of tree) course.key) made

-- what is put ahead, and the lines of the runs to before this number, were appended
pub record HasLines (tree : Data) (sweep : Sweep) (course : Course) (held : Option (List ℕ)) (number : ℕ) : Type 0 where
  pub made : List Made
  pub low : course.from ≤ number
  pub are : AreMadeBetween tree sweep course.from number made
  pub written : Appends course.start held (lines_text tree course made)

-- a beginning of such a text was appended
pub record BeginsLines (tree : Data) (sweep : Sweep) (course : Course) (held : Option (List ℕ)) : Type 0 where
  pub number : ℕ
  pub made : List Made
  pub low : course.from ≤ number
  pub high : number ≤ course.till
  pub are : AreMadeBetween tree sweep course.from number made
  pub written : AppendsBeginning course.start held (lines_text tree course made)

-- a counter of the scenario's run overflows, or the count of its rows
abbrev pub IsWearing : Setup → Type 0
IsWearing s = CounterOverflows s ⊎ ReportOverflows s

-- some run that is asked for has such an overflow
pub record OverflowsOutSome (tree : Data) (sweep : Sweep) : Type 0 where
  pub number : ℕ
  pub planned : Planned
  pub there : IsRunAt sweep number planned
  pub scenario : Setup
  pub accepted : IsAnswered tree planned (Ok scenario)
  pub overflow : IsWearing scenario

-- why a sweep ends before its time: a counter overflow only where some run has one; a sink where its failures say so; no relay
abbrev pub HasCause : Data → Sweep → Fault → Type 0
HasCause tree sweep fault.Memory = Unit {0}
HasCause tree sweep fault.CounterOverflow = OverflowsOutSome tree sweep
HasCause tree sweep fault.Write = Unit {0}
HasCause tree sweep fault.ThreadLost = ⊥

-- the scenario is that of the run of this number
abbrev pub IsReadAt : Data → Sweep → ℕ → Setup → Type 0
IsReadAt tree sweep number s = (p : Planned) × IsRunAt sweep number p × IsAnswered tree p (Ok s)

-- the run of this number has a counter overflow
pub record OverflowsOutAt (tree : Data) (sweep : Sweep) (number : ℕ) : Type 0 where
  pub scenario : Setup
  pub read : IsReadAt tree sweep number scenario
  pub overflow : IsWearing scenario

-- why there is no run of a number: a counter overflow only where that run has one; no sink, and no relay
abbrev pub IsCauseAt : Data → Sweep → ℕ → Fault → Type 0
IsCauseAt tree sweep number fault.Memory = Unit {0}
IsCauseAt tree sweep number fault.CounterOverflow = OverflowsOutAt tree sweep number
IsCauseAt tree sweep number fault.Write = ⊥
IsCauseAt tree sweep number fault.ThreadLost = ⊥

-- the line, with its checksum, and the note are those of the run of this number
pub record IsMadeRun (tree : Data) (sweep : Sweep) (key : List ℕ) (number : ℕ) (run : MadeRun) : Type 0 where
  pub planned : Planned
  pub there : IsRunAt sweep number planned
  pub made : Made
  pub is : IsMadeAs tree planned made
  pub written : run.line.items ≡ noted_line (columns_of tree) key made
  pub kept : run.note ≡ noted made

-- the run of this number was made, or there is a cause for there being none
abbrev pub IsMadeOf : Data → Sweep → List ℕ → ℕ → Result MadeRun Fault → Type 0
IsMadeOf tree sweep key number (Ok run) = IsMadeRun tree sweep key number run
IsMadeOf tree sweep key number (Err f) = IsCauseAt tree sweep number f

-- the runs of some numbers were made, one by one, unless memory was refused
abbrev pub IsMadeLot : Data → Sweep → List ℕ → List ℕ → Result (Vec (Result MadeRun Fault) Global) Memory → Type 0
IsMadeLot tree sweep key numbers lot = IfOk lot (λ runs. AllZip (IsMadeOf tree sweep key) numbers runs.items)
