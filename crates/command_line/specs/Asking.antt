-- What is asked for by the command that was met in the words, whatever words they were.
use Rattle.std.specs.Prelude.{List, Option}
use Rattle.clap.specs.Words.{Row, Text}
use Rattle.presets.specs.declared.preset.Preset.{Preset}
use Rattle.command_line.specs.declared.words.Asked.{Asked}
use Rattle.command_line.specs.declared.words.Asked.TheVariants.{Run, Check, Explain, Expand, Sweep, Init, Join, Page, Drive, Help, Version}
use Rattle.command_line.specs.declared.driving.DriveWords.{DriveWords}
use Rattle.command_line.specs.declared.explaining.ExplainWords.{ExplainWords}
use Rattle.command_line.specs.declared.joining.JoinWords.{JoinWords}
use Rattle.command_line.specs.declared.paging.PageWords.{PageWords}
use Rattle.command_line.specs.declared.words.RunWords.{RunWords}
use Rattle.command_line.specs.declared.words.SweepWords.{SweepWords}
use Rattle.command_line.specs.Words.{IsRunIn, IsCheckIn, IsExplainIn, IsExpandIn, IsSweepIn, IsInitIn, IsJoinIn, IsPageIn, IsDriveIn}

-- the command that was met asks for this
abbrev pub AsksIn : Option (Text × List Row) → Asked → Type 0
AsksIn met (Run run) = IsRunIn met run
AsksIn met (Check file) = IsCheckIn met file.now
AsksIn met (Explain explain) = IsExplainIn met explain
AsksIn met (Expand file) = IsExpandIn met file.now
AsksIn met (Sweep sweep) = IsSweepIn met sweep
AsksIn met (Init preset) = IsInitIn met preset
AsksIn met (Join join) = IsJoinIn met join
AsksIn met (Page page) = IsPageIn met page
AsksIn met (Drive drive) = IsDriveIn met drive
AsksIn met (Help help) = ⊥
AsksIn met Version = ⊥

-- it asks for no run, no check, no explanation, no drive and no plain text
pub record AsksForNoScenario (met : Option (Text × List Row)) : Type 0 where
  pub no_run : (run : RunWords) → ¬ (IsRunIn met run)
  pub no_check : (file : Text) → ¬ (IsCheckIn met file)
  pub no_explain : (explain : ExplainWords) → ¬ (IsExplainIn met explain)
  pub no_drive : (drive : DriveWords) → ¬ (IsDriveIn met drive)
  pub no_expand : (file : Text) → ¬ (IsExpandIn met file)

-- it asks for no sweep, no joining and no page
pub record AsksForNoTable (met : Option (Text × List Row)) : Type 0 where
  pub no_sweep : (sweep : SweepWords) → ¬ (IsSweepIn met sweep)
  pub no_join : (join : JoinWords) → ¬ (IsJoinIn met join)
  pub no_page : (page : PageWords) → ¬ (IsPageIn met page)

-- it asks for nothing that there is
pub record AsksForNothing (met : Option (Text × List Row)) : Type 0 where
  pub no_scenario : AsksForNoScenario met
  pub no_init : (preset : Preset) → ¬ (IsInitIn met preset)
  pub no_table : AsksForNoTable met
