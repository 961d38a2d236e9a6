-- What is asked for by the command that was met, and so by the words.
use Rattle.std.proofs.Common.{◌≡◌, List, [], Option, subst, codes}
use Rattle.clap.specs.Words.{Row, Text, fault_of, subcommand_of}
use Rattle.command_line.specs.Asking.{AsksIn, AsksForNoScenario, AsksForNoTable, AsksForNothing}
use Rattle.command_line.specs.Words.{swimsim_app, Answers, AsksForNone, IsRunIn, IsCheckIn, IsExplainIn, IsExpandIn, IsSweepIn, IsInitIn, IsJoinIn, IsPageIn, IsDriveIn, Meets, NamesNoPreset}
use Rattle.command_line.specs.declared.joining.JoinWords.{JoinWords}
use Rattle.command_line.specs.declared.words.Asked.{Asked}
use Rattle.command_line.specs.declared.words.Asked.TheVariants.{Run, Check, Explain, Expand, Sweep, Init, Join, Page, Drive, Help, Version}
use Rattle.command_line.proofs.RunRows.{no_preset_no_sweep, no_preset_no_init, no_preset_no_join, no_preset_no_page, no_join_no_page, no_join_no_sweep}

-- words without a fault ask for what the command asks for that they met
pub answers : (words : List Text) (met : Option (Text × List Row)) (asked : Asked) → fault_of swimsim_app words ≡ [] → met ≡ subcommand_of swimsim_app words
    → AsksIn met asked → Answers words asked
answers words met (Run run) clean same h = (clean, subst (λ m. IsRunIn m run) same h)
answers words met (Check file) clean same h = (clean, subst (λ m. IsCheckIn m file.now) same h)
answers words met (Explain explain) clean same h = (clean, subst (λ m. IsExplainIn m explain) same h)
answers words met (Expand file) clean same h = (clean, subst (λ m. IsExpandIn m file.now) same h)
answers words met (Sweep sweep) clean same h = (clean, subst (λ m. IsSweepIn m sweep) same h)
answers words met (Init preset) clean same h = (clean, subst (λ m. IsInitIn m preset) same h)
answers words met (Join join) clean same h = (clean, subst (λ m. IsJoinIn m join) same h)
answers words met (Page page) clean same h = (clean, subst (λ m. IsPageIn m page) same h)
answers words met (Drive drive) clean same h = (clean, subst (λ m. IsDriveIn m drive) same h)
answers words met (Help help) clean same h = absurd h
answers words met Version clean same h = absurd h

pub asks_for_none : (words : List Text) (met : Option (Text × List Row)) → fault_of swimsim_app words ≡ [] → met ≡ subcommand_of swimsim_app words
    → AsksForNothing met → AsksForNone words
asks_for_none words met clean same h =
    let there = subst AsksForNothing same h in (
      clean,
      (λ run asks. there.no_scenario.no_run run asks.1),
      (λ file asks. there.no_scenario.no_check file asks.1),
      (λ explain asks. there.no_scenario.no_explain explain asks.1),
      (λ sweep asks. there.no_table.no_sweep sweep asks.1),
      (λ preset asks. there.no_init preset asks.1),
      (λ join asks. there.no_table.no_join join asks.1),
      (λ page asks. there.no_table.no_page page asks.1),
      (λ drive asks. there.no_scenario.no_drive drive asks.1),
      (λ file asks. there.no_scenario.no_expand file asks.1),
    )

-- a command that names no preset asks for nothing
pub no_preset : (met : Option (Text × List Row)) → AsksForNoScenario met → NamesNoPreset met → AsksForNothing met
no_preset met none names =
    record {
      no_scenario = none;
      no_init = no_preset_no_init met names;
      no_table = record { no_sweep = no_preset_no_sweep met names; no_join = no_preset_no_join met names; no_page = no_preset_no_page met names };
    }

-- nor for a table one that is `join` and asks for no joining
pub no_joining : (met : Option (Text × List Row)) → Meets (codes "join") met → ((join : JoinWords) → IsJoinIn met join → ⊥) → AsksForNoTable met
no_joining met meets none = record { no_sweep = no_join_no_sweep met meets; no_join = none; no_page = no_join_no_page met meets }
