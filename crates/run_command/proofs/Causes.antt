-- By what no run fails, and what holds where memory was refused.
use Rattle.std.proofs.Common.{◌≡◌, ℕ, List, Option, Some, None, inl, inr}
use Rattle.std.specs.Prelude.{String}
use Rattle.std.specs.Borrow.{Bor}
use Rattle.clap.specs.Words.{Text}
use Rattle.std.specs.declared.alloc.Global.{Global}
use Rattle.scenario_files.specs.Shelves.{Shelf, word_given}
use Rattle.scenario_files.specs.Checks.{FailsCheck}
use Rattle.run_command.specs.Outcomes.{FailsAsked, PagedFails, RunFails, StoreFails}
use Rattle.files.specs.Files.{Making}
use Rattle.base.specs.declared.fault.Fault.{Fault}
use Rattle.scenario.specs.Setup.{Setup}
use Rattle.command_line.specs.declared.words.RunWords.{RunWords}
use Rattle.command_line.specs.declared.failure.Failure.{Failure}
use Rattle.command_line.specs.declared.failure.Failure.TheVariants.{Usage, Preset, NoItem, Mistaken, Memory, Drive, Output}
use Rattle.command_line.specs.declared.answers.DriveStop.{DriveStop}

-- what follows from either way in which what the words ask for isn't stored, without a page and with one
either_way : {P : Type 0} (EndsBy : Fault → Type 0) (s : Setup) (release : List ℕ) (before after : Shelf) (making : Making) (run : RunWords) (failure : Failure)
    (asked : Option (Bor Text)) → (StoreFails EndsBy s before after making run.file.now run.trace.now (word_given run.report) failure → P)
    → ((page : Text) → PagedFails EndsBy s run.tick release before after making run.file.now run.trace.now (word_given run.report) page failure → P)
    → FailsAsked asked EndsBy s release before after making run failure → P
either_way EndsBy s release before after making run failure None plain paged fails = plain fails
either_way EndsBy s release before after making run failure (Some page) plain paged fails = paged page.now fails

-- no check of a run fails by the words, by an item of a sweep, by standard output, by what is explained or by what stops a drive, and so no run does
check_usage : (before : Shelf) (run : RunWords) → FailsCheck before run Usage → ⊥
check_usage before run (inl count) = count
check_usage before run (inr (inl file)) = file.2
check_usage before run (inr (inr split)) = split.4

pub run_usage : {EndsBy : Setup → ℕ → Fault → Type 0} (release : List ℕ) (before after : Shelf) (making : Making) (run : RunWords) → RunFails EndsBy release before after making run Usage → ⊥
run_usage release before after making run (inl refused) = check_usage before run refused.cause
run_usage {EndsBy} release before after making run (inr store) =
    either_way (EndsBy store.scenario store.workers) store.scenario release before after making run Usage run.page (λ h. h) (λ page h. h) store.cause

check_preset : (before : Shelf) (run : RunWords) → FailsCheck before run Preset → ⊥
check_preset before run (inl count) = count
check_preset before run (inr (inl file)) = file.2
check_preset before run (inr (inr split)) = split.4

pub run_preset : {EndsBy : Setup → ℕ → Fault → Type 0} (release : List ℕ) (before after : Shelf) (making : Making) (run : RunWords) → RunFails EndsBy release before after making run Preset → ⊥
run_preset release before after making run (inl refused) = check_preset before run refused.cause
run_preset {EndsBy} release before after making run (inr store) =
    either_way (EndsBy store.scenario store.workers) store.scenario release before after making run Preset run.page (λ h. h) (λ page h. h) store.cause

check_item : (before : Shelf) (run : RunWords) (key : String Global) → FailsCheck before run (NoItem key) → ⊥
check_item before run key (inl count) = count
check_item before run key (inr (inl file)) = file.2
check_item before run key (inr (inr split)) = split.4

pub run_item : {EndsBy : Setup → ℕ → Fault → Type 0} (release : List ℕ) (before after : Shelf) (making : Making) (run : RunWords) (key : String Global) → RunFails EndsBy release before after making run (NoItem key) → ⊥
run_item release before after making run key (inl refused) = check_item before run key refused.cause
run_item {EndsBy} release before after making run key (inr store) =
    either_way (EndsBy store.scenario store.workers) store.scenario release before after making run (NoItem key) run.page (λ h. h) (λ page h. h) store.cause

check_output : (before : Shelf) (run : RunWords) → FailsCheck before run Output → ⊥
check_output before run (inl count) = count
check_output before run (inr (inl file)) = file.2
check_output before run (inr (inr split)) = split.4

pub run_output : {EndsBy : Setup → ℕ → Fault → Type 0} (release : List ℕ) (before after : Shelf) (making : Making) (run : RunWords) → RunFails EndsBy release before after making run Output → ⊥
run_output release before after making run (inl refused) = check_output before run refused.cause
run_output {EndsBy} release before after making run (inr store) =
    either_way (EndsBy store.scenario store.workers) store.scenario release before after making run Output run.page (λ h. h) (λ page h. h) store.cause

check_drive : (before : Shelf) (run : RunWords) (stop : DriveStop) → FailsCheck before run (Drive stop) → ⊥
check_drive before run stop (inl count) = count
check_drive before run stop (inr (inl file)) = file.2
check_drive before run stop (inr (inr split)) = split.4

pub run_drive : {EndsBy : Setup → ℕ → Fault → Type 0} (release : List ℕ) (before after : Shelf) (making : Making) (run : RunWords) (stop : DriveStop) → RunFails EndsBy release before after making run (Drive stop) → ⊥
run_drive release before after making run stop (inl refused) = check_drive before run stop refused.cause
run_drive {EndsBy} release before after making run stop (inr store) =
    either_way (EndsBy store.scenario store.workers) store.scenario release before after making run (Drive stop) run.page (λ h. h) (λ page h. h) store.cause

check_mistaken : (before : Shelf) (run : RunWords) (rule : ℕ) → FailsCheck before run (Mistaken rule) → ⊥
check_mistaken before run rule (inl count) = count
check_mistaken before run rule (inr (inl file)) = file.2
check_mistaken before run rule (inr (inr split)) = split.4

pub run_mistaken : {EndsBy : Setup → ℕ → Fault → Type 0} (release : List ℕ) (before after : Shelf) (making : Making) (run : RunWords) (rule : ℕ) → RunFails EndsBy release before after making run (Mistaken rule) → ⊥
run_mistaken release before after making run rule (inl refused) = check_mistaken before run rule refused.cause
run_mistaken {EndsBy} release before after making run rule (inr store) =
    either_way (EndsBy store.scenario store.workers) store.scenario release before after making run (Mistaken rule) run.page (λ h. h) (λ page h. h) store.cause

-- where memory was refused, no file has changed
pub run_memory : {EndsBy : Setup → ℕ → Fault → Type 0} (release : List ℕ) (before after : Shelf) (making : Making) (run : RunWords) → RunFails EndsBy release before after making run Memory → after ≡ before
run_memory release before after making run (inl refused) = refused.same
run_memory {EndsBy} release before after making run (inr store) =
    either_way (EndsBy store.scenario store.workers) store.scenario release before after making run Memory run.page (λ h. h) (λ page h. h) store.cause
