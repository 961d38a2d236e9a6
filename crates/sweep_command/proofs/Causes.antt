-- By what no sweep fails, and what holds where memory was refused, or a text hasn't an item.
use Rattle.std.proofs.Common.{◌≡◌, ◌⊎◌, ℕ, List, Option, Some, None, Bor, inl, inr}
use Rattle.std.specs.Prelude.{String}
use Rattle.toml.specs.Data.{Data}
use Rattle.std.specs.declared.alloc.Global.{Global}
use Rattle.scenario_files.specs.Shelves.{Shelf}
use Rattle.sweep_command.specs.Outcomes.{CannotGoOn, FailsSweepCheck, SetsNoItem, StoreFails, SweepFails}
use Rattle.files.specs.Files.{Making}
use Rattle.clap.specs.Words.{Text}
use Rattle.command_line.specs.Words.{AsksForSweep}
use Rattle.command_line.specs.declared.words.SweepWords.{SweepWords}
use Rattle.command_line.specs.declared.failure.Failure.TheVariants.{Usage, Preset, NoItem, Mistaken, Memory, Drive, Output}
use Rattle.command_line.specs.declared.answers.DriveStop.{DriveStop}

-- no check of a sweep fails by the words, by standard output, by what is explained or by what stops a drive, and so no sweep does
sweep_check_usage : (before : Shelf) (sweep : SweepWords) → FailsSweepCheck before sweep Usage → ⊥
sweep_check_usage before sweep (inl count) = count
sweep_check_usage before sweep (inr (inl file)) = file.2
sweep_check_usage before sweep (inr (inr (inl item))) = item.4
sweep_check_usage before sweep (inr (inr (inr setting))) = setting.5

store_usage : (page : Option (Bor Text)) (Refused : Type 0) (tree : Data) (mark : List ℕ) (before after : Shelf) (making : Making) (sweep : SweepWords) → StoreFails page Refused tree mark before after making sweep Usage → ⊥
store_usage None Refused tree mark before after making sweep fails = fails
store_usage (Some page) Refused tree mark before after making sweep fails = fails

pub sweep_usage : (Refused : Type 0) (before after : Shelf) (making : Making) (sweep : SweepWords) → SweepFails Refused before after making sweep Usage → ⊥
sweep_usage Refused before after making sweep (inl refused) = sweep_check_usage before sweep refused.cause
sweep_usage Refused before after making sweep (inr table) = by table.cause
  where
    by : (CannotGoOn table.tree table.mark sweep (before sweep.table.now) Usage × (after ≡ before)) ⊎ StoreFails sweep.page Refused table.tree table.mark before after making sweep Usage → ⊥
    by (inl stood) = stood.0.2
    by (inr stored) = store_usage sweep.page Refused table.tree table.mark before after making sweep stored

sweep_check_preset : (before : Shelf) (sweep : SweepWords) → FailsSweepCheck before sweep Preset → ⊥
sweep_check_preset before sweep (inl count) = count
sweep_check_preset before sweep (inr (inl file)) = file.2
sweep_check_preset before sweep (inr (inr (inl item))) = item.4
sweep_check_preset before sweep (inr (inr (inr setting))) = setting.5

store_preset : (page : Option (Bor Text)) (Refused : Type 0) (tree : Data) (mark : List ℕ) (before after : Shelf) (making : Making) (sweep : SweepWords) → StoreFails page Refused tree mark before after making sweep Preset → ⊥
store_preset None Refused tree mark before after making sweep fails = fails
store_preset (Some page) Refused tree mark before after making sweep fails = fails

pub sweep_preset : (Refused : Type 0) (before after : Shelf) (making : Making) (sweep : SweepWords) → SweepFails Refused before after making sweep Preset → ⊥
sweep_preset Refused before after making sweep (inl refused) = sweep_check_preset before sweep refused.cause
sweep_preset Refused before after making sweep (inr table) = by table.cause
  where
    by : (CannotGoOn table.tree table.mark sweep (before sweep.table.now) Preset × (after ≡ before)) ⊎ StoreFails sweep.page Refused table.tree table.mark before after making sweep Preset → ⊥
    by (inl stood) = stood.0.2
    by (inr stored) = store_preset sweep.page Refused table.tree table.mark before after making sweep stored

sweep_check_output : (before : Shelf) (sweep : SweepWords) → FailsSweepCheck before sweep Output → ⊥
sweep_check_output before sweep (inl count) = count
sweep_check_output before sweep (inr (inl file)) = file.2
sweep_check_output before sweep (inr (inr (inl item))) = item.4
sweep_check_output before sweep (inr (inr (inr setting))) = setting.5

store_output : (page : Option (Bor Text)) (Refused : Type 0) (tree : Data) (mark : List ℕ) (before after : Shelf) (making : Making) (sweep : SweepWords) → StoreFails page Refused tree mark before after making sweep Output → ⊥
store_output None Refused tree mark before after making sweep fails = fails
store_output (Some page) Refused tree mark before after making sweep fails = fails

pub sweep_output : (Refused : Type 0) (before after : Shelf) (making : Making) (sweep : SweepWords) → SweepFails Refused before after making sweep Output → ⊥
sweep_output Refused before after making sweep (inl refused) = sweep_check_output before sweep refused.cause
sweep_output Refused before after making sweep (inr table) = by table.cause
  where
    by : (CannotGoOn table.tree table.mark sweep (before sweep.table.now) Output × (after ≡ before)) ⊎ StoreFails sweep.page Refused table.tree table.mark before after making sweep Output → ⊥
    by (inl stood) = stood.0.2
    by (inr stored) = store_output sweep.page Refused table.tree table.mark before after making sweep stored

sweep_check_mistaken : (before : Shelf) (sweep : SweepWords) (rule : ℕ) → FailsSweepCheck before sweep (Mistaken rule) → ⊥
sweep_check_mistaken before sweep rule (inl count) = count
sweep_check_mistaken before sweep rule (inr (inl file)) = file.2
sweep_check_mistaken before sweep rule (inr (inr (inl item))) = item.4
sweep_check_mistaken before sweep rule (inr (inr (inr setting))) = setting.5

store_mistaken : (page : Option (Bor Text)) (Refused : Type 0) (tree : Data) (mark : List ℕ) (before after : Shelf) (making : Making) (sweep : SweepWords) (rule : ℕ) → StoreFails page Refused tree mark before after making sweep (Mistaken rule) → ⊥
store_mistaken None Refused tree mark before after making sweep rule fails = fails
store_mistaken (Some page) Refused tree mark before after making sweep rule fails = fails

pub sweep_mistaken : (Refused : Type 0) (before after : Shelf) (making : Making) (sweep : SweepWords) (rule : ℕ) → SweepFails Refused before after making sweep (Mistaken rule) → ⊥
sweep_mistaken Refused before after making sweep rule (inl refused) = sweep_check_mistaken before sweep rule refused.cause
sweep_mistaken Refused before after making sweep rule (inr table) = by table.cause
  where
    by : (CannotGoOn table.tree table.mark sweep (before sweep.table.now) (Mistaken rule) × (after ≡ before)) ⊎ StoreFails sweep.page Refused table.tree table.mark before after making sweep (Mistaken rule) → ⊥
    by (inl stood) = stood.0.2
    by (inr stored) = store_mistaken sweep.page Refused table.tree table.mark before after making sweep rule stored

sweep_check_drive : (before : Shelf) (sweep : SweepWords) (stop : DriveStop) → FailsSweepCheck before sweep (Drive stop) → ⊥
sweep_check_drive before sweep stop (inl count) = count
sweep_check_drive before sweep stop (inr (inl file)) = file.2
sweep_check_drive before sweep stop (inr (inr (inl item))) = item.4
sweep_check_drive before sweep stop (inr (inr (inr setting))) = setting.5

store_drive : (page : Option (Bor Text)) (Refused : Type 0) (tree : Data) (mark : List ℕ) (before after : Shelf) (making : Making) (sweep : SweepWords) (stop : DriveStop) → StoreFails page Refused tree mark before after making sweep (Drive stop) → ⊥
store_drive None Refused tree mark before after making sweep stop fails = fails
store_drive (Some page) Refused tree mark before after making sweep stop fails = fails

pub sweep_drive : (Refused : Type 0) (before after : Shelf) (making : Making) (sweep : SweepWords) (stop : DriveStop) → SweepFails Refused before after making sweep (Drive stop) → ⊥
sweep_drive Refused before after making sweep stop (inl refused) = sweep_check_drive before sweep stop refused.cause
sweep_drive Refused before after making sweep stop (inr table) = by table.cause
  where
    by : (CannotGoOn table.tree table.mark sweep (before sweep.table.now) (Drive stop) × (after ≡ before)) ⊎ StoreFails sweep.page Refused table.tree table.mark before after making sweep (Drive stop) → ⊥
    by (inl stood) = stood.0.2
    by (inr stored) = store_drive sweep.page Refused table.tree table.mark before after making sweep stop stored

-- where memory was refused, no file has changed
store_memory : (page : Option (Bor Text)) (Refused : Type 0) (tree : Data) (mark : List ℕ) (before after : Shelf) (making : Making) (sweep : SweepWords) → StoreFails page Refused tree mark before after making sweep Memory → after ≡ before
store_memory None Refused tree mark before after making sweep same = same
store_memory (Some page) Refused tree mark before after making sweep same = same

pub sweep_memory : (Refused : Type 0) (before after : Shelf) (making : Making) (sweep : SweepWords) → SweepFails Refused before after making sweep Memory → after ≡ before
sweep_memory Refused before after making sweep (inl refused) = refused.same
sweep_memory Refused before after making sweep (inr table) = by table.cause
  where
    by : (CannotGoOn table.tree table.mark sweep (before sweep.table.now) Memory × (after ≡ before)) ⊎ StoreFails sweep.page Refused table.tree table.mark before after making sweep Memory → after ≡ before
    by (inl stood) = stood.1
    by (inr stored) = store_memory sweep.page Refused table.tree table.mark before after making sweep stored

-- a sweep that fails by an item sets one that the text hasn't
check_item : (words : List Text) (before : Shelf) (sweep : SweepWords) (key : String Global) → AsksForSweep words sweep → FailsSweepCheck before sweep (NoItem key) → SetsNoItem words before
check_item words before sweep key asks (inl count) = absurd count
check_item words before sweep key asks (inr (inl file)) = absurd file.2
check_item words before sweep key asks (inr (inr (inl item))) = (sweep, asks, (item.1, item.3, (item.4.0, item.4.1)))
check_item words before sweep key asks (inr (inr (inr setting))) = absurd setting.5

store_item : (page : Option (Bor Text)) (Refused : Type 0) (tree : Data) (mark : List ℕ) (before after : Shelf) (making : Making) (sweep : SweepWords) (key : String Global) → StoreFails page Refused tree mark before after making sweep (NoItem key) → ⊥
store_item None Refused tree mark before after making sweep key fails = fails
store_item (Some page) Refused tree mark before after making sweep key fails = fails

pub sweep_item : (Refused : Type 0) (words : List Text) (before after : Shelf) (making : Making) (sweep : SweepWords) (key : String Global) → AsksForSweep words sweep
    → SweepFails Refused before after making sweep (NoItem key) → SetsNoItem words before
sweep_item Refused words before after making sweep key asks (inl refused) = check_item words before sweep key asks refused.cause
sweep_item Refused words before after making sweep key asks (inr table) = absurd (by table.cause)
  where
    by : (CannotGoOn table.tree table.mark sweep (before sweep.table.now) (NoItem key) × (after ≡ before)) ⊎ StoreFails sweep.page Refused table.tree table.mark before after making sweep (NoItem key) → ⊥
    by (inl stood) = stood.0.2
    by (inr stored) = store_item sweep.page Refused table.tree table.mark before after making sweep key stored
