-- What a sweep has done once it ends, and why one was not done.
use Rattle.std.specs.Prelude.{◌≡◌, ◌⊎◌, ◌++◌, ◌≤◌, ℕ, Bool, List, [], false, true, Option, Some, None, length, string_bytes, take}
use Rattle.std.specs.Option.{ForSome}
use Rattle.std.specs.Borrow.{Bor}
use Rattle.std.specs.Io.KnownBytes.{Appends, Keeps}
use Rattle.toml.specs.Data.{Data}
use Rattle.clap.specs.Words.{Text}
use Rattle.base.specs.declared.fault.Fault.{Fault}
use Rattle.base.specs.declared.fault.Fault.TheVariants as fault
use Rattle.files.specs.Files.{KnownFile, Making, Holds, HoldsNow, IsAbsent, KeepsOthers, KeepsAllOthers, CannotMake, CannotMakeSecond, AreThreeFiles}
use Rattle.sweep_plan.specs.Keys.{key_name}
use Rattle.sweep_plan.specs.Missing.{missing_of}
use Rattle.sweep_plan.specs.Sweep.{Sweep, setting_count}
use Rattle.sweep_plan.specs.Settings.{choices_text}
use Rattle.sweep_plan.specs.declared.keys.SweptKey.{SweptKey}
use Rattle.trace.specs.Sinks.{AppendsBeginning}
use Rattle.sweep_output.specs.Telling.{IsSweepPage, TellsSettings}
use Rattle.shards.specs.Shards.{whole}
use Rattle.shards.specs.declared.shard.Shard.{Shard}
use Rattle.sweep.specs.Runs.{Planned}
use Rattle.sweep.specs.Shards.{shard_header}
use Rattle.sweep.specs.Judged.{AreAccepted, IsFirstRefused}
use Rattle.sweep.specs.Table.{columns_of, HasCause}
use Rattle.sweep.specs.declared.begun.BegunFault.TheVariants as begun_fault
use Rattle.figures.specs.declared.summary.SettingSummary.{SettingSummary}
use Rattle.command_line.specs.Words.{AsksForSweep}
use Rattle.command_line.specs.Division.{IsCount}
use Rattle.command_line.specs.Failures.{RefusesWorkers}
use Rattle.command_line.specs.declared.words.SweepWords.{SweepWords}
use Rattle.command_line.specs.declared.failure.Failure.{Failure}
use Rattle.command_line.specs.declared.failure.Failure.TheVariants.{File, NoItem, Setting, Shards, Run, Memory}
use Rattle.command_line.specs.declared.failure.ShardFault.{ShardFault}
use Rattle.command_line.specs.declared.failure.ShardFault.TheVariants as shard
use Rattle.scenario_files.specs.Shelves.{Shelf, word_given, IsRefused, IsUnread, HoldsBeginning}
use Rattle.scenario_files.specs.Loading.{HasDocument, HasMarkedDocument, HasNoDocument}
use Rattle.sweep_command.specs.Runs.{RunsBy, Standing, AreBegun, AreRuns, AreRunsBehind, AreSummedUp, BeginsAllRuns, BeginsRuns, FitShard, MakesRuns, RefusesTable, WritesRuns, nothing, rest_table, runs_table}

-- the words ask for a sweep that prints how far it has come
abbrev pub AsksForProgress : List Text → Type 0
AsksForProgress words = (sweep : SweepWords) × AsksForSweep words sweep × (sweep.progress ≡ true)

-- ---- what was done

-- So many workers make the runs: as many as the word asks for. Without a word any number of them will do, since the table doesn't
-- depend on it.
abbrev pub MakeRuns : Option Text → ℕ → Type 0
MakeRuns None workers = (1 ≤ workers) × (workers ≤ 64)
MakeRuns (Some word) workers = IsCount word workers

-- The checks of a sweep, before its table is looked at: the words name so many workers, the file holds this document, whose text has
-- this mark, the document has the items whose keys are set, each once, and that of each run is accepted.
pub record PassesSweepChecks (before : Shelf) (sweep : SweepWords) (workers : ℕ) (tree : Data) (mark : List ℕ) : Type 0 where
  pub asked : MakeRuns (word_given sweep.workers) workers
  pub read : HasMarkedDocument (before sweep.file.now) tree mark
  pub there : missing_of tree sweep.plan.swept_keys ≡ None
  pub accepted : AreAccepted tree sweep.plan

-- this is the text of all settings, by the summaries of their runs
pub record AreLinesOf (tree : Data) (sweep : SweepWords) (made : RunsBy sweep.plan.until) (lines : List ℕ) : Type 0 where
  pub settings : List SettingSummary
  pub all : length settings ≡ setting_count sweep.plan.swept_keys
  pub summed : AreSummedUp sweep.plan.until sweep.plan made settings
  pub text : TellsSettings sweep.jsonl (columns_of tree) sweep.plan sweep.wants.items settings lines

-- all runs were made and their table was appended to what was held, and this is the text of their settings
pub record MakesLines (tree : Data) (mark : List ℕ) (sweep : SweepWords) (old new : Option (List ℕ)) (lines : List ℕ) : Type 0 where
  pub settings : List SettingSummary
  pub makes : MakesRuns sweep.plan.until tree mark sweep.plan old new settings
  pub text : TellsSettings sweep.jsonl (columns_of tree) sweep.plan sweep.wants.items settings lines

-- what the file held of a table that was cut off; where there is no file, nothing
abbrev pub HeldSoFar : KnownFile → List ℕ → Type 0
HeldSoFar known text = Holds known text ⊎ (IsAbsent known × (text ≡ []))

-- of a shard's table so much stood in the file: so many bytes stay, with the lines of these runs
pub record Stood (tree : Data) (mark : List ℕ) (sweep : SweepWords) (p : Shard) (known : KnownFile) (kept : ℕ) (stands : Standing) : Type 0 where
  pub text : List ℕ
  pub held : HeldSoFar known text
  pub begun : AreBegun sweep.plan.until tree mark sweep.plan p text kept stands

-- so much of a shard's table stays of what the file held, these bytes: of one that goes on what stood there, of one that is made anew nothing
abbrev pub Stays : Bool → Data → List ℕ → SweepWords → Shard → KnownFile → List ℕ → ℕ → Standing → Type 0
Stays false tree mark sweep p known stay kept stands = (stay ≡ []) × (kept ≡ 0) × (stands ≡ nothing)
Stays true tree mark sweep p known stay kept stands = (stood : Stood tree mark sweep p known kept stands) × (stay ≡ take kept stood.text)

-- The runs of a shard that were left were made: the file holds what stays of its table, and behind that the rest of it, with the lines of these runs; and no
-- other file has changed.
pub record StoresRuns (resume : Bool) (tree : Data) (mark : List ℕ) (sweep : SweepWords) (p : Shard) (before after : Shelf) : Type 0 where
  pub stay : List ℕ
  pub kept : ℕ
  pub stands : Standing
  pub stays : Stays resume tree mark sweep p (before sweep.table.now) stay kept stands
  pub made : RunsBy sweep.plan.until
  pub are : AreRunsBehind sweep.plan.until tree sweep.plan p stands made
  pub stored : HoldsNow (before sweep.table.now) (after sweep.table.now) (stay ++ rest_table sweep.plan.until tree mark sweep.plan p kept made)
  pub others : KeepsOthers before after sweep.table.now

-- all runs of a whole sweep were, and this is the text of their settings
abbrev pub StoresTable : Data → List ℕ → SweepWords → Shelf → Shelf → List ℕ → Type 0
StoresTable tree mark sweep before after lines = (stores : StoresRuns false tree mark sweep whole before after) × AreLinesOf tree sweep stores.made lines

-- All runs were made, and this is the text of their settings: the file of the table holds that, the file of this name a page of the settings, and no
-- other file has changed.
pub record StoresPaged (tree : Data) (mark : List ℕ) (sweep : SweepWords) (release : List ℕ) (page : Text) (before after : Shelf) (lines : List ℕ) : Type 0 where
  pub made : RunsBy sweep.plan.until
  pub are : AreRuns sweep.plan.until tree sweep.plan made
  pub stored : HoldsNow (before sweep.table.now) (after sweep.table.now) (runs_table sweep.plan.until tree mark sweep.plan made)
  pub settings : List SettingSummary
  pub all : length settings ≡ setting_count sweep.plan.swept_keys
  pub summed : AreSummedUp sweep.plan.until sweep.plan made settings
  pub text : TellsSettings sweep.jsonl (columns_of tree) sweep.plan sweep.wants.items settings lines
  pub shown : List ℕ
  pub is : IsSweepPage sweep.tick sweep.file.now release sweep.plan sweep.wants.items settings shown
  pub paged : HoldsNow (before page) (after page) shown
  pub others : KeepsAllOthers before after sweep.table.now page

-- a page of the settings was appended; or a beginning of one, or nothing
abbrev pub WritesPage : SweepWords → List ℕ → List SettingSummary → Option (List ℕ) → Option (List ℕ) → Type 0
WritesPage sweep release settings old new = (text : List ℕ) × IsSweepPage sweep.tick sweep.file.now release sweep.plan sweep.wants.items settings text × Appends old new text

abbrev pub BeginsPage : SweepWords → List ℕ → List SettingSummary → Option (List ℕ) → Option (List ℕ) → Type 0
BeginsPage sweep release settings old new = Keeps old new ⊎ ((text : List ℕ) × IsSweepPage sweep.tick sweep.file.now release sweep.plan sweep.wants.items settings text × AppendsBeginning old new text)

-- the same of what was appended to what was held
pub record MakesPaged (tree : Data) (mark : List ℕ) (sweep : SweepWords) (release : List ℕ) (old new page_old page_new : Option (List ℕ)) (lines : List ℕ) : Type 0 where
  pub settings : List SettingSummary
  pub makes : MakesRuns sweep.plan.until tree mark sweep.plan old new settings
  pub text : TellsSettings sweep.jsonl (columns_of tree) sweep.plan sweep.wants.items settings lines
  pub paged : WritesPage sweep release settings page_old page_new

-- a text is a page of the settings of these runs
abbrev pub IsPageOfRuns : (sweep : SweepWords) → RunsBy sweep.plan.until → List ℕ → Type 0
IsPageOfRuns sweep made text = (release : List ℕ) × (settings : List SettingSummary) × AreSummedUp sweep.plan.until sweep.plan made settings × IsSweepPage sweep.tick sweep.file.now release sweep.plan sweep.wants.items settings text

-- a beginning was appended: of the table, and nothing of a page; or the whole table, and a beginning of a page
pub record BeginsPaged (tree : Data) (mark : List ℕ) (sweep : SweepWords) (old new page_old page_new : Option (List ℕ)) : Type 0 where
  pub made : RunsBy sweep.plan.until
  pub are : AreRuns sweep.plan.until tree sweep.plan made
  pub written : (AppendsBeginning old new (runs_table sweep.plan.until tree mark sweep.plan made) × Keeps page_old page_new)
      ⊎ (Appends old new (runs_table sweep.plan.until tree mark sweep.plan made) × ((text : List ℕ) × IsPageOfRuns sweep made text × AppendsBeginning page_old page_new text))

-- what is asked for was stored, where no page is: the whole, and this is the text of its settings; or a shard, of which there is none
abbrev pub StoresPlain : Option Shard → Data → List ℕ → SweepWords → Shelf → Shelf → List ℕ → Type 0
StoresPlain None tree mark sweep before after lines = StoresTable tree mark sweep before after lines
StoresPlain (Some p) tree mark sweep before after lines = StoresRuns sweep.resume tree mark sweep p before after × (lines ≡ [])

-- the same, or the whole with a page where one is asked for
abbrev pub StoresAsked : Option (Bor Text) → Data → List ℕ → SweepWords → List ℕ → Shelf → Shelf → List ℕ → Type 0
StoresAsked None tree mark sweep release before after lines = StoresPlain sweep.shard tree mark sweep before after lines
StoresAsked (Some page) tree mark sweep release before after lines = StoresPaged tree mark sweep release page.now before after lines

-- the scenario's file, the table's and the page's, where one is asked for, are different files
abbrev pub AreApart : Option (Bor Text) → Making → Text → Text → Type 0
AreApart None making file table = making.are_one file table ≡ false
AreApart (Some page) making file table = AreThreeFiles making file table page.now

-- the same of what was appended to what was held; of a shard behind so many bytes, with the lines of these runs
abbrev pub MakesAsked : Option Shard → Data → List ℕ → SweepWords → ℕ → Standing → Option (List ℕ) → Option (List ℕ) → List ℕ → Type 0
MakesAsked None tree mark sweep kept stands old new lines = MakesLines tree mark sweep old new lines
MakesAsked (Some p) tree mark sweep kept stands old new lines = WritesRuns sweep.plan.until tree mark sweep.plan p kept stands old new × (lines ≡ [])

-- a beginning of it was appended
abbrev pub BeginsAsked : Option Shard → Data → List ℕ → SweepWords → ℕ → Standing → Option (List ℕ) → Option (List ℕ) → Type 0
BeginsAsked None tree mark sweep kept stands old new = BeginsAllRuns sweep.plan.until tree mark sweep.plan old new
BeginsAsked (Some p) tree mark sweep kept stands old new = BeginsRuns sweep.plan.until tree mark sweep.plan p kept stands old new

-- the shard that goes on, if one does
abbrev pub shard_resumed : Bool → Option Shard → Option Shard
shard_resumed false asked = None
shard_resumed true asked = asked

-- a shard goes on with so many bytes that stay of what stood in the file of its table; where none does, nothing stays
abbrev pub GoesOnWith : Option Shard → Data → List ℕ → SweepWords → KnownFile → ℕ → Standing → Type 0
GoesOnWith None tree mark sweep known kept stands = (kept ≡ 0) × (stands ≡ nothing)
GoesOnWith (Some p) tree mark sweep known kept stands = Stood tree mark sweep p known kept stands

-- so does the shard that goes on, if one does
abbrev pub GoesOn : Data → List ℕ → SweepWords → KnownFile → ℕ → Standing → Type 0
GoesOn tree mark sweep known kept stands = GoesOnWith (shard_resumed sweep.resume sweep.shard) tree mark sweep known kept stands

-- the shard that is asked for, if one is, can go on behind these runs
abbrev pub FitAsked : Data → List ℕ → SweepWords → Option Shard → ℕ → Standing → Type 0
FitAsked tree mark sweep asked kept stands = ForSome asked (λ p. FitShard sweep.plan.until sweep.plan p (shard_header (columns_of tree) mark sweep.plan p) kept stands)

-- the sweep passed its checks and was done, and this is the text of its settings, where it is a whole one
pub record SweepsAll (release : List ℕ) (before after : Shelf) (making : Making) (sweep : SweepWords) (lines : List ℕ) : Type 0 where
  pub workers : ℕ
  pub tree : Data
  pub mark : List ℕ
  pub checks : PassesSweepChecks before sweep workers tree mark
  pub apart : AreApart sweep.page making sweep.file.now sweep.table.now
  pub stored : StoresAsked sweep.page tree mark sweep release before after lines

-- a sweep that the words ask for was done
abbrev pub DoesSweep : List ℕ → List Text → Shelf → Shelf → Making → List ℕ → Type 0
DoesSweep release words before after making lines = (sweep : SweepWords) × AsksForSweep words sweep × SweepsAll release before after making sweep lines

-- ---- what was not done

-- a key is set of an item that isn't there, or is there more than once; or memory was refused
abbrev pub LacksItem : Data → Sweep → Failure → Type 0
LacksItem tree plan (NoItem key) = (k : SweptKey) × (missing_of tree plan.swept_keys ≡ Some k) × (string_bytes key ≡ key_name k)
LacksItem tree plan Memory = Unit {0}
LacksItem tree plan _ = ⊥

-- a setting is refused, the first whose document breaks a rule, and printed with its choices; or memory was refused
abbrev pub RefusesSetting : Data → Sweep → Failure → Type 0
RefusesSetting tree plan (Setting rule swept_keys) = (p : Planned) × IsFirstRefused tree plan p rule × (string_bytes swept_keys ≡ choices_text p.setting)
RefusesSetting tree plan Memory = Unit {0}
RefusesSetting tree plan _ = ⊥

-- The check of a sweep that failed. Of several causes it is the first of workers, the file and its document, items, settings.
abbrev pub FailsSweepCheck : Shelf → SweepWords → Failure → Type 0
FailsSweepCheck before sweep failure =
    RefusesWorkers (word_given sweep.workers) failure
    ⊎ (((workers : ℕ) × MakeRuns (word_given sweep.workers) workers × HasNoDocument (before sweep.file.now) sweep.file.now failure)
    ⊎ (((workers : ℕ) × (tree : Data) × MakeRuns (word_given sweep.workers) workers × HasDocument (before sweep.file.now) (Some tree)
    × LacksItem tree sweep.plan failure)
    ⊎ ((workers : ℕ) × (tree : Data) × MakeRuns (word_given sweep.workers) workers × HasDocument (before sweep.file.now) (Some tree)
    × (missing_of tree sweep.plan.swept_keys ≡ None) × RefusesSetting tree sweep.plan failure)))

-- a text is no beginning of the shard's table, or its lines have no checksums, and the failure names its file
abbrev pub IsOther : Data → List ℕ → SweepWords → Shard → List ℕ → ShardFault → Type 0
IsOther tree mark sweep p text (shard.Other name) = (name.now ≡ sweep.table.now) × RefusesTable sweep.plan.until tree mark sweep.plan p text begun_fault.Other
IsOther tree mark sweep p text (shard.Older name) = (name.now ≡ sweep.table.now) × RefusesTable sweep.plan.until tree mark sweep.plan p text begun_fault.Older
IsOther tree mark sweep p text _ = ⊥

-- that is so, or memory was refused
abbrev pub RefusesSoFar : Data → List ℕ → SweepWords → Shard → List ℕ → Failure → Type 0
RefusesSoFar tree mark sweep p text (Shards cause) = IsOther tree mark sweep p text cause
RefusesSoFar tree mark sweep p text Memory = Unit {0}
RefusesSoFar tree mark sweep p text _ = ⊥

-- A shard can't go on: what the file of its table holds is no beginning of that; the file can't be read; or memory was refused.
abbrev pub RefusesStood : Data → List ℕ → SweepWords → Shard → KnownFile → Failure → Type 0
RefusesStood tree mark sweep p known (Shards cause) = (text : List ℕ) × HeldSoFar known text × IsOther tree mark sweep p text cause
RefusesStood tree mark sweep p known failure = IsUnread known sweep.table.now failure

-- the shard that was to go on can't
abbrev pub CannotGoOn : Data → List ℕ → SweepWords → KnownFile → Failure → Type 0
CannotGoOn tree mark sweep known failure = (p : Shard) × (shard_resumed sweep.resume sweep.shard ≡ Some p) × RefusesStood tree mark sweep p known failure

-- why runs are ended by a fault: it has its cause, and a write only where a file refused one
pub record IsCaused (Refused : Type 0) (tree : Data) (plan : Sweep) (cause : Fault) : Type 0 where
  pub caused : HasCause tree plan cause
  pub refused : cause ≡ fault.Write → Refused

-- the file holds these bytes now, and behind them a beginning of the text
pub record HoldsBehind (old new : KnownFile) (stay text : List ℕ) : Type 0 where
  pub front : List ℕ
  pub rest : List ℕ
  pub whole : front ++ rest ≡ text
  pub written : HoldsNow old new (stay ++ front)

-- The runs that were left of a shard were ended by the fault: the file holds all that stays of its table, and behind that a beginning of the rest, and no other
-- has changed.
pub record BreaksOffRuns (resume : Bool) (Refused : Type 0) (tree : Data) (mark : List ℕ) (sweep : SweepWords) (p : Shard) (before after : Shelf) (cause : Fault) : Type 0 where
  pub stay : List ℕ
  pub kept : ℕ
  pub stands : Standing
  pub stays : Stays resume tree mark sweep p (before sweep.table.now) stay kept stands
  pub made : RunsBy sweep.plan.until
  pub are : AreRunsBehind sweep.plan.until tree sweep.plan p stands made
  pub begun : HoldsBehind (before sweep.table.now) (after sweep.table.now) stay (rest_table sweep.plan.until tree mark sweep.plan p kept made)
  pub others : KeepsOthers before after sweep.table.now
  pub caused : IsCaused Refused tree sweep.plan cause

-- and those of what is asked for
abbrev pub BreaksOff : Option Shard → Type 0 → Data → List ℕ → SweepWords → Shelf → Shelf → Fault → Type 0
BreaksOff None Refused tree mark sweep before after cause = BreaksOffRuns false Refused tree mark sweep whole before after cause
BreaksOff (Some p) Refused tree mark sweep before after cause = BreaksOffRuns sweep.resume Refused tree mark sweep p before after cause

-- No whole table was stored: its file can't be made, memory was refused, or the runs broke off. Before they began no file has changed.
abbrev pub TableFails : Type 0 → Data → List ℕ → Shelf → Shelf → Making → SweepWords → Failure → Type 0
TableFails Refused tree mark before after making sweep (File name) =
    (name.now ≡ sweep.table.now) × CannotMake making sweep.file.now sweep.table.now × (after ≡ before)
TableFails Refused tree mark before after making sweep Memory = after ≡ before
TableFails Refused tree mark before after making sweep (Run cause) =
    (making.are_one sweep.file.now sweep.table.now ≡ false) × BreaksOff sweep.shard Refused tree mark sweep before after cause
TableFails Refused tree mark before after making sweep _ = ⊥

-- of a table and a page: the one has a beginning while the other is empty, or the one is whole and the other has a beginning
pub record BreaksOffPaged (Refused : Type 0) (tree : Data) (mark : List ℕ) (sweep : SweepWords) (page : Text) (before after : Shelf) (cause : Fault) : Type 0 where
  pub made : RunsBy sweep.plan.until
  pub are : AreRuns sweep.plan.until tree sweep.plan made
  pub written : (HoldsBeginning (before sweep.table.now) (after sweep.table.now) (runs_table sweep.plan.until tree mark sweep.plan made) × HoldsNow (before page) (after page) [])
      ⊎ (HoldsNow (before sweep.table.now) (after sweep.table.now) (runs_table sweep.plan.until tree mark sweep.plan made)
      × ((text : List ℕ) × IsPageOfRuns sweep made text × HoldsBeginning (before page) (after page) text))
  pub others : KeepsAllOthers before after sweep.table.now page
  pub caused : IsCaused Refused tree sweep.plan cause

-- a table and a page were not stored whole: a file can't be made, memory was refused, or it broke off. Before that no file has changed.
abbrev pub PagedFails : Type 0 → Data → List ℕ → Text → Shelf → Shelf → Making → SweepWords → Failure → Type 0
PagedFails Refused tree mark page before after making sweep (File name) =
    (((name.now ≡ sweep.table.now) × CannotMake making sweep.file.now sweep.table.now)
    ⊎ ((name.now ≡ page) × CannotMakeSecond making sweep.file.now sweep.table.now page)) × (after ≡ before)
PagedFails Refused tree mark page before after making sweep Memory = after ≡ before
PagedFails Refused tree mark page before after making sweep (Run cause) =
    AreThreeFiles making sweep.file.now sweep.table.now page × BreaksOffPaged Refused tree mark sweep page before after cause
PagedFails Refused tree mark page before after making sweep _ = ⊥

-- and of what is asked for
abbrev pub StoreFails : Option (Bor Text) → Type 0 → Data → List ℕ → Shelf → Shelf → Making → SweepWords → Failure → Type 0
StoreFails None Refused tree mark before after making sweep failure = TableFails Refused tree mark before after making sweep failure
StoreFails (Some page) Refused tree mark before after making sweep failure = PagedFails Refused tree mark page.now before after making sweep failure

-- all checks passed, but a shard can't go on, and no file has changed; or what is asked for was not stored whole
pub record FailsToSweep (Refused : Type 0) (before after : Shelf) (making : Making) (sweep : SweepWords) (failure : Failure) : Type 0 where
  pub workers : ℕ
  pub tree : Data
  pub mark : List ℕ
  pub checks : PassesSweepChecks before sweep workers tree mark
  pub cause : (CannotGoOn tree mark sweep (before sweep.table.now) failure × (after ≡ before)) ⊎ StoreFails sweep.page Refused tree mark before after making sweep failure

-- Why the sweep was not done: the first check that failed, and after all checks what befell the table. `Refused` says that a file refused a write.
abbrev pub SweepFails : Type 0 → Shelf → Shelf → Making → SweepWords → Failure → Type 0
SweepFails Refused before after making sweep failure =
    IsRefused before after (FailsSweepCheck before sweep failure) ⊎ FailsToSweep Refused before after making sweep failure

-- the words ask for a sweep that sets a key of an item which the document of the file hasn't, or has more than once
abbrev pub SetsNoItem : List Text → Shelf → Type 0
SetsNoItem words before = (sweep : SweepWords) × AsksForSweep words sweep × ((tree : Data) × HasDocument (before sweep.file.now) (Some tree)
    × ((k : SweptKey) × (missing_of tree sweep.plan.swept_keys ≡ Some k)))

-- why a sweep that the words ask for was not done
abbrev pub DoesNotSweep : Type 0 → List Text → Shelf → Shelf → Making → Failure → Type 0
DoesNotSweep Refused words before after making failure = (sweep : SweepWords) × AsksForSweep words sweep × SweepFails Refused before after making sweep failure
