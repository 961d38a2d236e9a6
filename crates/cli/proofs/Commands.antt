-- What an answer to the words says of them, and of what was not done.
use Rattle.std.proofs.Common.{◌≡◌, List, [], ◌∷◌, ℕ, Bool, true, false, Option, Some, None, Result, Ok, Err, Bor, codes, sym, subst, refl, inl, inr}
use Rattle.std.proofs.lemmas.Option.{none-some, same_Some}
use Rattle.std.proofs.lemmas.Result.{on_ok_weaker, IfErr-weaker}
use Rattle.std.proofs.lemmas.List.Elements.{All-cons, All-nil}
use Rattle.std.specs.Prelude.{All, unwrap_or}
use Rattle.std.specs.Result.{OnOk, IfErr}
use Rattle.std.specs.Option.{ForSome}
use Rattle.std.specs.Io.KnownBytes.{Appends}
use Rattle.clap.specs.Words.{Text, all_of, first_of}
use Rattle.scenario_files.specs.Shelves.{Shelf}
use Rattle.trace.proofs.Beginnings.{Keeps-same}
use Rattle.join_command.specs.Outcomes.{JoinFails, JoinsAll, PageFails, PagesAll}
use Rattle.join_command.proofs.Causes.{join_ends, join_memory, page_ends, page_memory}
use Rattle.explain_command.specs.Outcomes.{ExplainFails, PrintsMeaning}
use Rattle.expand_command.specs.Outcomes.{ExpandFails, ExpandsTo}
use Rattle.run_command.specs.Outcomes.{EndsWithCause, RunFails, RunsAll}
use Rattle.run_command.proofs.Causes.{run_drive, run_item, run_memory, run_mistaken, run_output, run_preset, run_usage}
use Rattle.sweep_command.specs.Outcomes.{SweepFails, SweepsAll}
use Rattle.sweep_command.proofs.Causes.{sweep_drive, sweep_memory, sweep_mistaken, sweep_output, sweep_preset, sweep_usage}
use Rattle.shards.specs.declared.shard.Shard.{Shard}
use Rattle.shards.specs.Shards.{IsShard}
use Rattle.goals.specs.Wants.{IsBounded}
use Rattle.goals.specs.Words.{AreWants}
use Rattle.goals.specs.declared.want.Want.{Want}
use Rattle.scenario.specs.Setup.{Setup, member_count}
use Rattle.scenario_files.specs.Loading.{HasVerdict, LoadFails}
use Rattle.drive_command.specs.Outcomes.{DriveEnds, DriveFails, DrivesAll}
use Rattle.command_line.specs.declared.driving.DriveWords.{DriveWords}
use Rattle.cli.specs.Outcomes.{AsksForProgress, CheckFails, EndsRunBy, HasDone, Fails, HoldsScenario}
use Rattle.files.specs.Files.{Making}
use Rattle.command_line.specs.Printed.{members_line, rows_line, PresetFails, PrintsPreset}
use Rattle.command_line.specs.Words.{Answers, AsksForRun, AsksForCheck, AsksForDrive, AsksForExpand, AsksForExplain, AsksForInit, AsksForJoin, AsksForPage, AsksForShard, AsksForSweep, AsksToDrive, IsCommand}
use Rattle.command_line.specs.declared.release.Release.{Release}
use Rattle.command_line.specs.declared.words.Asked.{Asked}
use Rattle.command_line.specs.declared.words.Asked.TheVariants as asked
use Rattle.presets.specs.declared.preset.Preset.{Preset}
use Rattle.command_line.specs.declared.explaining.ExplainWords.{ExplainWords}
use Rattle.command_line.specs.declared.joining.JoinWords.{JoinWords}
use Rattle.command_line.specs.declared.paging.PageWords.{PageWords}
use Rattle.command_line.specs.declared.words.RunWords.{RunWords}
use Rattle.command_line.specs.declared.words.SweepWords.{SweepWords}
use Rattle.command_line.specs.declared.failure.Failure.{Failure}
use Rattle.command_line.specs.declared.failure.Failure.TheVariants as failing
use Rattle.command_line.specs.declared.failure.Failure.TheVariants.{File, Usage, NoItem, Rule, Mistaken, Setting, Shards, Workers, Division, Run, Memory, Drive, Output}

-- words with an answer are a command
pub is_command : (words : List Text) (answer : Asked) → Answers words answer → IsCommand words
is_command words (asked.Run run) h = inl (run, h)
is_command words (asked.Check file) h = inr (inl (file.now, h))
is_command words (asked.Explain explain) h = inr (inr (inl (explain, h)))
is_command words (asked.Sweep sweep) h = inr (inr (inr (inl (sweep, h))))
is_command words (asked.Init preset) h = inr (inr (inr (inr (inl (preset, h)))))
is_command words (asked.Join join) h = inr (inr (inr (inr (inr (inl (join, h))))))
is_command words (asked.Page page) h = inr (inr (inr (inr (inr (inr (inl (page, h)))))))
is_command words (asked.Drive drive) h = inr (inr (inr (inr (inr (inr (inr (inl (drive, h))))))))
is_command words (asked.Help help) h = inr (inr (inr (inr (inr (inr (inr (inr (inl h.1))))))))
is_command words asked.Version h = inr (inr (inr (inr (inr (inr (inr (inr (inr (inl h)))))))))
is_command words (asked.Expand file) h = inr (inr (inr (inr (inr (inr (inr (inr (inr (inr (file.now, h))))))))))

-- why a run that the words ask for was not done
pub run_fails : (Refused : Type 0) (words : List Text) (before after : Shelf) (making : Making) (old new : Option (List ℕ)) (gave : List (List ℕ)) (heard : List ℕ) (run : RunWords) (version : List ℕ) (failure : Failure)
    → AsksForRun words run → RunFails (λ s workers. EndsWithCause Refused (EndsRunBy s workers)) version before after making run failure → Fails Refused words before after making old new gave heard failure
run_fails Refused words before after making old new gave heard run version (File name) asks fails = inl (run, asks, (version, fails))
run_fails Refused words before after making old new gave heard run version (Rule rule) asks fails = inl (run, asks, (version, fails))
run_fails Refused words before after making old new gave heard run version (Mistaken rule) asks fails = absurd (run_mistaken version before after making run rule fails)
run_fails Refused words before after making old new gave heard run version (Setting rule swept_keys) asks fails = inl (run, asks, (version, fails))
run_fails Refused words before after making old new gave heard run version (Shards cause) asks fails = inl (run, asks, (version, fails))
run_fails Refused words before after making old new gave heard run version Workers asks fails = inl (run, asks, (version, fails))
run_fails Refused words before after making old new gave heard run version (Division cause) asks fails = inl (run, asks, (version, fails))
run_fails Refused words before after making old new gave heard run version (Run cause) asks fails = inl (run, asks, (version, fails))
run_fails Refused words before after making old new gave heard run version failing.Preset asks fails = absurd (run_preset version before after making run fails)
run_fails Refused words before after making old new gave heard run version Usage asks fails = absurd (run_usage version before after making run fails)
run_fails Refused words before after making old new gave heard run version (NoItem key) asks fails = absurd (run_item version before after making run key fails)
run_fails Refused words before after making old new gave heard run version Output asks fails = absurd (run_output version before after making run fails)
run_fails Refused words before after making old new gave heard run version (Drive stop) asks fails = absurd (run_drive version before after making run stop fails)
run_fails Refused words before after making old new gave heard run version Memory asks fails = run_memory version before after making run fails

-- why a check that the words ask for was not done
pub check_fails : (Refused : Type 0) (words : List Text) (before after : Shelf) (making : Making) (old new : Option (List ℕ)) (gave : List (List ℕ)) (heard : List ℕ) (file : Text) (failure : Failure)
    → AsksForCheck words file → CheckFails before after file failure → Fails Refused words before after making old new gave heard failure
check_fails Refused words before after making old new gave heard file (File name) asks fails = inr (inl (file, asks, fails))
check_fails Refused words before after making old new gave heard file (Rule rule) asks fails = inr (inl (file, asks, fails))
check_fails Refused words before after making old new gave heard file (Mistaken rule) asks fails = absurd fails.cause
check_fails Refused words before after making old new gave heard file (Setting rule swept_keys) asks fails = absurd fails.cause
check_fails Refused words before after making old new gave heard file (Shards cause) asks fails = absurd fails.cause
check_fails Refused words before after making old new gave heard file Memory asks fails = fails.same
check_fails Refused words before after making old new gave heard file Usage asks fails = absurd fails.cause
check_fails Refused words before after making old new gave heard file (NoItem key) asks fails = absurd fails.cause
check_fails Refused words before after making old new gave heard file failing.Preset asks fails = absurd fails.cause
check_fails Refused words before after making old new gave heard file Workers asks fails = absurd fails.cause
check_fails Refused words before after making old new gave heard file (Division cause) asks fails = absurd fails.cause
check_fails Refused words before after making old new gave heard file (Run cause) asks fails = absurd fails.cause
check_fails Refused words before after making old new gave heard file Output asks fails = absurd fails.cause
check_fails Refused words before after making old new gave heard file (Drive stop) asks fails = absurd fails.cause

-- why the scenario that the words ask to explain isn't explained
pub explain_fails : (Refused : Type 0) (words : List Text) (before after : Shelf) (making : Making) (old new : Option (List ℕ)) (gave : List (List ℕ)) (heard : List ℕ) (explain : ExplainWords) (failure : Failure)
    → AsksForExplain words explain → (after ≡ before) → ExplainFails (before explain.file.now) explain old new failure → Fails Refused words before after making old new gave heard failure
explain_fails Refused words before after making old new gave heard explain (File name) asks same fails = inr (inr (inl (explain, asks, record { cause = fails; same = same })))
explain_fails Refused words before after making old new gave heard explain (Rule rule) asks same fails = absurd fails
explain_fails Refused words before after making old new gave heard explain (Mistaken rule) asks same fails = (explain, asks, record { cause = fails; same = same })
explain_fails Refused words before after making old new gave heard explain (Setting rule swept_keys) asks same fails = absurd fails
explain_fails Refused words before after making old new gave heard explain (Shards cause) asks same fails = absurd fails
explain_fails Refused words before after making old new gave heard explain Memory asks same fails = same
explain_fails Refused words before after making old new gave heard explain Usage asks same fails = absurd fails
explain_fails Refused words before after making old new gave heard explain (NoItem key) asks same fails = absurd fails
explain_fails Refused words before after making old new gave heard explain failing.Preset asks same fails = absurd fails
explain_fails Refused words before after making old new gave heard explain Workers asks same fails = absurd fails
explain_fails Refused words before after making old new gave heard explain (Division cause) asks same fails = absurd fails
explain_fails Refused words before after making old new gave heard explain (Run cause) asks same fails = absurd fails
explain_fails Refused words before after making old new gave heard explain Output asks same fails = inr (inr (inl (explain, asks, fails, same)))
explain_fails Refused words before after making old new gave heard explain (Drive stop) asks same fails = absurd fails

-- the same of an answer that is an explanation
pub asked_explain_fails : (Refused : Type 0) (words : List Text) (before after : Shelf) (making : Making) (old new : Option (List ℕ)) (gave : List (List ℕ)) (heard : List ℕ) (answer : Asked) (explain : ExplainWords) (failure : Failure)
    → answer ≡ asked.Explain explain → Answers words answer → (after ≡ before) → ExplainFails (before explain.file.now) explain old new failure
    → Fails Refused words before after making old new gave heard failure
asked_explain_fails Refused words before after making old new gave heard answer explain failure is h same fails =
    let asks : Answers words (asked.Explain explain) = subst (Answers words) is h in
    explain_fails Refused words before after making old new gave heard explain failure asks same fails

-- the same of whatever came of explaining
pub asked_explain_failed : (Refused : Type 0) (words : List Text) (before after : Shelf) (making : Making) (old new : Option (List ℕ)) (gave : List (List ℕ)) (heard : List ℕ) (answer : Asked) (explain : ExplainWords)
    (done : Result (Unit {0}) Failure) → answer ≡ asked.Explain explain → Answers words answer → (after ≡ before)
    → IfErr done (ExplainFails (before explain.file.now) explain old new) → IfErr done (Fails Refused words before after making old new gave heard)
asked_explain_failed Refused words before after making old new gave heard answer explain done is h same failed =
    IfErr-weaker done _ _ (λ failure fails. asked_explain_fails Refused words before after making old new gave heard answer explain failure is h same fails) failed

-- what a scenario means that the words ask to explain was printed
pub asked_explain_done : {E : Type 0} (release : Release) (words : List Text) (before after : Shelf) (making : Making) (old new : Option (List ℕ)) (gave : List (List ℕ)) (heard : List ℕ) (answer : Asked) (explain : ExplainWords)
    (printed : Result (Unit {0}) E) → answer ≡ asked.Explain explain → Answers words answer → (after ≡ before)
    → OnOk printed (PrintsMeaning (before explain.file.now) explain old new) → OnOk printed (HasDone release words before after making old new gave heard)
asked_explain_done release words before after making old new gave heard answer explain printed is h same told =
    let asks : Answers words (asked.Explain explain) = subst (Answers words) is h in
    on_ok_weaker printed (λ prints. inr (inr (inl (explain, asks, prints, same)))) told

-- why a sweep that the words ask for was not done
pub sweep_fails : (Refused : Type 0) (words : List Text) (before after : Shelf) (making : Making) (old new : Option (List ℕ)) (gave : List (List ℕ)) (heard : List ℕ) (sweep : SweepWords) (failure : Failure)
    → AsksForSweep words sweep → SweepFails Refused before after making sweep failure → Fails Refused words before after making old new gave heard failure
sweep_fails Refused words before after making old new gave heard sweep (File name) asks fails = inr (inr (inr (inl (sweep, asks, fails))))
sweep_fails Refused words before after making old new gave heard sweep (Rule rule) asks fails = inr (inr (inr (inl (sweep, asks, fails))))
sweep_fails Refused words before after making old new gave heard sweep (Mistaken rule) asks fails = absurd (sweep_mistaken Refused before after making sweep rule fails)
sweep_fails Refused words before after making old new gave heard sweep (Setting rule swept_keys) asks fails = inr (inr (inr (inl (sweep, asks, fails))))
sweep_fails Refused words before after making old new gave heard sweep (Shards cause) asks fails = inr (inr (inr (inl (sweep, asks, fails))))
sweep_fails Refused words before after making old new gave heard sweep Workers asks fails = inr (inr (inr (inl (sweep, asks, fails))))
sweep_fails Refused words before after making old new gave heard sweep (Division cause) asks fails = inr (inr (inr (inl (sweep, asks, fails))))
sweep_fails Refused words before after making old new gave heard sweep (Run cause) asks fails = inr (inr (inr (inl (sweep, asks, fails))))
sweep_fails Refused words before after making old new gave heard sweep failing.Preset asks fails = absurd (sweep_preset Refused before after making sweep fails)
sweep_fails Refused words before after making old new gave heard sweep Usage asks fails = absurd (sweep_usage Refused before after making sweep fails)
sweep_fails Refused words before after making old new gave heard sweep (NoItem key) asks fails = (sweep, asks, fails)
sweep_fails Refused words before after making old new gave heard sweep Output asks fails = absurd (sweep_output Refused before after making sweep fails)
sweep_fails Refused words before after making old new gave heard sweep (Drive stop) asks fails = absurd (sweep_drive Refused before after making sweep stop fails)
sweep_fails Refused words before after making old new gave heard sweep Memory asks fails = sweep_memory Refused before after making sweep fails

-- the same of an answer that is a run
pub asked_run_fails : (Refused : Type 0) (version : List ℕ) (words : List Text) (before after : Shelf) (making : Making) (old new : Option (List ℕ)) (gave : List (List ℕ)) (heard : List ℕ) (answer : Asked) (run : RunWords) (failure : Failure)
    → answer ≡ asked.Run run → Answers words answer → RunFails (λ s workers. EndsWithCause Refused (EndsRunBy s workers)) version before after making run failure → Fails Refused words before after making old new gave heard failure
asked_run_fails Refused version words before after making old new gave heard answer run failure is h fails =
    let asks : Answers words (asked.Run run) = subst (Answers words) is h in
    run_fails Refused words before after making old new gave heard run version failure asks fails

-- a run that the words ask for was done, and the number of its rows was not printed
pub asked_run_unprinted : (Refused : Type 0) (version : List ℕ) (words : List Text) (before after : Shelf) (making : Making) (old new : Option (List ℕ)) (gave : List (List ℕ)) (heard : List ℕ) (answer : Asked) (run : RunWords) (count : ℕ)
    (printed : Result (Unit {0}) Failure) → answer ≡ asked.Run run → Answers words answer → RunsAll version before after making run count
    → IfErr printed (λ failure. failure ≡ Output) → IfErr printed (Fails Refused words before after making old new gave heard)
asked_run_unprinted Refused version words before after making old new gave heard answer run count printed is h ran told =
    let asks : Answers words (asked.Run run) = subst (Answers words) is h in
    IfErr-weaker printed _ _ (λ failure same. subst (Fails Refused words before after making old new gave heard) (sym same) (inl (version, count, (run, asks, ran)))) told

-- a run that the words ask for was done, and the number of its rows printed
pub asked_run_done : {E : Type 0} (release : Release) (words : List Text) (before after : Shelf) (making : Making) (old new : Option (List ℕ)) (gave : List (List ℕ)) (heard : List ℕ) (answer : Asked) (run : RunWords) (count : ℕ)
    (printed : Result (Unit {0}) E) → answer ≡ asked.Run run → Answers words answer → RunsAll release.version.now before after making run count
    → OnOk printed (Appends old new (rows_line count)) → OnOk printed (HasDone release words before after making old new gave heard)
asked_run_done release words before after making old new gave heard answer run count printed is h ran told =
    let asks : Answers words (asked.Run run) = subst (Answers words) is h in
    on_ok_weaker printed (λ appended. inl (count, (run, asks, ran), appended)) told

-- where the words don't ask for progress, this run prints none
pub asked_run_untold : (words : List Text) (answer : Asked) (run : RunWords) → answer ≡ asked.Run run → Answers words answer
    → ¬ (AsksForProgress words) → run.progress ≡ false
asked_run_untold words answer run is h none = go run.progress refl
  where
    go : (told : Bool) → run.progress ≡ told → run.progress ≡ false
    go false e = e
    go true e =
        let asks : Answers words (asked.Run run) = subst (Answers words) is h in
        absurd (none (inl (run, asks, e)))

-- the same of an answer that is a sweep
pub asked_sweep_fails : (Refused : Type 0) (words : List Text) (before after : Shelf) (making : Making) (old new : Option (List ℕ)) (gave : List (List ℕ)) (heard : List ℕ) (answer : Asked) (sweep : SweepWords) (failure : Failure)
    → answer ≡ asked.Sweep sweep → Answers words answer → SweepFails Refused before after making sweep failure → Fails Refused words before after making old new gave heard failure
asked_sweep_fails Refused words before after making old new gave heard answer sweep failure is h fails =
    let asks : Answers words (asked.Sweep sweep) = subst (Answers words) is h in
    sweep_fails Refused words before after making old new gave heard sweep failure asks fails

-- a sweep that the words ask for was done, and its lines were not printed
pub asked_sweep_unprinted : (Refused : Type 0) (version : List ℕ) (words : List Text) (before after : Shelf) (making : Making) (old new : Option (List ℕ)) (gave : List (List ℕ)) (heard : List ℕ) (answer : Asked) (sweep : SweepWords) (lines : List ℕ)
    (printed : Result (Unit {0}) Failure) → answer ≡ asked.Sweep sweep → Answers words answer → SweepsAll version before after making sweep lines
    → IfErr printed (λ failure. failure ≡ Output) → IfErr printed (Fails Refused words before after making old new gave heard)
asked_sweep_unprinted Refused version words before after making old new gave heard answer sweep lines printed is h swept told =
    let asks : Answers words (asked.Sweep sweep) = subst (Answers words) is h in
    IfErr-weaker printed _ _ (λ failure same. subst (Fails Refused words before after making old new gave heard) (sym same) (inr (inr (inr (inl (version, lines, (sweep, asks, swept))))))) told

-- the same, and its lines were printed
pub asked_sweep_done : {E : Type 0} (release : Release) (words : List Text) (before after : Shelf) (making : Making) (old new : Option (List ℕ)) (gave : List (List ℕ)) (heard : List ℕ) (answer : Asked) (sweep : SweepWords)
    (lines shown : List ℕ) (printed : Result (Unit {0}) E) → answer ≡ asked.Sweep sweep → Answers words answer → SweepsAll release.version.now before after making sweep lines
    → shown ≡ lines → OnOk printed (Appends old new shown) → OnOk printed (HasDone release words before after making old new gave heard)
asked_sweep_done release words before after making old new gave heard answer sweep lines shown printed is h swept same told =
    let asks : Answers words (asked.Sweep sweep) = subst (Answers words) is h in
    on_ok_weaker printed (λ appended. inr (inr (inr (inl (lines, (sweep, asks, swept), subst (Appends old new) same appended))))) told

-- where the words don't ask for progress, this sweep prints none
pub asked_untold : (words : List Text) (answer : Asked) (sweep : SweepWords) → answer ≡ asked.Sweep sweep → Answers words answer
    → ¬ (AsksForProgress words) → sweep.progress ≡ false
asked_untold words answer sweep is h none = go sweep.progress refl
  where
    go : (told : Bool) → sweep.progress ≡ told → sweep.progress ≡ false
    go false e = e
    go true e =
        let asks : Answers words (asked.Sweep sweep) = subst (Answers words) is h in
        absurd (none (inr (sweep, asks, e)))

-- the shard that a sweep names is sound
shard_sound : (word : Option Text) (shard : Option Shard) → AsksForShard word shard → (p : Shard) → shard ≡ Some p → IsShard p
shard_sound None None h p is = absurd (none-some p is)
shard_sound None (Some q) h p is = absurd h
shard_sound (Some word) None h p is = absurd h
shard_sound (Some word) (Some q) h p is = subst IsShard (same_Some q p is) h.sound

pub asked_shard : (words : List Text) (answer : Asked) (sweep : SweepWords) → answer ≡ asked.Sweep sweep → Answers words answer → ForSome sweep.shard IsShard
asked_shard words answer sweep is h =
    let asks : Answers words (asked.Sweep sweep) = subst (Answers words) is h in
    shard_sound (first_of (codes "shard") asks.1.rows) sweep.shard asks.1.shard

-- what a sweep wants is bounded
wants_bounded : (words : List Text) (wants : List Want) → AreWants words wants → All IsBounded wants
wants_bounded [] [] are = All-nil IsBounded
wants_bounded [] (want ∷ wants) are = absurd are
wants_bounded (word ∷ words) [] are = absurd are
wants_bounded (word ∷ words) (want ∷ wants) are = All-cons IsBounded want wants are.0.low (wants_bounded words wants are.1)

pub asked_wants : (words : List Text) (answer : Asked) (sweep : SweepWords) → answer ≡ asked.Sweep sweep → Answers words answer → All IsBounded sweep.wants.items
asked_wants words answer sweep is h =
    let asks : Answers words (asked.Sweep sweep) = subst (Answers words) is h in
    wants_bounded (unwrap_or (all_of (codes "want") asks.1.rows) []) sweep.wants.items asks.1.wants

pub joined_wants : (words : List Text) (answer : Asked) (join : JoinWords) → answer ≡ asked.Join join → Answers words answer → All IsBounded join.wants.items
joined_wants words answer join is h =
    let asks : Answers words (asked.Join join) = subst (Answers words) is h in
    wants_bounded (unwrap_or (all_of (codes "want") asks.1.rows) []) join.wants.items asks.1.wants

-- why shards that the words ask to join were not put together
join_fails : (Refused : Type 0) (words : List Text) (before after : Shelf) (making : Making) (old new : Option (List ℕ)) (gave : List (List ℕ)) (heard : List ℕ) (join : JoinWords) (failure : Failure)
    → AsksForJoin words join → JoinFails Refused before after making join failure → Fails Refused words before after making old new gave heard failure
join_fails Refused words before after making old new gave heard join (File name) asks fails = inr (inr (inr (inr (inl (join, asks, fails)))))
join_fails Refused words before after making old new gave heard join (Rule rule) asks fails = inr (inr (inr (inr (inl (join, asks, fails)))))
join_fails Refused words before after making old new gave heard join (Setting rule swept_keys) asks fails = inr (inr (inr (inr (inl (join, asks, fails)))))
join_fails Refused words before after making old new gave heard join (Shards cause) asks fails = inr (inr (inr (inr (inl (join, asks, fails)))))
join_fails Refused words before after making old new gave heard join Workers asks fails = inr (inr (inr (inr (inl (join, asks, fails)))))
join_fails Refused words before after making old new gave heard join (Division cause) asks fails = inr (inr (inr (inr (inl (join, asks, fails)))))
join_fails Refused words before after making old new gave heard join (Run cause) asks fails = inr (inr (inr (inr (inl (join, asks, fails)))))
join_fails Refused words before after making old new gave heard join (Mistaken rule) asks fails = absurd (join_ends Refused before after making join (Mistaken rule) fails)
join_fails Refused words before after making old new gave heard join failing.Preset asks fails = absurd (join_ends Refused before after making join failing.Preset fails)
join_fails Refused words before after making old new gave heard join Usage asks fails = absurd (join_ends Refused before after making join Usage fails)
join_fails Refused words before after making old new gave heard join (NoItem key) asks fails = absurd (join_ends Refused before after making join (NoItem key) fails)
join_fails Refused words before after making old new gave heard join Output asks fails = absurd (join_ends Refused before after making join Output fails)
join_fails Refused words before after making old new gave heard join (Drive stop) asks fails = absurd (join_ends Refused before after making join (Drive stop) fails)
join_fails Refused words before after making old new gave heard join Memory asks fails = join_memory Refused before after making join fails

-- the same of an answer that asks to join
pub asked_join_fails : (Refused : Type 0) (words : List Text) (before after : Shelf) (making : Making) (old new : Option (List ℕ)) (gave : List (List ℕ)) (heard : List ℕ) (answer : Asked) (join : JoinWords) (failure : Failure)
    → answer ≡ asked.Join join → Answers words answer → JoinFails Refused before after making join failure → Fails Refused words before after making old new gave heard failure
asked_join_fails Refused words before after making old new gave heard answer join failure is h fails =
    let asks : Answers words (asked.Join join) = subst (Answers words) is h in
    join_fails Refused words before after making old new gave heard join failure asks fails

-- shards that the words ask to join were put together, and the lines of the settings printed
pub asked_join_done : {E : Type 0} (release : Release) (words : List Text) (before after : Shelf) (making : Making) (old new : Option (List ℕ)) (gave : List (List ℕ)) (heard : List ℕ) (answer : Asked) (join : JoinWords)
    (lines shown : List ℕ) (printed : Result (Unit {0}) E) → answer ≡ asked.Join join → Answers words answer → JoinsAll release.version.now before after making join lines
    → shown ≡ lines → OnOk printed (Appends old new shown) → OnOk printed (HasDone release words before after making old new gave heard)
asked_join_done release words before after making old new gave heard answer join lines shown printed is h joined same told =
    let asks : Answers words (asked.Join join) = subst (Answers words) is h in
    on_ok_weaker printed (λ appended. inr (inr (inr (inr (inr (inl (lines, (join, asks, joined), subst (Appends old new) same appended))))))) told

-- or not printed
pub asked_join_unprinted : (Refused : Type 0) (version : List ℕ) (words : List Text) (before after : Shelf) (making : Making) (old new : Option (List ℕ)) (gave : List (List ℕ)) (heard : List ℕ) (answer : Asked) (join : JoinWords) (lines : List ℕ)
    (printed : Result (Unit {0}) Failure) → answer ≡ asked.Join join → Answers words answer → JoinsAll version before after making join lines
    → IfErr printed (λ failure. failure ≡ Output) → IfErr printed (Fails Refused words before after making old new gave heard)
asked_join_unprinted Refused version words before after making old new gave heard answer join lines printed is h joined told =
    let asks : Answers words (asked.Join join) = subst (Answers words) is h in
    IfErr-weaker printed _ _ (λ failure same. subst (Fails Refused words before after making old new gave heard) (sym same) (inr (inr (inr (inr (inr (inl (version, lines, (join, asks, joined))))))))) told

-- why the page that the words ask for was not made
page_fails : (Refused : Type 0) (words : List Text) (before after : Shelf) (making : Making) (old new : Option (List ℕ)) (gave : List (List ℕ)) (heard : List ℕ) (page : PageWords) (failure : Failure)
    → AsksForPage words page → PageFails Refused before after making page failure → Fails Refused words before after making old new gave heard failure
page_fails Refused words before after making old new gave heard page (File name) asks fails = inr (inr (inr (inr (inr (inl (page, asks, fails))))))
page_fails Refused words before after making old new gave heard page (Rule rule) asks fails = inr (inr (inr (inr (inr (inl (page, asks, fails))))))
page_fails Refused words before after making old new gave heard page (Setting rule swept_keys) asks fails = inr (inr (inr (inr (inr (inl (page, asks, fails))))))
page_fails Refused words before after making old new gave heard page (Shards cause) asks fails = inr (inr (inr (inr (inr (inl (page, asks, fails))))))
page_fails Refused words before after making old new gave heard page Workers asks fails = inr (inr (inr (inr (inr (inl (page, asks, fails))))))
page_fails Refused words before after making old new gave heard page (Division cause) asks fails = inr (inr (inr (inr (inr (inl (page, asks, fails))))))
page_fails Refused words before after making old new gave heard page (Run cause) asks fails = inr (inr (inr (inr (inr (inl (page, asks, fails))))))
page_fails Refused words before after making old new gave heard page (Mistaken rule) asks fails = absurd (page_ends Refused before after making page (Mistaken rule) fails)
page_fails Refused words before after making old new gave heard page failing.Preset asks fails = absurd (page_ends Refused before after making page failing.Preset fails)
page_fails Refused words before after making old new gave heard page Usage asks fails = absurd (page_ends Refused before after making page Usage fails)
page_fails Refused words before after making old new gave heard page (NoItem key) asks fails = absurd (page_ends Refused before after making page (NoItem key) fails)
page_fails Refused words before after making old new gave heard page Output asks fails = absurd (page_ends Refused before after making page Output fails)
page_fails Refused words before after making old new gave heard page (Drive stop) asks fails = absurd (page_ends Refused before after making page (Drive stop) fails)
page_fails Refused words before after making old new gave heard page Memory asks fails = page_memory Refused before after making page fails

-- the same of whatever came of it
pub asked_page_failed : (Refused : Type 0) (words : List Text) (before after : Shelf) (making : Making) (old new : Option (List ℕ)) (gave : List (List ℕ)) (heard : List ℕ) (answer : Asked) (page : PageWords)
    (done : Result (Unit {0}) Failure) → answer ≡ asked.Page page → Answers words answer → IfErr done (PageFails Refused before after making page)
    → IfErr done (Fails Refused words before after making old new gave heard)
asked_page_failed Refused words before after making old new gave heard answer page done is h failed =
    let asks : Answers words (asked.Page page) = subst (Answers words) is h in
    IfErr-weaker done _ _ (λ failure fails. page_fails Refused words before after making old new gave heard page failure asks fails) failed

-- the page was made, and nothing was printed
pub asked_page_done : {E : Type 0} (release : Release) (words : List Text) (before after : Shelf) (making : Making) (held : Option (List ℕ)) (gave : List (List ℕ)) (heard : List ℕ) (answer : Asked) (page : PageWords)
    (done : Result (Unit {0}) E) → answer ≡ asked.Page page → Answers words answer → OnOk done (PagesAll release.version.now before after making page)
    → OnOk done (HasDone release words before after making held held gave heard)
asked_page_done release words before after making held gave heard answer page done is h paged =
    let asks : Answers words (asked.Page page) = subst (Answers words) is h in
    on_ok_weaker done (λ pages. inr (inr (inr (inr (inr (inr (inl ((page, asks, pages), Keeps-same held)))))))) paged

-- the scenario of a preset that the words ask for was printed
pub asked_init_done : {E : Type 0} (release : Release) (words : List Text) (before : Shelf) (making : Making) (old new : Option (List ℕ)) (gave : List (List ℕ)) (heard : List ℕ) (answer : Asked) (preset : Preset)
    (printed : Result (Unit {0}) E) → answer ≡ asked.Init preset → Answers words answer
    → OnOk printed (PrintsPreset preset old new) → OnOk printed (HasDone release words before before making old new gave heard)
asked_init_done release words before making old new gave heard answer preset printed is h told =
    let asks : Answers words (asked.Init preset) = subst (Answers words) is h in
    on_ok_weaker printed (λ prints. inr (inr (inr (inr (inl (preset, asks, prints, refl)))))) told

-- why it wasn't
pub asked_init_fails : (Refused : Type 0) (words : List Text) (before : Shelf) (making : Making) (old new : Option (List ℕ)) (gave : List (List ℕ)) (heard : List ℕ) (answer : Asked) (preset : Preset) (unchanged : Type 0) (failure : Failure)
    → answer ≡ asked.Init preset → Answers words answer → PresetFails preset unchanged failure → Fails Refused words before before making old new gave heard failure
asked_init_fails Refused words before making old new gave heard answer preset unchanged failure is h fails =
    let asks : Answers words (asked.Init preset) = subst (Answers words) is h in
    by_failure failure asks fails
  where
    by_failure : (f : Failure) → AsksForInit words preset → PresetFails preset unchanged f → Fails Refused words before before making old new gave heard f
    by_failure Output asks has = inr (inr (inr (inr (inl (preset, asks, has, refl)))))
    by_failure Memory asks same = refl
    by_failure (File name) asks none = absurd none
    by_failure Usage asks none = absurd none
    by_failure (NoItem key) asks none = absurd none
    by_failure failing.Preset asks none = absurd none
    by_failure (Rule rule) asks none = absurd none
    by_failure (Mistaken rule) asks none = absurd none
    by_failure (Setting rule swept_keys) asks none = absurd none
    by_failure (Shards cause) asks none = absurd none
    by_failure Workers asks none = absurd none
    by_failure (Division cause) asks none = absurd none
    by_failure (Run cause) asks none = absurd none
    by_failure (Drive stop) asks none = absurd none

-- the same of whatever came of it
pub asked_init_failed : (Refused : Type 0) (words : List Text) (before : Shelf) (making : Making) (old new : Option (List ℕ)) (gave : List (List ℕ)) (heard : List ℕ) (answer : Asked) (preset : Preset) (unchanged : Type 0)
    (done : Result (Unit {0}) Failure) → answer ≡ asked.Init preset → Answers words answer → IfErr done (PresetFails preset unchanged)
    → IfErr done (Fails Refused words before before making old new gave heard)
asked_init_failed Refused words before making old new gave heard answer preset unchanged done is h failed =
    IfErr-weaker done _ _ (λ failure fails. asked_init_fails Refused words before making old new gave heard answer preset unchanged failure is h fails) failed

-- what holds anyhow holds of what is done
pub on_done : {T E : Type 0} (told : Result T E) (P : Type 0) → P → OnOk told P
on_done (Ok x) P holds = holds
on_done (Err e) P holds = tt

-- why a drive that the words ask for was not done: not by a failure that neither reading the scenario nor the drive ends by
drive_ends : (Refused : Type 0) (version : List ℕ) (before after : Shelf) (making : Making) (drive : DriveWords) (gave : List (List ℕ)) (heard : List ℕ) (failure : Failure)
    → (LoadFails (before drive.file.now) drive.file.now failure → ⊥) → ((s : Setup) → DriveEnds Refused s version before after making drive gave heard failure → ⊥)
    → DriveFails Refused version before after making drive gave heard failure → ⊥
drive_ends Refused version before after making drive gave heard failure unread ends (inl refused) = unread refused.cause
drive_ends Refused version before after making drive gave heard failure unread ends (inr ended) = ends ended.0 ended.2

drive_memory : (Refused : Type 0) (version : List ℕ) (before after : Shelf) (making : Making) (drive : DriveWords) (gave : List (List ℕ)) (heard : List ℕ)
    → DriveFails Refused version before after making drive gave heard Memory → after ≡ before
drive_memory Refused version before after making drive gave heard (inl refused) = refused.same
drive_memory Refused version before after making drive gave heard (inr ended) = ended.2

drive_fails : (Refused : Type 0) (version : List ℕ) (words : List Text) (before after : Shelf) (making : Making) (old new : Option (List ℕ)) (gave : List (List ℕ)) (heard : List ℕ) (drive : DriveWords) (failure : Failure)
    → AsksForDrive words drive → DriveFails Refused version before after making drive gave heard failure → Fails Refused words before after making old new gave heard failure
drive_fails Refused version words before after making old new gave heard drive (File name) asks fails = inr (inr (inr (inr (inr (inr (inl (drive, asks, (version, fails))))))))
drive_fails Refused version words before after making old new gave heard drive (Rule rule) asks fails = inr (inr (inr (inr (inr (inr (inl (drive, asks, (version, fails))))))))
drive_fails Refused version words before after making old new gave heard drive (Setting rule swept_keys) asks fails = inr (inr (inr (inr (inr (inr (inl (drive, asks, (version, fails))))))))
drive_fails Refused version words before after making old new gave heard drive (Shards cause) asks fails = inr (inr (inr (inr (inr (inr (inl (drive, asks, (version, fails))))))))
drive_fails Refused version words before after making old new gave heard drive Workers asks fails = inr (inr (inr (inr (inr (inr (inl (drive, asks, (version, fails))))))))
drive_fails Refused version words before after making old new gave heard drive (Division cause) asks fails = inr (inr (inr (inr (inr (inr (inl (drive, asks, (version, fails))))))))
drive_fails Refused version words before after making old new gave heard drive (Run cause) asks fails = inr (inr (inr (inr (inr (inr (inl (drive, asks, (version, fails))))))))
drive_fails Refused version words before after making old new gave heard drive (Drive cause) asks fails = inr (inr (inr (inr (inr (inr (inl (drive, asks, (version, fails))))))))
drive_fails Refused version words before after making old new gave heard drive (Mistaken rule) asks fails = absurd (drive_ends Refused version before after making drive gave heard (Mistaken rule) (λ h. h) (λ s h. h) fails)
drive_fails Refused version words before after making old new gave heard drive failing.Preset asks fails = absurd (drive_ends Refused version before after making drive gave heard failing.Preset (λ h. h) (λ s h. h) fails)
drive_fails Refused version words before after making old new gave heard drive Usage asks fails = absurd (drive_ends Refused version before after making drive gave heard Usage (λ h. h) (λ s h. h) fails)
drive_fails Refused version words before after making old new gave heard drive (NoItem key) asks fails = absurd (drive_ends Refused version before after making drive gave heard (NoItem key) (λ h. h) (λ s h. h) fails)
drive_fails Refused version words before after making old new gave heard drive Output asks fails = absurd (drive_ends Refused version before after making drive gave heard Output (λ h. h) (λ s h. h) fails)
drive_fails Refused version words before after making old new gave heard drive Memory asks fails = drive_memory Refused version before after making drive gave heard fails

-- the same of whatever came of it
pub asked_drive_failed : (Refused : Type 0) (version : List ℕ) (words : List Text) (before after : Shelf) (making : Making) (old new : Option (List ℕ)) (gave : List (List ℕ)) (heard : List ℕ) (answer : Asked) (drive : DriveWords)
    (done : Result (Unit {0}) Failure) → answer ≡ asked.Drive drive → Answers words answer → IfErr done (DriveFails Refused version before after making drive gave heard)
    → IfErr done (Fails Refused words before after making old new gave heard)
asked_drive_failed Refused version words before after making old new gave heard answer drive done is h failed =
    let asks : Answers words (asked.Drive drive) = subst (Answers words) is h in
    IfErr-weaker done _ _ (λ failure fails. drive_fails Refused version words before after making old new gave heard drive failure asks fails) failed

-- the drive was done, and nothing else was printed
pub asked_drive_done : {E : Type 0} (release : Release) (words : List Text) (before after : Shelf) (making : Making) (held : Option (List ℕ)) (gave : List (List ℕ)) (heard : List ℕ) (answer : Asked) (drive : DriveWords)
    (done : Result (Unit {0}) E) → answer ≡ asked.Drive drive → Answers words answer → OnOk done (DrivesAll release.version.now before after making drive gave heard)
    → OnOk done (HasDone release words before after making held held gave heard)
asked_drive_done release words before after making held gave heard answer drive done is h driven =
    let asks : Answers words (asked.Drive drive) = subst (Answers words) is h in
    on_ok_weaker done (λ drives. inr (inr (inr (inr (inr (inr (inr (inl ((drive, asks, drives), Keeps-same held))))))))) driven

-- where the words ask for no drive, this isn't one
pub asked_undriven : {P : Type 0} (words : List Text) (answer : Asked) (drive : DriveWords) → answer ≡ asked.Drive drive → Answers words answer → ¬ (AsksToDrive words) → P
asked_undriven words answer drive is h none = absurd (none (drive, subst (Answers words) is h))

-- why the scenario that the words ask to expand has no plain text
expand_fails : (Refused : Type 0) (words : List Text) (before after : Shelf) (making : Making) (old new : Option (List ℕ)) (gave : List (List ℕ)) (heard : List ℕ) (file : Text) (failure : Failure)
    → AsksForExpand words file → (after ≡ before) → ExpandFails (before file) file failure → Fails Refused words before after making old new gave heard failure
expand_fails Refused words before after making old new gave heard file (File name) asks same fails = inr (inr (inr (inr (inr (inr (inr (file, asks, record { cause = fails; same = same })))))))
expand_fails Refused words before after making old new gave heard file (Rule rule) asks same fails = inr (inr (inr (inr (inr (inr (inr (file, asks, record { cause = fails; same = same })))))))
expand_fails Refused words before after making old new gave heard file Memory asks same fails = same
expand_fails Refused words before after making old new gave heard file (Mistaken rule) asks same fails = absurd fails
expand_fails Refused words before after making old new gave heard file (Setting rule swept_keys) asks same fails = absurd fails
expand_fails Refused words before after making old new gave heard file (Shards cause) asks same fails = absurd fails
expand_fails Refused words before after making old new gave heard file Usage asks same fails = absurd fails
expand_fails Refused words before after making old new gave heard file (NoItem key) asks same fails = absurd fails
expand_fails Refused words before after making old new gave heard file failing.Preset asks same fails = absurd fails
expand_fails Refused words before after making old new gave heard file Workers asks same fails = absurd fails
expand_fails Refused words before after making old new gave heard file (Division cause) asks same fails = absurd fails
expand_fails Refused words before after making old new gave heard file (Run cause) asks same fails = absurd fails
expand_fails Refused words before after making old new gave heard file Output asks same fails = absurd fails
expand_fails Refused words before after making old new gave heard file (Drive stop) asks same fails = absurd fails

-- the same of an answer that is such a wish
pub asked_expand_fails : (Refused : Type 0) (words : List Text) (before after : Shelf) (making : Making) (old new : Option (List ℕ)) (gave : List (List ℕ)) (heard : List ℕ) (answer : Asked) (file : Bor Text) (failure : Failure)
    → answer ≡ asked.Expand file → Answers words answer → (after ≡ before) → ExpandFails (before file.now) file.now failure
    → Fails Refused words before after making old new gave heard failure
asked_expand_fails Refused words before after making old new gave heard answer file failure is h same fails =
    let asks : Answers words (asked.Expand file) = subst (Answers words) is h in
    expand_fails Refused words before after making old new gave heard file.now failure asks same fails

-- the plain text that the words ask for was printed
pub asked_expand_done : {E : Type 0} (release : Release) (words : List Text) (before after : Shelf) (making : Making) (old new : Option (List ℕ)) (gave : List (List ℕ)) (heard : List ℕ) (answer : Asked) (file : Bor Text) (text shown : List ℕ)
    (printed : Result (Unit {0}) E) → answer ≡ asked.Expand file → Answers words answer → (after ≡ before) → ExpandsTo (before file.now) text → shown ≡ text
    → OnOk printed (Appends old new shown) → OnOk printed (HasDone release words before after making old new gave heard)
asked_expand_done release words before after making old new gave heard answer file text shown printed is h same stands whole told =
    let asks : Answers words (asked.Expand file) = subst (Answers words) is h in
    on_ok_weaker printed (λ appended. inr (inr (inr (inr (inr (inr (inr (inr (inr (inr (text, (file.now, asks, stands, same), subst (Appends old new) whole appended))))))))))) told

-- or not printed
pub asked_expand_unprinted : (Refused : Type 0) (words : List Text) (before after : Shelf) (making : Making) (old new : Option (List ℕ)) (gave : List (List ℕ)) (heard : List ℕ) (answer : Asked) (file : Bor Text) (text : List ℕ)
    (printed : Result (Unit {0}) Failure) → answer ≡ asked.Expand file → Answers words answer → (after ≡ before) → ExpandsTo (before file.now) text
    → IfErr printed (λ failure. failure ≡ Output) → IfErr printed (Fails Refused words before after making old new gave heard)
asked_expand_unprinted Refused words before after making old new gave heard answer file text printed is h same stands told =
    let asks : Answers words (asked.Expand file) = subst (Answers words) is h in
    IfErr-weaker printed _ _ (λ failure output. subst (Fails Refused words before after making old new gave heard) (sym output) (inr (inr (inr (inr (inr (inr (inr (inr (text, (file.now, asks, stands, same))))))))))) told

-- the number of members that the words ask for was printed
pub asked_check_done : {E : Type 0} (release : Release) (words : List Text) (before after : Shelf) (making : Making) (old new : Option (List ℕ)) (gave : List (List ℕ)) (heard : List ℕ) (answer : Asked) (file : Bor Text) (s : Setup) (members : ℕ)
    (printed : Result (Unit {0}) E) → answer ≡ asked.Check file → Answers words answer → (after ≡ before) → HasVerdict (before file.now) (Ok s) → members ≡ member_count s
    → OnOk printed (Appends old new (members_line members)) → OnOk printed (HasDone release words before after making old new gave heard)
asked_check_done release words before after making old new gave heard answer file s members printed is h same accepted counted told =
    let asks : Answers words (asked.Check file) = subst (Answers words) is h in
    let holds : HoldsScenario (before file.now) members = record { scenario = s; accepted = accepted; counted = counted } in
    on_ok_weaker printed (λ appended. inr (inl (members, (file.now, asks, holds, same), appended))) told

-- or not printed
pub asked_check_unprinted : (Refused : Type 0) (words : List Text) (before after : Shelf) (making : Making) (old new : Option (List ℕ)) (gave : List (List ℕ)) (heard : List ℕ) (answer : Asked) (file : Bor Text) (s : Setup)
    (printed : Result (Unit {0}) Failure) → answer ≡ asked.Check file → Answers words answer → (after ≡ before) → HasVerdict (before file.now) (Ok s)
    → IfErr printed (λ failure. failure ≡ Output) → IfErr printed (Fails Refused words before after making old new gave heard)
asked_check_unprinted Refused words before after making old new gave heard answer file s printed is h same accepted told =
    let asks : Answers words (asked.Check file) = subst (Answers words) is h in
    let holds : HoldsScenario (before file.now) (member_count s) = record { scenario = s; accepted = accepted; counted = refl } in
    IfErr-weaker printed _ _ (λ failure output. subst (Fails Refused words before after making old new gave heard) (sym output) (inr (inl (member_count s, (file.now, asks, holds, same))))) told
