-- the status says whether the command was done, and if not, why
use Rattle.std.proofs.Common.{◌≡◌, ◌≢◌, ◌≤◌, ◌<◌, ◌⊎◌, ◌∙◌, ℕ, List, Option, Err, ap, sym, subst, refl, inl, inr, arith}
use Rattle.clap.specs.Words.{Text}
use Rattle.files.specs.Files.{Making}
use Rattle.scenario_files.specs.Shelves.{Shelf}
use Rattle.command_line.specs.Failures.{status_of, stop_status, IsMistaken}
use Rattle.command_line.specs.declared.answers.DriveStop.{DriveStop}
use Rattle.command_line.specs.declared.answers.DriveStop.TheVariants as stop
use Rattle.command_line.specs.Words.{AsksToExplain, IsNoCommand}
use Rattle.sweep_command.specs.Outcomes.{SetsNoItem}
use Rattle.sweep_command.proofs.Causes.{sweep_item}
use Rattle.cli.specs.Outcomes.{Fails}
use Rattle.command_line.specs.declared.failure.Failure.{Failure}
use Rattle.command_line.specs.declared.failure.Failure.TheVariants.{File, Usage, Preset, NoItem, Rule, Mistaken, Setting, Shards, Workers, Division, Run, Memory, Drive, Output}
use Rattle.cli.proofs.program.command.Goals as goal

-- a drive that was stopped has neither the status of what was done nor that of words that are no command
stop_done : (cause : DriveStop) → stop_status cause ≡ 0 → ⊥
stop_done (stop.Answer place cause event) e = omega arith
stop_done stop.Closed e = omega arith

stop_apart : (cause : DriveStop) → stop_status cause ≡ 2 → ⊥
stop_apart (stop.Answer place cause event) e = omega arith
stop_apart stop.Closed e = omega arith

-- no failure has the status of what was done
no_failure : (failure : Failure) → status_of failure ≡ 0 → ⊥
no_failure (File name) e = omega arith
no_failure Output e = omega arith
no_failure (Drive cause) e = stop_done cause e
no_failure Usage e = omega arith
no_failure Preset e = omega arith
no_failure (NoItem key) e = omega arith
no_failure (Rule number) e = omega arith
no_failure (Mistaken number) e = omega arith
no_failure (Setting number swept_keys) e = omega arith
no_failure (Shards cause) e = omega arith
no_failure Workers e = omega arith
no_failure (Division cause) e = omega arith
no_failure (Run cause) e = omega arith
no_failure Memory e = omega arith

-- status 2 is for words that are no command, and for the key of an item that the text hasn't
is_usage : (Refused : Type 0) (words : List Text) (before after : Shelf) (making : Making) (old new : Option (List ℕ)) (gave : List (List ℕ)) (heard : List ℕ) (failure : Failure) → status_of failure ≡ 2
    → (failure ≡ Usage → IsNoCommand words) → (failure ≡ Preset → IsNoCommand words) → Fails Refused words before after making old new gave heard failure → IsNoCommand words ⊎ SetsNoItem words before
is_usage Refused words before after making old new gave heard (File name) e usage preset fails = absurd (omega arith)
is_usage Refused words before after making old new gave heard Output e usage preset fails = absurd (omega arith)
is_usage Refused words before after making old new gave heard (Drive cause) e usage preset fails = absurd (stop_apart cause e)
is_usage Refused words before after making old new gave heard Usage e usage preset fails = inl (usage refl)
is_usage Refused words before after making old new gave heard Preset e usage preset fails = inl (preset refl)
is_usage Refused words before after making old new gave heard (NoItem key) e usage preset fails = inr (sweep_item Refused words before after making fails.0 key fails.1 fails.2)
is_usage Refused words before after making old new gave heard (Rule number) e usage preset fails = absurd (omega arith)
is_usage Refused words before after making old new gave heard (Mistaken number) e usage preset fails = absurd (omega arith)
is_usage Refused words before after making old new gave heard (Setting number swept_keys) e usage preset fails = absurd (omega arith)
is_usage Refused words before after making old new gave heard (Shards cause) e usage preset fails = absurd (omega arith)
is_usage Refused words before after making old new gave heard Workers e usage preset fails = absurd (omega arith)
is_usage Refused words before after making old new gave heard (Division cause) e usage preset fails = absurd (omega arith)
is_usage Refused words before after making old new gave heard (Run cause) e usage preset fails = absurd (omega arith)
is_usage Refused words before after making old new gave heard Memory e usage preset fails = absurd (omega arith)

-- standard output that failed has status 1
not_output : (failure : Failure) → 2 ≤ status_of failure → failure ≢ Output
not_output failure low e =
    let is : status_of failure ≡ 1 = ap status_of e in
    omega arith

-- a text that was to be explained and is refused has status 3, and words that ask to explain one
has_three : (failure : Failure) → IsMistaken failure → status_of failure ≡ 3
has_three (Mistaken number) is = refl
has_three (File name) is = absurd is
has_three Output is = absurd is
has_three (Drive cause) is = absurd is
has_three Usage is = absurd is
has_three Preset is = absurd is
has_three (NoItem key) is = absurd is
has_three (Rule number) is = absurd is
has_three (Setting number swept_keys) is = absurd is
has_three (Shards cause) is = absurd is
has_three Workers is = absurd is
has_three (Division cause) is = absurd is
has_three (Run cause) is = absurd is
has_three Memory is = absurd is

asks_to_explain : (Refused : Type 0) (words : List Text) (before after : Shelf) (making : Making) (old new : Option (List ℕ)) (gave : List (List ℕ)) (heard : List ℕ) (failure : Failure)
    → Fails Refused words before after making old new gave heard failure → IsMistaken failure → AsksToExplain words
asks_to_explain Refused words before after making old new gave heard (Mistaken number) fails is = (fails.0, fails.1)
asks_to_explain Refused words before after making old new gave heard (File name) fails is = absurd is
asks_to_explain Refused words before after making old new gave heard Output fails is = absurd is
asks_to_explain Refused words before after making old new gave heard (Drive cause) fails is = absurd is
asks_to_explain Refused words before after making old new gave heard Usage fails is = absurd is
asks_to_explain Refused words before after making old new gave heard Preset fails is = absurd is
asks_to_explain Refused words before after making old new gave heard (NoItem key) fails is = absurd is
asks_to_explain Refused words before after making old new gave heard (Rule number) fails is = absurd is
asks_to_explain Refused words before after making old new gave heard (Setting number swept_keys) fails is = absurd is
asks_to_explain Refused words before after making old new gave heard (Shards cause) fails is = absurd is
asks_to_explain Refused words before after making old new gave heard Workers fails is = absurd is
asks_to_explain Refused words before after making old new gave heard (Division cause) fails is = absurd is
asks_to_explain Refused words before after making old new gave heard (Run cause) fails is = absurd is
asks_to_explain Refused words before after making old new gave heard Memory fails is = absurd is

not_mistaken : (Refused : Type 0) (words : List Text) (before after : Shelf) (making : Making) (old new : Option (List ℕ)) (gave : List (List ℕ)) (heard : List ℕ) (failure : Failure)
    → Fails Refused words before after making old new gave heard failure → (¬ (AsksToExplain words)) ⊎ (status_of failure ≢ 3) → ¬ (IsMistaken failure)
not_mistaken Refused words before after making old new gave heard failure fails (inl none) = λ is. none (asks_to_explain Refused words before after making old new gave heard failure fails is)
not_mistaken Refused words before after making old new gave heard failure fails (inr other) = λ is. other (has_three failure is)

-- the same of the status that was answered
untold : (Refused : Type 0) (words : List Text) (before after : Shelf) (making : Making) (old new : Option (List ℕ)) (gave : List (List ℕ)) (heard : List ℕ) (failure : Failure) (status : ℕ)
    → status ≡ status_of failure → Fails Refused words before after making old new gave heard failure → (¬ (AsksToExplain words)) ⊎ (status ≢ 3) → ¬ (IsMistaken failure)
untold Refused words before after making old new gave heard failure status is fails (inl none) = not_mistaken Refused words before after making old new gave heard failure fails (inl none)
untold Refused words before after making old new gave heard failure status is fails (inr other) =
    not_mistaken Refused words before after making old new gave heard failure fails (inr (λ three. other (is ∙ three)))

-- the status of words that are no command, or of memory
two_or_five : (failure : Failure) (status : ℕ) → status ≡ status_of failure → (failure ≡ Usage) ⊎ ((failure ≡ Preset) ⊎ (failure ≡ Memory)) → (status ≡ 2) ⊎ (status ≡ 5)
two_or_five failure status is (inl e) = inl (is ∙ ap status_of e)
two_or_five failure status is (inr (inl e)) = inl (is ∙ ap status_of e)
two_or_five failure status is (inr (inr e)) = inr (is ∙ ap status_of e)

-- files that are as they were after the failure bear out its cause
fails_still : (first refused counted : ℕ) (words : List Text) (before after now : Shelf) (making : Making) (old new : Option (List ℕ)) (gave : List (List ℕ)) (heard : List ℕ) (failure : Failure)
    → counted ≡ refused → now ≡ after → Fails (first < refused) words before after making old new gave heard failure → Fails (first < counted) words before now making old new gave heard failure
fails_still first refused counted words before after now making old new gave heard failure count same fails =
    subst (λ k. Fails (first < k) words before now making old new gave heard failure) (sym count)
    (subst (λ s. Fails (first < refused) words before s making old new gave heard failure) (sym same) fails)

pub returns-in-Ok-clause-failed : goal.returns-in-Ok-clause-failed
returns-in-Ok-clause-failed g c differs = absurd (differs refl)

pub returns-in-Ok-clause-usage : goal.returns-in-Ok-clause-usage
returns-in-Ok-clause-usage g c e = absurd (omega arith)

pub returns-in-Ok-clause-other : goal.returns-in-Ok-clause-other
returns-in-Ok-clause-other g c none = absurd (none c.in-Ok.ensures.command)

pub returns-in-Ok-clause-silent : goal.returns-in-Ok-clause-silent
returns-in-Ok-clause-silent g c low _ = absurd (omega arith)

pub returns-in-Err-clause-done : goal.returns-in-Err-clause-done
returns-in-Err-clause-done g c e = absurd (no_failure c.in-Err.failure (sym c.refuse-status.ensures.status ∙ e))

pub returns-in-Err-clause-failed : goal.returns-in-Err-clause-failed
returns-in-Err-clause-failed g c _ = record {
  failure = c.in-Err.failure;
  told = c.refuse-status.ensures.status;
  cause = fails_still _ _ _ _ _ _ _ _ _ _ _ _ c.in-Err.failure c.print_why.ensures.counted c.print_why.ensures.same c.in-Err.ensures.failed;
  silent = c.in-Err.ensures.silent;
}

pub returns-in-Err-clause-usage : goal.returns-in-Err-clause-usage
returns-in-Err-clause-usage g c e =
    is_usage _ _ _ _ _ _ _ _ _ c.in-Err.failure (sym c.refuse-status.ensures.status ∙ e) (λ is. c.in-Err.ensures.usage (ap Err is)) (λ is. c.in-Err.ensures.preset (ap Err is)) c.in-Err.ensures.failed

pub returns-in-Err-clause-other : goal.returns-in-Err-clause-other
returns-in-Err-clause-other g c none = two_or_five c.in-Err.failure c.refuse-status.result c.refuse-status.ensures.status (c.in-Err.ensures.other none)

pub returns-in-Err-clause-silent : goal.returns-in-Err-clause-silent
returns-in-Err-clause-silent g c low other =
    let status = c.refuse-status.ensures.status in
    c.in-Err.ensures.silent (not_output c.in-Err.failure (omega (arith, status)))
    (untold _ _ _ _ _ _ _ _ _ c.in-Err.failure c.refuse-status.result status c.in-Err.ensures.failed other)

pub returns-in-Err-clause-quiet : goal.returns-in-Err-clause-quiet
returns-in-Err-clause-quiet g c e = absurd (no_failure c.in-Err.failure (sym c.refuse-status.ensures.status ∙ e))
