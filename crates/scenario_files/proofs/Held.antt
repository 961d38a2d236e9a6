-- What a file holds that a text was written to, and how what ended a command is reported.
use Rattle.std.proofs.Common.{◌≡◌, ◌∙◌, ℕ, List, [], Option, Some, None, Result, Ok, Err, IfSome, IfOk, IfErr, OnErr, ap, sym, subst, refl}
use Rattle.std.specs.Prelude.{IsErrAnd}
use Rattle.std.specs.Io.KnownBytes.{Appends}
use Rattle.trace.specs.Sinks.{AppendsBeginning}
use Rattle.files.specs.Files.{KnownFile, HoldsNow, ClosesAs}
use Rattle.base.specs.declared.fault.Fault.{Fault}
use Rattle.command_line.specs.declared.failure.Failure.{Failure}
use Rattle.command_line.specs.declared.failure.Failure.TheVariants as failure
use Rattle.scenario_files.specs.Told.{run_result}
use Rattle.scenario_files.specs.Shelves.{HoldsBeginning}

-- an empty file, closed after a text was written to it, holds the text
pub holds_text : (before made after : KnownFile) (old new : Option (List ℕ)) (text : List ℕ) → HoldsNow before made []
    → IfSome before (λ _. old ≡ Some []) → Appends old new text → ClosesAs made after new → HoldsNow before after text
holds_text None made after old new text empty fresh written closed = tt
holds_text (Some held) made after old None text empty fresh written closed =
    absurd (subst (λ o. Appends o None text) fresh written)
holds_text (Some held) made after old (Some bytes) text empty fresh written closed =
    let same : bytes ≡ text = subst (λ o. Appends o (Some bytes) text) fresh written in
    let now : after ≡ Some (Some bytes) = subst (λ k. ClosesAs k after (Some bytes)) empty closed in
    now ∙ ap (λ b. Some (Some b)) same

-- the same of a beginning of a text
pub holds_beginning : (before made after : KnownFile) (old new : Option (List ℕ)) (text : List ℕ) → HoldsNow before made []
    → IfSome before (λ _. old ≡ Some []) → AppendsBeginning old new text → ClosesAs made after new → HoldsBeginning before after text
holds_beginning before made after old new text empty fresh written closed = record {
  front = written.front;
  rest = written.rest;
  whole = written.whole;
  written = holds_text before made after old new written.front empty fresh written.appends closed;
}

-- a run's answer is reported as done where it is, and as its own fault where it isn't
pub told_done : {T : Type 0} (Q : T → Type 0) (outcome : Result T Fault) (told : Result T Failure) → told ≡ run_result outcome → IfOk outcome Q → IfOk told Q
told_done {T} Q outcome told is done = subst (λ r. IfOk r Q) (sym is) (go outcome done)
  where
    go : (r : Result T Fault) → IfOk r Q → IfOk (run_result r) Q
    go (Ok x) h = h
    go (Err e) h = tt

pub told_failed : {T : Type 0} (Q : Failure → Type 0) (outcome : Result T Fault) (told : Result T Failure) → told ≡ run_result outcome
    → IfErr outcome (λ cause. Q (failure.Run cause)) → IfErr told Q
told_failed {T} Q outcome told is failed = subst (λ r. IfErr r Q) (sym is) (go outcome failed)
  where
    go : (r : Result T Fault) → IfErr r (λ cause. Q (failure.Run cause)) → IfErr (run_result r) Q
    go (Ok x) h = tt
    go (Err e) h = h

pub each_ok : {T E : Type 0} {P Q : T → Type 0} (r : Result T E) → IfOk r P → ((x : T) → P x → Q x) → IfOk r Q
each_ok (Ok x) h more = more x h
each_ok (Err e) h more = tt

pub each_err : {T E P : Type 0} {Q : E → Type 0} (r : Result T E) → OnErr r P → ((e : E) → r ≡ Err e → P → Q e) → IfErr r Q
each_err (Ok x) h more = tt
each_err (Err e) h more = more e refl h

-- what a `?` hands on is the error that it was given
pub handed_on : {T E : Type 0} (Q : E → Type 0) (r : Result T E) (e : E) → IsErrAnd r (λ y. y ≡ e) → Q e → IfErr r Q
handed_on Q (Ok x) e gives h = absurd gives
handed_on Q (Err y) e gives h = subst Q (sym gives) h

-- what holds anyway holds of an error
pub on_err_of : {T E P : Type 0} (r : Result T E) → P → OnErr r P
on_err_of (Ok x) h = tt
on_err_of (Err e) h = h

-- what holds of an error, by what holds where there is one and what holds of it
pub each_err_with : {T E P : Type 0} {Q R : E → Type 0} (r : Result T E) → OnErr r P → IfErr r Q → ((e : E) → P → Q e → R e) → IfErr r R
each_err_with (Ok x) h q more = tt
each_err_with (Err e) h q more = more e h q
