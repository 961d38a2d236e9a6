-- What a run answers of a step's refusal, and of a place that failed.
use Rattle.std.proofs.Common.{◌≡◌, ◌≢◌, ◌∙◌, ℕ, Result, Ok, Err, IsErrAnd, sym, refl}
use Rattle.std.specs.Result.{IfErr, OnOk, IsErrOf}
use Rattle.base.specs.declared.fault.Fault.{Fault}
use Rattle.base.specs.declared.fault.Fault.TheVariants.{Memory, CounterOverflow, Write, ThreadLost}
use Rattle.base.proofs.Faults.{memory≢overflow}
use Rattle.member.specs.Faults.{fault_of}
use Rattle.member.specs.declared.step_error.StepError.{StepError}
use Rattle.member.specs.declared.step_error.StepError.TheVariants as step_error
use Rattle.run_output.specs.Written.{sink_failures}

-- a step's refusal is answered as CounterOverflow where a counter would pass its limit
pub overflow_step : {T U : Type 0} (r : Result T Fault) (e : StepError) → IsErrAnd r (λ y. y ≡ fault_of e) → IsErrOf r CounterOverflow → IsErrOf {T = U} (Err e) step_error.CounterOverflow
overflow_step (Ok x) e gives is = absurd gives
overflow_step (Err y) step_error.Memory gives is = let same : y ≡ CounterOverflow = cc in absurd (memory≢overflow (sym gives ∙ same))
overflow_step (Err y) step_error.CounterOverflow gives is = refl

-- no other fault counts a failure
pub no_failure : (T : Type 0) (fault : Fault) → fault ≢ Write → sink_failures {T = T} (Err fault) ≡ 0
no_failure T Memory differs = refl
no_failure T CounterOverflow differs = refl
no_failure T Write differs = absurd (differs refl)
no_failure T ThreadLost differs = refl

-- what holds anyway holds of each fault
pub on_fault : {T E P : Type 0} (Q : E → Type 0) (r : Result T E) → P → IfErr r (λ fault. Q fault → P)
on_fault Q (Ok x) p = tt
on_fault Q (Err e) p = λ q. p

-- no failure is counted under another fault where none was before
pub failures_since : {T : Type 0} (r : Result T Fault) (old mid new : ℕ) → mid ≡ old → IfErr r (λ fault. fault ≢ Write → new ≡ mid) → IfErr r (λ fault. fault ≢ Write → new ≡ old)
failures_since (Ok x) old mid new before since = tt
failures_since (Err e) old mid new before since = λ differs. since differs ∙ before

-- nor where a run's fault is answered as it came
pub failures_told : {T U : Type 0} (came : Result T Fault) (r : Result U Fault) (old mid new : ℕ) → IfErr came (λ fault. IsErrOf r fault)
    → OnOk came (mid ≡ old) → IfErr came (λ fault. fault ≢ Write → mid ≡ old) → IfErr r (λ fault. fault ≢ Write → new ≡ mid)
    → IfErr r (λ fault. fault ≢ Write → new ≡ old)
failures_told came (Ok y) old mid new told unfailed others since = tt
failures_told (Ok x) (Err e) old mid new told unfailed others since = λ differs. since differs ∙ unfailed
failures_told (Err f) (Err e) old mid new told unfailed others since = λ differs.
    let same : e ≡ f = cc in
    since differs ∙ others (λ is. differs (same ∙ is))
