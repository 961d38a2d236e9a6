-- What is answered of a text that was not written whole, and what is promised of a run that ends by a fault.
use Rattle.std.proofs.Common.{◌≡◌, ◌≢◌, ◌∙◌, ◌⊎◌, ℕ, ◌<◌, List, Option, Result, Ok, Err, IsErrAnd, ap, sym, subst, refl}
use Rattle.std.specs.Result.{IfErr, IsErrOf}
use Rattle.base.specs.declared.fault.Fault.{Fault}
use Rattle.base.specs.declared.fault.Fault.TheVariants.{Memory, CounterOverflow, Write, ThreadLost}
use Rattle.base.proofs.Faults.{memory≢overflow, memory≢write, memory≢relay, overflow≢write, write≢relay}
use Rattle.scenario.specs.Setup.{Setup}
use Rattle.trace.specs.declared.row.Row.{Row}
use Rattle.trace.specs.declared.write.WriteError.{WriteError}
use Rattle.trace.specs.declared.write.WriteError.TheVariants as error
use Rattle.trace.specs.Sinks.{failures_of_write, fault_of_write}
use Rattle.reports.proofs.Faults.{is_err}
use Rattle.run_output.specs.declared.summary.Summary.{Summary}
use Rattle.run_output.specs.Written.{sink_failures}
use Rattle.run_output.specs.Promise.{WritesBeginning, KeepsPromise, summed}

-- the sink failed where its failure is answered, and only there
pub write_fails : (e : WriteError) → fault_of_write e ≡ Write → failures_of_write {T = Unit {0}} (Err e) ≡ 1
write_fails error.Memory is = absurd (memory≢write is)
write_fails error.Stopped is = refl

pub nothing_fails : (e : WriteError) → fault_of_write e ≢ Write → failures_of_write {T = Unit {0}} (Err e) ≡ 0
nothing_fails error.Memory differs = refl
nothing_fails error.Stopped differs = absurd (differs refl)

fails_alike : (T : Type 0) (e : WriteError) → sink_failures {T = T} (Err (fault_of_write e)) ≡ failures_of_write {T = Unit {0}} (Err e)
fails_alike T error.Memory = refl
fails_alike T error.Stopped = refl

pub same_failures : {T : Type 0} (r : Result T Fault) (e : WriteError) → IsErrAnd r (λ f. f ≡ fault_of_write e) → sink_failures r ≡ failures_of_write {T = Unit {0}} (Err e)
same_failures {T} r e gives = ap sink_failures (is_err r _ gives) ∙ fails_alike T e

pub no_failure : {T : Type 0} (r : Result T WriteError) → IsErrAnd r (λ e. e ≡ error.Memory) → failures_of_write r ≡ 0
no_failure r gives = ap failures_of_write (is_err r _ gives)

pub one_failure : {T : Type 0} (r : Result T WriteError) → IsErrAnd r (λ e. e ≡ error.Stopped) → failures_of_write r ≡ 1
one_failure r gives = ap failures_of_write (is_err r _ gives)

-- it has no other fault
pub never_overflow : {T : Type 0} (r : Result T Fault) (e : WriteError) → IsErrAnd r (λ f. f ≡ fault_of_write e) → ¬ (IsErrOf r CounterOverflow)
never_overflow r error.Memory gives is = let same : Memory ≡ CounterOverflow = cc (is_err r Memory gives) in memory≢overflow same
never_overflow r error.Stopped gives is = let same : Write ≡ CounterOverflow = cc (is_err r Write gives) in overflow≢write (sym same)

-- what holds of a fault holds of what answers it
pub answered : {T E : Type 0} (P : E → Type 0) (r : Result T E) (e : E) → IsErrAnd r (λ f. f ≡ e) → P e → IfErr r P
answered P r e gives p = subst (λ (o : Result _ _). IfErr o P) (sym (is_err r e gives)) p

pub never_relay : {T : Type 0} (r : Result T Fault) (e : WriteError) → IsErrAnd r (λ f. f ≡ fault_of_write e) → IfErr r (λ f. f ≢ ThreadLost)
never_relay r error.Memory gives = answered (λ f. f ≢ ThreadLost) r Memory gives memory≢relay
never_relay r error.Stopped gives = answered (λ f. f ≢ ThreadLost) r Write gives write≢relay

-- a fault is returned as it is
pub summed_err : (r : Result (List Row) Fault) (fault : Fault) → IsErrAnd r (λ f. f ≡ fault) → IsErrAnd (summed r) (λ f. f ≡ fault)
summed_err (Ok rows) fault gives = absurd gives
summed_err (Err cause) fault gives = gives

-- what is promised after a fault
pub breaks_off : {A B : Type 0} (held : A → Option (List ℕ)) (failed : A → ℕ) (held_report : B → Option (List ℕ)) (failed_report : B → ℕ)
    (s : Setup) (trace_old trace_new : A) (report_old report_new : B) (r : Result Summary Fault) (fault : Fault) → IsErrAnd r (λ f. f ≡ fault)
    → WritesBeginning s (held trace_old) (held trace_new) (held_report report_old) (held_report report_new)
    → (failed trace_old < failed trace_new → report_new ≡ report_old)
    → (fault ≡ Write → (failed trace_old < failed trace_new) ⊎ (failed_report report_old < failed_report report_new))
    → (fault ≢ Write → failed_report report_new ≡ failed_report report_old)
    → KeepsPromise held failed held_report failed_report s trace_old trace_new report_old report_new r
breaks_off held failed held_report failed_report s trace_old trace_new report_old report_new r fault gives begins first write others =
    subst (KeepsPromise held failed held_report failed_report s trace_old trace_new report_old report_new) (sym (is_err r fault gives)) (record {
      written = tt;
      beginning = begins;
      first = first;
      lasts = tt;
      write = λ is. let same : fault ≡ Write = cc in write same;
      whole = tt;
      whole_report = tt;
      others_report = others;
    })
