-- What is left of a run where closing its board comes to a fault.
use Rattle.std.proofs.Common.{◌≡◌, ℕ, List, Option, Result, Ok, Err, IsOk, IfOk, OnOk, sym, subst}
use Rattle.base.specs.declared.fault.Fault.{Fault}
use Rattle.base.specs.declared.fault.Fault.TheVariants.{CounterOverflow, Write, ThreadLost}
use Rattle.scenario.specs.Setup.{Setup}
use Rattle.trace.specs.declared.row.Row.{Row}
use Rattle.trace.specs.Text.{trace_text}
use Rattle.trace.proofs.Beginnings.{beginning-whole}
use Rattle.run_output.specs.Promise.{BeginsTrace}
use Rattle.run_output.specs.Traced.{IsEarly, KeepsTrace}
use Rattle.run_output.proofs.Faults.{at_ok}

module _ (s : Setup) (held_old held_new : Option (List ℕ)) (failed_old failed_new : ℕ) where
  some_trace : (result : Result (List Row) Fault) → KeepsTrace s held_old held_new failed_old failed_new result → BeginsTrace s held_old held_new
  some_trace (Ok rows) kept = record { rows = rows; run = kept.run; written = beginning-whole held_old held_new (trace_text s rows) kept.whole }
  some_trace (Err fault) kept = kept.part

  -- after all that was kept so far, a fault of another cause
  pub breaks_off : (result : Result (List Row) Fault) (fault : Fault) → KeepsTrace s held_old held_new failed_old failed_new result → IsEarly fault → (fault ≡ ThreadLost → IsOk result)
      → KeepsTrace s held_old held_new failed_old failed_new (Err fault)
  breaks_off result fault kept few done = record {
    run = tt;
    whole = tt;
    part = some_trace result kept;
    lasts = tt;
    lasts_report = tt;
    overflow = λ is. let same : fault ≡ CounterOverflow = cc in absurd (few.0 same);
    write = λ is. let same : fault ≡ Write = cc in absurd (few.1 same);
    unfailed = tt;
    relay = λ is. let same : fault ≡ ThreadLost = cc in at_ok (failed_new ≡ failed_old) result (done same) kept.unfailed;
  }

-- what holds where all went well still does where it ended so
pub on_same : {T : Type 0} (r so_far : Result T Fault) (P : Type 0) → OnOk r (r ≡ so_far) → OnOk so_far P → OnOk r P
on_same (Ok x) so_far P same holds = subst (λ o. OnOk o P) (sym same) holds
on_same (Err f) so_far P same holds = tt

pub if_same : {T : Type 0} (r so_far : Result T Fault) (P : T → Type 0) → OnOk r (r ≡ so_far) → IfOk so_far P → IfOk r P
if_same (Ok x) so_far P same holds = subst (λ o. IfOk o P) (sym same) holds
if_same (Err f) so_far P same holds = tt
