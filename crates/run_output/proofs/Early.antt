-- What is kept of a run that ends before anything was written.
use Rattle.std.proofs.Common.{◌≡◌, ℕ, List, Option, Result, Ok, Err, IsErrAnd, ◌∙◌, sym, refl}
use Rattle.base.specs.declared.fault.Fault.{Fault}
use Rattle.base.specs.declared.fault.Fault.TheVariants.{Memory, CounterOverflow, Write, ThreadLost}
use Rattle.base.proofs.Faults.{memory≢overflow, memory≢write, overflow≢relay, write≢relay}
use Rattle.scenario.specs.Setup.{Setup, IsSound}
use Rattle.trace.specs.declared.row.Row.{Row}
use Rattle.run_output.specs.Traced.{IsEarly, KeepsTrace}
use Rattle.run_output.proofs.Runs.{begins_nothing}

pub memory_early : IsEarly Memory
memory_early = (memory≢overflow, memory≢write)

pub relay_early : IsEarly ThreadLost
relay_early = (λ is. overflow≢relay (sym is), λ is. write≢relay (sym is))

pub unwritten : (s : Setup) (held : Option (List ℕ)) (failed : ℕ) (result : Result (List Row) Fault) (fault : Fault) → IsSound s → IsErrAnd result (λ f. f ≡ fault) → IsEarly fault → KeepsTrace s held held failed failed result
unwritten s held failed (Ok x) fault sound gives few = absurd gives
unwritten s held failed (Err f) fault sound gives few = record {
  run = tt;
  whole = tt;
  part = begins_nothing s held sound;
  lasts = tt;
  lasts_report = tt;
  overflow = λ is. let same : f ≡ CounterOverflow = cc in absurd (few.0 (sym gives ∙ same));
  write = λ is. let same : f ≡ Write = cc in absurd (few.1 (sym gives ∙ same));
  unfailed = tt;
  relay = λ is. refl;
}

pub no_memory : (s : Setup) (held : Option (List ℕ)) (failed : ℕ) (result : Result (List Row) Fault) → IsSound s → IsErrAnd result (λ f. f ≡ Memory) → KeepsTrace s held held failed failed result
no_memory s held failed result sound gives = unwritten s held failed result Memory sound gives memory_early
