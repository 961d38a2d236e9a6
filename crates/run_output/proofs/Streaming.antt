-- The trace of a run that is written batch after batch.
use Rattle.std.proofs.Common.{◌≡◌, ℕ, ◌+◌, ◌≤◌, ◌<◌, ◌^◌, List, [], ◌++◌, length, Option, Result, Ok, Err, IsErrAnd, append_assoc, ap, ◌∙◌, sym, subst, arith}
use Rattle.std.specs.Result.{OnOk, OnErr, IsErrOf}
use Rattle.std.specs.Io.KnownBytes.{Appends}
use Rattle.std.proofs.lemmas.List.{length-append}
use Rattle.std.proofs.lemmas.Grind.{flat_map-append}
use Rattle.base.specs.declared.fault.Fault.{Fault}
use Rattle.base.specs.declared.fault.Fault.TheVariants.{CounterOverflow}
use Rattle.scenario.specs.Setup.{Setup}
use Rattle.trace.specs.declared.row.Row.{Row}
use Rattle.trace.specs.Text.{header, line_of, rows_text, trace_text}
use Rattle.trace.specs.declared.write.WriteError.{WriteError}
use Rattle.trace.specs.Sinks.{AppendsBeginning, fault_of_write}
use Rattle.trace.proofs.Beginnings.{Appends-then, beginning-first, beginning-then, beginning-of}
use Rattle.run_output.specs.Written.{HasWritten}
use Rattle.run_output.proofs.Failing.{never_overflow}

pub text_on : (s : Setup) (before rows : List Row) → trace_text s before ++ rows_text s rows ≡ trace_text s (before ++ rows)
text_on s before rows = append_assoc header (rows_text s before) (rows_text s rows) ∙ ap (λ l. header ++ l) (sym (flat_map-append (line_of s) before rows))

module _ (s : Setup) (before rows : List Row) (held : Option (List ℕ)) where
  -- after what was written, the rows of one batch more
  pub written_on : (old new : Option (List ℕ)) (was tallied : List Row) (outcome : Result (Unit {0}) Fault) → HasWritten s before held old was (Ok (tt {0}))
      → OnOk outcome (Appends old new (rows_text s rows)) → OnOk outcome (tallied ≡ was ++ rows) → OnErr outcome (AppendsBeginning old new (rows_text s rows))
      → OnOk outcome (length tallied ≤ 2 ^ 63) → (IsErrOf outcome CounterOverflow → 2 ^ 63 < length (was ++ rows)) → HasWritten s (before ++ rows) held new tallied outcome
  written_on old new was tallied (Ok u) wrote whole same part lasts overflow = record {
    whole = (subst (Appends held new) (text_on s before rows) (Appends-then held old new (trace_text s before) (rows_text s rows) wrote.whole.0 whole), same ∙ ap (λ l. l ++ rows) wrote.whole.1);
    part = tt;
    lasts = subst (λ l. length l ≤ 2 ^ 63) (same ∙ ap (λ l. l ++ rows) wrote.whole.1) lasts;
    overflow = λ h. subst (λ l. 2 ^ 63 < length (l ++ rows)) wrote.whole.1 (overflow h);
  }
  written_on old new was tallied (Err fault) wrote whole same part lasts overflow = record {
    whole = tt;
    part = beginning-of held new _ _ (text_on s before rows) (beginning-then held old new (trace_text s before) (rows_text s rows) wrote.whole.0 part);
    lasts = tt;
    overflow = λ h. subst (λ l. 2 ^ 63 < length (l ++ rows)) wrote.whole.1 (overflow h);
  }

  longer : (n : ℕ) → n < length before → n < length (before ++ rows)
  longer n many = let all = length-append before rows in omega (arith, all, many)

  -- after a fault nothing more is written
  pub stays_written : (now : Option (List ℕ)) (tallied : List Row) (fault : Fault) → HasWritten {T = Unit {0}} s before held now tallied (Err fault)
      → HasWritten {T = Unit {0}} s (before ++ rows) held now tallied (Err fault)
  stays_written now tallied fault wrote = record {
    whole = tt;
    part = beginning-of held now _ _ (text_on s before rows) (beginning-first held now (trace_text s before) (rows_text s rows) wrote.part);
    lasts = tt;
    overflow = λ h. longer (2 ^ 63) (wrote.overflow h);
  }

-- where not even the header was written whole
pub not_begun : (s : Setup) (held new : Option (List ℕ)) (outcome : Result (Unit {0}) Fault) (e : WriteError) → IsErrAnd outcome (λ f. f ≡ fault_of_write e) → AppendsBeginning held new header → HasWritten s [] held new [] outcome
not_begun s held new (Ok u) e gives part = absurd gives
not_begun s held new (Err fault) e gives part = record {
  whole = tt;
  part = beginning-first held new header (rows_text s []) part;
  lasts = tt;
  overflow = λ h. absurd (never_overflow {T = Unit {0}} (Err fault) e gives h);
}
