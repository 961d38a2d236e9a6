-- what stands before the cut is a beginning
use Rattle.std.proofs.Common.{◌∙◌, ◌++◌, ap, drop, length, suc, take-append-drop}
use native.Mathlib.Numerals.{unary_clauses}
use Rattle.advice.proofs.scenarios.first_line.Goals as goal

pub returns-in-Some : goal.returns-in-Some
returns-in-Some c =
    let behind = drop (suc (length c.in-Some.first.now)) c.args.lines.now in
    record {
      rest = behind;
      split = simp unary_clauses at (ap (λ front. front ++ behind) c.range.ensures.value) ∙ take-append-drop (suc (length c.in-Some.first.now)) c.args.lines.now;
    }
