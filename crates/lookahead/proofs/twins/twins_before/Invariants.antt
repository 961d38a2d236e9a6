use Rattle.std.proofs.Common.{◌≡◌, ℕ, true, false, get_or, length}
use Rattle.lookahead.specs.Direct.{HasTwinBefore}
use Rattle.lookahead.proofs.twins.twins_before.Given as goal

abbrev pub invariant-loop-member : goal.invariant-loop-member
invariant-loop-member l = record {
  twins : (m : ℕ) → get_or l.marks.items m false ≡ true → HasTwinBefore l.scenario l.division m;
  one_each : length l.marks.items ≡ l.member;
}
