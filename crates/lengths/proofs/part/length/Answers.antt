use Rattle.std.proofs.Common.{◌≡◌, ◌∷◌, [], ℕ, length, refl, ap, subst, arith}
use Rattle.std.proofs.lemmas.List.{nil_from_length}
use Rattle.lengths.specs.declared.unit.Unit.TheVariants.{Microsecond, Millisecond, Second, Minute, Hour}
use Rattle.lengths.specs.Lengths.{AreParts, units}
use Rattle.lengths.proofs.part.length.Goals as goal

pub returns-then-all-eq0-clause-some : goal.returns-then-all-eq0-clause-some
returns-then-all-eq0-clause-some c =
    let last = c.after-all.ensures.sound [] 0 (nil_from_length c.after-all.result.rest.now c.if-all-eq0.true, refl) in
    let milliseconds = c.after-milliseconds.ensures.sound (Microsecond ∷ []) last.0 last.1 in
    let seconds = c.after-seconds.ensures.sound (Millisecond ∷ Microsecond ∷ []) milliseconds.0 milliseconds.1 in
    let minutes = c.after-minutes.ensures.sound (Second ∷ Millisecond ∷ Microsecond ∷ []) seconds.0 seconds.1 in
    let hours = c.after-hours.ensures.sound (Minute ∷ Second ∷ Millisecond ∷ Microsecond ∷ []) minutes.0 minutes.1 in
    let days = c.after-days.ensures.sound (Hour ∷ Minute ∷ Second ∷ Millisecond ∷ Microsecond ∷ []) hours.0 hours.1 in
    let total : days.0 ≡ c.after-all.result.total = omega (arith, last.2, milliseconds.2, seconds.2, minutes.2, hours.2, days.2) in
    record { some = omega arith; parts = subst (λ (n : ℕ). AreParts units c.args.word.now n) total days.1 }

pub returns-else-all-eq0-clause-none : goal.returns-else-all-eq0-clause-none
returns-else-all-eq0-clause-none c _ total is =
    let days = c.after-days.ensures.whole (Hour ∷ Minute ∷ Second ∷ Millisecond ∷ Microsecond ∷ []) total refl is.parts in
    let hours = c.after-hours.ensures.whole (Minute ∷ Second ∷ Millisecond ∷ Microsecond ∷ []) days.0 refl days.1 in
    let minutes = c.after-minutes.ensures.whole (Second ∷ Millisecond ∷ Microsecond ∷ []) hours.0 refl hours.1 in
    let seconds = c.after-seconds.ensures.whole (Millisecond ∷ Microsecond ∷ []) minutes.0 refl minutes.1 in
    let milliseconds = c.after-milliseconds.ensures.whole (Microsecond ∷ []) seconds.0 refl seconds.1 in
    let last = c.after-all.ensures.whole [] milliseconds.0 refl milliseconds.1 in
    omega (arith, ap length last.1.0, c.if-all-eq0.false)
