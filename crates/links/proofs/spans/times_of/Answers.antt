use Rattle.std.proofs.Common.{◌≡◌, ℕ, Vec, Global, List, ap, sym, ◌∙◌}
use Rattle.std.proofs.lemmas.Result.{IfOk-weaker}
use Rattle.scenario.specs.Setup.{Setup, extra_of, first_extra, greatest_extra}
use Rattle.scenario.specs.declared.settings.Slow.{Slow}
use Rattle.links.specs.Entries.{extra_in, spans_in, slow_spans}
use Rattle.links.specs.declared.spans.times.SlowSpan.{SlowSpan}
use Rattle.links.proofs.Maps.{extra_is}
use Rattle.links.proofs.Greatest.{falling_says, fourth_extra, earlier_extra}
use Rattle.links.proofs.spans.times_of.Goals as goal

abbrev Are : List Slow → Vec (List SlowSpan) Global → Type 0
Are es spans = (member : ℕ) → spans_in spans.items member ≡ slow_spans member es

pub returns-then-is_fourth : goal.returns-then-is_fourth
returns-then-is_fourth c =
    let s = c.args.scenario.now in
    IfOk-weaker c.spans_of.result (Are c.as_slice.result.now) (λ spans. (m t : ℕ) → extra_in (spans_in spans.items m) t ≡ extra_of s m t) (λ spans are m t.
    ap (λ xs. extra_in xs t) (are m) ∙ extra_is m t c.as_slice.result.now ∙ ap (λ es. first_extra es m t) c.as_slice.ensures.value
    ∙ falling_says m t c.slows.result.now c.in_ok-falling.falling.items c.in_ok-falling.ensures.same c.in_ok-falling.ensures.falling
    ∙ ap (λ es. greatest_extra es m t) c.slows.ensures ∙ fourth_extra s.version s.slows m t (sym c.is_fourth.ensures ∙ c.if-is_fourth.true)) c.spans_of.ensures

pub returns : goal.returns
returns c =
    let s = c.args.scenario.now in
    IfOk-weaker c.spans_of-2.result (Are c.slows-2.result.now) (λ spans. (m t : ℕ) → extra_in (spans_in spans.items m) t ≡ extra_of s m t) (λ spans are m t.
    ap (λ xs. extra_in xs t) (are m) ∙ extra_is m t c.slows-2.result.now ∙ ap (λ es. first_extra es m t) c.slows-2.ensures
    ∙ earlier_extra s.version s.slows m t (sym c.is_fourth.ensures ∙ c.if-is_fourth.false)) c.spans_of-2.ensures
