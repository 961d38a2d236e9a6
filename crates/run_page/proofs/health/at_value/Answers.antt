use Rattle.std.proofs.Common.{◌≡◌, ℕ, ◌<◌, ap, subst, ◌∙◌, arith}
use Rattle.std.specs.Prelude.{IfOk}
use Rattle.series.specs.Spans.{span_count}
use Rattle.series.specs.Grid.{count_at}
use Rattle.series.specs.Changes.{came, went}
use Rattle.series.specs.Series.{healths_of}
use Rattle.run_page.specs.Health.{at_value, ends}
use Rattle.run_page.proofs.SpanEnds.{ends_same}
use Rattle.run_page.proofs.health.at_value.Goals as goal

pub returns-clause-value : goal.returns-clause-value
returns-clause-value c =
    let s = c.args.run.now.scenario.now in
    let rows = c.args.run.now.tallies.now in
    let state = c.args.value in
    let flows = c.health.result.now in
    let changes = healths_of s rows in
    let low : (k : ℕ) → k < span_count s → k < 120 = λ k below. omega (arith, below, c.spans.ensures.value, c.spans.ensures.few) in
    let came_same : (k : ℕ) → k < span_count s → count_at flows.came state k ≡ came state k changes =
    λ k below. ap (λ f. count_at f.came state k) c.health.ensures ∙ c.requires.told.gathered.health.came state k (low k below) in
    let went_same : (k : ℕ) → k < span_count s → count_at flows.went state k ≡ went state k changes =
    λ k below. ap (λ f. count_at f.went state k) c.health.ensures ∙ c.requires.told.gathered.health.went state k (low k below) in
    let same : ends (count_at flows.came state) (count_at flows.went state) c.spans.result c.args.most ≡ at_value s rows c.args.most state =
    ap (λ n. ends (count_at flows.came state) (count_at flows.went state) n c.args.most) c.spans.ensures.value
    ∙ ends_same (count_at flows.came state) (λ k. came state k changes) (count_at flows.went state) (λ k. went state k changes) (span_count s) c.args.most came_same went_same in
    subst (λ hs. IfOk c.ends.result (λ list. list.items ≡ hs)) same c.ends.ensures.value
