use Rattle.std.proofs.Common.{◌≡◌, ℕ, ◌<◌, ap, subst, ◌∙◌, arith}
use Rattle.std.specs.Prelude.{IfOk}
use Rattle.series.specs.Spans.{span_count}
use Rattle.series.specs.Grid.{count_at}
use Rattle.series.specs.Changes.{came, went}
use Rattle.series.specs.Stories.{claims_of}
use Rattle.member_timelines.specs.Heights.{heights}
use Rattle.member_timelines.specs.Lanes.{others, held_heights}
use Rattle.member_timelines.proofs.Levels.{heights_same}
use Rattle.member_timelines.proofs.run.Run.held.Goals as goal

pub returns-clause-value : goal.returns-clause-value
returns-clause-value c =
    let s = c.args.self.now.scenario.now in
    let rows = c.args.self.now.tallies.now in
    let state = c.args.state in
    let flows = c.claims-claims.result.now in
    let changes = claims_of s c.args.member rows in
    let low : (k : ℕ) → k < span_count s → k < 120 = λ k below. omega (arith, below, c.spans.ensures.value, c.spans.ensures.few) in
    let came_same : (k : ℕ) → k < span_count s → count_at flows.came state k ≡ came state k changes =
    λ k below. ap (λ f. count_at f.came state k) c.claims-claims.ensures ∙ c.story.ensures.claims.came state k (low k below) in
    let went_same : (k : ℕ) → k < span_count s → count_at flows.went state k ≡ went state k changes =
    λ k below. ap (λ f. count_at f.went state k) c.claims-claims.ensures ∙ c.story.ensures.claims.went state k (low k below) in
    let same : heights (count_at flows.came state) (count_at flows.went state) c.spans.result 0 c.others.result ≡ held_heights s rows c.args.member state =
    ap (λ n. heights (count_at flows.came state) (count_at flows.went state) n 0 c.others.result) c.spans.ensures.value
    ∙ ap (λ o. heights (count_at flows.came state) (count_at flows.went state) (span_count s) 0 o) c.others.ensures.value
    ∙ heights_same (count_at flows.came state) (λ k. came state k changes) (count_at flows.went state) (λ k. went state k changes) (span_count s) 0 (others s) came_same went_same in
    subst (λ hs. IfOk c.heights.result (λ list. list.items ≡ hs)) same c.heights.ensures.value
