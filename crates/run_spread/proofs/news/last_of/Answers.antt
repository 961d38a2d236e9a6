use Rattle.std.proofs.Common.{◌≡◌, Some, None, sym, ap, subst, ◌∙◌}
use Rattle.std.specs.Option.{option_map_or}
use Rattle.series.specs.Stories.{IsSpreadOf}
use Rattle.series.specs.Watched.{watched}
use Rattle.run_spread.specs.Spread.{learned, last_learned, last_told}
use Rattle.run_spread.proofs.Spreading.{last_is}
use Rattle.run_spread.proofs.news.last_of.Goals as goal

pub returns-in-Some : goal.returns-in-Some
returns-in-Some c =
    let s = c.args.run.now.scenario.now in
    let rows = c.args.run.now.tallies.now in
    let spread = c.spread-spread.result.now in
    let from = c.in-Some.from in
    let told : IsSpreadOf s c.args.member spread rows = subst (λ p. IsSpreadOf s c.args.member p rows) (sym c.spread-spread.ensures) c.story.ensures.spread in
    let begun : spread.since ≡ Some from = sym c.since.ensures ∙ c.in-Some.is in
    last_is s rows c.args.member from spread told begun _ _ _
    (c.last_learned-suspected.ensures ∙ ap (λ moments. last_learned s (learned moments from)) c.suspected.ensures)
    (c.last_learned.ensures ∙ ap (λ moments. last_learned s (learned moments from)) c.confirmed.ensures)
    c.max.ensures

pub returns-in-None : goal.returns-in-None
returns-in-None c =
    let s = c.args.run.now.scenario.now in
    let rows = c.args.run.now.tallies.now in
    let told : IsSpreadOf s c.args.member c.spread-spread.result.now rows = subst (λ p. IsSpreadOf s c.args.member p rows) (sym c.spread-spread.ensures) c.story.ensures.spread in
    let none : watched s c.args.member ≡ None = sym told.since ∙ sym c.since.ensures ∙ c.in-None.is in
    sym (ap (λ o. option_map_or (last_told s rows c.args.member) o 0) none)
