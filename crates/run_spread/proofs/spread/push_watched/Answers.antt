use Rattle.std.proofs.Common.{◌≡◌, ◌++◌, [], Some, None, sym, ap, subst, ◌∙◌, append-nil}
use Rattle.std.specs.Prelude.{OnOk}
use Rattle.std.specs.Option.{option_map_or}
use Rattle.std.specs.String.{string_bytes}
use Rattle.series.specs.Stories.{IsSpreadOf}
use Rattle.series.specs.Watched.{watched}
use Rattle.run_spread.specs.Spread.{told_crash}
use Rattle.run_spread.proofs.Spreading.{crash_is}
use Rattle.run_spread.proofs.spread.push_watched.Goals as goal

pub returns-in-Some : goal.returns-in-Some
returns-in-Some c =
    let s = c.args.run.now.scenario.now in
    let rows = c.args.run.now.tallies.now in
    let spread = c.spread-spread.result.now in
    let told : IsSpreadOf s c.args.member spread rows = subst (λ p. IsSpreadOf s c.args.member p rows) (sym c.spread-spread.ensures) c.story.ensures.spread in
    let begun : spread.since ≡ Some c.in-Some.from = sym c.since.ensures ∙ c.in-Some.is in
    subst (λ t. OnOk c.push_crash.result (string_bytes c.push_crash.new.text ≡ string_bytes c.args.text.now ++ t))
    (crash_is s rows c.args.member c.in-Some.from spread told begun c.args.run.now.tick c.args.step c.name.result.now c.name.ensures.value) c.push_crash.ensures

pub returns-in-None : goal.returns-in-None
returns-in-None c =
    let s = c.args.run.now.scenario.now in
    let rows = c.args.run.now.tallies.now in
    let told : IsSpreadOf s c.args.member c.spread-spread.result.now rows = subst (λ p. IsSpreadOf s c.args.member p rows) (sym c.spread-spread.ensures) c.story.ensures.spread in
    let none : watched s c.args.member ≡ None = sym told.since ∙ sym c.since.ensures ∙ c.in-None.is in
    let text = string_bytes c.args.text.now in
    sym (ap (λ o. text ++ option_map_or (told_crash c.args.run.now.tick s rows c.args.step c.args.member) o []) none ∙ append-nil text)
