use Rattle.std.proofs.Common.{◌<◌, ◌+◌, length, drop, ◌∙◌, sym, ap, arith}
use Rattle.std.specs.Option.{option_and_then}
use Rattle.toml_places.specs.Found.{path_end}
use Rattle.toml_places.proofs.Paths.{path_step}
use Rattle.toml_places.proofs.places.Places.find.Goals as goal

pub returns-in_default : goal.returns-in_default
returns-in_default c =
    let p = c.args.self.now in
    let path = c.args.path.now in
    let i = c.loop-step.step-index in
    let inside : i < length path = omega (arith, c.loop-step-test.true, c.loop-step.auto.step-index-end) in
    let gone = sym c.next.ensures ∙ c.in_default.is in
    sym (sym c.loop-step.invariant ∙ path_step p i c.loop-step.place path _ inside ∙ ap (λ found. option_and_then (λ next. path_end p next (drop (i + 1) path)) found) gone)
