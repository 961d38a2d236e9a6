use Rattle.std.proofs.Common.{◌≡◌, Ok, ap, sym, ◌∙◌}
use Rattle.std.specs.Fmt.{decimal}
use Rattle.std.proofs.lemmas.Bool.{false≢true}
use Rattle.std.proofs.lemmas.Fmt.{parse-decimal}
use Rattle.std.proofs.lemmas.Slice.Eq.{bytes_eq-Decides}
use Rattle.written_names.proofs.roster.index_spelt.Goals as goal

pub returns-in_default-clause-none : goal.returns-in_default-clause-none
returns-in_default-clause-none c = λ i small spelt.
    c.in_default.not-Ok i (parse-decimal 64 i c.args.text.now c.parse.result small small spelt c.parse.ensures.value.0)

pub returns-else-eq-clause-none : goal.returns-else-eq-clause-none
returns-else-eq-clause-none c = λ i small spelt.
    let parsed : Ok i ≡ Ok c.in-Ok.index = sym (parse-decimal 64 i c.args.text.now c.parse.result small small spelt c.parse.ensures.value.0) ∙ c.in-Ok.is in
    let index : c.in-Ok.index ≡ i = cc in
    let same : c.format.result.now ≡ c.args.text.now = c.format.ensures.text ∙ ap decimal index ∙ sym spelt in
    false≢true (sym c.if-eq.false ∙ c.eq.ensures ∙ (bytes_eq-Decides c.format.result.now c.args.text.now).1 same)
