use Rattle.std.proofs.Common.{◌≡◌, ◌-◌, slice_get, ap, sym, ◌∙◌, rules}
use Rattle.std.proofs.lemmas.Option.{gets}
use Rattle.std.specs.Option.{option_copied}
use Rattle.links.specs.Entries.{numbered}
use Rattle.links.proofs.Maps.{counted_from_one}
use Rattle.links.proofs.routes.Routes.link.Goals as goal

pub returns-then-number-eq0 : goal.returns-then-number-eq0
unfolding numbered
returns-then-number-eq0 c = sym (ap (numbered c.args.self.now.links.items) (sym c.number-number.ensures ∙ c.if-number-eq0.true))

pub returns : goal.returns
returns c =
    let found : option_copied c.get.result ≡ slice_get c.deref.result.now (c.number-number.result - 1) = grind (gets, rules) in
    found
    ∙ ap (λ links. slice_get links (c.number-number.result - 1)) c.deref.ensures.value
    ∙ sym (counted_from_one c.args.self.now.links.items c.number-number.result c.if-number-eq0.false)
    ∙ ap (numbered c.args.self.now.links.items) c.number-number.ensures
