use Rattle.std.proofs.Common.{length, ap, ◌∙◌, sym, arith}
use Rattle.std.proofs.lemmas.Bool.{eqb-true, eq-eqb}
use Rattle.std.proofs.lemmas.List.{nil_from_length}
use Rattle.piggyback.proofs.Holding.{empty-keyed, keyed-empty}
use Rattle.piggyback.proofs.Buffer.is_empty.Goals as goal

pub returns : goal.returns
returns c =
    let these = c.self.inside.entries.items in (
      λ told. sym c.self.view_is ∙ empty-keyed these (nil_from_length these (let h = eqb-true _ _ (sym c.is_empty.ensures ∙ told) in omega (arith, h))),
      λ empty. c.is_empty.ensures ∙ eq-eqb _ _ (let h = ap length (keyed-empty these (c.self.view_is ∙ empty)) in omega (arith, h)),
    )
