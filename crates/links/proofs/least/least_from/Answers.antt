use Rattle.std.proofs.Common.{◌≡◌, ℕ, Bool, ◌+◌, Some, ap, sym, ◌∙◌, subst}
use Rattle.links.specs.Table.{link_at}
use Rattle.links.specs.Least.{IsLeastFrom, lesser_of, is_other}
use Rattle.links.proofs.Search.{taken, left_out}
use Rattle.links.proofs.least.least_from.Goals as goal
use Rattle.links.proofs.least.least_from.Goals.{then-is_other, else-is_other}

pub loop-to-preserved : goal.loop-to-preserved
loop-to-preserved c =
    let links = c.args.links.now in
    let from = c.args.from in
    let to = c.loop-to.to in
    let takes : ℕ → Bool = is_other links.groups.items from in
    let delay : ℕ → ℕ = λ j. (link_at links from j).delay in
    let told : takes to ≡ c.is_other.result = ap (λ groups. is_other groups from to) (sym c.as_slice.ensures.value) ∙ sym c.is_other.ensures in
    elim c.if-is_other.branch [
      | then-is_other w ↦ subst (λ least. IsLeastFrom takes delay (to + 1) least)
          (sym (w.least-is ∙ w.lesser_delay-least.ensures ∙ ap (λ link. lesser_of c.loop-to.least (Some link.delay)) w.link_between.ensures.value))
          (taken takes delay to c.loop-to.least c.loop-to.invariant (told ∙ w.if-is_other.true))
      | else-is_other w ↦ subst (λ least. IsLeastFrom takes delay (to + 1) least) (sym w.least-is) (left_out takes delay to c.loop-to.least c.loop-to.invariant (told ∙ w.if-is_other.false))
    ]
