use Rattle.std.proofs.Common.{◌≡◌, ℕ, ◌+◌, arith, length, ap, sym, ◌∙◌, subst}
use Rattle.links.specs.Table.{link_at}
use Rattle.links.specs.Entries.{route}
use Rattle.links.specs.Least.{IsLeastBelow, is_third, is_other}
use Rattle.links.proofs.Search.{gone_on, passed_over}
use Rattle.links.proofs.Pairs.{least_of_all}
use Rattle.links.proofs.least.least_delay.Goals as goal
use Rattle.links.proofs.least.least_delay.Goals.{then-not-is_third, else-not-is_third}

pub loop-from-preserved : goal.loop-from-preserved
loop-from-preserved c =
    let links = c.args.links.now in
    let groups = links.groups.items in
    let from = c.loop-from.from in
    let delay : ℕ → ℕ → ℕ = λ i j. (link_at links i j).delay in
    let told : is_third groups from ≡ c.is_third.result = ap (λ gs. is_third gs from) (sym c.as_slice.ensures.value) ∙ sym c.is_third.ensures in
    elim c.if-not-is_third.branch [
      | then-not-is_third w ↦ subst (λ least. IsLeastBelow (is_third groups) (is_other groups) delay (length groups) (from + 1) least) (sym (w.least-is ∙ w.lesser_delay-least.ensures))
          (gone_on (is_third groups) (is_other groups) delay (length groups) from c.loop-from.least w.least_from.result c.loop-from.invariant w.least_from.ensures)
      | else-not-is_third w ↦ subst (λ least. IsLeastBelow (is_third groups) (is_other groups) delay (length groups) (from + 1) least) (sym w.least-is)
          (passed_over (is_third groups) (is_other groups) delay (length groups) from c.loop-from.least c.loop-from.invariant (told ∙ w.if-not-is_third.false))
    ]

pub returns : goal.returns
returns c =
    least_of_all c.args.links.now.groups.items c.args.links.now.link (route c.args.links.now.routes) c.loop-from.from c.loop-from.least
    (omega (arith, c.loop-from-test.false, c.loop-from.auto.from-end, c.len-from-end.ensures)) c.loop-from.invariant
