use Rattle.std.proofs.Common.{rules, ◌≡◌, ◌<◌, ◌∙◌, false, length, replicate, ap, arith, sym, subst}
use Rattle.std.specs.Prelude.{All, IfSome, count_by}
use Rattle.scenario.specs.Setup.{member_count}
use Rattle.reports.specs.declared.false_positives.FalsePositive.{FalsePositive}
use Rattle.figures.proofs.Marks.{all_marked, front_of}
use Rattle.figures.proofs.thrown_out.thrown_out.Goals as goal

pub mark_each-requires : goal.mark_each-requires
mark_each-requires c =
    let long : length c.deref_mut.result.now ≡ member_count c.args.scenario.now = omega (arith, c.deref_mut.ensures.len, c.in_ok-are_out.ensures.len, c.members.ensures.count) in
    subst (λ k. All (λ (claim : FalsePositive). IfSome claim.about (λ m. m < k)) c.args.claims.now) (sym long) c.requires

pub returns : goal.returns
returns c =
    let none = c.deref_mut.ensures.value ∙ c.in_ok-are_out.ensures.items_if_clones_equal (search rules) ∙ ap (λ n. replicate n false) c.members.ensures.count in
    let long : length c.mark_each.new.are_out ≡ c.in_ok-are_out.are_out.len = omega (arith, c.mark_each.auto.are_out, c.deref_mut.ensures.len) in
    all_marked (member_count c.args.scenario.now) c.deref_mut.result.now c.mark_each.new.are_out c.args.claims.now _ none c.mark_each.auto.are_out
    c.mark_each.ensures
    (c.count_marked.ensures ∙ ap (count_by (λ mark. mark)) (c.deref.ensures.value ∙ front_of c.in_ok-are_out.are_out.len c.mark_each.new.are_out _ long))
