use Rattle.std.proofs.Common.{◌≡◌, ◌∙◌, ◌==◌, true, length, nat_eq, arith, sym, ap, true≢false}
use Rattle.std.proofs.lemmas.Bool.Decides.{nat_tests}
use Rattle.sweep.proofs.LinesOf.{not_so}
use Rattle.sweep.proofs.standing.are_lines_of.Goals as goal

pub returns-then-stood-count-clause-none : goal.returns-then-stood-count-clause-none
returns-then-stood-count-clause-none c = λ some.
    let stood = c.in_ok-stood in
    not_so c.args.key.now c.args.plan.now c.args.first c.args.count stood.stood.count c.args.text.now stood.stood.left.now stood.ensures.begins stood.ensures.no_more
    (λ same none. true≢false (sym (c.is_empty.ensures ∙ ap (λ l. length l == 0) none) ∙ some))

pub returns-else-stood-count-clause-none : goal.returns-else-stood-count-clause-none
returns-else-stood-count-clause-none c = λ other.
    let stood = c.in_ok-stood in
    not_so c.args.key.now c.args.plan.now c.args.first c.args.count stood.stood.count c.args.text.now stood.stood.left.now stood.ensures.begins stood.ensures.no_more
    (λ same none. let yes : nat_eq stood.stood.count c.args.count ≡ true = grind (arith, nat_tests) in true≢false (sym yes ∙ other))
