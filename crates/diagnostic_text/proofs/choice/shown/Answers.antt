use Rattle.std.proofs.Common.{◌∙◌, ap, find, sym, take}
use Rattle.std.proofs.lemmas.Result.{IfOk-weaker}
use Rattle.diagnostic_text.proofs.Chosen.{begun, is_of, led_by, led_by_none}
use Rattle.diagnostic_text.proofs.choice.shown.Goals as goal

pub returns-then-has_rule : goal.returns-then-has_rule
returns-then-has_rule c =
    let found = c.as_slice-found.ensures.value in
    IfOk-weaker c.copied.result _ _ (λ shown same. begun c.args.diagnostics.now.rule c.args.diagnostics.now.list.items c.beginning-first.result.now shown.items
    c.requires.least (c.beginning-first.ensures ∙ ap (take 50) found) (sym c.has_rule.ensures ∙ c.if-has_rule.true) same) c.copied.ensures

pub returns-in-Some : goal.returns-in-Some
returns-in-Some c =
    let found = c.as_slice-found.ensures.value in
    let rule = c.args.diagnostics.now.rule in
    IfOk-weaker c.with_last.result _ _ (λ shown same. led_by rule c.args.diagnostics.now.list.items c.beginning-first.result.now c.beginning-front.result.now shown.items c.in-Some.last
    c.requires.least (c.beginning-first.ensures ∙ ap (take 50) found) (sym c.has_rule.ensures ∙ c.if-has_rule.false) (c.beginning-front.ensures ∙ ap (take 49) found)
    (sym (ap (find (is_of rule)) found) ∙ sym c.first_of_rule.ensures ∙ c.in-Some.is) same) c.with_last.ensures

pub returns-in-None : goal.returns-in-None
returns-in-None c =
    let found = c.as_slice-found.ensures.value in
    let rule = c.args.diagnostics.now.rule in
    IfOk-weaker c.copied-in-None.result _ _ (λ shown same. led_by_none rule c.args.diagnostics.now.list.items c.beginning-first.result.now c.beginning-front.result.now shown.items
    c.requires.least (c.beginning-first.ensures ∙ ap (take 50) found) (sym c.has_rule.ensures ∙ c.if-has_rule.false) (c.beginning-front.ensures ∙ ap (take 49) found)
    (sym (ap (find (is_of rule)) found) ∙ sym c.first_of_rule.ensures ∙ c.in-None.is) same) c.copied-in-None.ensures
