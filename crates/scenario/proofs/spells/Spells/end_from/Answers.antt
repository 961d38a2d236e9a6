use Rattle.std.proofs.Common.{List, ◌-◌, get_or, sym, ap, ◌∙◌, subst}
use Rattle.scenario.specs.Spells.{is_in_any, AreApart, IsEndFrom}
use Rattle.scenario.specs.declared.spells.Spell.{Spell}
use Rattle.scenario.proofs.Apart.{none_begun, last_over, last_lasts, ends_there}
use Rattle.scenario.proofs.spells.Spells.end_from.Goals as goal

pub returns-then-begun-eq0-clause-none : goal.returns-then-begun-eq0-clause-none
returns-then-begun-eq0-clause-none c =
    let same = c.as_slice.ensures.value ∙ c.self.view_is in
    ap (λ xs. is_in_any xs c.args.at) (sym same) ∙ none_begun c.args.at c.begun_by-begun.result c.as_slice.result.now c.if-begun-eq0.true c.begun_by-begun.ensures.later

pub returns-then-at-until-clause-end : goal.returns-then-at-until-clause-end
returns-then-at-until-clause-end c =
    let xs = c.as_slice.result.now in
    let x = c.index.result.now in
    let value = c.as_slice.ensures.value in
    let apart : AreApart xs = subst AreApart (sym value) c.self.invariant in
    let here = c.index.ensures ∙ ap (λ (ys : List Spell). get_or ys (c.begun_by-begun.result - 1) x) (sym value) in
    subst (λ (ys : List Spell). IsEndFrom ys c.args.at x.until) (value ∙ c.self.view_is)
    (ends_there xs apart c.args.at c.begun_by-begun.result x c.if-begun-eq0.false c.begun_by-begun.ensures.few here c.begun_by-begun.ensures.begun c.begun_by-begun.ensures.later c.if-at-until.true)

pub returns-then-at-until-clause-some : goal.returns-then-at-until-clause-some
returns-then-at-until-clause-some c =
    let xs = c.as_slice.result.now in
    let x = c.index.result.now in
    let value = c.as_slice.ensures.value in
    let apart : AreApart xs = subst AreApart (sym value) c.self.invariant in
    let here = c.index.ensures ∙ ap (λ (ys : List Spell). get_or ys (c.begun_by-begun.result - 1) x) (sym value) in
    ap (λ (ys : List Spell). is_in_any ys c.args.at) (sym (value ∙ c.self.view_is))
    ∙ last_lasts xs apart c.args.at c.begun_by-begun.result x c.if-begun-eq0.false c.begun_by-begun.ensures.few here c.begun_by-begun.ensures.begun c.begun_by-begun.ensures.later c.if-at-until.true

pub returns-else-at-until-clause-none : goal.returns-else-at-until-clause-none
returns-else-at-until-clause-none c =
    let xs = c.as_slice.result.now in
    let x = c.index.result.now in
    let value = c.as_slice.ensures.value in
    let apart : AreApart xs = subst AreApart (sym value) c.self.invariant in
    let here = c.index.ensures ∙ ap (λ (ys : List Spell). get_or ys (c.begun_by-begun.result - 1) x) (sym value) in
    ap (λ (ys : List Spell). is_in_any ys c.args.at) (sym (value ∙ c.self.view_is))
    ∙ last_over xs apart c.args.at c.begun_by-begun.result x c.if-begun-eq0.false c.begun_by-begun.ensures.few here c.begun_by-begun.ensures.begun c.begun_by-begun.ensures.later c.if-at-until.false
