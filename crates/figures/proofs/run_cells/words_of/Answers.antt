use Rattle.std.proofs.Common.{◌∷◌, ◌++◌, [], ◌∙◌, ap, subst, sym}
use Rattle.std.specs.Str.{IsUtf8}
use Rattle.std.proofs.lemmas.List.{append_cancel_right}
use Rattle.std.proofs.lemmas.Str.{IsUtf8-from_ascii}
use Rattle.figures.proofs.run_cells.words_of.Goals as goal

pub returns-in-Ok-clause-some : goal.returns-in-Ok-clause-some
returns-in-Ok-clause-some c = c.in-Some.ensures.some ∙ ap (λ l. l ++ 10 ∷ []) (sym (rw c.in-Ok.is at c.from_utf8.ensures.cases).0)

pub returns-in-Err-clause-none : goal.returns-in-Err-clause-none
returns-in-Err-clause-none c = λ _ words ascii same.
    (rw c.in-Err.is at c.from_utf8.ensures.cases).0 (subst IsUtf8 (append_cancel_right words c.in-Some.front.now (10 ∷ []) (sym same ∙ c.in-Some.ensures.some)) (IsUtf8-from_ascii words ascii))
