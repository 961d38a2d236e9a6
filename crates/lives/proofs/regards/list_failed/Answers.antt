use Rattle.std.proofs.Common.{◌≡◌, All, List, [], ◌∷◌, ◌++◌, ℕ, length, sym, subst, ap, ◌<◌, ◌∙◌, arith}
use Rattle.std.proofs.lemmas.List.{get_or_read}
use Rattle.lives.specs.declared.regards.Regard.TheVariants.{Usual}
use Rattle.lives.specs.Regards.{is_failed, regards_of}
use Rattle.lives.proofs.Columns.{failed_below, failed_in, one_failed, one_stays}
use Rattle.lives.proofs.regards.list_failed.Goals as goal
use Rattle.lives.proofs.regards.list_failed.Goals.{then-is_failed+in_ok-push, else-is_failed}

pub loop-number-preserved : goal.loop-number-preserved
loop-number-preserved c =
    let column = c.args.column.now in
    let number = c.loop-number.number in
    let within : number < length column = omega arith in
    let regard = c.index-column-number.result in
    let is : is_failed (regards_of column number) ≡ c.is_failed.result =
    ap is_failed (sym (get_or_read column number regard within c.index-column-number.is Usual)) ∙ sym c.is_failed.ensures in
    elim c.if-is_failed.branch [
      | then-is_failed+in_ok-push w ↦
          ap (λ v. v.items) w.failed-is ∙ w.in_ok-push.ensures.items
          ∙ ap (λ (l : List ℕ). l ++ number ∷ []) c.loop-number.invariant
          ∙ one_failed number (regards_of column) (is ∙ w.if-is_failed.true)
      | else-is_failed w ↦
          ap (λ v. v.items) w.failed-is ∙ c.loop-number.invariant ∙ one_stays number (regards_of column) (is ∙ w.if-is_failed.false)
    ]

pub returns-clause-failed : goal.returns-clause-failed
returns-clause-failed c = c.loop-number.invariant ∙ failed_in c.args.column.now c.args.members c.loop-number.number (omega arith)

pub returns-clause-among : goal.returns-clause-among
returns-clause-among c = subst (All (λ m. m < c.args.members)) (sym (returns-clause-failed c)) (failed_below c.args.members (regards_of c.args.column.now))
