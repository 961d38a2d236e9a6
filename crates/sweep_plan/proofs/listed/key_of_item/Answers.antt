use Rattle.std.proofs.Common.{subst, sym, ◌∙◌, refl}
use Rattle.schema.specs.Schema.{spelling_of}
use Rattle.sweep_plan.specs.Listed.{IsItemIn}
use Rattle.sweep_plan.specs.SetKeys.{key_spelling}
use Rattle.sweep_plan.proofs.Parted.{one_named, one_other}
use Rattle.sweep_plan.proofs.listed.key_of_item.Goals as goal

pub returns-in-Some-clause-some : goal.returns-in-Some-clause-some
returns-in-Some-clause-some c =
    one_named c.args.list c.args.key c.args.word.now c.in-Some.item
    (subst (λ l. IsItemIn l (key_spelling c.args.key) c.args.word.now c.in-Some.item) (c.as_bytes.ensures.value ∙ c.text.ensures)
    (subst (λ k. IsItemIn c.as_bytes.result.now k c.args.word.now c.in-Some.item) (c.as_bytes-2.ensures.value ∙ c.text-2.ensures) c.in-Some.ensures.some))

pub returns-in-None-clause-none : goal.returns-in-None-clause-none
returns-in-None-clause-none c _ =
    one_other c.args.list c.args.key c.args.word.now
    (λ item is. c.in-None.ensures.none refl item
    (subst (λ l. IsItemIn l c.as_bytes-2.result.now c.args.word.now item) (sym (c.as_bytes.ensures.value ∙ c.text.ensures))
    (subst (λ k. IsItemIn (spelling_of c.args.list) k c.args.word.now item) (sym (c.as_bytes-2.ensures.value ∙ c.text-2.ensures)) is)))
