use Rattle.std.proofs.Common.{◌≡◌, ℕ, List, [], Option, Some, None, get_or, length, sym, ◌∙◌, subst, lit<}
use Rattle.std.specs.Option.{IfSome}
use Rattle.std.proofs.lemmas.Iterator.Consumers.{count_from_yields_List}
use Rattle.std.proofs.lemmas.Iterator.Splits.{YieldsList-from_str_split}
use Rattle.sweep_plan.specs.Asked.{parts_of}
use Rattle.sweep_plan.specs.Values.{IsValue}
use Rattle.sweep_plan.specs.declared.values.SweptValue.{SweptValue}
use Rattle.sweep_plan.proofs.axes.value_in.Goals as goal

pub returns-then-parts-of-clause-none : goal.returns-then-parts-of-clause-none
returns-then-parts-of-clause-none c same even value is =
    let count = count_from_yields_List c.split.result c.count-parts.result c.count-parts.ensures.ran
    (YieldsList-from_str_split {s = c.split.result} 43 c.args.item.now (lit< tt) c.split.ensures.text c.split.ensures.has_more c.split.ensures.pattern) in
    absurd (c.if-parts-of.true (count ∙ even))

both : (r : Option SweptValue) (n m : ℕ) (word : List ℕ) → n ≡ m → IfSome r (IsValue word) → IfSome r (λ value. (n ≡ m) × IsValue word value)
both None n m word same told = told
both (Some value) n m word same told = (same, told)

pub returns-clause-some : goal.returns-clause-some
returns-clause-some c =
    let item = c.args.item.now in
    let count = count_from_yields_List c.split.result c.count-parts.result c.count-parts.ensures.ran
    (YieldsList-from_str_split {s = c.split.result} 43 item (lit< tt) c.split.ensures.text c.split.ensures.has_more c.split.ensures.pattern) in
    let even : length (parts_of item) ≡ c.args.of = sym count ∙ c.if-parts-of.false in
    both c.read.result (length (parts_of item)) c.args.of (get_or (parts_of item) c.args.place []) even (subst (λ (word : List ℕ). IfSome c.read.result (IsValue word)) c.part_at.ensures c.read.ensures.some)
