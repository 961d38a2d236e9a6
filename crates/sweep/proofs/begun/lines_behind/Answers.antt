use Rattle.std.proofs.Common.{◌∙◌, ◌++◌, ap, refl, sym}
use Rattle.sweep.specs.Shards.{shard_header}
use Rattle.sweep.proofs.Begins.{apart}
use Rattle.sweep.proofs.begun.lines_behind.Goals as goal

pub returns-in_default-clause-refused : goal.returns-in_default-clause-refused
returns-in_default-clause-refused c =
    let is = c.in_ok-header.ensures ∙ ap (λ b. shard_header b c.args.mark.now c.args.plan.now c.args.shard) c.columns_of.ensures in
    apart c.args.text.now _ _ is
    (λ rest same. c.is_beginning.ensures.none c.if-is_beginning.false rest (c.deref.ensures.value ∙ same))
    (λ rest same. c.in_default.ensures.none refl rest (same ∙ ap (λ l. l ++ rest) (sym c.deref-2.ensures.value)))
