use Rattle.std.proofs.Common.{refl, subst, sym}
use Rattle.sweep.specs.Shards.{shard_header}
use Rattle.figures.proofs.Handing.{handed}
use Rattle.shard_merge.specs.Reasons.{RefusesLines}
use Rattle.table_merge.proofs.Reading.{head_read, head_refused, head_torn}
use Rattle.table_merge.proofs.joining.read_table.Goals as goal

pub returns-in_err-lines-clause-refused : goal.returns-in_err-lines-clause-refused
returns-in_err-lines-clause-refused c =
    let first = c.args.first.now.head in
    let head = c.in-Some.head in
    let some = rw c.in-Some.is at c.in_ok-head.ensures.some in
    handed c.from_residual-in_err-lines.result _ _ c.from_residual-in_err-lines.ensures.1
    (λ e same. head_refused c.args.texts.now first.mark.now first.columns first.plan c.args.found c.requires.there head.mark.now head.columns head.plan head.shard some.0 some.1 some.2 some.3
    c.text_at.result.now c.text_at.ensures e
    (subst (RefusesLines c.text_at.result.now (shard_header head.columns head.mark.now head.plan head.shard) c.args.found.place) (sym same) c.in_err-lines.ensures.refused))

pub returns-in-Ok-clause-read : goal.returns-in-Ok-clause-read
returns-in-Ok-clause-read c =
    let first = c.args.first.now.head in
    let head = c.in-Some.head in
    let some = rw c.in-Some.is at c.in_ok-head.ensures.some in
    head_read c.args.texts.now first.mark.now first.columns first.plan c.args.found c.requires.there head.mark.now head.columns head.plan head.shard some.0 some.1 some.2 some.3
    c.text_at.result.now c.text_at.ensures c.in_ok-lines.lines.now c.in_ok-key.key c.in_ok-lines.ensures.there c.in_ok-key.ensures _ _ c.in-Ok.ensures.read refl refl

pub returns-in-Err-Torn-clause-refused : goal.returns-in-Err-Torn-clause-refused
returns-in-Err-Torn-clause-refused c =
    let first = c.args.first.now.head in
    let head = c.in-Some.head in
    let some = rw c.in-Some.is at c.in_ok-head.ensures.some in
    let refused = rw c.in-Err-Torn.field-0-is at c.in-Err-Torn.ensures.refused in
    head_torn c.args.texts.now first.mark.now first.columns first.plan c.args.found c.requires.there head.mark.now head.columns head.plan head.shard some.0 some.1 some.2 some.3
    c.text_at.result.now c.text_at.ensures c.in_ok-lines.lines.now c.in_ok-key.key c.in_ok-lines.ensures.there c.in_ok-key.ensures refused
