use Rattle.std.proofs.Common.{Some, refl, sym, subst}
use Rattle.std.proofs.lemmas.Option.{same_Some}
use Rattle.figures.proofs.Handing.{handed, if_err_then}
use Rattle.sweep.proofs.Handing.{on_ok_then}
use Rattle.sweep.specs.Sums.{line_key}
use Rattle.shard_merge.specs.Behind.{AreBehind, ReadsBehind}
use Rattle.shard_merge.specs.Joined.{IsFirstSeed}
use Rattle.shard_merge.specs.Reasons.{IsReason}
use Rattle.shard_merge.proofs.PlacesMore.{among, of_sink, torn}
use Rattle.shard_merge.proofs.joining.join_shard.Goals as goal

pub returns-in_err-behind-clause-refused : goal.returns-in_err-behind-clause-refused
returns-in_err-behind-clause-refused g c =
    handed c.from_residual.result _ _ c.from_residual.ensures.1 (λ e same. subst (IsReason c.args.texts.now) (sym same) c.in_err-behind.ensures.refused)

pub returns-in-Ok-clause-whole : goal.returns-in-Ok-clause-whole
returns-in-Ok-clause-whole g c =
    let head = c.args.head.now in
    let behind = c.in_ok-behind.ensures.there in
    let read = subst (λ p. ReadsBehind head.plan.until (line_key head.columns (Some c.args.seed) head.mark.now head.plan) head.plan p c.in_ok-behind.behind.lines.now c.args.so_far.now c.read.new.self) c.shard_at-shard.ensures.same
    (subst (λ k. ReadsBehind head.plan.until k head.plan c.shard_at-shard.result c.in_ok-behind.behind.lines.now c.args.so_far.now c.read.new.self) c.in_ok-key.ensures c.in-Ok.ensures.read) in
    on_ok_then _ _ c.put_lines.result c.put_lines.ensures.whole (λ put. record {
      body = c.in_ok-behind.behind.lines.now;
      there = among c.args.texts.now _ _ _ behind.there behind.written;
      read = read;
      put = put;
    })

pub returns-in-Ok-clause-refused : goal.returns-in-Ok-clause-refused
returns-in-Ok-clause-refused g c = if_err_then c.put_lines.result _ (IsReason c.args.texts.now) c.put_lines.ensures.refused (of_sink c.args.texts.now)

pub returns-in-Err-Torn-clause-refused : goal.returns-in-Err-Torn-clause-refused
returns-in-Err-Torn-clause-refused g c =
    let head = c.args.head.now in
    let refused = rw c.in-Err-Torn.field-0-is at c.in-Err-Torn.ensures.refused in
    torn c.args.texts.now head.mark.now head.columns head.plan head.shard c.requires.first c.args.places.now c.requires.places c.args.number _ _ c.in_ok-behind.ensures.there _ (Some c.args.seed) refl
    (λ k one. subst (IsFirstSeed c.args.texts.now head.mark.now head.columns head.plan head.shard.of) (same_Some c.args.seed k one) c.requires.seeded)
    (λ its. refused (subst (λ k. AreBehind head.plan.until k head.plan c.shard_at-shard.result c.in_ok-behind.behind.lines.now) (sym c.in_ok-key.ensures)
    (subst (λ p. AreBehind head.plan.until (line_key head.columns (Some c.args.seed) head.mark.now head.plan) head.plan p c.in_ok-behind.behind.lines.now) (sym c.shard_at-shard.ensures.same) its.are)))
