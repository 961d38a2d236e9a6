use Rattle.std.proofs.Common.{sym, subst, arith}
use Rattle.figures.proofs.Handing.{handed}
use Rattle.shard_merge.specs.Reasons.{IsReason}
use Rattle.shard_merge.proofs.PlacesMore.{of_sink}
use Rattle.shard_merge.proofs.Wholes.{few_joined, whole_joined}
use Rattle.shard_merge.proofs.joining.join.Goals as goal

pub returns-clause-joined : goal.returns-clause-joined
returns-clause-joined g c =
    let head = c.in_ok-head.head in
    let begins = c.in_ok-head.ensures.first.begins in
    whole_joined c.args.texts.now head.mark.now head.columns c.in_ok-settings.ensures.whole.0 head.plan head.shard.of begins.asked begins.marked (omega (arith, begins.sound.least, begins.sound.most)) begins.sound.few
    (g.S.Sink.held c.args.table.now) (g.S.Sink.held c.put_header.new.table) (g.S.Sink.held c.join_shards.new.table) (g.S.Sink.held c.flush.new.table)
    c.in_ok-settings.settings.items c.in_ok-settings.ensures.whole.1 c.in_ok-put_header.ensures.whole c.flush.ensures.same

pub returns-clause-few : goal.returns-clause-few
returns-clause-few g c =
    let head = c.in_ok-head.head in
    few_joined c.args.texts.now head.mark.now head.columns c.in_ok-settings.ensures.whole.0 head.plan head.shard.of (g.S.Sink.held c.put_header.new.table) (g.S.Sink.held c.join_shards.new.table)
    head.plan.until c.in_ok-settings.settings.items c.in_ok-head.ensures.first.begins.asked c.in_ok-settings.ensures.whole.1

pub returns-in_err-head-clause-refused : goal.returns-in_err-head-clause-refused
returns-in_err-head-clause-refused g c =
    handed c.from_residual.result _ _ c.from_residual.ensures.1 (λ e same. subst (IsReason c.args.texts.now) (sym same) c.in_err-head.ensures.refused)

pub returns-in_err-places-clause-refused : goal.returns-in_err-places-clause-refused
returns-in_err-places-clause-refused g c =
    handed c.from_residual-in_err-places.result _ _ c.from_residual-in_err-places.ensures.1 (λ e same. subst (IsReason c.args.texts.now) (sym same) c.in_err-places.ensures.refused)

pub returns-in_err-put_header-clause-refused : goal.returns-in_err-put_header-clause-refused
returns-in_err-put_header-clause-refused g c =
    handed c.from_residual-in_err-put_header.result _ _ c.from_residual-in_err-put_header.ensures.1
    (λ e same. subst (IsReason c.args.texts.now) (sym same) (of_sink c.args.texts.now _ c.in_err-put_header.ensures.refused))

pub returns-in_err-settings-clause-refused : goal.returns-in_err-settings-clause-refused
returns-in_err-settings-clause-refused g c =
    handed c.from_residual-in_err-settings.result _ _ c.from_residual-in_err-settings.ensures.1
    (λ e same. subst (IsReason c.args.texts.now) (sym same) c.in_err-settings.ensures.refused)

pub returns-in_err-flush-clause-refused : goal.returns-in_err-flush-clause-refused
returns-in_err-flush-clause-refused g c =
    handed c.from_residual-in_err-flush.result _ _ c.from_residual-in_err-flush.ensures.1
    (λ e same. subst (IsReason c.args.texts.now) (sym same) (of_sink c.args.texts.now _ c.in_err-flush.ensures.refused))
