-- what stands of a shard, by whether there is a width
use Rattle.std.proofs.Common.{◌∙◌, Some, None, string_bytes, subst, sym}
use Rattle.toml.specs.View.{view}
use Rattle.sweep_command.specs.Runs.{AreBegun, RefusesTable, standing}
use Rattle.sweep_command.proofs.Ways.{failed_by, ok_by}
use Rattle.sweep_command.proofs.resuming.begun_in.Goals as goal

pub returns-in-Some-clause-begun : goal.returns-in-Some-clause-begun
returns-in-Some-clause-begun c =
    let marked = c.args.marked.now in
    ok_by (λ until s. AreBegun until (view marked.document) (string_bytes marked.mark) c.args.plan.now c.args.shard c.args.text.now s.kept (standing s.count s.started.items))
    _ _ c.begun_settings_of.result (sym c.until.ensures.same ∙ c.in-Some.is) c.begun_settings_of.ensures.begun
    (λ s. subst (λ m. AreBegun (Some c.in-Some.width) (view marked.document) m c.args.plan.now c.args.shard c.args.text.now s.kept (standing s.count s.started.items)) c.as_str-mark.ensures.value)

pub returns-in-Some-clause-refused : goal.returns-in-Some-clause-refused
returns-in-Some-clause-refused c =
    let marked = c.args.marked.now in
    failed_by (λ until. RefusesTable until (view marked.document) (string_bytes marked.mark) c.args.plan.now c.args.shard c.args.text.now)
    _ _ c.begun_settings_of.result (sym c.until.ensures.same ∙ c.in-Some.is) c.begun_settings_of.ensures.refused
    (λ fault. subst (λ m. RefusesTable (Some c.in-Some.width) (view marked.document) m c.args.plan.now c.args.shard c.args.text.now fault) c.as_str-mark.ensures.value)

pub returns-in-None-clause-begun : goal.returns-in-None-clause-begun
returns-in-None-clause-begun c =
    let marked = c.args.marked.now in
    ok_by (λ until s. AreBegun until (view marked.document) (string_bytes marked.mark) c.args.plan.now c.args.shard c.args.text.now s.kept (standing s.count s.started.items))
    _ _ c.begun_of.result (sym c.until.ensures.same ∙ c.in-None.is) c.begun_of.ensures.begun
    (λ s. subst (λ m. AreBegun None (view marked.document) m c.args.plan.now c.args.shard c.args.text.now s.kept (standing s.count s.started.items)) c.as_str-mark.ensures.value)

pub returns-in-None-clause-refused : goal.returns-in-None-clause-refused
returns-in-None-clause-refused c =
    let marked = c.args.marked.now in
    failed_by (λ until. RefusesTable until (view marked.document) (string_bytes marked.mark) c.args.plan.now c.args.shard c.args.text.now)
    _ _ c.begun_of.result (sym c.until.ensures.same ∙ c.in-None.is) c.begun_of.ensures.refused
    (λ fault. subst (λ m. RefusesTable None (view marked.document) m c.args.plan.now c.args.shard c.args.text.now fault) c.as_str-mark.ensures.value)
