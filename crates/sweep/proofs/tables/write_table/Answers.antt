use Rattle.std.proofs.Common.{◌≤◌, ◌+◌, ◌∙◌, List, ap, drop, subst, sym, arith}
use Rattle.std.specs.Io.KnownBytes.{Appends}
use Rattle.toml.specs.View.{view}
use Rattle.trace.specs.Sinks.{AppendsBeginning}
use Rattle.sweep_plan.specs.Sweep.{seed_count}
use Rattle.figures.specs.Notes.{Note}
use Rattle.shards.specs.Shards.{first_run, past_run}
use Rattle.sweep.specs.Shards.{rest_course, shard_header}
use Rattle.sweep.specs.Summaries.{HasCome}
use Rattle.sweep.specs.Table.{columns_of}
use Rattle.trace.proofs.Beginnings.{Keeps-same, beginning-none}
use Rattle.run_output.proofs.Faults.{on_err}
use Rattle.sweep.proofs.Handing.{write_caused}
use Rattle.sweep.proofs.Steps.{front_come, front_part, have_begun, begun_kept, come_kept}
use Rattle.sweep.proofs.ShardCourse.{rest_begun, rest_whole}
use Rattle.sweep.proofs.tables.write_table.Goals as goal

pub make_runs-requires-clause-ordered : goal.make_runs-requires-clause-ordered
make_runs-requires-clause-ordered g c _ _ =
    let first = c.first-first.ensures.first ∙ ap (first_run c.args.shard) c.runs-runs.ensures.count in
    let past = c.past.ensures.past ∙ ap (past_run c.args.shard) c.runs-runs.ensures.count in
    omega (arith, first, past, c.requires.few)

pub make_runs-requires-clause-within : goal.make_runs-requires-clause-within
make_runs-requires-clause-within g c _ _ = subst (λ n. c.past.result ≤ n) c.runs-runs.ensures.count c.past.ensures.within

pub returns-in_err-key-clause-part : goal.returns-in_err-key-clause-part
returns-in_err-key-clause-part g c =
    let tree = view c.args.document.now in
    let plan = c.args.plan.now in
    let p = c.args.shard in
    let kept = c.args.begun.now.kept in
    let old = g.S.Sink.held c.args.table.now in
    on_err c.from_residual.result
    (rest_begun tree plan c.args.mark.now p kept old old c.args.begun.now.count c.a_run_exists.ensures c.requires.judged
    (front_part tree plan (rest_course tree c.args.mark.now plan p kept c.args.begun.now.count old) old c.requires.few
    (beginning-none old old (drop kept (shard_header (columns_of tree) c.args.mark.now plan p)) (Keeps-same old))))

pub returns-in_err-write_front_behind-clause-part : goal.returns-in_err-write_front_behind-clause-part
returns-in_err-write_front_behind-clause-part g c =
    let tree = view c.args.document.now in
    let plan = c.args.plan.now in
    let p = c.args.shard in
    let kept = c.args.begun.now.kept in
    let old = g.S.Sink.held c.args.table.now in
    let begun = g.S.Sink.held c.write_front_behind.new.table in
    let front = subst (λ b. AppendsBeginning old begun (drop kept (shard_header b c.args.mark.now plan p))) c.columns_of-columns.ensures c.in_err-write_front_behind.ensures.part in
    on_err c.from_residual-in_err-write_front_behind.result
    (rest_begun tree plan c.args.mark.now p kept old begun c.args.begun.now.count c.a_run_exists.ensures c.requires.judged
    (front_part tree plan (rest_course tree c.args.mark.now plan p kept c.args.begun.now.count old) begun c.requires.few front))

pub returns-in_err-write_front_behind-clause-causes : goal.returns-in_err-write_front_behind-clause-causes
returns-in_err-write_front_behind-clause-causes g c = write_caused (view c.args.document.now) c.args.plan.now c.from_residual-in_err-write_front_behind.result _ c.from_residual-in_err-write_front_behind.ensures.1

pub returns-in_err-make_runs-clause-part : goal.returns-in_err-make_runs-clause-part
returns-in_err-make_runs-clause-part g c =
    let tree = view c.args.document.now in
    let plan = c.args.plan.now in
    let p = c.args.shard in
    let kept = c.args.begun.now.kept in
    let old = g.S.Sink.held c.args.table.now in
    let begun = g.S.Sink.held c.write_front_behind.new.table in
    let new = g.S.Sink.held c.make_runs.new.table in
    let Fresh : List Note → Type 0 = g.G.Gather.has c.args.gathering.now (seed_count plan.seeds) in
    let course = rest_course tree c.args.mark.now plan p kept c.args.begun.now.count old in
    let keyed = sym c.in_ok-key.ensures in
    let first = ap (λ n. n + c.args.begun.now.count) (c.first-first.ensures.first ∙ ap (first_run p) c.runs-runs.ensures.count) in
    let past = c.past.ensures.past ∙ ap (past_run p) c.runs-runs.ensures.count in
    let front = subst (λ b. Appends old begun (drop kept (shard_header b c.args.mark.now plan p))) c.columns_of-columns.ensures c.in_ok-write_front_behind.ensures.whole in
    let come = subst (HasCome tree plan course begun Fresh) (sym first) (front_come tree plan course begun Fresh front c.requires.fresh) in
    on_err c.from_residual-in_err-make_runs.result
    (rest_begun tree plan c.args.mark.now p kept old new c.args.begun.now.count c.a_run_exists.ensures c.requires.judged
    (c.in_err-make_runs.ensures.part course keyed (omega (arith, past)) come))

pub returns-in_err-flush-clause-part : goal.returns-in_err-flush-clause-part
returns-in_err-flush-clause-part g c =
    let tree = view c.args.document.now in
    let plan = c.args.plan.now in
    let p = c.args.shard in
    let kept = c.args.begun.now.kept in
    let old = g.S.Sink.held c.args.table.now in
    let begun = g.S.Sink.held c.write_front_behind.new.table in
    let full = g.S.Sink.held c.make_runs.new.table in
    let new = g.S.Sink.held c.flush.new.sink in
    let Fresh : List Note → Type 0 = g.G.Gather.has c.args.gathering.now (seed_count plan.seeds) in
    let course = rest_course tree c.args.mark.now plan p kept c.args.begun.now.count old in
    let keyed = sym c.in_ok-key.ensures in
    let first = ap (λ n. n + c.args.begun.now.count) (c.first-first.ensures.first ∙ ap (first_run p) c.runs-runs.ensures.count) in
    let past = c.past.ensures.past ∙ ap (past_run p) c.runs-runs.ensures.count in
    let front = subst (λ b. Appends old begun (drop kept (shard_header b c.args.mark.now plan p))) c.columns_of-columns.ensures c.in_ok-write_front_behind.ensures.whole in
    let come = subst (HasCome tree plan course begun Fresh) (sym first) (front_come tree plan course begun Fresh front c.requires.fresh) in
    on_err c.from_residual-in_err-flush.result
    (rest_begun tree plan c.args.mark.now p kept old new c.args.begun.now.count c.a_run_exists.ensures c.requires.judged
    (begun_kept tree plan course full new (have_begun tree plan course full c.past.result (omega (arith, past)) (c.in_ok-make_runs.ensures.whole course keyed come).lines) c.flush.ensures.same))

pub returns-in_err-flush-clause-causes : goal.returns-in_err-flush-clause-causes
returns-in_err-flush-clause-causes g c = write_caused (view c.args.document.now) c.args.plan.now c.from_residual-in_err-flush.result _ c.from_residual-in_err-flush.ensures.1

pub returns-clause-whole : goal.returns-clause-whole
returns-clause-whole g c =
    let tree = view c.args.document.now in
    let plan = c.args.plan.now in
    let p = c.args.shard in
    let kept = c.args.begun.now.kept in
    let old = g.S.Sink.held c.args.table.now in
    let begun = g.S.Sink.held c.write_front_behind.new.table in
    let full = g.S.Sink.held c.make_runs.new.table in
    let new = g.S.Sink.held c.flush.new.sink in
    let Fresh : List Note → Type 0 = g.G.Gather.has c.args.gathering.now (seed_count plan.seeds) in
    let Gathered : List Note → Type 0 = g.G.Gather.has c.make_runs.new.gathering (seed_count plan.seeds) in
    let course = rest_course tree c.args.mark.now plan p kept c.args.begun.now.count old in
    let keyed = sym c.in_ok-key.ensures in
    let first = ap (λ n. n + c.args.begun.now.count) (c.first-first.ensures.first ∙ ap (first_run p) c.runs-runs.ensures.count) in
    let past = c.past.ensures.past ∙ ap (past_run p) c.runs-runs.ensures.count in
    let front = subst (λ b. Appends old begun (drop kept (shard_header b c.args.mark.now plan p))) c.columns_of-columns.ensures c.in_ok-write_front_behind.ensures.whole in
    let come = subst (HasCome tree plan course begun Fresh) (sym first) (front_come tree plan course begun Fresh front c.requires.fresh) in
    rest_whole tree plan c.args.mark.now p kept old new c.args.begun.now.count Gathered
    (subst (HasCome tree plan course new Gathered) past
    (come_kept tree plan course full new Gathered c.past.result (c.in_ok-make_runs.ensures.whole course keyed come) c.flush.ensures.same))
