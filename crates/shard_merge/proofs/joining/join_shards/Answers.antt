use Rattle.std.proofs.Common.{◌≡◌, ◌≤◌, [], refl, rules, sym, subst, arith}
use Rattle.sweep.specs.Summaries.{IsGathered}
use Rattle.figures.proofs.Handing.{handed}
use Rattle.sweep.proofs.Sizes.{few_runs, some_runs}
use Rattle.shard_merge.specs.Behind.{summaries_read}
use Rattle.shard_merge.specs.Joined.{JoinsShards}
use Rattle.shard_merge.specs.Reasons.{IsReason}
use Rattle.shard_merge.proofs.ShardsMore.{all_joined, none_joined, one_joined}
use Rattle.shard_merge.proofs.joining.join_shards.Goals as goal

pub new-so_far-requires-clause-some : goal.new-so_far-requires-clause-some
new-so_far-requires-clause-some g c = omega (arith, some_runs c.args.head.now.plan c.requires.first.begins.asked, c.runs_of_setting.ensures)

pub new-so_far-requires-clause-few : goal.new-so_far-requires-clause-few
new-so_far-requires-clause-few g c = subst (λ n. n ≤ 1000000) (sym c.runs_of_setting.ensures) (few_runs c.args.head.now.plan c.requires.first.begins.asked)

pub loop-number-init : goal.loop-number-init
loop-number-init g c =
    let head = c.args.head.now in
    record {
      so = none_joined c.args.texts.now head.mark.now head.columns c.in_ok-seed.seed head.plan head.shard.of head.plan.until _ _ (omega (arith, c.requires.first.begins.sound.least, c.requires.first.begins.sound.most))
          (subst (λ n. IsGathered n [] c.new-so_far.result.gathering) c.runs_of_setting.ensures c.new-so_far.ensures.runs) c.new-so_far.ensures.settings;
      same = refl;
    }

pub loop-number-preserved : goal.loop-number-preserved
loop-number-preserved g c =
    let head = c.args.head.now in
    record {
      so = one_joined c.args.texts.now head.mark.now head.columns c.in_ok-seed.seed head.plan head.shard.of head.plan.until c.loop-number.number _ _ _ _ _ (omega (arith, c.loop-number-test.true))
          c.loop-number.invariant.so c.in_ok-join_shard.ensures.whole;
      same = search rules;
    }

pub returns-clause-whole : goal.returns-clause-whole
returns-clause-whole g c =
    let head = c.args.head.now in
    let until = c.until.ensures.same in
    let all : c.loop-number.number ≡ head.shard.of = omega (arith, c.loop-number-test.false, c.loop-number.auto.number-end) in (
      c.in_ok-seed.seed,
      all_joined c.args.texts.now head.mark.now head.columns c.in_ok-seed.seed head.plan head.shard.of head.plan.until (g.S.Sink.held c.args.table.now) (g.S.Sink.held c.loop-number.table) c.loop-number.so_far _
          (omega (arith, c.requires.first.begins.sound.least, c.requires.first.begins.sound.most))
          (subst (λ n. JoinsShards head.plan.until c.args.texts.now head.mark.now head.columns c.in_ok-seed.seed head.plan head.shard.of n (g.S.Sink.held c.args.table.now) (g.S.Sink.held c.loop-number.table) c.loop-number.so_far)
          all c.loop-number.invariant.so)
          (subst (λ o. c.into_summaries.result.items ≡ summaries_read o c.loop-number.so_far) until c.into_summaries.ensures),
    )

pub returns-in_err-join_shard-clause-refused : goal.returns-in_err-join_shard-clause-refused
returns-in_err-join_shard-clause-refused g c =
    handed c.from_residual-in_err-join_shard.result _ _ c.from_residual-in_err-join_shard.ensures.1
    (λ e same. subst (IsReason c.args.texts.now) (sym same) c.in_err-join_shard.ensures.refused)

pub returns-in_err-seed-clause-refused : goal.returns-in_err-seed-clause-refused
returns-in_err-seed-clause-refused g c =
    handed c.from_residual.result _ _ c.from_residual.ensures.1 (λ e same. subst (IsReason c.args.texts.now) (sym same) c.in_err-seed.ensures.refused)
