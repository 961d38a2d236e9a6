use Rattle.std.proofs.Common.{None, refl, sym, subst, arith}
use Rattle.std.proofs.lemmas.Option.{none-some}
use Rattle.sweep.specs.Sums.{HasLineOf, line_key}
use Rattle.figures.proofs.Handing.{handed}
use Rattle.shard_merge.specs.Reasons.{IsReason}
use Rattle.shard_merge.proofs.FirstRun.{first_line_there}
use Rattle.shard_merge.proofs.PlacesMore.{among, torn}
use Rattle.shard_merge.proofs.first_run.seed_of_first_run.Goals as goal

pub returns-in_err-behind-clause-refused : goal.returns-in_err-behind-clause-refused
returns-in_err-behind-clause-refused c =
    handed c.from_residual.result _ _ c.from_residual.ensures.1 (λ e same. subst (IsReason c.args.texts.now) (sym same) c.in_err-behind.ensures.refused)

pub returns-in-Some-clause-seed : goal.returns-in-Some-clause-seed
returns-in-Some-clause-seed c =
    let head = c.args.head.now in
    let begins = c.requires.first.begins in
    let behind = c.in_ok-behind.ensures.there in
    let lines = c.in_ok-behind.behind.lines.now in
    record {
      p = _;
      sound = record { least = omega arith; most = omega (arith, c.shard_of_first_run-number.ensures.within); few = begins.sound.few };
      one = refl;
      body = lines;
      there = among c.args.texts.now _ _ _ behind.there behind.written;
      line = subst (HasLineOf (line_key head.columns _ head.mark.now head.plan) head.plan 0) c.as_bytes-lines.ensures.value (rw c.in-Some.is at c.in_ok-seed.ensures.some);
    }

pub returns-in-None-clause-refused : goal.returns-in-None-clause-refused
returns-in-None-clause-refused c =
    let head = c.args.head.now in
    let begins = c.requires.first.begins in
    let key = line_key head.columns None head.mark.now head.plan in
    let none = (rw c.in-None.is at c.in_ok-seed.ensures.none) refl in
    torn c.args.texts.now head.mark.now head.columns head.plan head.shard c.requires.first c.args.places.now c.requires.places _ _ _ c.in_ok-behind.ensures.there _ None refl
    (λ k one. absurd (none-some k one))
    (λ its. none (subst (HasLineOf key head.plan 0) (sym c.as_bytes-lines.ensures.value)
    (first_line_there key head.plan head.plan.until _ _ begins.asked c.shard_of_first_run-number.ensures.first c.shard_of_first_run-number.ensures.some its.are)))
