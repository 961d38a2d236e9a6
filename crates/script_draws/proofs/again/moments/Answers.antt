use Rattle.std.proofs.Common.{◌<◌, ℕ, List, sym, subst, arith}
use Rattle.streams.specs.Draw.{words_of}
use Rattle.script_draws.proofs.AgainLemmas.{IsOnMoments, moments_begun, moment_made}
use Rattle.script_draws.proofs.again.moments.Goals as goal

pub loop-moment-init : goal.loop-moment-init
loop-moment-init c =
    let begun = moments_begun c.args.recurrence c.args.back c.args.start (words_of c.args.stream.now) (words_of c.first-moment.new.stream) c.first-moment.result c.first-moment.ensures.drawn in (
      subst (λ (made : List ℕ). IsOnMoments c.args.recurrence c.args.back c.args.start (words_of c.args.stream.now) made c.first-moment.result (words_of c.first-moment.new.stream)) (sym c.new-moments.ensures.items) begun,
      omega arith,
      omega arith,
    )

pub loop-moment-preserved : goal.loop-moment-preserved
loop-moment-preserved c =
    let later : c.loop-moment.moment < c.next-moment.result = omega arith in
    let made = moment_made c.args.recurrence c.args.back c.args.start (words_of c.args.stream.now) c.loop-moment.moments.items c.loop-moment.moment c.next-moment.result
    (words_of c.loop-moment.stream) (words_of c.next-moment.new.stream) c.loop-moment.invariant.0 c.loop-moment-test.true c.next-moment.ensures.drawn later in (
      subst (λ (made : List ℕ). IsOnMoments c.args.recurrence c.args.back c.args.start (words_of c.args.stream.now) made c.next-moment.result (words_of c.next-moment.new.stream)) (sym c.in_ok-make.ensures.made) made,
      omega (arith, c.in_ok-make.ensures.within),
      omega arith,
    )
