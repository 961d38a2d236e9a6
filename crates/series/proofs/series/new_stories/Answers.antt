use Rattle.std.proofs.Common.{◌≡◌, ◌≤◌, ◌+◌, ◌++◌, ◌∷◌, [], Bool, true, false, cond, Some, length, refl, sym, subst, ap, ◌∙◌, arith, lit≤, length-append}
use Rattle.std.specs.Prelude.{slice_get}
use Rattle.std.specs.List.{range_with_len}
use Rattle.std.proofs.lemmas.List.FromFn.{length-range_with_len}
use Rattle.std.proofs.lemmas.List.Sums.{count_by-le-length}
use Rattle.series.specs.Stories.{IsStoryOf}
use Rattle.series.specs.Watched.{crashes}
use Rattle.series.proofs.Gathering.{pushed_each}
use Rattle.series.proofs.Watching.{crashed_more, watched_by}
use Rattle.series.proofs.series.new_stories.Goals as goal
use mir.Val.{bool_byte}

as_number : (b : Bool) → bool_byte b ≡ cond b 1 0
as_number true = refl
as_number false = refl

one_bit : (b : Bool) → bool_byte b ≤ 1
one_bit true = lit≤ tt
one_bit false = lit≤ tt

pub overflow_add-crashed : goal.overflow_add-crashed
overflow_add-crashed c =
    omega (
      arith,
      c.loop-number.invariant.gone,
      one_bit c.is_some.result,
      count_by-le-length (crashes c.args.scenario.now) (range_with_len 0 c.loop-number.number),
      length-range_with_len 0 c.loop-number.number,
    )

pub loop-number-preserved : goal.loop-number-preserved
loop-number-preserved c =
    let s = c.args.scenario.now in
    let number = c.loop-number.number in
    let old = c.loop-number.stories.items in
    let made = c.new-in-loop-number.result in
    let is : c.push.new.self.items ≡ old ++ made ∷ [] = c.in_ok-push.ensures.items in
    let begun = c.in_ok-spread.ensures s number (watched_by s number _ _ _ c.crash_by_end-crash.ensures c.loop-number.invariant.gone c.watched.ensures) c.members-members.ensures.count in
    record {
      many = omega (arith, ap length is, length-append old (made ∷ []), c.loop-number.invariant.many);
      gone = ap (λ n. c.loop-number.crashed + n) (c.from-crashed.ensures ∙ as_number c.is_some.result ∙ ap (λ b. cond b 1 0) c.is_some.ensures)
          ∙ crashed_more s number c.loop-number.crashed c.crash_by_end-crash.result c.loop-number.invariant.gone c.crash_by_end-crash.ensures;
      each = λ m story at. pushed_each (λ n told. IsStoryOf s n told []) old made c.loop-number.invariant.each
          (subst (λ n. IsStoryOf s n made []) (sym c.loop-number.invariant.many) (c.new-in-loop-number.ensures s number begun)) m story
          (subst (λ l. slice_get l m ≡ Some story) is at);
    }
