use Rattle.std.proofs.Common.{◌≡◌, ◌+◌, ◌<◌, ◌++◌, ◌∷◌, [], Bool, true, false, cond, length, take, refl, ap, ◌∙◌, sym, subst, arith}
use Rattle.std.specs.Int.{from_bool}
use Rattle.std.proofs.lemmas.List.{take_more}
use Rattle.worker_queue.specs.SetOf.{set_of}
use Rattle.windows.specs.WorldOf.{world_of}
use Rattle.windows.specs.Choosing.{HasPlayed}
use Rattle.windows.proofs.PlayChoices.{at_most_one, one_played_more, played_there}
use Rattle.windows.proofs.choices.choose_all.Goals as goal

counted_as : (went : Bool) → from_bool went ≡ cond went 1 0
counted_as true = refl
counted_as false = refl

pub choose-requires-clause-played : goal.choose-requires-clause-played
choose-requires-clause-played c =
    played_there c.args.cluster.scenario.now c.args.least_delay (take c.loop-member.member-index c.args.choices.now) c.loop-member.handled c.loop-member.made.rows.items (world_of set_of c.loop-member.part)
    c.loop-member.invariant.so_far

pub loop-member-preserved : goal.loop-member-preserved
loop-member-preserved c =
    let s = c.args.cluster.scenario.now in
    let d = c.args.least_delay in
    let place = c.loop-member.member-index in
    let choices = c.args.choices.now in
    let after = world_of set_of c.choose.new.part in
    let rows = c.choose.new.made.rows.items in
    let one : c.from-handled.result ≡ cond c.in_ok-went.went 1 0 = c.from-handled.ensures ∙ counted_as c.in_ok-went.went in
    let within : place < length choices = omega arith in
    let taken = take_more choices place c.member-item.result within ∙ ap (λ y. take place choices ++ y ∷ []) (sym c.member-item.is) in
    let few = at_most_one c.in_ok-went.went in
    record {
      so_far =
          subst (λ l. HasPlayed s d l (c.loop-member.handled + c.from-handled.result) rows after) (sym taken)
          (subst (λ n. HasPlayed s d (take place choices ++ c.member-item.result ∷ []) (c.loop-member.handled + n) rows after) (sym one)
          (one_played_more s d (take place choices) c.member-item.result c.loop-member.handled c.in_ok-went.went c.loop-member.made.rows.items rows (world_of set_of c.loop-member.part) after c.loop-member.invariant.so_far
          c.in_ok-went.ensures.ok));
      few = omega (arith, few, one, c.loop-member.invariant.few);
    }
