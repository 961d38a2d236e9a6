use Rattle.std.proofs.Common.{subst, refl, arith}
use Rattle.worker_queue.specs.SetOf.{set_of}
use Rattle.windows.specs.Play.{IsLeastLeft}
use Rattle.windows.specs.WorldOf.{world_of}
use Rattle.windows.proofs.PlayEnds.{play_of, least_of_links}
use Rattle.windows.proofs.choices.play_out.Goals as goal

pub returns-clause-played : goal.returns-clause-played
returns-clause-played c =
    let s = c.args.scenario.now in
    let d = c.least_delay-least_delay in
    let least = least_of_links s d.result (d.ensures.reached s c.in_ok-links.ensures) (d.ensures.least s c.in_ok-links.ensures) (d.ensures.alone s c.in_ok-links.ensures) in
    let w = world_of set_of c.choose_all.new.part in
    play_of s d.result c.args.choices.now c.in_ok-handled.handled c.choose_all.new.made.rows.items w _ least c.in_ok-handled.ensures.ok refl refl (omega (arith, c.in_ok-handled.ensures.no_more))
    (subst (λ end. IsLeastLeft end w c.left_up_to.result) c.end-end.ensures.value c.left_up_to.ensures)
