use Rattle.std.proofs.Common.{◌≡◌, ◌∙◌, length, vec_len, refl, rules}
use Rattle.drive_world.proofs.Turning.{popped_feed, ends_in_feed}
use Rattle.drive_world.proofs.turn.stopped.Goals as goal

pub returns : goal.returns
returns c = (
  refl,
  refl,
  λ content here.
      let line = c.in_ok-event.ensures content here in
      let counted : vec_len c.in_ok-event.event ≡ length c.in_ok-event.event.items = search rules in
      popped_feed _ _ _ _ counted (line ∙ ends_in_feed c.args.scenario.now _ c.args.key.now content) c.pop.ensures.rest ∙ line,
)
