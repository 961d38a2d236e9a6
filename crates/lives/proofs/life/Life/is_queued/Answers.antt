use Rattle.std.proofs.Common.{◌∙◌, ap, sym}
use Rattle.std.specs.List.{list_any}
use Rattle.std.specs.Option.{is_some}
use Rattle.broadcast_queue.specs.Items.{is_about}
use Rattle.lives.specs.declared.kept.Kept.{Kept}
use Rattle.lives.specs.Lives.{held_state}
use Rattle.lives.proofs.Held.{found_any}
use Rattle.lives.proofs.life.Life.is_queued.Goals as goal

pub returns-in-Some : goal.returns-in-Some
returns-in-Some c =
    let about = is_about c.args.subject in
    c.is_some.ensures
    ∙ ap is_some c.of.ensures
    ∙ found_any about c.deref.result.now.queue.items
    ∙ ap (λ (kept : Kept). list_any about kept.queue.items) c.deref.ensures
    ∙ sym (ap (λ kept. list_any about (held_state kept).queue.items) c.in-Some.is)
