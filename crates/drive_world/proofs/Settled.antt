-- An event that is taken out, heeded and added is settled.
use Rattle.std.proofs.Common.{◌≡◌, ◌++◌, List, map, Option, Some, None, ap, ◌∙◌, sym, subst, append-nil}
use Rattle.std.specs.Ordering.{nat_cmp}
use Rattle.std.specs.FinMap.{FinMap, remove}
use Rattle.base.specs.Order.{key_cmp}
use Rattle.base.specs.World.{World, settled, rows_of, with_events}
use Rattle.scenario.specs.Setup.{Setup}
use Rattle.drive_events.specs.declared.content.Content.{Content}
use Rattle.drive_answers.specs.declared.action.Action.{Action}
use Rattle.drive_process.specs.declared.effects.ProcessEffects.{ProcessEffects}
use Rattle.drive_process.specs.declared.effects.ProcessEvent.{ProcessEvent}
use Rattle.drive_process.specs.Process.{Process}
use Rattle.drive_process.specs.ProcessOf.{pair_of}
use Rattle.drive_world.specs.declared.world.World.{World as Held}
use Rattle.drive_world.specs.DriveOf.{world_of, Settles, Adds}
use Rattle.drive_world.specs.WorldOf.{members_of, events_in, Heeds}

pub same_world : (m n : FinMap nat_cmp Process) (p q : FinMap key_cmp Content) → m ≡ n → p ≡ q → ◌≡◌ {A = World Process Content} (record { members = m; pending = p }) (record { members = n; pending = q })
same_world m n p q first second i = record { members = first i; pending = second i }

module _ (s : Setup) (event : ProcessEvent) (actions : List Action) (old mid new : Held) (rest : events_in mid.pending ≡ remove (events_in old.pending) event.key) (rows : mid.rows.items ≡ old.rows.items)
    (processes : members_of new.processes ≡ members_of mid.processes) where
  pub settles_by : (made : Option ProcessEffects) → Heeds s event actions (members_of old.processes) (members_of mid.processes) made → Adds made mid new → Settles s event.key event.content actions old new
  settles_by None heeds adds = record {
    world = subst (λ o. world_of new ≡ settled (world_of old) event.key o) (sym heeds.0) (same_world _ _ _ _ (processes ∙ heeds.1) (adds.0 ∙ rest));
    rows = subst (λ o. new.rows.items ≡ old.rows.items ++ rows_of o) (sym heeds.0) (adds.1 ∙ rows ∙ sym (append-nil old.rows.items));
  }
  settles_by (Some effects) heeds adds = record {
    world =
        subst (λ o. world_of new ≡ settled (world_of old) event.key o) (sym heeds.made)
        (same_world _ _ _ _ (processes ∙ heeds.others) (adds.0 ∙ ap (λ m. with_events m (map pair_of effects.events.items)) rest));
    rows = subst (λ o. new.rows.items ≡ old.rows.items ++ rows_of o) (sym heeds.made) (adds.1 ∙ ap (λ l. l ++ effects.rows.items) rows);
  }
