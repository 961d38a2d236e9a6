use Rattle.std.proofs.lemmas.List.Elements.{All-push}
use Rattle.plain_entries.specs.Entries.{IsEntry}
use Rattle.plain_entries.specs.declared.restarts.RestartTime.{RestartTime}
use Rattle.plain_entries.specs.declared.entry.Entry.{Entry}
use Rattle.plain_entries.specs.Restarts.{IsRestartTime}
use Rattle.script_reader.specs.Entries.{said, restart_said}
use Rattle.script_reader.specs.Who.{member_total}
use Rattle.script_reader.proofs.More.{more_made}
use Rattle.script_reader.proofs.entries.restarts.Goals as goal

pub loop-it-preserved : goal.loop-it-preserved
loop-it-preserved c = record {
  said =
      more_made (λ (entry : Entry RestartTime). said entry) (restart_said c.args.roster.now c.args.groups.now) c.loop-it.made.items c.push.new.self.items c.in_ok-restart.field-0 c.args.items.now
      c.loop-it.it-index c.it-item.result c.in_ok-push.ensures.items c.loop-it.invariant.said c.loop-it-test.true c.it-item.is c.in_ok-restart.ensures.said;
  sound = rw c.in_ok-push.ensures.items (All-push (IsEntry IsRestartTime (member_total c.args.groups.now)) c.loop-it.made.items c.in_ok-restart.field-0 c.loop-it.invariant.sound c.in_ok-restart.ensures.sound);
}
