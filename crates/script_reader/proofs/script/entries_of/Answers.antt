use Rattle.std.proofs.Common.{map, ap, ◌∙◌}
use Rattle.script_reader.specs.Entries.{departure_said, restart_said, spell_said}
use Rattle.script_reader.proofs.script.entries_of.Goals as goal

pub returns-clause-said : goal.returns-clause-said
returns-clause-said c = record {
  crashes = c.in_ok-crashes.ensures.said ∙ ap (map (departure_said c.args.roster.now c.args.groups.now)) c.as_slice.ensures.value;
  leaves = c.in_ok-leaves.ensures.said ∙ ap (map (departure_said c.args.roster.now c.args.groups.now)) c.as_slice-2.ensures.value;
  restarts = c.in_ok-restarts.ensures.said ∙ ap (map (restart_said c.args.roster.now c.args.groups.now)) c.as_slice-3.ensures.value;
  slows = c.in_ok-slows.ensures.said ∙ ap (map (spell_said c.args.roster.now c.args.groups.now)) c.as_slice-4.ensures.value;
  pauses = c.in_ok-pauses.ensures.said ∙ ap (map (spell_said c.args.roster.now c.args.groups.now)) c.as_slice-5.ensures.value;
  blocks = c.in_ok-blocks.ensures.said ∙ ap (map (spell_said c.args.roster.now c.args.groups.now)) c.as_slice-6.ensures.value;
}

pub returns-clause-sound : goal.returns-clause-sound
returns-clause-sound c = record {
  crashes = c.in_ok-crashes.ensures.sound;
  leaves = c.in_ok-leaves.ensures.sound;
  restarts = c.in_ok-restarts.ensures.sound;
  slows = c.in_ok-slows.ensures.sound;
  pauses = c.in_ok-pauses.ensures.sound;
  blocks = c.in_ok-blocks.ensures.sound;
}
