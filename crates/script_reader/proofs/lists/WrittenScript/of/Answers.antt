use Rattle.script_reader.proofs.lists.WrittenScript.of.Goals as goal

pub returns : goal.returns
returns c = record {
  crashes = c.in_ok-crashes.ensures;
  leaves = c.in_ok-leaves.ensures;
  restarts = c.in_ok-restarts.ensures;
  slows = c.in_ok-slows.ensures;
  pauses = c.in_ok-pauses.ensures;
  blocks = c.in_ok-blocks.ensures;
}
