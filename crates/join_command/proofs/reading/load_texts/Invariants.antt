use Rattle.std.proofs.Common.{◌≡◌, take}
use Rattle.join_command.specs.Outcomes.{HoldTexts}
use Rattle.join_command.proofs.reading.load_texts.Given as goal

-- the texts so far are those of the first files, and no file has changed
abbrev pub invariant-loop-name : goal.invariant-loop-name
invariant-loop-name g l = record {
  so : HoldTexts (g.F.Files.known l.fn.files) (take l.name-index l.names) l.texts.items;
  same : g.F.Files.known l.files ≡ g.F.Files.known l.fn.files;
  making : g.F.Files.making l.files ≡ g.F.Files.making l.fn.files;
  counted : g.F.Files.refused l.files ≡ g.F.Files.refused l.fn.files;
}
