use Rattle.std.proofs.Common.{◌≡◌}
use Rattle.advice.proofs.tables.texts_of.Given as goal

-- no file has changed
abbrev pub invariant-loop-name : goal.invariant-loop-name
invariant-loop-name g l = record {
  same : g.F.Files.known l.files ≡ g.F.Files.known l.fn.files;
  making : g.F.Files.making l.files ≡ g.F.Files.making l.fn.files;
  counted : g.F.Files.refused l.files ≡ g.F.Files.refused l.fn.files;
}
