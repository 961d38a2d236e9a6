use Rattle.std.proofs.Common.{◌≡◌, map, take}
use Rattle.std.specs.Prelude.{string_bytes}
use Rattle.sweep.specs.Table.{texts_of}
use Rattle.sweep.proofs.values.texts.Given as goal

abbrev pub invariant-loop-choice : goal.invariant-loop-choice
invariant-loop-choice l = map string_bytes l.texts.items ≡ texts_of (take l.choice-index l.setting)
