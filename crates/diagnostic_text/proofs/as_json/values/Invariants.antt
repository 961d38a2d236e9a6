use Rattle.std.proofs.Common.{◌≡◌, map, take, true}
use Rattle.serde_json.specs.View.{view}
use Rattle.diagnostic_text.specs.Told.{AreRulesOf, are_shallow}
use Rattle.diagnostic_text.proofs.as_json.values.Given as goal

abbrev pub invariant-loop-diagnostic : goal.invariant-loop-diagnostic
invariant-loop-diagnostic l = record {
  rules : AreRulesOf (take l.diagnostic-index l.shown) (map view l.values.items);
  shallow : are_shallow (map view l.values.items) ≡ true;
}
