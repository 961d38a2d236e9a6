use Rattle.std.proofs.Common.{◌≡◌, ℕ, ◌≤◌, ◌<◌, take, get_or, length}
use Rattle.std.specs.List.{list_any}
use Rattle.scenario.specs.Setup.{is_in_pause}
use Rattle.scenario.specs.Spells.{is_in_any, HaveBegun}
use Rattle.scenario.specs.Naps.{naps_at}
use Rattle.scenario.specs.declared.settings.Pause.{Pause}
use Rattle.scenario.proofs.naps.list_naps.Given as goal

abbrev pub invariant-loop-pause : goal.invariant-loop-pause
invariant-loop-pause l = record {
  same : (m t : ℕ) → is_in_any (naps_at l.naps.items m) t ≡ list_any (is_in_pause m t) (take l.pause-index l.pauses);
  begun : (m j : ℕ) (d : Pause) → l.pause-index ≤ j → j < length l.pauses → HaveBegun (naps_at l.naps.items m) (get_or l.pauses j d).from;
}
