use Rattle.std.proofs.Common.{◌≡◌, ◌-◌, ◌≤◌, ℕ, List}
use Rattle.std.specs.Prelude.{Option}
use Rattle.toml.specs.View.{view}
use Rattle.sweep_until.specs.Until.{HasSettings, Stretch}
use Rattle.sweep_until.proofs.until.make_settings.Given as goal

-- the runs of the first settings are made, and the table has not failed
abbrev pub invariant-loop-number : goal.invariant-loop-number
invariant-loop-number g l = record {
  low : l.first ≤ l.number;
  has : (stretch : Stretch) (start : Option (List ℕ)) → stretch.key ≡ l.key → stretch.first ≡ l.first
      → HasSettings (view l.document) l.plan l.width stretch start (g.S.Sink.held l.fn.table) 0 l.fn.settings.items
      → HasSettings (view l.document) l.plan l.width stretch start (g.S.Sink.held l.table) (l.number - l.first) l.settings.items;
  same : g.S.Sink.failed l.table ≡ g.S.Sink.failed l.fn.table;
}
