use Rattle.std.proofs.Common.{◌≡◌, ℕ, ◌≤◌, ◌<◌, take, get_or, length}
use Rattle.std.specs.List.{list_any}
use Rattle.scenario.specs.Setup.{cuts_off}
use Rattle.scenario.specs.Spells.{is_in_any, HaveBegun}
use Rattle.scenario.specs.declared.settings.Cut.{Cut}
use Rattle.links.specs.Entries.{outages_in}
use Rattle.links.proofs.outages.list_outages.Given as goal

-- the map has the times of the cuts so far, and those to come begin no earlier
abbrev pub invariant-loop-cut : goal.invariant-loop-cut
invariant-loop-cut l = record {
  same : (a b t : ℕ) → is_in_any (outages_in l.outages.entries a b) t ≡ list_any (cuts_off a b t) (take l.cut-index l.cuts);
  begun : (a b j : ℕ) (d : Cut) → l.cut-index ≤ j → j < length l.cuts → HaveBegun (outages_in l.outages.entries a b) (get_or l.cuts j d).at;
}
