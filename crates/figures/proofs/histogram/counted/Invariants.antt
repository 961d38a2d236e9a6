use Rattle.std.proofs.Common.{◌≡◌, take}
use Rattle.figures.specs.Histograms.{bins_of}
use Rattle.figures.proofs.histogram.counted.Given as goal

-- the times so far are counted
abbrev pub invariant-loop-time : goal.invariant-loop-time
invariant-loop-time l = l.bins ≡ bins_of l.width (take l.time-index l.times)
