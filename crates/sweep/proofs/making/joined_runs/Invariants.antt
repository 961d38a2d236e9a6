use Rattle.std.proofs.Common.{ℕ, List}
use Rattle.std.specs.List.{AllZip, flat_map}
use Rattle.toml.specs.Data.{Data}
use Rattle.sweep_plan.specs.Sweep.{Sweep}
use Rattle.sweep.specs.Table.{IsMadeLot, IsMadeOf}
use Rattle.sweep.proofs.making.joined_runs.Given as goal

-- the runs of the first lots stand one after the other
abbrev pub invariant-loop-lot : goal.invariant-loop-lot
invariant-loop-lot l = (tree : Data) (sweep : Sweep) (key : List ℕ) (numbers : List (List ℕ)) → AllZip (IsMadeLot tree sweep key) numbers l.yielded
    → AllZip (IsMadeOf tree sweep key) (flat_map (λ lot. lot) numbers) l.runs.items
