-- Areas that stand on one another.
use Rattle.std.specs.Prelude.{ℕ, List, [], ◌∷◌, ◌++◌, max}
use Rattle.std.specs.Option.{unwrap_or}
use Rattle.std.specs.List.{reduce}
use Rattle.scenario.specs.Setup.{Setup}
use Rattle.series.specs.Spans.{span_width}
use Rattle.drawing.specs.Shapes.{area}
use Rattle.member_timelines.specs.Heights.{stacked}
use Rattle.member_timelines.specs.Lanes.{moments}

-- what is drawn of something: its class in the palette, and how high each span is
pub record Layer : Type 0 where
  pub class : List ℕ
  pub heights : List ℕ

-- these layers, the first on the bases and each other one on the one before it, where nothing is higher than `most`
abbrev pub layers : Setup → ℕ → List ℕ → List Layer → List ℕ
layers s most bases [] = []
layers s most bases (layer ∷ later) =
    area layer.class bases (stacked bases layer.heights most) (span_width s) (moments s) most ++ layers s most (stacked bases layer.heights most) later

-- how high they all reach
abbrev pub tops : ℕ → List ℕ → List Layer → List ℕ
tops most bases [] = bases
tops most bases (layer ∷ later) = tops most (stacked bases layer.heights most) later

-- the greatest of these heights, 0 of none
abbrev pub greatest : List ℕ → ℕ
greatest heights = unwrap_or (reduce max heights) 0
