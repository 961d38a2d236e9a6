use Rattle.std.proofs.Common.{◌≡◌, ℕ, [], Some, length}
use Rattle.std.specs.Prelude.{slice_get}
use Rattle.series.specs.declared.story.Story.{Story}
use Rattle.series.specs.Stories.{IsStoryOf}
use Rattle.series.specs.Watched.{crashed}
use Rattle.series.proofs.series.new_stories.Given as goal

-- there is a story for each number so far, each of which has no row yet, and so many of these members crash
abbrev pub invariant-loop-number : goal.invariant-loop-number
invariant-loop-number l = record {
  many : length l.stories.items ≡ l.number;
  gone : l.crashed ≡ crashed l.scenario l.number;
  each : (m : ℕ) (story : Story) → slice_get l.stories.items m ≡ Some story → IsStoryOf l.scenario m story [];
}
