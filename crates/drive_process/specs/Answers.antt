-- Which answers the world takes: whoever is named is a member, and nobody sends to himself.
use Rattle.std.specs.Prelude.{◌≢◌, ℕ, ◌<◌, ◌≤◌, ◌^◌, List}
use Rattle.std.specs.Option.{IfSome}
use Rattle.std.specs.List.{AllByRecursion}
use Rattle.base.specs.declared.key.Key.{Key}
use Rattle.scenario.specs.Setup.{Setup, member_count}
use Rattle.drive_answers.specs.declared.action.Action.{Action}
use Rattle.drive_answers.specs.declared.action.Action.TheVariants as action
use Rattle.drive_process.specs.Driven.{Answers}

abbrev pub IsSoundAction : Setup → ℕ → Action → Type 0
IsSoundAction s m (action.Send x) = (x.to < member_count s) × (x.to ≢ m) × (x.value < 2 ^ 63)
IsSoundAction s m (action.Timer t) = (0 < t.after) × (t.after ≤ 2 ^ 40)
IsSoundAction s m (action.Noted r) = IfSome r.about (λ a. a < member_count s) × (r.value < 2 ^ 63)
IsSoundAction s m (action.Used words) = words ≤ 2 ^ 20
IsSoundAction s m action.Exit = Unit {0}

abbrev pub AreSoundActions : Setup → ℕ → List Action → Type 0
AreSoundActions s m actions = AllByRecursion (IsSoundAction s m) actions

abbrev pub AreSoundAnswers : Setup → Answers → Type 0
AreSoundAnswers s answers = (k : Key) → AreSoundActions s k.to (answers k)
