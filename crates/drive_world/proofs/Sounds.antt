-- The actions that a line says are sound.
use Rattle.std.proofs.Common.{◌≡◌, ℕ, ◌<◌, ◌^◌, Bool, true, false, List, [], ◌∷◌, arith}
use Rattle.std.specs.Bool.{MatchBool}
use Rattle.json.specs.Json.{Json, Items, no_items, item}
use Rattle.scenario.specs.Setup.{Setup}
use Rattle.drive_answers.specs.declared.action.Action.{Action}
use Rattle.drive_answers.specs.declared.action.Action.TheVariants as action
use Rattle.drive_answers.specs.Pieces.{Piece}
use Rattle.drive_answers.specs.Standing.{behind}
use Rattle.drive_answers.specs.Said.{IsWhole, greatest_value}
use Rattle.drive_answers.specs.Answer.{SaysAction, SaysActions, IsAnswer}
use Rattle.drive_process.specs.Answers.{IsSoundAction, AreSoundActions}

small : (b : Bool) (name : List ℕ) (j : Json) (v : ℕ) → MatchBool b (IsWhole name j 0 greatest_value v) (v ≡ 0) → v < 2 ^ 63
small true name j v says = let most = says.no_more in omega (arith, most)
small false name j v says = omega (arith, says)

sound_action : (s : Setup) (m : ℕ) (j : Json) (ps : List Piece) (a : Action) → SaysAction s m j ps a → IsSoundAction s m a
sound_action s m j ps (action.Send x) says = (says.1, says.2, small _ _ j x.value says.0.says_value)
sound_action s m j ps (action.Timer t) says = (let least = says.says_after.no_less in omega (arith, least), says.says_after.no_more)
sound_action s m j ps (action.Noted r) says = (says.1, small _ _ j r.value says.0.says_value)
sound_action s m j ps (action.Used words) says = says.says_words.no_more
sound_action s m j ps action.Exit says = tt

pub sound_actions : (s : Setup) (m : ℕ) (items : Items) (ps : List Piece) (actions : List Action) → SaysActions s m items ps actions → AreSoundActions s m actions
sound_actions s m no_items ps [] says = tt
sound_actions s m no_items ps (a ∷ rest) says = absurd says
sound_actions s m (item j js) ps [] says = absurd says
sound_actions s m (item j js) ps (a ∷ rest) says = (sound_action s m j ps a says.0, sound_actions s m js (behind j ps) rest says.1)

pub sound_answer : (s : Setup) (m : ℕ) (exits : Bool) (line : List ℕ) (actions : List Action) → IsAnswer s m exits line actions → AreSoundActions s m actions
sound_answer s m exits line actions is = sound_actions s m is.items _ actions is.says
