-- What the code holds of an item says what the item says.
use Rattle.std.specs.Prelude.{ℕ, List, Bool, Option}
use Rattle.std.specs.Option.{option_map}
use Rattle.json.specs.Json.{Json}
use Rattle.trace.specs.declared.row.What.{What}
use Rattle.drive_answers.specs.declared.said.Said.{Said}
use Rattle.drive_answers.specs.declared.said.Said.TheVariants.{Send, Timer, Row, Used, Exit}
use Rattle.drive_answers.specs.Said.{SaysSend, SaysTimer, SaysRow, SaysUsed, SaysExit}

abbrev pub Says : Json → Said → Type 0
Says j (Send x) = SaysSend j x.what x.to.now x.value x.stream
Says j (Timer t) = SaysTimer j t.id t.after
Says j (Row r) = SaysRow j r.what (option_map (λ s. s.now) r.about) r.value
Says j (Used words) = SaysUsed j words
Says j Exit = SaysExit j

-- an item says an action, whomever it names
pub data IsAction (j : Json) : Type 0 where
  send : (what : What) (to : List ℕ) (value : ℕ) (stream : Bool) → SaysSend j what to value stream → IsAction j
  timer : (id after : ℕ) → SaysTimer j id after → IsAction j
  told : (what : What) (about : Option (List ℕ)) (value : ℕ) → SaysRow j what about value → IsAction j
  used : (words : ℕ) → SaysUsed j words → IsAction j
  exit : SaysExit j → IsAction j
