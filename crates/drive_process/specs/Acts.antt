-- What an action does: a message over a link, a timer, a row, words that are used, or the end of the process.
use Rattle.std.specs.Prelude.{ℕ, ◌+◌, Bool, true, false, List, [], ◌∷◌, Option, Some, None}
use Rattle.std.specs.Option.{is_none}
use Rattle.base.specs.declared.key.Key.{Key}
use Rattle.scenario.specs.Setup.{Setup}
use Rattle.scenario.specs.Profile.{profile_of}
use Rattle.trace.specs.declared.row.What.{What}
use Rattle.trace.specs.declared.row.What.TheVariants as what
use Rattle.streams.specs.Draw.{Words, rest_after}
use Rattle.links.specs.Arrival.{arrival_of}
use Rattle.links.specs.Trips.{call_of, answer_of, kept_arrival_of}
use Rattle.drive_events.specs.declared.content.Content.{Content}
use Rattle.drive_events.specs.declared.content.Content.TheVariants.{Timer, Message}
use Rattle.drive_answers.specs.declared.action.Action.{Action}
use Rattle.drive_answers.specs.declared.action.Action.TheVariants as action
use Rattle.drive_answers.specs.declared.action.Send as declared
use Rattle.member.specs.Blocks.{on_its_way}
use Rattle.drive_process.specs.declared.process.ProcessPhase.TheVariants.{Down}
use Rattle.drive_process.specs.Process.{Effect, on_process, with_phase, with_row, with_number, with_event}

-- how a message travels
pub data Way : Type 0 where
  -- as a packet
  packet : Way
  -- over a stream that is opened for it
  call : Way
  -- over a stream that is open, on which the system sends again what is lost
  stream : Way
  -- so often as it takes
  kept : Way

-- Push and pull are sent as often as it takes. With a stream a call opens it, and all else goes over one that is open.
abbrev pub way_of : What → Bool → Way
way_of what.Push on_stream = kept
way_of what.Pull on_stream = kept
way_of what.Call true = call
way_of _ true = stream
way_of _ false = packet

-- when it arrives, if it does, by the sender's words
unfoldable pub arrival_by : Way → Setup → ℕ → ℕ → ℕ → Words → Option ℕ × Words
arrival_by packet s from to now words = arrival_of s from to now words
arrival_by call s from to now words = call_of s from to now words
arrival_by stream s from to now words = answer_of s from to now words
arrival_by kept s from to now words = kept_arrival_of s from to now words

-- a message arrives, or is lost: it takes a number all the same
abbrev pub sent_off : Setup → Key → ℕ → Content → Option ℕ → Effect → Effect
sent_off s k to content None o = on_process with_number o
sent_off s k to content (Some at) o = with_event s k at to content o

-- a row records a message whose arrival is decided
abbrev pub posted : Setup → Key → What → ℕ → ℕ → Content → Option ℕ → Effect → Effect
posted s k tells to value content arrival o = sent_off s k to content arrival (with_row k tells (Some to) value (is_none arrival) o)

-- and the words that this leaves are the member's
unfoldable pub carried : Setup → Key → What → ℕ → ℕ → Content → Option ℕ × Words → Effect → Effect
carried s k tells to value content arrival o = posted s k tells to value content arrival.0 (on_process (λ p. record p { words = arrival.1 }) o)

-- what arrives of a message
abbrev pub message_of : declared.Send → Content
message_of x = Message (record { what = x.what; value = x.value; payload = x.payload })

-- It departs when its sender isn't blocked, and gets through when its receiver isn't, as the messages of a member's step.
unfoldable pub sent : Setup → Key → declared.Send → Effect → Effect
sent s k x o =
    carried s k x.what x.to x.value (message_of x) (on_its_way (profile_of s) s k x.to (arrival_by (way_of x.what x.stream) s k.to x.to) o.state.words) o

-- what one action does
abbrev pub acted : Setup → Key → Action → Effect → Effect
acted s k (action.Send x) o = sent s k x o
acted s k (action.Timer t) o = with_event s k (k.at + t.after) k.to (Timer t.id) o
acted s k (action.Noted r) o = with_row k r.what r.about r.value false o
acted s k (action.Used words) o = on_process (λ p. record p { words = rest_after words p.words }) o
acted s k action.Exit o = with_row k what.Exit None 0 false (on_process (with_phase Down) o)

-- actions one after the other
unfoldable pub all_acted : Setup → Key → List Action → Effect → Effect
all_acted s k [] o = o
all_acted s k (a ∷ rest) o = all_acted s k rest (acted s k a o)
