-- The JSON line of an event: its key, as in the first four columns of the trace, what it is called, and what it holds.
use Rattle.std.specs.Prelude.{ℕ, Bool, List, [], ◌++◌, codes, decimal, Option, Some, None}
use Rattle.base.specs.declared.key.Key.{Key}
use Rattle.scenario.specs.Setup.{Setup, name_of}
use Rattle.drive_events.specs.declared.content.Content.{Content}
use Rattle.drive_events.specs.declared.content.Content.TheVariants.{Start, Restart, Crash, Leave, Timer, Message}
use Rattle.drive_events.specs.declared.content.Message as declared
use Rattle.trace.specs.Text.{word_of}
use Rattle.drive_events.specs.Start.{start_text, restart_text}

-- up to what the event is called, of these items
unfoldable pub key_of : ℕ → List ℕ → List ℕ → ℕ → List ℕ
key_of at member from number =
    codes "{\"moment\":" ++ decimal at ++ codes ",\"member\":\"" ++ member ++ codes "\",\"from\":\"" ++ from ++ codes "\",\"number\":" ++ decimal number
    ++ codes ",\"event\":\""

abbrev pub key_text : Setup → Key → List ℕ
key_text s k = key_of k.at (name_of s k.to) (name_of s k.from) k.number

-- a timer, by the number that the member gave it
unfoldable pub timer_text : ℕ → List ℕ
timer_text id = codes "timer\",\"id\":" ++ decimal id

-- what a message is called, and its value
unfoldable pub word_text : List ℕ → ℕ → List ℕ
word_text word value = codes "message\",\"what\":\"" ++ word ++ codes "\",\"value\":" ++ decimal value

abbrev pub message_text : declared.Message → List ℕ
message_text m = word_text (word_of m.what) m.value

abbrev pub content_text : Setup → Bool → Key → Content → List ℕ
content_text s is_first k Start = start_text s is_first k.to
content_text s is_first k Restart = restart_text s is_first k
content_text s is_first k Crash = codes "crash\""
content_text s is_first k Leave = codes "leave\""
content_text s is_first k (Timer id) = timer_text id
content_text s is_first k (Message message) = message_text message

-- what a message holds
abbrev pub payload_of : Content → Option (List ℕ)
payload_of (Message message) = message.payload
payload_of _ = None

-- it stands last, as it came
unfoldable pub held_text : List ℕ → List ℕ
held_text payload = codes ",\"payload\":" ++ payload

abbrev pub payload_text : Option (List ℕ) → List ℕ
payload_text None = []
payload_text (Some payload) = held_text payload

-- the line up to what a message holds
unfoldable pub head_text : Setup → Bool → Key → Content → List ℕ
head_text s is_first k content = key_text s k ++ content_text s is_first k content

-- the whole line
unfoldable pub line_of : Setup → Bool → Key → Content → List ℕ
line_of s is_first k content = head_text s is_first k content ++ payload_text (payload_of content) ++ codes "}\n"

-- The last line of a drive, once all files are whole.
unfoldable pub end_line : Setup → List ℕ
end_line s = codes "{\"moment\":" ++ decimal s.end ++ codes ",\"event\":\"end\"}\n"
