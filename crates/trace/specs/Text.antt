-- The text of the trace: a header, and a line for each row.
use Rattle.std.specs.Prelude.{◌<◌, ℕ, Bool, true, false, Option, List, [], ◌∷◌, ◌++◌, codes, decimal, flat_map, IfSome}
use Rattle.std.specs.Option.{option_map_or}
use Rattle.std.specs.List.{join_with_byte}
use Rattle.scenario.specs.Setup.{Setup, name_of, member_count}
use Rattle.trace.specs.declared.row.Row.{Row}
use Rattle.trace.specs.declared.row.What.{What}
use Rattle.trace.specs.declared.row.What.TheVariants as what

-- the first line, which names the fields
unfoldable pub header : List ℕ
header = codes "moment,member,from,number,what,about,value,lost\n"

-- the word for what a row reports
abbrev pub word_of : What → List ℕ
word_of what.Start = codes "start"
word_of what.Crash = codes "crash"
word_of what.Joined = codes "joined"
word_of what.Join = codes "join"
word_of what.Welcome = codes "welcome"
word_of what.Ping = codes "ping"
word_of what.PingReq = codes "ping-req"
word_of what.Ack = codes "ack"
word_of what.Nack = codes "nack"
word_of what.Fail = codes "fail"
word_of what.Health = codes "health"
word_of what.Alive = codes "alive"
word_of what.Suspect = codes "suspect"
word_of what.Confirm = codes "confirm"
word_of what.Accuse = codes "accuse"
word_of what.Refute = codes "refute"
word_of what.Dead = codes "dead"
word_of what.Leave = codes "leave"
word_of what.Bye = codes "bye"
word_of what.Gossip = codes "gossip"
word_of what.Call = codes "call"
word_of what.Answer = codes "answer"
word_of what.Push = codes "push"
word_of what.Pull = codes "pull"
word_of what.Restart = codes "restart"
word_of what.Exit = codes "exit"
word_of what.Left = codes "left"
word_of what.Forget = codes "forget"
word_of what.Reconnect = codes "reconnect"

-- the name of the member that a row is about, and nothing where it is about none
abbrev pub about_text : Setup → Option ℕ → List ℕ
about_text s about = option_map_or (name_of s) about []

-- 1 for what was lost, 0 for all else
abbrev pub lost_text : Bool → List ℕ
lost_text true = codes "1"
lost_text false = codes "0"

-- what a line shows of a row: the event's moment, its handler's name, its maker's name and number, and what the row reports
abbrev pub fields_of : Setup → Row → List (List ℕ)
fields_of s row =
    decimal row.at ∷ name_of s row.member ∷ name_of s row.from ∷ decimal row.number ∷ word_of row.what ∷ about_text s row.about ∷ decimal row.value ∷ lost_text row.lost ∷ []

-- a row's line: the fields joined by commas, and a line feed
unfoldable pub line_of : Setup → Row → List ℕ
line_of s row = join_with_byte 44 (fields_of s row) ++ codes "\n"

-- the lines of rows, in order
abbrev pub rows_text : Setup → List Row → List ℕ
rows_text s rows = flat_map (line_of s) rows

-- the whole trace
abbrev pub trace_text : Setup → List Row → List ℕ
trace_text s rows = header ++ rows_text s rows

-- the members that a row names are members of the cluster
pub record NamesMembers (s : Setup) (row : Row) : Type 0 where
  pub member : row.member < member_count s
  pub from : row.from < member_count s
  pub about : IfSome row.about (λ m. m < member_count s)
