-- Which keys count ticks, and which are shares. The six lists about members aren't here: specs/Entries has their lines.
use Rattle.std.specs.Prelude.{ℕ, Bool, false, ◌&&◌, ◌||◌, if◌then◌else◌, List, codes, bytes_eq}
use Rattle.plain_document.specs.declared.keys.KeyKind.{KeyKind}
use Rattle.plain_document.specs.declared.keys.KeyKind.TheVariants.{Ticks, Share, Plain, Gone}
use Rattle.plain_document.specs.declared.keys.Way.{Way}
use Rattle.plain_document.specs.declared.keys.Way.TheVariants.{Straight, Turned}

abbrev pub counts_in_addition : (section key : List ℕ) → Bool
counts_in_addition section key =
    if bytes_eq section (codes "gossip") then bytes_eq key (codes "interval") || (bytes_eq key (codes "dead") || bytes_eq key (codes "push"))
    else if bytes_eq section (codes "stream") then bytes_eq key (codes "connect") || (bytes_eq key (codes "again") || (bytes_eq key (codes "limit") || bytes_eq key (codes "retry")))
    else if bytes_eq section (codes "serf") then bytes_eq key (codes "reconnect") || (bytes_eq key (codes "reap") || bytes_eq key (codes "linger"))
    else false

abbrev pub counts_ticks : (section key : List ℕ) → Bool
counts_ticks section key =
    if bytes_eq section (codes "") then bytes_eq key (codes "end")
    else if bytes_eq section (codes "swim") then bytes_eq key (codes "period") || (bytes_eq key (codes "timeout") || bytes_eq key (codes "spread"))
    else if bytes_eq section (codes "link") || bytes_eq section (codes "path") then bytes_eq key (codes "delay") || bytes_eq key (codes "jitter")
    else if bytes_eq section (codes "group") then bytes_eq key (codes "start")
    else if bytes_eq section (codes "cut") then bytes_eq key (codes "at") || bytes_eq key (codes "until")
    else counts_in_addition section key

-- `tick` at the top, `both` of paths and cuts
abbrev pub is_gone : (section key : List ℕ) → Bool
is_gone section key =
    (bytes_eq section (codes "") && bytes_eq key (codes "tick"))
    || ((bytes_eq section (codes "path") || bytes_eq section (codes "cut")) && bytes_eq key (codes "both"))

abbrev pub kind_of : (section key : List ℕ) → KeyKind
kind_of section key = if is_gone section key then Gone else if bytes_eq key (codes "loss") then Share else if counts_ticks section key then Ticks else Plain

-- the other end of a path or cut
abbrev pub turned_key : List ℕ → List ℕ
turned_key key = if bytes_eq key (codes "from") then codes "to" else if bytes_eq key (codes "to") then codes "from" else key

-- the key whose value stands at a key
abbrev pub read_key : Way → List ℕ → List ℕ
read_key Straight key = key
read_key Turned key = turned_key key
