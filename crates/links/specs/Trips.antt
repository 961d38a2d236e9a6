-- Trips that no process handles, as a kernel makes them of itself, and the calls and streams that are made of them (memberlist's rules).
use Rattle.std.specs.Prelude.{ℕ, zero, suc, ◌+◌, ◌-◌, ◌*◌, ◌^◌, Option, Some, None, if◌then◌else◌}
use Rattle.streams.specs.Draw.{Words, below_of, lost_of}
use Rattle.scenario.specs.Setup.{Setup, link_between, extra_of, is_cut}

-- over a link that isn't cut: it is lost, or it is there after the link's delay and a jitter
unfoldable pub uncut_try_of : Setup → ℕ → ℕ → ℕ → Words → Option ℕ × Words
uncut_try_of s from to now words =
    let link = link_between s from to in
    let lost = lost_of words link.loss in
    let jitter = below_of lost.1 (link.jitter + 1) in
    if lost.0 then (None, lost.1) else (Some (now + link.delay + jitter.0), jitter.1)

-- One try: while the link is cut it is lost, and nothing is drawn.
unfoldable pub try_of : Setup → ℕ → ℕ → ℕ → Words → Option ℕ × Words
try_of s from to now words = if is_cut s from to now then (None, words) else uncut_try_of s from to now words

-- another try, where the one before was lost
abbrev pub or_else : (Words → Option ℕ × Words) → Option ℕ × Words → Option ℕ × Words
or_else more (None, words) = more words
or_else more (Some there, words) = (Some there, words)

-- the tries from number k on, of which so many are left: the first at its moment, each other one after twice as long a wait
abbrev pub tried_of : Setup → ℕ → ℕ → ℕ → ℕ → ℕ → ℕ → Words → Option ℕ × Words
tried_of s from to now wait k zero words = (None, words)
tried_of s from to now wait k (suc left) words =
    or_else (tried_of s from to now wait (k + 1) left) (try_of s from to (now + wait * (2 ^ k - 1)) words)

-- A trip, sent again until it is there, eight times at most.
unfoldable pub trip_of : Setup → ℕ → ℕ → ℕ → ℕ → Words → Option ℕ × Words
trip_of s from to now wait words = tried_of s from to now wait 0 8 words

-- a further trip from where one ended, if it did
abbrev pub and_then : (ℕ → Words → Option ℕ × Words) → Option ℕ × Words → Option ℕ × Words
and_then more (None, words) = (None, words)
and_then more (Some there, words) = more there words

-- when what was sent and is there comes to its receiver: later by what the sender was slow by when it sent, and then by what the receiver is slow by
abbrev pub comes_of : Setup → ℕ → ℕ → ℕ → ℕ → Words → Option ℕ × Words
comes_of s from to sent there words =
    let coming = there + extra_of s from sent in
    (Some (coming + extra_of s to coming), words)

-- A call: it is begun by a trip to the receiver and one back, and then sent. The kernel of a paused process answers too.
unfoldable pub call_of : Setup → ℕ → ℕ → ℕ → Words → Option ℕ × Words
call_of s from to now words =
    let begun = trip_of s from to now s.stream.connect words in
    let answered = and_then (λ there. trip_of s to from there s.stream.connect) begun in
    let sent = and_then (λ there. trip_of s from to there s.stream.again) answered in
    and_then (comes_of s from to now) sent

-- What is sent over a stream that is open: the answer to a call.
unfoldable pub answer_of : Setup → ℕ → ℕ → ℕ → Words → Option ℕ × Words
answer_of s from to now words = and_then (comes_of s from to now) (trip_of s from to now s.stream.again words)

-- What a stream carries that is always sent again: it is lost in a cut alone, without a draw.
unfoldable pub kept_arrival_of : Setup → ℕ → ℕ → ℕ → Words → Option ℕ × Words
kept_arrival_of s from to now words =
    let link = link_between s from to in
    let jitter = below_of words (link.jitter + 1) in
    if is_cut s from to now then (None, words) else comes_of s from to now (now + link.delay + jitter.0) jitter.1
