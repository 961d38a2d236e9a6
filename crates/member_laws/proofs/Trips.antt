-- How late what streams carry comes.
use Rattle.std.proofs.Common.{ℕ, zero, suc, ◌+◌, ◌-◌, ◌*◌, ◌≤◌, ◌^◌, Bool, true, false, cond, Option, Some, None, arith}
use Rattle.std.specs.Option.{IfSome}
use Rattle.std.proofs.lemmas.Nat.{mul-le}
use Rattle.std.proofs.Math.Pow.{pow_mono}
use Rattle.scenario.specs.Setup.{Setup, IsSound, link_between, extra_of, is_cut}
use Rattle.streams.specs.Draw.{Words, AreWords, below_of, lost_of}
use Rattle.streams.proofs.PlaceLemmas.{lost_rest}
use Rattle.streams.proofs.RangeLemmas.{rest_fits, below_fits}
use Rattle.links.specs.Trips.{uncut_try_of, try_of, or_else, tried_of, trip_of, and_then, comes_of, call_of, answer_of, kept_arrival_of}
use Rattle.member_laws.proofs.Rests.{rest_next, try_rest, trip_rest}

-- there is nothing later than a moment
abbrev pub IsUpTo : ℕ → Option ℕ × Words → Type 0
IsUpTo d p = IfSome p.0 (λ a. a ≤ d)

choice : (b : Bool) (p q : Option ℕ × Words) (d : ℕ) → IsUpTo d p → IsUpTo d q → IsUpTo d (cond {A = Option ℕ × Words} b p q)
choice true p q d a b = a
choice false p q d a b = b

or_later : (more : Words → Option ℕ × Words) (p : Option ℕ × Words) (d : ℕ) → IsUpTo d p → AreWords p.1 → ((words : Words) → AreWords words → IsUpTo d (more words)) → IsUpTo d (or_else more p)
or_later more (None, words) d first fit rest = rest words fit
or_later more (Some there, words) d first fit rest = first

next : (more : ℕ → Words → Option ℕ × Words) (p : Option ℕ × Words) (d e : ℕ) → IsUpTo d p → AreWords p.1 → ((there : ℕ) (words : Words) → there ≤ d → AreWords words → IsUpTo e (more there words))
    → IsUpTo e (and_then more p)
next more (None, words) d e first fit rest = tt
next more (Some there, words) d e first fit rest = rest there words first fit

up_to : (p : Option ℕ × Words) (d e : ℕ) → d ≤ e → IsUpTo d p → IsUpTo e p
up_to (None, words) d e h first = tt
up_to (Some there, words) d e h first = omega (arith, h, first)

module _ (s : Setup) (sound : IsSound s) where
  try_low : (from to now : ℕ) (words : Words) → AreWords words → IsUpTo (now + 2 ^ 21) (try_of s from to now words)
  unfolding try_of uncut_try_of
  try_low from to now words fit =
      let link = link_between s from to in
      let lost = lost_of words link.loss in
      let bounds = sound.between from to in
      let drawn = below_fits lost.1 (link.jitter + 1) (rest_fits words lost.1 fit (lost_rest words link.loss)) (omega arith) (omega (arith, bounds.jitter)) in
      choice (is_cut s from to now) _ _ (now + 2 ^ 21) tt (choice lost.0 _ _ (now + 2 ^ 21) tt (omega (arith, bounds.delay.1, bounds.jitter, drawn)))

  tried_low : (from to now wait k left : ℕ) (words : Words) → k + left ≤ 8 → wait ≤ 2 ^ 24 → AreWords words → IsUpTo (now + 2 ^ 32) (tried_of s from to now wait k left words)
  tried_low from to now wait k zero words few short fit = tt
  tried_low from to now wait k (suc left) words few short fit =
      let k_few : k ≤ 7 = omega (arith, few) in
      let waits : wait * (2 ^ k - 1) ≤ 2 ^ 24 * 127 = mul-le wait (2 ^ k - 1) (2 ^ 24) 127 short (omega (arith, pow_mono k_few)) in
      or_later (tried_of s from to now wait (k + 1) left) (try_of s from to (now + wait * (2 ^ k - 1)) words) (now + 2 ^ 32)
      (up_to (try_of s from to (now + wait * (2 ^ k - 1)) words) (now + wait * (2 ^ k - 1) + 2 ^ 21) (now + 2 ^ 32) (omega (arith, waits)) (try_low from to (now + wait * (2 ^ k - 1)) words fit))
      (rest_fits words (try_of s from to (now + wait * (2 ^ k - 1)) words).1 fit (try_rest s from to (now + wait * (2 ^ k - 1)) words))
      (λ rest fits. tried_low from to now wait (k + 1) left rest (omega (arith, few)) short fits)

  trip_low : (from to now wait : ℕ) (words : Words) → wait ≤ 2 ^ 24 → AreWords words → IsUpTo (now + 2 ^ 32) (trip_of s from to now wait words)
  unfolding trip_of
  trip_low from to now wait words short fit = tried_low from to now wait 0 8 words (omega arith) short fit

  comes_low : (from to sent there d : ℕ) (words : Words) → there ≤ d → IsUpTo (d + 2 ^ 25) (comes_of s from to sent there words)
  comes_low from to sent there d words h = omega (arith, h, sound.extras from sent, sound.extras to (there + extra_of s from sent))

  pub call_low : (from to now : ℕ) (words : Words) → AreWords words → IsUpTo (now + 2 ^ 34) (call_of s from to now words)
  unfolding call_of
  call_low from to now words fit =
      let begun = trip_of s from to now s.stream.connect words in
      let begun_rest = trip_rest s from to now s.stream.connect words in
      let answered = and_then (λ there. trip_of s to from there s.stream.connect) begun in
      let answered_rest = rest_next (λ there. trip_of s to from there s.stream.connect) begun words begun_rest (λ there left. trip_rest s to from there s.stream.connect left) in
      let answered_low : IsUpTo (now + 2 ^ 32 + 2 ^ 32) answered =
      next (λ there. trip_of s to from there s.stream.connect) begun (now + 2 ^ 32) (now + 2 ^ 32 + 2 ^ 32) (trip_low from to now s.stream.connect words sound.connect.1 fit) (rest_fits words begun.1 fit begun_rest)
      (λ there left h fits. up_to (trip_of s to from there s.stream.connect left) (there + 2 ^ 32) (now + 2 ^ 32 + 2 ^ 32) (omega (arith, h)) (trip_low to from there s.stream.connect left sound.connect.1 fits)) in
      let sent = and_then (λ there. trip_of s from to there s.stream.again) answered in
      let sent_rest = rest_next (λ there. trip_of s from to there s.stream.again) answered words answered_rest (λ there left. trip_rest s from to there s.stream.again left) in
      let sent_low : IsUpTo (now + 3 * 2 ^ 32) sent =
      next (λ there. trip_of s from to there s.stream.again) answered (now + 2 ^ 32 + 2 ^ 32) (now + 3 * 2 ^ 32) answered_low (rest_fits words answered.1 fit answered_rest)
      (λ there left h fits. up_to (trip_of s from to there s.stream.again left) (there + 2 ^ 32) (now + 3 * 2 ^ 32) (omega (arith, h)) (trip_low from to there s.stream.again left sound.again.1 fits)) in
      next (comes_of s from to now) sent (now + 3 * 2 ^ 32) (now + 2 ^ 34) sent_low (rest_fits words sent.1 fit sent_rest)
      (λ there left h fits. up_to (comes_of s from to now there left) (now + 3 * 2 ^ 32 + 2 ^ 25) (now + 2 ^ 34) (omega arith) (comes_low from to now there (now + 3 * 2 ^ 32) left h))

  pub answer_low : (from to now : ℕ) (words : Words) → AreWords words → IsUpTo (now + 2 ^ 34) (answer_of s from to now words)
  unfolding answer_of
  answer_low from to now words fit =
      next (comes_of s from to now) (trip_of s from to now s.stream.again words) (now + 2 ^ 32) (now + 2 ^ 34) (trip_low from to now s.stream.again words sound.again.1 fit)
      (rest_fits words (trip_of s from to now s.stream.again words).1 fit (trip_rest s from to now s.stream.again words))
      (λ there left h fits. up_to (comes_of s from to now there left) (now + 2 ^ 32 + 2 ^ 25) (now + 2 ^ 34) (omega arith) (comes_low from to now there (now + 2 ^ 32) left h))

  pub stream_low : (from to now : ℕ) (words : Words) → AreWords words → IsUpTo (now + 2 ^ 34) (kept_arrival_of s from to now words)
  unfolding kept_arrival_of
  stream_low from to now words fit =
      let link = link_between s from to in
      let bounds = sound.between from to in
      let jitter = below_of words (link.jitter + 1) in
      let drawn = below_fits words (link.jitter + 1) fit (omega arith) (omega (arith, bounds.jitter)) in
      choice (is_cut s from to now) _ _ (now + 2 ^ 34) tt
      (up_to (comes_of s from to now (now + link.delay + jitter.0) jitter.1) (now + 2 ^ 21 + 2 ^ 25) (now + 2 ^ 34) (omega arith) (comes_low from to now (now + link.delay + jitter.0) (now + 2 ^ 21) jitter.1 (omega (arith, bounds.delay.1, bounds.jitter, drawn))))
