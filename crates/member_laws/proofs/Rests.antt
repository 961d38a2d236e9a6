-- The words that messages, trips and samples leave.
use Rattle.std.proofs.Common.{ℕ, zero, suc, ◌+◌, ◌-◌, ◌*◌, ◌^◌, Bool, true, false, cond, nat_lt, List, [], length, Option, Some, None, ap, ◌∙◌}
use Rattle.scenario.specs.Setup.{Setup, link_between, is_cut}
use Rattle.streams.specs.Draw.{Words, IsRestOf, rest_after, below_of, lost_of}
use Rattle.streams.proofs.PlaceLemmas.{below_rest, lost_rest, rest-rest, rest_after-zero}
use Rattle.links.specs.Arrival.{uncut_arrival_of, arrival_of}
use Rattle.links.specs.Trips.{uncut_try_of, try_of, or_else, tried_of, trip_of, and_then, comes_of, call_of, answer_of, kept_arrival_of}
use Rattle.links.specs.Dials.{up_to, dial_of}
use Rattle.links.proofs.Arrivals.{whether_cut}
use Rattle.base.specs.declared.key.Key.{Key}
use Rattle.scenario.specs.Profile.{profile_of}
use Rattle.member.specs.Blocks.{Way, departs_by, on_its_way}
use Rattle.membership.specs.declared.candidates.Candidate.{Candidate}
use Rattle.probing.specs.Samples.{with_drawn, candidate_at, sampled_by, sample_of}

-- the rest of a rest
rest_of_rest : (words left last : Words) → IsRestOf words left → IsRestOf left last → IsRestOf words last
rest_of_rest words left last (n, is_left) (m, is_last) = (n + m, is_last ∙ ap (rest_after m) is_left ∙ rest-rest m n words)

pub lost_or_not : (words : Words) (lost : Bool) (a b : Option ℕ × Words) → IsRestOf words a.1 → IsRestOf words b.1 → IsRestOf words (cond lost a b).1
lost_or_not words true a b h g = h
lost_or_not words false a b h g = g

uncut_rest : (s : Setup) (from to now : ℕ) (words : Words) → IsRestOf words (uncut_arrival_of s from to now words).1
unfolding uncut_arrival_of
uncut_rest s from to now words =
    let link = link_between s from to in
    let left = (lost_of words link.loss).1 in
    let once = lost_rest words link.loss in
    lost_or_not words (lost_of words link.loss).0 _ _ once (rest_of_rest words left (below_of left (link.jitter + 1)).1 once (below_rest left (link.jitter + 1)))

-- the words that the link of a message leaves
pub arrival_rest : (s : Setup) (from to now : ℕ) (words : Words) → IsRestOf words (arrival_of s from to now words).1
arrival_rest s from to now words = whether_cut (λ p. IsRestOf words p.1) s from to now words (0, rest_after-zero words) (uncut_rest s from to now words)

-- ---- the words that trips leave

pub rest_next : (more : ℕ → Words → Option ℕ × Words) (p : Option ℕ × Words) (words : Words) → IsRestOf words p.1 → ((there : ℕ) (left : Words) → IsRestOf left (more there left).1) → IsRestOf words (and_then more p).1
rest_next more (None, left) words first onward = first
rest_next more (Some there, left) words first onward = rest_of_rest words left (more there left).1 first (onward there left)

module _ (s : Setup) where
  pub try_rest : (from to now : ℕ) (words : Words) → IsRestOf words (try_of s from to now words).1
  unfolding try_of uncut_try_of
  try_rest from to now words =
      let link = link_between s from to in
      let left = (lost_of words link.loss).1 in
      let once = lost_rest words link.loss in
      lost_or_not words (is_cut s from to now) _ _ (0, rest_after-zero words)
      (lost_or_not words (lost_of words link.loss).0 _ _ once (rest_of_rest words left (below_of left (link.jitter + 1)).1 once (below_rest left (link.jitter + 1))))

  or_rest : (more : Words → Option ℕ × Words) (p : Option ℕ × Words) (words : Words) → IsRestOf words p.1 → ((left : Words) → IsRestOf left (more left).1) → IsRestOf words (or_else more p).1
  or_rest more (None, left) words first onward = rest_of_rest words left (more left).1 first (onward left)
  or_rest more (Some there, left) words first onward = first

  tried_rest : (from to now wait k left : ℕ) (words : Words) → IsRestOf words (tried_of s from to now wait k left words).1
  tried_rest from to now wait k zero words = (0, rest_after-zero words)
  tried_rest from to now wait k (suc left) words =
      or_rest (tried_of s from to now wait (k + 1) left) (try_of s from to (now + wait * (2 ^ k - 1)) words) words (try_rest from to (now + wait * (2 ^ k - 1)) words) (λ rest. tried_rest from to now wait (k + 1) left rest)

  pub trip_rest : (from to now wait : ℕ) (words : Words) → IsRestOf words (trip_of s from to now wait words).1
  unfolding trip_of
  trip_rest from to now wait words = tried_rest from to now wait 0 8 words

  comes_rest : (from to sent there : ℕ) (words : Words) → IsRestOf words (comes_of s from to sent there words).1
  comes_rest from to sent there words = (0, rest_after-zero words)

  pub call_rest : (from to now : ℕ) (words : Words) → IsRestOf words (call_of s from to now words).1
  unfolding call_of
  call_rest from to now words =
      let begun = trip_of s from to now s.stream.connect words in
      let answered = and_then (λ there. trip_of s to from there s.stream.connect) begun in
      let sent = and_then (λ there. trip_of s from to there s.stream.again) answered in
      rest_next (comes_of s from to now) sent words
      (rest_next (λ there. trip_of s from to there s.stream.again) answered words
      (rest_next (λ there. trip_of s to from there s.stream.connect) begun words (trip_rest from to now s.stream.connect words) (λ there left. trip_rest to from there s.stream.connect left))
      (λ there left. trip_rest from to there s.stream.again left))
      (λ there left. comes_rest from to now there left)

  pub answer_rest : (from to now : ℕ) (words : Words) → IsRestOf words (answer_of s from to now words).1
  unfolding answer_of
  answer_rest from to now words = rest_next (comes_of s from to now) (trip_of s from to now s.stream.again words) words (trip_rest from to now s.stream.again words) (λ there left. comes_rest from to now there left)

  pub kept_rest : (from to now : ℕ) (words : Words) → IsRestOf words (kept_arrival_of s from to now words).1
  unfolding kept_arrival_of
  kept_rest from to now words =
      let link = link_between s from to in
      lost_or_not words (is_cut s from to now) _ _ (0, rest_after-zero words) (below_rest words (link.jitter + 1))

  up_rest : (most : ℕ) (p : Option ℕ × Words) (words : Words) → IsRestOf words p.1 → IsRestOf words (up_to most p).1
  up_rest most (None, left) words rest = rest
  up_rest most (Some at, left) words rest = rest

  pub dial_rest : (from to now limit : ℕ) (words : Words) → IsRestOf words (dial_of s from to now limit words).1
  unfolding dial_of
  dial_rest from to now limit words =
      up_rest (now + limit) _ words (rest_next (λ there. trip_of s to from there s.stream.connect) (trip_of s from to now s.stream.connect words) words (trip_rest from to now s.stream.connect words)
      (λ there left. trip_rest to from there s.stream.connect left))

  -- whenever a message departs
  pub way_rest : (k : Key) (to : ℕ) (way : Way) (words : Words) → ((now : ℕ) (left : Words) → IsRestOf left (way now left).1) → IsRestOf words (on_its_way (profile_of s) s k to way words).1
  way_rest k to way words rest = rest (departs_by (profile_of s) s k) words

-- ---- and those that a sample leaves

drawn_or_not : (words : Words) (b : Bool) (p q : List ℕ × Words) → IsRestOf words p.1 → IsRestOf words q.1 → IsRestOf words (cond b p q).1
drawn_or_not words true p q h g = h
drawn_or_not words false p q h g = g

sampled_rest : (draws k : ℕ) (cs : List Candidate) (taken : List ℕ) (words : Words) → IsRestOf words (sampled_by draws k cs taken words).1
sampled_rest zero k cs taken words = (0, rest_after-zero words)
sampled_rest (suc draws) k cs taken words =
    let left = (below_of words (length cs)).1 in
    let after = sampled_by draws k cs (with_drawn taken (candidate_at cs (below_of words (length cs)).0)) left in
    drawn_or_not words (nat_lt (length taken) k) after (taken, words)
    (rest_of_rest words left after.1 (below_rest words (length cs)) (sampled_rest draws k cs (with_drawn taken (candidate_at cs (below_of words (length cs)).0)) left)) (0, rest_after-zero words)

pub sample_rest : (words : Words) (k : ℕ) (cs : List Candidate) → IsRestOf words (sample_of words k cs).1
unfolding sample_of
sample_rest words k cs = sampled_rest (3 * length cs) k cs [] words
