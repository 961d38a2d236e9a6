-- A message over the table of links is a message of the scenario.
use Rattle.std.proofs.Common.{◌≡◌, ℕ, ◌+◌, Bool, true, false, Option, Some, None, if◌then◌else◌, refl, sym, ap, ◌∙◌, subst}
use Rattle.streams.specs.Draw.{Words, below_of, lost_of}
use Rattle.scenario.specs.Setup.{Setup, link_between, is_cut}
use Rattle.links.specs.Arrival.{uncut_arrival_of, arrival_of}
use Rattle.links.specs.Trips.{uncut_try_of, try_of, and_then, comes_of}

-- what becomes of it, by whether the link is cut
abbrev after_cut : Setup → ℕ → ℕ → ℕ → Words → Bool → Option ℕ × Words
after_cut s from to now words cut = if cut then (None, words) else uncut_arrival_of s from to now words

pub cut_arrival : (s : Setup) (from to now : ℕ) (words : Words) → is_cut s from to now ≡ true → arrival_of s from to now words ≡ (None, words)
unfolding arrival_of
cut_arrival s from to now words cut = ap (after_cut s from to now words) cut

pub uncut_arrival : (s : Setup) (from to now : ℕ) (words : Words) → is_cut s from to now ≡ false → arrival_of s from to now words ≡ uncut_arrival_of s from to now words
unfolding arrival_of
uncut_arrival s from to now words uncut = ap (after_cut s from to now words) uncut

-- ---- a message goes as one try does, and then comes to its receiver

-- over a link that isn't cut
sent_uncut : (s : Setup) (from to now : ℕ) (words : Words) → and_then (comes_of s from to now) (uncut_try_of s from to now words) ≡ uncut_arrival_of s from to now words
unfolding uncut_try_of uncut_arrival_of
sent_uncut s from to now words =
    let link = link_between s from to in
    let lost = lost_of words link.loss in
    let jitter = below_of lost.1 (link.jitter + 1) in
    by_loss lost.0 lost.1 (now + link.delay + jitter.0) jitter.1
  where
    by_loss : (b : Bool) (rest : Words) (there : ℕ) (after : Words)
        → and_then (comes_of s from to now) (if b then (None, rest) else (Some there, after)) ≡ (if b then (None, rest) else comes_of s from to now there after)
    by_loss true rest there after = refl
    by_loss false rest there after = refl

-- over any link
sent : (s : Setup) (from to now : ℕ) (words : Words) → and_then (comes_of s from to now) (try_of s from to now words) ≡ arrival_of s from to now words
unfolding try_of arrival_of
sent s from to now words = by_cut (is_cut s from to now)
  where
    by_cut : (cut : Bool) → and_then (comes_of s from to now) (if cut then (None, words) else uncut_try_of s from to now words)
        ≡ (if cut then (None, words) else uncut_arrival_of s from to now words)
    by_cut true = refl
    by_cut false = sent_uncut s from to now words

pub arrival_lost : (s : Setup) (from to now : ℕ) (words rest : Words) → (None, rest) ≡ try_of s from to now words → (None, rest) ≡ arrival_of s from to now words
arrival_lost s from to now words rest lost = ap (and_then (comes_of s from to now)) lost ∙ sent s from to now words

pub arrival_comes : (s : Setup) (from to now there at : ℕ) (words rest : Words) → (Some there, rest) ≡ try_of s from to now words → (Some at, rest) ≡ comes_of s from to now there rest
    → (Some at, rest) ≡ arrival_of s from to now words
arrival_comes s from to now there at words rest tried comes = comes ∙ ap (and_then (comes_of s from to now)) tried ∙ sent s from to now words

-- what holds of what is lost with no draw, and of what is sent over a link that isn't cut, holds of each message
pub whether_cut : (P : Option ℕ × Words → Type 0) (s : Setup) (from to now : ℕ) (words : Words) → P (None, words) → P (uncut_arrival_of s from to now words) → P (arrival_of s from to now words)
whether_cut P s from to now words lost sent = by_cut (is_cut s from to now) refl
  where
    by_cut : (cut : Bool) → is_cut s from to now ≡ cut → P (arrival_of s from to now words)
    by_cut true e = subst P (sym (cut_arrival s from to now words e)) lost
    by_cut false e = subst P (sym (uncut_arrival s from to now words e)) sent
