-- A try over the table of links is one of the scenario, and so is a trip that is sent again.
use Rattle.std.proofs.Common.{◌≡◌, ℕ, suc, ◌+◌, ◌-◌, ◌*◌, ◌^◌, ◌<◌, ◌≤◌, Bool, true, false, Option, Some, None, if◌then◌else◌, sym, ap, ◌∙◌, arith}
use Rattle.std.proofs.Math.Nat.{mul-add, mul_left_comm, mul-one}
use Rattle.std.proofs.lemmas.Nat.{mul-le, pow_pos}
use Rattle.std.proofs.Math.Pow.{pow_mono}
use Rattle.std.proofs.lemmas.Grind.{pow_more}
use Rattle.streams.specs.Draw.{Words, below_of, lost_of}
use Rattle.scenario.specs.Setup.{Setup, member_count, link_between, is_cut}
use Rattle.scenario.specs.declared.settings.Link.{Link}
use Rattle.links.specs.declared.table.Links.{Links}
use Rattle.links.specs.Table.{link_at, is_cut_at}
use Rattle.links.specs.Arrival.{AreLinksOf}
use Rattle.links.specs.Trips.{uncut_try_of, try_of, or_else, tried_of, comes_of, kept_arrival_of}

-- ---- one try

abbrev after_cut : Setup → ℕ → ℕ → ℕ → Words → Bool → Option ℕ × Words
after_cut s from to now words cut = if cut then (None, words) else uncut_try_of s from to now words

abbrev after_loss : Link → ℕ → Bool × Words → Option ℕ × Words
after_loss link now lost = if lost.0 then (None, lost.1) else (Some (now + link.delay + (below_of lost.1 (link.jitter + 1)).0), (below_of lost.1 (link.jitter + 1)).1)

module _ (l : Links) (s : Setup) (are : AreLinksOf l s) (from to now : ℕ) (sender : from < member_count s) (receiver : to < member_count s) (cut : Bool) (cuts : cut ≡ is_cut_at l from to now) where
  is_so : is_cut s from to now ≡ cut
  is_so = sym (cuts ∙ are.cuts from to now sender receiver)

  pub try_cut : cut ≡ true → (words : Words) → (None, words) ≡ try_of s from to now words
  unfolding try_of
  try_cut e words = sym (ap (after_cut s from to now words) (is_so ∙ e))

  pub try_not_cut : cut ≡ false → (words : Words) → uncut_try_of s from to now words ≡ try_of s from to now words
  unfolding try_of
  try_not_cut e words = sym (ap (after_cut s from to now words) (is_so ∙ e))

module _ (l : Links) (s : Setup) (are : AreLinksOf l s) (from to now : ℕ) (sender : from < member_count s) (receiver : to < member_count s) (link : Link) (is : link ≡ link_at l from to)
    (words rest : Words) (b : Bool) (lost : (b, rest) ≡ lost_of words link.loss) where
  over : after_loss link now (b, rest) ≡ uncut_try_of s from to now words
  unfolding uncut_try_of
  over =
      ap (after_loss link now) lost
      ∙ ap (λ (k : Link). after_loss k now (lost_of words k.loss)) (is ∙ are.links from to sender receiver)

  pub try_lost : b ≡ true → (None, rest) ≡ uncut_try_of s from to now words
  try_lost e = ap (λ v. after_loss link now (v, rest)) (sym e) ∙ over

  pub try_comes : b ≡ false → (drawn jitter ticks : ℕ) (after : Words) → (drawn, after) ≡ below_of rest (link.jitter + 1) → jitter ≡ drawn → ticks ≡ now
      → (Some (ticks + link.delay + jitter), after) ≡ uncut_try_of s from to now words
  try_comes e drawn jitter ticks after by same at =
      ap (λ t. (Some (t + link.delay + jitter), after)) at
      ∙ ap (λ j. (Some (now + link.delay + j), after)) same
      ∙ ap (λ (p : ℕ × Words). (Some (now + link.delay + p.0), p.1)) by
      ∙ ap (λ v. after_loss link now (v, rest)) (sym e) ∙ over

-- ---- further tries

pub tries_go_on : (s : Setup) (from to now wait k left : ℕ) (words rest : Words) → (None, rest) ≡ try_of s from to (now + wait * (2 ^ k - 1)) words
    → tried_of s from to now wait (k + 1) left rest ≡ tried_of s from to now wait k (suc left) words
tries_go_on s from to now wait k left words rest lost = ap (or_else (tried_of s from to now wait (k + 1) left)) lost

pub tries_end : (s : Setup) (from to now wait k left there : ℕ) (words rest : Words) → (Some there, rest) ≡ try_of s from to (now + wait * (2 ^ k - 1)) words
    → (Some there, rest) ≡ tried_of s from to now wait k (suc left) words
tries_end s from to now wait k left there words rest came = ap (or_else (tried_of s from to now wait (k + 1) left)) came

-- a try of the code, with so many left
module _ (s : Setup) (from to now wait left waited ticks : ℕ) (words rest : Words) (r : Option ℕ)
    (some : 0 < left) (waits : waited ≡ wait * (2 ^ (8 - left) - 1)) (at : ticks ≡ now) (drawn : (r, rest) ≡ try_of s from to (ticks + waited) words) where
  here : (r, rest) ≡ try_of s from to (now + wait * (2 ^ (8 - left) - 1)) words
  here = drawn ∙ (λ i. try_of s from to (at i + waits i) words)

  again : tried_of s from to now wait (8 - left) (suc (left - 1)) words ≡ tried_of s from to now wait (8 - left) left words
  again = let next : suc (left - 1) ≡ left = omega (arith, some) in ap (λ n. tried_of s from to now wait (8 - left) n words) next

  pub one_lost : left ≤ 8 → r ≡ None → tried_of s from to now wait (8 - (left - 1)) (left - 1) rest ≡ tried_of s from to now wait (8 - left) left words
  one_lost few none =
      let up : 8 - (left - 1) ≡ 8 - left + 1 = omega (arith, some, few) in
      ap (λ k. tried_of s from to now wait k (left - 1) rest) up
      ∙ tries_go_on s from to now wait (8 - left) (left - 1) words rest (ap (λ (x : Option ℕ). (x, rest)) (sym none) ∙ here) ∙ again

  pub one_came : (there : ℕ) → r ≡ Some there → (Some there, rest) ≡ tried_of s from to now wait (8 - left) left words
  one_came there came = tries_end s from to now wait (8 - left) (left - 1) there words rest (ap (λ (x : Option ℕ). (x, rest)) (sym came) ∙ here) ∙ again

-- the wait is twice as long each time
waits : (wait q : ℕ) → 2 * (wait * q) + wait ≡ wait * (2 * q + 1)
waits wait q = sym (mul-add wait (2 * q) 1 ∙ (λ i. mul_left_comm wait 2 q i + mul-one wait i))

pub waits_more : (wait k waited : ℕ) → waited ≡ wait * (2 ^ k - 1) → 2 * waited + wait ≡ wait * (2 ^ (k + 1) - 1)
waits_more wait k waited is =
    let some : 0 < 2 ^ k = pow_pos k in
    let twice : 2 ^ (k + 1) ≡ 2 ^ k * 2 = pow_more 2 k in
    let same : 2 * (2 ^ k - 1) + 1 ≡ 2 ^ (k + 1) - 1 = omega (arith, some, twice) in
    ap (λ w. 2 * w + wait) is ∙ waits wait (2 ^ k - 1) ∙ ap (λ n. wait * n) same

-- and none of eight is long
pub waits_few : (wait k : ℕ) → wait ≤ 2 ^ 24 → k ≤ 8 → wait * (2 ^ k - 1) ≤ 2 ^ 24 * 255
waits_few wait k short few =
    let small : 2 ^ k ≤ 2 ^ 8 = pow_mono few in
    mul-le wait (2 ^ k - 1) (2 ^ 24) 255 short (omega (arith, small))

-- ---- what is sent over a stream

abbrev pub after_kept : Setup → ℕ → ℕ → ℕ → Words → Bool → Option ℕ × Words
after_kept s from to now words cut =
    let link = link_between s from to in
    let jitter = below_of words (link.jitter + 1) in
    if cut then (None, words) else comes_of s from to now (now + link.delay + jitter.0) jitter.1

pub kept_cut : (s : Setup) (from to now : ℕ) (words : Words) → is_cut s from to now ≡ true → (None, words) ≡ kept_arrival_of s from to now words
unfolding kept_arrival_of
kept_cut s from to now words cut = sym (ap (after_kept s from to now words) cut)

pub kept_comes : (s : Setup) (from to now : ℕ) (words : Words) → is_cut s from to now ≡ false → after_kept s from to now words false ≡ kept_arrival_of s from to now words
unfolding kept_arrival_of
kept_comes s from to now words uncut = sym (ap (after_kept s from to now words) uncut)
