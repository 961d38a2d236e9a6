-- What a sample takes, and how many draws it makes.
use Rattle.std.proofs.Common.{◌≡◌, ℕ, zero, suc, ◌+◌, ◌-◌, ◌<◌, ◌≤◌, ◌==◌, ◌&&◌, ◌||◌, Bool, true, false, cond, not, List, [], ◌∷◌, ◌++◌, length, get_or, ◌⊎◌, inl, inr, refl, sym, ap, subst, ◌∙◌, arith, length-append}
use Rattle.std.proofs.lemmas.Bool.{lt-ltb, le-ltb, eqb-true, eq-eqb, false≢true}
use Rattle.std.proofs.lemmas.List.{get_or_read}
use Rattle.std.proofs.lemmas.List.Folds.{list_any-append}
use Rattle.streams.specs.Draw.{Words, IsRestOf, rest_after, below_of}
use Rattle.streams.proofs.PlaceLemmas.{rest-rest, rest_after-zero, below_rest}
use Rattle.membership.specs.declared.candidates.Candidate.{Candidate}
use Rattle.probing.specs.ProbeOrder.{times_in}
use Rattle.probing.specs.Samples.{is_in, with_drawn, candidate_at, sampled_by, does_fit_in, words_after}
use Rattle.probing.proofs.SoundLemmas.{one_if, times_in-cons, one_if-same, one_if-other}
use Rattle.probing.proofs.OthersLemmas.{times_in-append}

-- ---- one draw

abbrev drawn_from : List Candidate → Words → Candidate
drawn_from candidates words = candidate_at candidates (below_of words (length candidates)).0

abbrev left_from : List Candidate → Words → Words
left_from candidates words = (below_of words (length candidates)).1

pub sampled_more : (draws k : ℕ) (candidates : List Candidate) (taken : List ℕ) (words : Words) → length taken < k
    → sampled_by (suc draws) k candidates taken words ≡ sampled_by draws k candidates (with_drawn taken (drawn_from candidates words)) (left_from candidates words)
sampled_more draws k candidates taken words few =
    ap (λ b. cond b (sampled_by draws k candidates (with_drawn taken (drawn_from candidates words)) (left_from candidates words)) (taken, words)) (lt-ltb (length taken) k few)

pub sampled_end : (draws k : ℕ) (candidates : List Candidate) (taken : List ℕ) (words : Words) → k ≤ length taken → sampled_by draws k candidates taken words ≡ (taken, words)
sampled_end zero k candidates taken words enough = refl
sampled_end (suc draws) k candidates taken words enough =
    ap (λ b. cond b (sampled_by draws k candidates (with_drawn taken (drawn_from candidates words)) (left_from candidates words)) (taken, words)) (le-ltb (length taken) k enough)

-- a draw of the code
pub one_draw : (draws k : ℕ) (candidates : List Candidate) (taken after : List ℕ) (words left : Words) (place : ℕ) (drawn : Candidate) → 0 < draws → length taken < k → place < length candidates
    → (place, left) ≡ below_of words (length candidates) → drawn ≡ get_or candidates place drawn → after ≡ with_drawn taken drawn
    → sampled_by (draws - 1) k candidates after left ≡ sampled_by draws k candidates taken words
one_draw draws k candidates taken after words left place drawn some few within by at taking =
    let next : draws ≡ suc (draws - 1) = omega arith in
    let one : drawn ≡ drawn_from candidates words = get_or_read candidates place drawn within at (record { member = 0; fits = false }) ∙ ap (λ (p : ℕ × Words). candidate_at candidates p.0) by in
    (λ i. sampled_by (draws - 1) k candidates (taking i) (by i).1)
    ∙ ap (λ (x : Candidate). sampled_by (draws - 1) k candidates (with_drawn taken x) (left_from candidates words)) one
    ∙ sym (sampled_more (draws - 1) k candidates taken words few)
    ∙ ap (λ (n : ℕ). sampled_by n k candidates taken words) (sym next)

enough_or_few : (n k : ℕ) → (k ≤ n) ⊎ (n < k)
enough_or_few n k = grind arith

-- what holds of what is taken and of the words, however often is drawn
module _ (P : List ℕ → Words → Type 0) (k : ℕ) (candidates : List Candidate)
    (step : (taken : List ℕ) (words : Words) → length taken < k → P taken words → P (with_drawn taken (drawn_from candidates words)) (left_from candidates words)) where
  go_on : (draws : ℕ) (taken : List ℕ) (words : Words) → (k ≤ length taken) ⊎ (length taken < k) → P taken words
      → (length taken < k → P (sampled_by draws k candidates (with_drawn taken (drawn_from candidates words)) (left_from candidates words)).0 (sampled_by draws k candidates (with_drawn taken (drawn_from candidates words)) (left_from candidates words)).1)
      → P (sampled_by (suc draws) k candidates taken words).0 (sampled_by (suc draws) k candidates taken words).1
  go_on draws taken words (inl enough) h more = subst (λ (p : List ℕ × Words). P p.0 p.1) (sym (sampled_end (suc draws) k candidates taken words enough)) h
  go_on draws taken words (inr few) h more = subst (λ (p : List ℕ × Words). P p.0 p.1) (sym (sampled_more draws k candidates taken words few)) (more few)

  keeps : (draws : ℕ) (taken : List ℕ) (words : Words) → P taken words → P (sampled_by draws k candidates taken words).0 (sampled_by draws k candidates taken words).1
  keeps zero taken words h = h
  keeps (suc draws) taken words h =
      go_on draws taken words (enough_or_few (length taken) k) h
      (λ few. keeps draws (with_drawn taken (drawn_from candidates words)) (left_from candidates words) (step taken words few h))

-- ---- how many

more_by_one : (b : Bool) (taken : List ℕ) (m : ℕ) → length (cond b (taken ++ m ∷ []) taken) ≤ length taken + 1
more_by_one true taken m = let long = length-append taken (m ∷ []) in omega (arith, long)
more_by_one false taken m = omega arith

pub sampled_few : (draws k : ℕ) (candidates : List Candidate) (words : Words) → length (sampled_by draws k candidates [] words).0 ≤ k
sampled_few draws k candidates words =
    keeps (λ taken left. length taken ≤ k) k candidates
    (λ taken left few h. let drawn = drawn_from candidates left in let more = more_by_one (drawn.fits && not (is_in drawn.member taken)) taken drawn.member in omega (arith, more, few))
    draws [] words (omega arith)

-- ---- whom

-- whoever stands at a place and fits is one that fits
fits_at : (candidates : List Candidate) (place : ℕ) → (candidate_at candidates place).fits ≡ true → does_fit_in candidates (candidate_at candidates place).member ≡ true
fits_at [] place h = h
fits_at (c ∷ candidates) zero h = first c.fits (c.member == c.member) (does_fit_in candidates c.member) h (eq-eqb c.member c.member refl)
  where
    first : (a b d : Bool) → a ≡ true → b ≡ true → (a && b || d) ≡ true
    first true true d h g = refl
    first true false d h g = absurd (false≢true g)
    first false b d h g = absurd (false≢true h)
fits_at (c ∷ candidates) (suc place) h = later (c.fits && c.member == (candidate_at candidates place).member) (does_fit_in candidates (candidate_at candidates place).member) (fits_at candidates place h)
  where
    later : (a b : Bool) → b ≡ true → (a || b) ≡ true
    later true b h = refl
    later false b h = h

abbrev pub all_fit : List Candidate → List ℕ → Type 0
all_fit candidates taken = (member : ℕ) → is_in member taken ≡ true → does_fit_in candidates member ≡ true

one_fits : (candidates : List Candidate) (place : ℕ) (member : ℕ) → (candidate_at candidates place).fits ≡ true → is_in member ((candidate_at candidates place).member ∷ []) ≡ true → does_fit_in candidates member ≡ true
one_fits candidates place member fits here =
    let same : (candidate_at candidates place).member ≡ member = eqb-true (candidate_at candidates place).member member (alone ((candidate_at candidates place).member == member) here) in
    subst (λ m. does_fit_in candidates m ≡ true) same (fits_at candidates place fits)
  where
    alone : (a : Bool) → (a || false) ≡ true → a ≡ true
    alone true h = refl
    alone false h = h

fit_more : (candidates : List Candidate) (place : ℕ) (taken : List ℕ) → (candidate_at candidates place).fits ≡ true → all_fit candidates taken
    → (member : ℕ) (c : Bool) → is_in member taken ≡ c → (c || is_in member ((candidate_at candidates place).member ∷ [])) ≡ true → does_fit_in candidates member ≡ true
fit_more candidates place taken is all member true was h = all member was
fit_more candidates place taken is all member false was h = one_fits candidates place member is h

fit_by_test : (candidates : List Candidate) (place : ℕ) (taken : List ℕ) (a b : Bool) → (candidate_at candidates place).fits ≡ a → all_fit candidates taken
    → all_fit candidates (cond (a && b) (taken ++ (candidate_at candidates place).member ∷ []) taken)
fit_by_test candidates place taken false b is all = all
fit_by_test candidates place taken true false is all = all
fit_by_test candidates place taken true true is all =
    λ member here. fit_more candidates place taken is all member (is_in member taken) refl (sym (list_any-append (λ other. other == member) taken ((candidate_at candidates place).member ∷ [])) ∙ here)

pub sampled_fit : (draws k : ℕ) (candidates : List Candidate) (words : Words) → all_fit candidates (sampled_by draws k candidates [] words).0
sampled_fit draws k candidates words =
    keeps (λ taken left. all_fit candidates taken) k candidates
    (λ taken left few h. fit_by_test candidates (below_of left (length candidates)).0 taken (drawn_from candidates left).fits (not (is_in (drawn_from candidates left).member taken)) refl h)
    draws [] words (λ member here. absurd (false≢true here))

-- ---- each once

absent : (taken : List ℕ) (m : ℕ) → is_in m taken ≡ false → times_in taken m ≡ 0
absent [] m h = refl
absent (x ∷ taken) m h = by_test (x == m) refl (absent taken m (rest (x == m) (is_in m taken) h)) (here (x == m) (is_in m taken) h)
  where
    rest : (a b : Bool) → (a || b) ≡ false → b ≡ false
    rest true b h = absurd (false≢true (sym h))
    rest false b h = h

    here : (a b : Bool) → (a || b) ≡ false → a ≡ false
    here true b h = absurd (false≢true (sym h))
    here false b h = refl

    by_test : (a : Bool) → (x == m) ≡ a → times_in taken m ≡ 0 → a ≡ false → times_in (x ∷ taken) m ≡ 0
    by_test a is none off = let zero_of : one_if (x == m) ≡ 0 = ap one_if (is ∙ off) in omega (arith, times_in-cons x taken m, zero_of, none)

once_by_test : (taken : List ℕ) (m : ℕ) (a b : Bool) → is_in m taken ≡ b → ((member : ℕ) → times_in taken member ≤ 1)
    → (member : ℕ) → times_in (cond (a && not b) (taken ++ m ∷ []) taken) member ≤ 1
once_by_test taken m false b is once member = once member
once_by_test taken m true true is once member = once member
once_by_test taken m true false is once member = of_member (m == member) refl
  where
    of_member : (c : Bool) → (m == member) ≡ c → times_in (taken ++ m ∷ []) member ≤ 1
    of_member true same =
        let none : times_in taken member ≡ 0 = subst (λ x. times_in taken x ≡ 0) (eqb-true m member same) (absent taken m is) in
        omega (arith, none, times_in-append taken (m ∷ []) member, times_in-cons m [] member, one_if-same m member (eqb-true m member same))
    of_member false other =
        omega (arith, once member, times_in-append taken (m ∷ []) member, times_in-cons m [] member, one_if-other m member (λ same. absurd (false≢true (sym other ∙ eq-eqb m member same))))

pub sampled_once : (draws k : ℕ) (candidates : List Candidate) (words : Words) → (member : ℕ) → times_in (sampled_by draws k candidates [] words).0 member ≤ 1
sampled_once draws k candidates words =
    keeps (λ taken left. (member : ℕ) → times_in taken member ≤ 1) k candidates
    (λ taken left few h. once_by_test taken (drawn_from candidates left).member (drawn_from candidates left).fits (is_in (drawn_from candidates left).member taken) refl h)
    draws [] words (λ member. omega arith)

-- ---- the words

rest_of_rest : (words middle rest : Words) → IsRestOf words middle → IsRestOf middle rest → IsRestOf words rest
rest_of_rest words middle rest a b =
    (a.0 + b.0, b.1 ∙ ap (rest_after b.0) a.1 ∙ rest-rest b.0 a.0 words)

pub sampled_rest : (draws k : ℕ) (candidates : List Candidate) (words : Words) → IsRestOf words (sampled_by draws k candidates [] words).1
sampled_rest draws k candidates words =
    keeps (λ taken left. IsRestOf words left) k candidates
    (λ taken left few h. rest_of_rest words left (left_from candidates left) h (below_rest left (length candidates)))
    draws [] words (0, rest_after-zero words)

-- where nobody fits
pub in_vain : (draws k : ℕ) (candidates : List Candidate) (words : Words) → 0 < k → ((member : ℕ) → does_fit_in candidates member ≡ false)
    → sampled_by draws k candidates [] words ≡ ([], words_after draws (length candidates) words)
in_vain zero k candidates words some none = refl
in_vain (suc draws) k candidates words some none =
    sampled_more draws k candidates [] words some
    ∙ ap (λ l. sampled_by draws k candidates l (left_from candidates words)) (untaken (drawn_from candidates words).fits refl)
    ∙ in_vain draws k candidates (left_from candidates words) some none
  where
    untaken : (a : Bool) → (drawn_from candidates words).fits ≡ a → with_drawn [] (drawn_from candidates words) ≡ []
    untaken false is = ap (λ b. cond (b && true) ((drawn_from candidates words).member ∷ []) []) is
    untaken true is = absurd (false≢true (sym (sym (fits_at candidates (below_of words (length candidates)).0 is) ∙ none (drawn_from candidates words).member)))
