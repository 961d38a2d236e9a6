-- Whom a sample takes: such as fit.
use Rattle.std.proofs.Common.{◌≡◌, ℕ, zero, suc, ◌*◌, ◌==◌, ◌&&◌, ◌||◌, Bool, true, false, cond, not, nat_lt, List, [], ◌∷◌, ◌++◌, length, refl, sym, subst, ◌∙◌}
use Rattle.std.proofs.lemmas.Bool.{eqb-true, eq-eqb, false≢true}
use Rattle.std.proofs.lemmas.List.Folds.{list_any-append}
use Rattle.streams.specs.Draw.{Words, below_of}
use Rattle.membership.specs.declared.candidates.Candidate.{Candidate}
use Rattle.probing.specs.Samples.{is_in, with_drawn, candidate_at, sampled_by, sample_of, does_fit_in}

-- whoever stands at a place and fits is one that fits
fits_at : (cs : List Candidate) (place : ℕ) → (candidate_at cs place).fits ≡ true → does_fit_in cs (candidate_at cs place).member ≡ true
fits_at [] place h = h
fits_at (c ∷ cs) zero h = first c.fits (c.member == c.member) (does_fit_in cs c.member) h (eq-eqb c.member c.member refl)
  where
    first : (a b d : Bool) → a ≡ true → b ≡ true → (a && b || d) ≡ true
    first true true d h g = refl
    first true false d h g = absurd (false≢true g)
    first false b d h g = absurd (false≢true h)
fits_at (c ∷ cs) (suc place) h = later (c.fits && c.member == (candidate_at cs place).member) (does_fit_in cs (candidate_at cs place).member) (fits_at cs place h)
  where
    later : (a b : Bool) → b ≡ true → (a || b) ≡ true
    later true b h = refl
    later false b h = h

abbrev all_fit : List Candidate → List ℕ → Type 0
all_fit cs taken = (member : ℕ) → is_in member taken ≡ true → does_fit_in cs member ≡ true

one_fits : (cs : List Candidate) (place : ℕ) (member : ℕ) → (candidate_at cs place).fits ≡ true → is_in member ((candidate_at cs place).member ∷ []) ≡ true → does_fit_in cs member ≡ true
one_fits cs place member fits here =
    let same : (candidate_at cs place).member ≡ member = eqb-true (candidate_at cs place).member member (alone ((candidate_at cs place).member == member) here) in
    subst (λ m. does_fit_in cs m ≡ true) same (fits_at cs place fits)
  where
    alone : (a : Bool) → (a || false) ≡ true → a ≡ true
    alone true h = refl
    alone false h = h

fit_more : (cs : List Candidate) (place : ℕ) (taken : List ℕ) → (candidate_at cs place).fits ≡ true → all_fit cs taken
    → (member : ℕ) (c : Bool) → is_in member taken ≡ c → (c || is_in member ((candidate_at cs place).member ∷ [])) ≡ true → does_fit_in cs member ≡ true
fit_more cs place taken is all member true was h = all member was
fit_more cs place taken is all member false was h = one_fits cs place member is h

fit_by_test : (cs : List Candidate) (place : ℕ) (taken : List ℕ) (a b : Bool) → (candidate_at cs place).fits ≡ a → all_fit cs taken → all_fit cs (cond (a && b) (taken ++ (candidate_at cs place).member ∷ []) taken)
fit_by_test cs place taken false b is all = all
fit_by_test cs place taken true false is all = all
fit_by_test cs place taken true true is all =
    λ member here. fit_more cs place taken is all member (is_in member taken) refl (sym (list_any-append (λ other. other == member) taken ((candidate_at cs place).member ∷ [])) ∙ here)

fit_either : (cs : List Candidate) (b : Bool) (p q : List ℕ × Words) → all_fit cs p.0 → all_fit cs q.0 → all_fit cs (cond b p q).0
fit_either cs true p q h g = h
fit_either cs false p q h g = g

drawn_fit : (draws k : ℕ) (cs : List Candidate) (taken : List ℕ) (words : Words) → all_fit cs taken → all_fit cs (sampled_by draws k cs taken words).0
drawn_fit zero k cs taken words all = all
drawn_fit (suc draws) k cs taken words all =
    let place = (below_of words (length cs)).0 in
    let left = (below_of words (length cs)).1 in
    fit_either cs (nat_lt (length taken) k) (sampled_by draws k cs (with_drawn taken (candidate_at cs place)) left) (taken, words)
    (drawn_fit draws k cs (with_drawn taken (candidate_at cs place)) left (fit_by_test cs place taken (candidate_at cs place).fits (not (is_in (candidate_at cs place).member taken)) refl all)) all

pub sample_fits : (words : Words) (k : ℕ) (cs : List Candidate) (member : ℕ) → is_in member (sample_of words k cs).0 ≡ true → does_fit_in cs member ≡ true
unfolding sample_of
sample_fits words k cs = drawn_fit (3 * length cs) k cs [] words (λ member here. absurd (false≢true here))
