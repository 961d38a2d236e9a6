-- The members before and after one: in columns and in the table.
use Rattle.std.proofs.Common.{◌≡◌, ℕ, zero, suc, ◌+◌, ◌-◌, ◌<◌, ◌≤◌, Bool, false, cond, ltb, List, [], ◌∷◌, ◌++◌, map, filter, length, get_or, take, drop, min, Option, Some, None, slice_index, refl, sym, ap, ◌∙◌, arith}
use Rattle.std.proofs.lemmas.Bool.{lt-ltb, le-ltb}
use Rattle.std.proofs.lemmas.List.{map-append, append-nil, append_assoc, take_min, drop_min, take_all, length-drop, take-map, drop-map}
use Rattle.incarnation.specs.declared.Claim.{Claim}
use Rattle.membership.specs.declared.candidates.Candidate.{Candidate}
use Rattle.membership.specs.Table.{known_of}
use Rattle.membership.specs.Columns.{entries_from}
use Rattle.membership.specs.Candidates.{known_candidate, candidates_of}
use Rattle.membership.specs.declared.held.Held.{Held}
use Rattle.membership.specs.Held.{claim_of, claims_in}
use Rattle.membership.proofs.Columns.{Entry, entries_rise, entry_at, entries_more_from}
use Rattle.membership.proofs.Entries.{entries-known_of}

-- ---- in columns

module _ (incs : List ℕ) where
  none_before : (claims : List (Option Claim)) (a me : ℕ) → me ≤ a → filter (λ (e : Entry). ltb e.0 me) (entries_from a claims incs) ≡ []
  none_before [] a me past = refl
  none_before (None ∷ claims) a me past = none_before claims (a + 1) me (omega arith)
  none_before (Some c ∷ claims) a me past =
      ap (λ b. cond b ((a, (c, slice_index incs a)) ∷ filter (λ (e : Entry). ltb e.0 me) (entries_from (a + 1) claims incs)) (filter (λ (e : Entry). ltb e.0 me) (entries_from (a + 1) claims incs))) (le-ltb a me past)
      ∙ none_before claims (a + 1) me (omega arith)

  all_after : (claims : List (Option Claim)) (a me : ℕ) → me < a → filter (λ (e : Entry). ltb me e.0) (entries_from a claims incs) ≡ entries_from a claims incs
  all_after [] a me past = refl
  all_after (None ∷ claims) a me past = all_after claims (a + 1) me (omega arith)
  all_after (Some c ∷ claims) a me past =
      ap (λ b. cond b ((a, (c, slice_index incs a)) ∷ filter (λ (e : Entry). ltb me e.0) (entries_from (a + 1) claims incs)) (filter (λ (e : Entry). ltb me e.0) (entries_from (a + 1) claims incs))) (lt-ltb me a past)
      ∙ ap (λ l. (a, (c, slice_index incs a)) ∷ l) (all_after claims (a + 1) me (omega arith))

  before_is : (claims : List (Option Claim)) (a k me : ℕ) → me ≡ a + k → filter (λ (e : Entry). ltb e.0 me) (entries_from a claims incs) ≡ entries_from a (take k claims) incs
  before_is claims a zero me is = none_before claims a me (omega arith)
  before_is [] a (suc k) me is = refl
  before_is (None ∷ claims) a (suc k) me is = before_is claims (a + 1) k me (omega arith)
  before_is (Some c ∷ claims) a (suc k) me is =
      ap (λ b. cond b ((a, (c, slice_index incs a)) ∷ filter (λ (e : Entry). ltb e.0 me) (entries_from (a + 1) claims incs)) (filter (λ (e : Entry). ltb e.0 me) (entries_from (a + 1) claims incs))) (lt-ltb a me (omega arith))
      ∙ ap (λ l. (a, (c, slice_index incs a)) ∷ l) (before_is claims (a + 1) k me (omega arith))

  after_is : (claims : List (Option Claim)) (a k me : ℕ) → me + 1 ≡ a + k → filter (λ (e : Entry). ltb me e.0) (entries_from a claims incs) ≡ entries_from (me + 1) (drop k claims) incs
  after_is claims a zero me is =
      let same : a ≡ me + 1 = omega arith in
      all_after claims a me (omega arith) ∙ ap (λ n. entries_from n claims incs) same
  after_is [] a (suc k) me is = refl
  after_is (None ∷ claims) a (suc k) me is = after_is claims (a + 1) k me (omega arith)
  after_is (Some c ∷ claims) a (suc k) me is =
      ap (λ b. cond b ((a, (c, slice_index incs a)) ∷ filter (λ (e : Entry). ltb me e.0) (entries_from (a + 1) claims incs)) (filter (λ (e : Entry). ltb me e.0) (entries_from (a + 1) claims incs))) (le-ltb me a (omega arith))
      ∙ after_is claims (a + 1) k me (omega arith)

  -- ---- in the table

  pub candidates_are : (fits : ℕ → Claim → Bool) (claims : List (Option Claim)) (me : ℕ) → candidates_of me fits (known_of (entries_from 0 claims incs))
      ≡ map (known_candidate fits) (entries_from 0 (take me claims) incs) ++ (record { member = me; fits = false } ∷ map (known_candidate fits) (entries_from (me + 1) (drop (me + 1) claims) incs))
  unfolding candidates_of
  candidates_are fits claims me =
      let all = entries-known_of (entries_from 0 claims incs) (entries_rise incs claims 0) in
      let before = ap (filter (λ (e : Entry). ltb e.0 me)) all ∙ before_is claims 0 me me (omega arith) in
      let after = ap (filter (λ (e : Entry). ltb me e.0)) all ∙ after_is claims 0 (me + 1) me (omega arith) in
      (λ i. map (known_candidate fits) (before i) ++ (record { member = me; fits = false } ∷ map (known_candidate fits) (after i)))

  -- ---- one candidate more

  pub none_known : (fits : ℕ → Claim → Bool) (held : List Held) (d : Held) (a n : ℕ) → n < length held → claim_of (get_or held n d) ≡ None
      → map (known_candidate fits) (entries_from a (claims_in (take (n + 1) held)) incs) ≡ map (known_candidate fits) (entries_from a (claims_in (take n held)) incs)
  none_known fits held d a n within is =
      ap (map (known_candidate fits)) (entries_more_from incs held d a n (a + n) None refl within is ∙ append-nil (entries_from a (claims_in (take n held)) incs))

  pub one_known : (fits : ℕ → Claim → Bool) (held : List Held) (d : Held) (a n : ℕ) (c : Claim) → n < length held → claim_of (get_or held n d) ≡ Some c
      → map (known_candidate fits) (entries_from a (claims_in (take (n + 1) held)) incs)
      ≡ map (known_candidate fits) (entries_from a (claims_in (take n held)) incs) ++ record { member = a + n; fits = fits (a + n) c } ∷ []
  one_known fits held d a n c within is =
      ap (map (known_candidate fits)) (entries_more_from incs held d a n (a + n) (Some c) refl within is)
      ∙ map-append (known_candidate fits) (entries_from a (claims_in (take n held)) incs) (entry_at incs (a + n) (Some c))

  pub one_pushed : (fits : ℕ → Claim → Bool) (held : List Held) (d : Held) (a n : ℕ) (c : Claim) (old before after : List Candidate) (b : Bool) → n < length held → claim_of (get_or held n d) ≡ Some c
      → before ≡ old ++ map (known_candidate fits) (entries_from a (claims_in (take n held)) incs) → b ≡ fits (a + n) c → after ≡ before ++ record { member = a + n; fits = b } ∷ []
      → after ≡ old ++ map (known_candidate fits) (entries_from a (claims_in (take (n + 1) held)) incs)
  one_pushed fits held d a n c old before after b within is so_far judged pushed =
      pushed ∙ (λ i. so_far i ++ record { member = a + n; fits = judged i } ∷ [])
      ∙ append_assoc old (map (known_candidate fits) (entries_from a (claims_in (take n held)) incs)) (record { member = a + n; fits = fits (a + n) c } ∷ [])
      ∙ ap (λ (l : List Candidate). old ++ l) (sym (one_known fits held d a n c within is))

  -- ---- all candidates

  abbrev oneself : ℕ → Candidate
  oneself me = record { member = me; fits = false }

  pub all_listed : (fits : ℕ → Claim → Bool) (claims firsts lasts : List (Option Claim)) (me next : ℕ) (none front upto all : List Candidate)
      → none ≡ [] → firsts ≡ take me claims → lasts ≡ drop (me + 1) claims → next ≡ me + 1
      → front ≡ none ++ map (known_candidate fits) (entries_from 0 firsts incs) → upto ≡ front ++ oneself me ∷ [] → all ≡ upto ++ map (known_candidate fits) (entries_from next lasts incs)
      → all ≡ candidates_of me fits (known_of (entries_from 0 claims incs))
  all_listed fits claims firsts lasts me next none front upto all none_is firsts_are lasts_are next_is front_is upto_is all_is =
      let before = map (known_candidate fits) (entries_from 0 (take me claims) incs) in
      let after = map (known_candidate fits) (entries_from (me + 1) (drop (me + 1) claims) incs) in
      let front' : front ≡ before = front_is ∙ (λ i. none_is i ++ map (known_candidate fits) (entries_from 0 (firsts_are i) incs)) in
      all_is ∙ (λ i. upto_is i ++ map (known_candidate fits) (entries_from (next_is i) (lasts_are i) incs))
      ∙ ap (λ (l : List Candidate). (l ++ (oneself me ∷ [])) ++ after) front'
      ∙ append_assoc before (oneself me ∷ []) after
      ∙ sym (candidates_are fits claims me)

-- slices of the column
pub taken_is : (xs held : List Held) (n place me len : ℕ) → xs ≡ held → n ≡ min place len → place ≡ me → len ≡ length held → claims_in (take n xs) ≡ take me (claims_in held)
taken_is xs held n place me len same least at long =
    ap claims_in ((λ i. take (least i) (same i)) ∙ (λ i. take (min (at i) (long i)) held) ∙ take_min me held) ∙ sym (take-map claim_of me held)

pub dropped_is : (xs held : List Held) (n next me len : ℕ) → xs ≡ held → n ≡ min next len → next ≡ me → len ≡ length held
    → claims_in (take (length xs - n) (drop n xs)) ≡ drop me (claims_in held)
dropped_is xs held n next me len same least at long =
    ap claims_in (take_all (length xs - n) (drop n xs) (omega (arith, length-drop n xs))
    ∙ (λ i. drop (least i) (same i)) ∙ (λ i. drop (min (at i) (long i)) held) ∙ drop_min me held) ∙ sym (drop-map claim_of me held)
