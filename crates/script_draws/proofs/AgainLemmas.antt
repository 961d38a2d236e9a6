-- What comes again and again, step by step.
use Rattle.std.proofs.Common.{◌≡◌, ◌<◌, ◌≤◌, ℕ, zero, suc, ◌+◌, min, Bool, true, false, List, [], ◌∷◌, ◌++◌, length, length-append, append_assoc, nat_lt, if◌then◌else◌, refl, sym, ap, ◌∙◌, arith}
use Rattle.std.proofs.lemmas.Bool.Decides.{nat_tests}
use Rattle.std.proofs.lemmas.List.{append-nil}
use Rattle.streams.specs.Draw.{Words}
use Rattle.scenario.specs.declared.spells.Spell.{Spell}
use Rattle.script_draws.specs.declared.again.Recurrence.{Recurrence}
use Rattle.script_draws.specs.declared.again.Lasting.{Lasting}
use Rattle.script_draws.specs.Again.{first_of_all, next_of, lasting_of, spells_on, spells_of, moments_on, moments_of}

-- ---- times

module _ (r : Recurrence) (lasting : Lasting) where
  -- what has been made, and what is still to come from this moment on, is all that is made of these words
  pub record IsOnSpells (from : Words) (made : List Spell) (begins : ℕ) (words : Words) : Type 0 where
    pub times : ℕ
    pub enough : r.until ≤ begins + times
    pub all : (made ++ (spells_on times r lasting begins words).0, (spells_on times r lasting begins words).1) ≡ spells_of r lasting from

  pub spells_begun : (from words : Words) (begins : ℕ) → (begins, words) ≡ first_of_all r from → IsOnSpells from [] begins words
  unfolding spells_of
  spells_begun from words begins drawn =
      record {
        times = r.until;
        enough = omega arith;
        all = ap (λ (p : ℕ × Words). spells_on r.until r lasting p.0 p.1) drawn;
      }

  spells_over : (times begins : ℕ) (words : Words) → r.until ≤ begins → spells_on times r lasting begins words ≡ ([], words)
  spells_over zero begins words over = refl
  spells_over (suc times) begins words over =
      let test : nat_lt begins r.until ≡ false = grind (arith, nat_tests) in
      rw test refl

  -- nothing comes from `until` on
  pub spells_ended : (from : Words) (made : List Spell) (begins : ℕ) (words : Words) → IsOnSpells from made begins words → r.until ≤ begins → (made, words) ≡ spells_of r lasting from
  spells_ended from made begins words is over =
      ap (λ (l : List Spell). (l, words)) (sym (append-nil made))
      ∙ ap (λ (p : List Spell × Words). (made ++ p.0, p.1)) (sym (spells_over is.times begins words over))
      ∙ is.all

  -- one time, and those behind it
  one_spell : (times begins lasts next : ℕ) (words between rest : Words) → begins < r.until → (lasts, between) ≡ lasting_of lasting words → (next, rest) ≡ next_of r (begins + lasts) between
      → spells_on (suc times) r lasting begins words
      ≡ (record { from = begins; until = min (begins + lasts) r.until } ∷ (spells_on times r lasting next rest).0, (spells_on times r lasting next rest).1)
  one_spell times begins lasts next words between rest low lasting_is next_is =
      let test : nat_lt begins r.until ≡ true = grind (arith, nat_tests) in
      let Made : ℕ → ℕ × Words → List Spell × Words =
      λ lasts p. (record { from = begins; until = min (begins + lasts) r.until } ∷ (spells_on times r lasting p.0 p.1).0, (spells_on times r lasting p.0 p.1).1) in
      rw test
      (ap (λ (p : ℕ × Words). Made p.0 (next_of r (begins + p.0) p.1)) (sym lasting_is)
      ∙ ap (λ (p : ℕ × Words). Made lasts p) (sym next_is))

  on_spells : (from : Words) (made : List Spell) (times begins lasts next : ℕ) (words between rest : Words) → begins < r.until → r.until ≤ begins + times
      → (made ++ (spells_on times r lasting begins words).0, (spells_on times r lasting begins words).1) ≡ spells_of r lasting from
      → (lasts, between) ≡ lasting_of lasting words → (next, rest) ≡ next_of r (begins + lasts) between → begins < next
      → IsOnSpells from (made ++ record { from = begins; until = min (begins + lasts) r.until } ∷ []) next rest
  on_spells from made zero begins lasts next words between rest low enough all lasting_is next_is later = absurd (omega arith)
  on_spells from made (suc times) begins lasts next words between rest low enough all lasting_is next_is later =
      let it : Spell = record { from = begins; until = min (begins + lasts) r.until } in
      let behind = spells_on times r lasting next rest in
      record {
        times = times;
        enough = omega arith;
        all =
            ap (λ (l : List Spell). (l, behind.1)) (append_assoc made (it ∷ []) behind.0)
            ∙ ap (λ (p : List Spell × Words). (made ++ p.0, p.1)) (sym (one_spell times begins lasts next words between rest low lasting_is next_is))
            ∙ all;
      }

  pub spell_made : (from : Words) (made : List Spell) (begins lasts next : ℕ) (words between rest : Words) → IsOnSpells from made begins words → begins < r.until
      → (lasts, between) ≡ lasting_of lasting words → (next, rest) ≡ next_of r (begins + lasts) between → begins < next
      → IsOnSpells from (made ++ record { from = begins; until = min (begins + lasts) r.until } ∷ []) next rest
  spell_made from made begins lasts next words between rest is low lasting_is next_is later =
      on_spells from made is.times begins lasts next words between rest low is.enough is.all lasting_is next_is later

  some_spell : (times begins : ℕ) (words : Words) → begins < r.until → r.until ≤ begins + times → 0 < length (spells_on times r lasting begins words).0
  some_spell zero begins words low enough = absurd (omega arith)
  some_spell (suc times) begins words low enough =
      let test : nat_lt begins r.until ≡ true = grind (arith, nat_tests) in
      rw test (omega arith)

  -- before `until` one more comes
  pub spells_more : (from : Words) (made : List Spell) (begins : ℕ) (words : Words) → IsOnSpells from made begins words → begins < r.until → length made < length (spells_of r lasting from).0
  spells_more from made begins words is low =
      let more = some_spell is.times begins words low is.enough in
      let long = length-append made (spells_on is.times r lasting begins words).0 in
      let all : length (made ++ (spells_on is.times r lasting begins words).0) ≡ length (spells_of r lasting from).0 = ap (λ (p : List Spell × Words). length p.0) is.all in
      omega arith

-- ---- moments

-- a moment after the start is made
abbrev pub with_moment : ℕ → ℕ → List ℕ → List ℕ
with_moment start moment made = if nat_lt start moment then made ++ moment ∷ [] else made

module _ (r : Recurrence) (back start : ℕ) where
  pub record IsOnMoments (from : Words) (made : List ℕ) (moment : ℕ) (words : Words) : Type 0 where
    pub times : ℕ
    pub enough : r.until ≤ moment + times
    pub all : (made ++ (moments_on times r back start moment words).0, (moments_on times r back start moment words).1) ≡ moments_of r back start from

  pub moments_begun : (from words : Words) (moment : ℕ) → (moment, words) ≡ first_of_all r from → IsOnMoments from [] moment words
  unfolding moments_of
  moments_begun from words moment drawn =
      record {
        times = r.until;
        enough = omega arith;
        all = ap (λ (p : ℕ × Words). moments_on r.until r back start p.0 p.1) drawn;
      }

  moments_over : (times moment : ℕ) (words : Words) → r.until ≤ moment → moments_on times r back start moment words ≡ ([], words)
  moments_over zero moment words over = refl
  moments_over (suc times) moment words over =
      let test : nat_lt moment r.until ≡ false = grind (arith, nat_tests) in
      rw test refl

  pub moments_ended : (from : Words) (made : List ℕ) (moment : ℕ) (words : Words) → IsOnMoments from made moment words → r.until ≤ moment → (made, words) ≡ moments_of r back start from
  moments_ended from made moment words is over =
      ap (λ (l : List ℕ). (l, words)) (sym (append-nil made))
      ∙ ap (λ (p : List ℕ × Words). (made ++ p.0, p.1)) (sym (moments_over is.times moment words over))
      ∙ is.all

  abbrev put : ℕ → List ℕ → List ℕ
  put moment others = if nat_lt start moment then moment ∷ others else others

  one_moment : (times moment next : ℕ) (words rest : Words) → moment < r.until → (next, rest) ≡ next_of r (moment + back) words
      → moments_on (suc times) r back start moment words ≡ (put moment (moments_on times r back start next rest).0, (moments_on times r back start next rest).1)
  one_moment times moment next words rest low next_is =
      let test : nat_lt moment r.until ≡ true = grind (arith, nat_tests) in
      rw test
      (ap (λ (p : ℕ × Words). (if nat_lt start moment then moment ∷ (moments_on times r back start p.0 p.1).0 else (moments_on times r back start p.0 p.1).0, (moments_on times r back start p.0 p.1).1)) (sym next_is))

  joined : (made others : List ℕ) (moment : ℕ) → with_moment start moment made ++ others ≡ made ++ put moment others
  joined made others moment = on (nat_lt start moment)
    where
      on : (b : Bool) → (if b then made ++ moment ∷ [] else made) ++ others ≡ made ++ (if b then moment ∷ others else others)
      on true = append_assoc made (moment ∷ []) others
      on false = refl

  on_moments : (from : Words) (made : List ℕ) (times moment next : ℕ) (words rest : Words) → moment < r.until → r.until ≤ moment + times
      → (made ++ (moments_on times r back start moment words).0, (moments_on times r back start moment words).1) ≡ moments_of r back start from
      → (next, rest) ≡ next_of r (moment + back) words → moment < next
      → IsOnMoments from (with_moment start moment made) next rest
  on_moments from made zero moment next words rest low enough all next_is later = absurd (omega arith)
  on_moments from made (suc times) moment next words rest low enough all next_is later =
      let behind = moments_on times r back start next rest in
      record {
        times = times;
        enough = omega arith;
        all =
            ap (λ (l : List ℕ). (l, behind.1)) (joined made behind.0 moment)
            ∙ ap (λ (p : List ℕ × Words). (made ++ p.0, p.1)) (sym (one_moment times moment next words rest low next_is))
            ∙ all;
      }

  pub moment_made : (from : Words) (made : List ℕ) (moment next : ℕ) (words rest : Words) → IsOnMoments from made moment words → moment < r.until
      → (next, rest) ≡ next_of r (moment + back) words → moment < next → IsOnMoments from (with_moment start moment made) next rest
  moment_made from made moment next words rest is low next_is later =
      on_moments from made is.times moment next words rest low is.enough is.all next_is later

  some_moment : (times moment : ℕ) (words : Words) → moment < r.until → start < moment → r.until ≤ moment + times → 0 < length (moments_on times r back start moment words).0
  some_moment zero moment words low after enough = absurd (omega arith)
  some_moment (suc times) moment words low after enough =
      let test : nat_lt moment r.until ≡ true = grind (arith, nat_tests) in
      let made : nat_lt start moment ≡ true = grind (arith, nat_tests) in
      rw (test, made) (omega arith)

  pub moments_more : (from : Words) (made : List ℕ) (moment : ℕ) (words : Words) → IsOnMoments from made moment words → moment < r.until → start < moment → length made < length (moments_of r back start from).0
  moments_more from made moment words is low after =
      let more = some_moment is.times moment words low after is.enough in
      let long = length-append made (moments_on is.times r back start moment words).0 in
      let all : length (made ++ (moments_on is.times r back start moment words).0) ≡ length (moments_of r back start from).0 = ap (λ (p : List ℕ × Words). length p.0) is.all in
      omega arith
