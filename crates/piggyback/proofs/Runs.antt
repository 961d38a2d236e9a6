-- An update through the uses of a buffer under one limit.
use Rattle.std.proofs.Common.{◌≡◌, ◌≢◌, ℕ, ◌+◌, ◌<◌, ◌≤◌, cond, ltb, List, [], ◌∷◌, Option, Some, None, refl, sym, ap, ◌∙◌, inl, inr, arith, zero-add}
use Rattle.std.specs.Cmp.{nat_cmp_total}
use Rattle.std.specs.Option.{option_and_then}
use Rattle.std.specs.FinMap.{get, insert, get-insert}
use Rattle.std.proofs.lemmas.Bool.{cases_lt, lt-ltb, le-ltb}
use Rattle.incarnation.specs.declared.Update.{Update}
use Rattle.piggyback.specs.Picked.{Counted, HeldUpdates, picked, left_by_pick, is_of_subject}
use Rattle.piggyback.specs.Uses.{Use, Put, Pick, after_uses, picks_of, PutsNone}
use Rattle.piggyback.proofs.Counts.{kept, get-left_after, tied, not_tied}

-- a put of another subject leaves a subject as it was
get-other : (held : HeldUpdates) (update : Update) (subject : ℕ) → update.subject ≢ subject → get (insert held update.subject (update, 0)) subject ≡ get held subject
get-other held update subject other =
    get-insert nat_cmp_total held update.subject (update, 0) subject ∙ rw (not_tied subject update.subject (λ same. other (sym same))) refl

get-own : (held : HeldUpdates) (update : Update) → get (insert held update.subject (update, 0)) update.subject ≡ Some (update, 0)
get-own held update =
    get-insert nat_cmp_total held update.subject (update, 0) update.subject ∙ rw (tied update.subject update.subject refl) refl

-- an update with this count, if that is below the limit
abbrev below : ℕ → Update → ℕ → Option Counted
below limit update count = cond (ltb count limit) (Some (update, count)) None

stays : (limit count n : ℕ) (update : Update) → n ≡ count → count < limit → below limit update n ≡ Some (update, count)
stays limit count n update same lt = rw (lt-ltb n limit (omega arith)) (ap (λ (k : ℕ). Some (update, k)) same)

goes : (limit count : ℕ) (update : Update) → limit ≤ count → below limit update count ≡ None
goes limit count update le = rw (le-ltb count limit le) refl

module _ (limit : ℕ) where
  -- an update that is gone stays away
  gone : (subject : ℕ) (uses : List Use) (held : HeldUpdates) → PutsNone subject uses → get held subject ≡ None → get (after_uses limit uses held) subject ≡ None
  gone subject [] held none absent = absent
  gone subject (Put update ∷ uses) held none absent = gone subject uses _ none.1 (get-other held update subject none.0 ∙ absent)
  gone subject (Pick carry buddy ∷ uses) held none absent =
      gone subject uses _ none (get-left_after (picked held carry limit buddy) limit held subject ∙ ap (option_and_then (kept (picked held carry limit buddy) limit)) absent)

  -- an update with a count below the limit, through the uses
  through : (update : Update) (count : ℕ) (uses : List Use) (held : HeldUpdates) → PutsNone update.subject uses → get held update.subject ≡ Some (update, count) → count < limit → get (after_uses limit uses held) update.subject ≡ below limit update (count + picks_of update.subject limit uses held)
  through update count [] held none there lt = there ∙ sym (stays limit count (count + 0) update (omega arith) lt)
  through update count (Put other ∷ uses) held none there lt =
      through update count uses _ none.1 (get-other held other update.subject none.0 ∙ there) lt
  through update count (Pick carry buddy ∷ uses) held none there lt =
      let carried = picked held carry limit buddy in
      let one : ℕ = cond (is_of_subject update.subject carried) 1 0 in
      let next = left_by_pick held carry limit buddy in
      let more = picks_of update.subject limit uses next in
      let after : get next update.subject ≡ below limit update (count + one) = get-left_after carried limit held update.subject ∙ ap (option_and_then (kept carried limit)) there in
      let sum : count + one + more ≡ count + (one + more) = omega arith in
      elim (cases_lt (count + one) limit) [
        | inl still ↦
            through update (count + one) uses next none (after ∙ stays limit (count + one) (count + one) update refl still) still
            ∙ ap (below limit update) sum
        | inr over ↦
            gone update.subject uses next none (after ∙ goes limit (count + one) update over)
            ∙ sym (goes limit (count + (one + more)) update (omega arith))
      ]

-- an update stays as long as fewer picks carried its subject than the limit
pub last_pick : (held : HeldUpdates) (update : Update) (limit : ℕ) (uses : List Use) → 0 < limit → PutsNone update.subject uses → get (after_uses limit uses (insert held update.subject (update, 0))) update.subject ≡ cond (ltb (picks_of update.subject limit uses (insert held update.subject (update, 0))) limit) (Some (update, picks_of update.subject limit uses (insert held update.subject (update, 0)))) None
last_pick held update limit uses positive none =
    let start = insert held update.subject (update, 0) in
    through limit update 0 uses start none (get-own held update) positive
    ∙ ap (below limit update) (zero-add (picks_of update.subject limit uses start))
