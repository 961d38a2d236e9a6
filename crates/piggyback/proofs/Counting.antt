-- What stands of each subject while the updates of a message are counted, with counts that stop at the greatest number of the machine.
use Rattle.std.proofs.Common.{◌≡◌, ℕ, zero, suc, ◌+◌, ◌-◌, ◌^◌, ◌<◌, ◌≤◌, Bool, true, false, cond, ltb, eqb, ◌||◌, min, List, [], ◌∷◌, length, get_or, take, Option, Some, None, IfSome, refl, sym, ap, subst, ◌∙◌, inl, inr, arith}
use Rattle.std.specs.List.{count_by, insert, remove, position, position_or_len}
use Rattle.std.specs.Option.{option_map, option_and_then}
use Rattle.std.proofs.lemmas.Bool.{cases_Bool, cases_eq, cases_lt, ltb-true, lt-ltb, le-ltb, eq-eqb, ne_eqb}
use Rattle.incarnation.specs.declared.Update.{Update}
use Rattle.piggyback.specs.Picked.{Counted, counted_with, goes_before, is_of_subject}
use Rattle.piggyback.specs.Keyed.{found_of, is_in_order, counted_once, counted_within, IsPut}
use Rattle.piggyback.proofs.Tally.{one_of, count_by-cons}
use Rattle.piggyback.proofs.Counts.{kept}
use Rattle.piggyback.proofs.Sending.{about as about_entry, own_found, if_passes, place_within, place_own, found_at_place, put_over}

-- one entry was sent once more, if it is there
pub counted_there : (subject other : ℕ) (old new : List Counted) (z : Counted) → IsPut (counted_once z) old new → z.0.subject ≡ subject → found_of subject old ≡ Some z → found_of other new ≡ cond (eqb other subject) (option_map counted_once (found_of other old)) (found_of other old)
counted_there subject other old new z put own there =
    put.stands other
    ∙ elim (cases_eq other subject) [
      | inl same ↦ rw (eq-eqb other z.0.subject (same ∙ sym own), eq-eqb other subject same) (sym (ap (option_map counted_once) (subst (λ s. found_of s old ≡ Some z) (sym same) there)))
      | inr differ ↦ rw (ne_eqb other z.0.subject (λ k. differ (k ∙ own)), ne_eqb other subject differ) refl
    ]

pub counted_absent : (subject other : ℕ) (old : List Counted) → found_of subject old ≡ None → found_of other old ≡ cond (eqb other subject) (option_map counted_once (found_of other old)) (found_of other old)
counted_absent subject other old none =
    elim (cases_eq other subject) [
      | inl same ↦ let gone : found_of other old ≡ None = subst (λ s. found_of s old ≡ None) (sym same) none in rw (eq-eqb other subject same, gone) refl
      | inr differ ↦ rw (ne_eqb other subject differ) refl
    ]

-- the entry at the subject's place is counted
pub count_at : (subject : ℕ) (these new : List Counted) (i : ℕ) (z : Counted) (n : ℕ) → is_in_order these ≡ true → Some i ≡ position (about_entry subject) these → z ≡ get_or these i z → n ≡ min (z.1 + 1) (2 ^ 64 - 1) → new ≡ insert (remove these i) (position_or_len (goes_before (z.0, n)) (remove these i)) (z.0, n) → IsPut (counted_once z) these new
count_at subject these new i z n ordered there is count new_is =
    let own : z.0.subject ≡ subject = ap (λ (x : Counted). x.0.subject) is ∙ place_own subject these i z there in
    let same : ◌≡◌ {A = Counted} (z.0, n) (counted_once z) = ap (λ k. (z.0, k)) count in
    put_over (counted_once z) these new i
    (new_is ∙ ap (λ (v : Counted). insert (remove these i) (position_or_len (goes_before v) (remove these i)) v) same)
    ordered (place_within subject these i there) (place_own subject these i (counted_once z) there ∙ sym own)

pub count_found : (subject other : ℕ) (these new : List Counted) (i : ℕ) (z : Counted) → is_in_order these ≡ true → Some i ≡ position (about_entry subject) these → z ≡ get_or these i z → IsPut (counted_once z) these new → found_of other new ≡ cond (eqb other subject) (option_map counted_once (found_of other these)) (found_of other these)
count_found subject other these new i z ordered there is put =
    let own = place_own subject these i z there in
    counted_there subject other these new z put (ap (λ (x : Counted). x.0.subject) is ∙ own)
    (found_at_place subject these i z ordered (place_within subject these i there) own ∙ ap Some (sym is))

pub suc_is : (i : ℕ) → suc i ≡ i + 1
suc_is i = omega arith

module _ (subject : ℕ) where
  abbrev about : Update → Bool
  about update = eqb update.subject subject

  or_not : (a b : Bool) → b ≡ false → (a || b) ≡ a
  or_not true b h = refl
  or_not false b h = h

  about_more : (us : List Update) (i : ℕ) (x : Update) → i < length us → x ≡ get_or us i x → is_of_subject subject (take (suc i) us) ≡ (is_of_subject subject (take i us) || about x)
  about_more [] i x lt is = absurd (omega arith)
  about_more (u ∷ us) zero x lt is = or_not (about u) false refl ∙ ap about (sym is)
  about_more (u ∷ us) (suc i) x lt is =
      elim (cases_Bool (about u)) [
        | inl own ↦ rw own refl
        | inr other ↦ rw other (about_more us i x (omega arith) is)
      ]

  there_once : (us : List Update) (i : ℕ) (x : Update) → i < length us → x ≡ get_or us i x → x.subject ≡ subject → 0 < count_by about us
  there_once [] i x lt is own = absurd (omega arith)
  there_once (u ∷ us) zero x lt is own = omega (arith, count_by-cons about u us, one_of _ (eq-eqb u.subject subject (ap (λ (y : Update). y.subject) (sym is) ∙ own)))
  there_once (u ∷ us) (suc i) x lt is own = omega (arith, count_by-cons about u us, there_once us i x (omega arith) is own)

  -- one that is there once isn't before its place
  not_before : (us : List Update) (i : ℕ) (x : Update) → count_by about us ≤ 1 → i < length us → x ≡ get_or us i x → x.subject ≡ subject → is_of_subject subject (take i us) ≡ false
  not_before [] i x once lt is own = absurd (omega arith)
  not_before (u ∷ us) zero x once lt is own = refl
  not_before (u ∷ us) (suc i) x once lt is own =
      elim (cases_Bool (about u)) [
        | inl here ↦ absurd (omega (arith, once, count_by-cons about u us, one_of _ here, there_once us i x (omega arith) is own))
        | inr other ↦ rw other (not_before us i x (omega (arith, once, count_by-cons about u us)) (omega arith) is own)
      ]

module _ (us : List Update) (i : ℕ) (x : Update) (lt : i < length us) (is : x ≡ get_or us i x) where
  once_more : (subject : ℕ) (o : Option Counted) → count_by (about subject) us ≤ 1 → IfSome o (λ it. it.0.subject ≡ subject) → cond (eqb subject x.subject) (option_map counted_once (option_map (counted_within (take i us)) o)) (option_map (counted_within (take i us)) o) ≡ option_map (counted_within (take (suc i) us)) o
  once_more subject None once own =
      elim (cases_Bool (eqb subject x.subject)) [
        | inl here ↦ rw here refl
        | inr other ↦ rw other refl
      ]
  once_more subject (Some it) once own =
      let more = about_more it.0.subject us i x lt is in
      elim (cases_eq subject x.subject) [
        | inl same ↦
            let before = not_before it.0.subject us i x (subst (λ s. count_by (about s) us ≤ 1) (sym own) once) lt is (sym same ∙ sym own) in
            let after : is_of_subject it.0.subject (take (suc i) us) ≡ true = more ∙ rw (before, eq-eqb x.subject it.0.subject (sym same ∙ sym own)) refl in
            rw (eq-eqb subject x.subject same, before, after) refl
        | inr differ ↦
            let after : is_of_subject it.0.subject (take (suc i) us) ≡ is_of_subject it.0.subject (take i us) = more ∙ or_not it.0.subject _ _ (ne_eqb x.subject it.0.subject (λ k. differ (sym own ∙ sym k))) in
            rw (ne_eqb subject x.subject differ, after) refl
      ]

  -- one more update is counted
  pub counted_more : (old now new : List Counted) → ((subject : ℕ) → count_by (about subject) us ≤ 1) → ((subject : ℕ) → found_of subject now ≡ option_map (counted_within (take i us)) (found_of subject old)) → ((subject : ℕ) → found_of subject new ≡ cond (eqb subject x.subject) (option_map counted_once (found_of subject now)) (found_of subject now)) → (subject : ℕ) → found_of subject new ≡ option_map (counted_within (take (i + 1) us)) (found_of subject old)
  counted_more old now new once so_far step subject =
      step subject
      ∙ ap (λ o. cond (eqb subject x.subject) (option_map counted_once o) o) (so_far subject)
      ∙ once_more subject (found_of subject old) (once subject) (own_found subject old)
      ∙ ap (λ n. option_map (counted_within (take n us)) (found_of subject old)) (suc_is i)

-- none is counted before the first
pub counted_first : (o : Option Counted) → o ≡ option_map (counted_within []) o
counted_first None = refl
counted_first (Some it) = refl

module _ (updates : List Update) (limit : ℕ) (fits : limit < 2 ^ 64) where
  capped : (n : ℕ) → ltb (min (n + 1) (2 ^ 64 - 1)) limit ≡ ltb (n + 1) limit
  capped n = elim (cases_lt (n + 1) limit) [
    | inl below ↦ lt-ltb _ _ (omega arith) ∙ sym (lt-ltb _ _ below)
    | inr above ↦ le-ltb _ _ (omega arith) ∙ sym (le-ltb _ _ above)
  ]

  same_test : (x : Counted) → ltb (counted_within updates x).1 limit ≡ ltb (counted_with updates x).1 limit
  same_test x =
      elim (cases_Bool (is_of_subject x.0.subject updates)) [
        | inl here ↦ rw here (capped x.1)
        | inr other ↦ rw other (ap (λ n. ltb n limit) (omega arith))
      ]

  same_count : (x : Counted) (m n : ℕ) → m ≡ n → ◌≡◌ {A = Counted} (x.0, m) (x.0, n)
  same_count x m n e = ap (λ k. (x.0, k)) e

  -- below a limit of the machine the counts are those without a limit
  same_kept : (x : Counted) → ltb (counted_with updates x).1 limit ≡ true → counted_within updates x ≡ counted_with updates x
  same_kept x left =
      elim (cases_Bool (is_of_subject x.0.subject updates)) [
        | inl here ↦ let below : x.1 + 1 < limit = ltb-true _ _ (rw here at left) in rw here (same_count x _ _ (omega arith))
        | inr other ↦ rw other (same_count x _ _ (omega arith))
      ]

  pub sent_kept : (o : Option Counted) → option_and_then (if_passes (λ it. ltb it.1 limit)) (option_map (counted_within updates) o) ≡ option_and_then (kept updates limit) o
  sent_kept None = refl
  sent_kept (Some it) =
      elim (cases_Bool (ltb (counted_with updates it).1 limit)) [
        | inl left ↦ rw (same_test it, left) (ap Some (same_kept it left))
        | inr dropped ↦ rw (same_test it, dropped) refl
      ]
