-- Buffers in which each update stands under its own subject.
use Rattle.std.proofs.Common.{◌≡◌, ℕ, Bool, true, cond, ltb, List, [], ◌∷◌, map, filter, Option, Some, None, IfSome, refl, sym, ap, subst, ◌∙◌, inl, inr}
use Rattle.std.specs.Ordering.{nat_cmp}
use Rattle.std.specs.Cmp.{nat_cmp_total}
use Rattle.std.specs.Option.{option_and_then}
use Rattle.std.specs.FinMap.{empty, get, insert, entries, entries_sorted, values, get-empty, get-entries, get-insert}
use Rattle.std.specs.FinMap.Entries as by
use Rattle.std.proofs.lemmas.Bool.{and_parts, cases_eq, cond_both}
use Rattle.incarnation.specs.declared.Update.{Update}
use Rattle.piggyback.specs.Picked.{Counted, HeldUpdates, IsOwn, AreDistinct, counted_with, picked, left_by_pick}
use Rattle.piggyback.specs.Keyed.{keyed}
use Rattle.piggyback.proofs.Rising.{is_rising, rises, true_from_T}
use Rattle.piggyback.proofs.Counts.{kept, get-left_after, find_below_all, tied, not_tied}
use Rattle.piggyback.proofs.Once.{distinct_rising}

-- what is found is about the subject
abbrev pub Own : ℕ → Option Counted → Type 0
Own subject o = IfSome o (λ it. it.0.subject ≡ subject)

pub own-empty : IsOwn empty
own-empty subject = subst (Own subject) (sym (get-empty nat_cmp subject)) tt

pub own-insert : (held : HeldUpdates) (update : Update) → IsOwn held → IsOwn (insert held update.subject (update, 0))
own-insert held update own subject =
    subst (Own subject) (sym (get-insert nat_cmp_total held update.subject (update, 0) subject))
    (elim (cases_eq subject update.subject) [
      | inl same ↦ rw (tied subject update.subject same) (sym same)
      | inr other ↦ rw (not_tied subject update.subject other) (own subject)
    ])

own-kept : (updates : List Update) (limit subject : ℕ) (o : Option Counted) → Own subject o → Own subject (option_and_then (kept updates limit) o)
own-kept updates limit subject None own = tt
own-kept updates limit subject (Some it) own =
    cond_both (ltb (counted_with updates it).1 limit) (Some (counted_with updates it)) None (Own subject) (λ _. own) (λ _. tt)

pub own-left : (held : HeldUpdates) (carry limit : ℕ) (buddy : Option Update) → IsOwn held → IsOwn (left_by_pick held carry limit buddy)
own-left held carry limit buddy own subject =
    let carried = picked held carry limit buddy in
    subst (Own subject) (sym (get-left_after carried limit held subject)) (own-kept carried limit subject (get held subject) (own subject))

-- entries in order, each under its own subject, are those of their values
keyed-values : (es : List (ℕ × Counted)) → by.is_sorted nat_cmp es ≡ true → ((subject : ℕ) → Own subject (by.find nat_cmp subject es)) → keyed (map (λ e. e.1) es) ≡ es
keyed-values [] sorted own = refl
keyed-values (e ∷ es) sorted own =
    let parts = and_parts (by.below_all nat_cmp e.0 es) (by.is_sorted nat_cmp es) sorted in
    let here : e.1.0.subject ≡ e.0 = subst (λ b. Own e.0 (cond b (Some e.1) (by.find nat_cmp e.0 es))) (tied e.0 e.0 refl) (own e.0) in
    let rest = keyed-values es parts.1 (λ subject. elim (cases_eq subject e.0) [
      | inl same ↦ subst (Own subject) (sym (find_below_all subject es (subst (λ k. by.below_all nat_cmp k es ≡ true) (sym same) parts.0))) tt
      | inr other ↦ subst (λ b. Own subject (cond b (Some e.1) (by.find nat_cmp subject es))) (not_tied subject e.0 other) (own subject)
    ]) in
    ap (λ k. (k, e.1) ∷ keyed (map (λ x. x.1) es)) here ∙ ap (λ l. e ∷ l) rest

pub values_keyed : (held : HeldUpdates) → IsOwn held → keyed (values held) ≡ entries held
values_keyed held own =
    keyed-values (entries held) (true_from_T _ (entries_sorted held)) (λ subject. subst (Own subject) (get-entries held subject) (own subject))

-- so their subjects rise
pub rising-values : (held : HeldUpdates) → IsOwn held → is_rising (values held) ≡ true
rising-values held own = ap (by.is_sorted nat_cmp) (values_keyed held own) ∙ true_from_T _ (entries_sorted held)

pub distinct-values : (held : HeldUpdates) → IsOwn held → (test : Counted → Bool) → AreDistinct (filter test (values held))
distinct-values held own test = distinct_rising test (values held) (rises (values held) (rising-values held own))
