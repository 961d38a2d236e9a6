-- All that a member knows, as a welcome, a push and a pull hold it.
use Rattle.std.proofs.Common.{◌≡◌, ℕ, Bool, true, false, T, ◌&&◌, List, [], ◌∷◌, map, refl}
use Rattle.std.specs.Prelude.{All}
use Rattle.std.specs.List.{AllByRecursion}
use Rattle.std.specs.List.Sorted.{IsStrictlySortedBy, IsStrictlyIncreasing}
use Rattle.std.specs.Ordering.{nat_cmp, is_lt}
use Rattle.std.specs.declared.cmp.Ordering.{Ordering}
use Rattle.std.specs.declared.cmp.Ordering.TheVariants.{Less, Equal, Greater}
use Rattle.std.specs.FinMap.{entries, insert, entries_sorted}
use Rattle.std.specs.FinMap.Entries as by
use Rattle.std.proofs.lemmas.List.Elements.{All-from_recursion}
use Rattle.std.proofs.lemmas.Map.Keys.{IsStrictlyIncreasing-from_sorted}
use Rattle.incarnation.specs.declared.Claim.{Claim}
use Rattle.incarnation.specs.declared.Claim.TheVariants.{Alive}
use Rattle.incarnation.specs.declared.Update.{Update}
use Rattle.membership.specs.Table.{Known, update_by, updates_by}
use Rattle.member.specs.State.{State}
use Rattle.member.specs.Wholes.{whole_table, whole_state, own_word}

abbrev Entry : Type 0
Entry = ℕ × (Claim × ℕ)

by_one : (me : ℕ) (es : List Entry) → AllByRecursion (λ (u : Update). u.accuser ≡ me) (map (update_by me) es)
by_one me [] = tt
by_one me (e ∷ es) = (refl, by_one me es)

accused_in : (me : ℕ) (table : Known) → All (λ (u : Update). u.accuser ≡ me) (updates_by me table)
unfolding updates_by
accused_in me table = All-from_recursion (λ (u : Update). u.accuser ≡ me) (map (update_by me) (entries table)) (by_one me (entries table))

pub accused_by_sender : (me incarnation : ℕ) (table : Known) → All (λ (u : Update). u.accuser ≡ me) (whole_table me incarnation table)
unfolding whole_table
accused_by_sender me incarnation table = accused_in me (insert table me (Alive, incarnation))

pub state_accused : (me : ℕ) (t : State) → All (λ (u : Update). u.accuser ≡ me) (whole_state me t)
unfolding whole_state
state_accused me t = accused_in me (insert t.table me (own_word t.life.leaving, t.incarnation))

first : (a b : Bool) → T (a && b) → T a
first true b h = tt
first false b h = absurd h

second : (a b : Bool) → T (a && b) → T b
second true b h = h
second false b h = absurd h

less : (o : Ordering) → T (is_lt o) → o ≡ Less
less Less h = refl
less Equal h = absurd h
less Greater h = absurd h

above : (q me : ℕ) (es : List Entry) → T (by.below_all nat_cmp q es)
    → AllByRecursion (λ x. nat_cmp q x ≡ Less) (map (λ (u : Update). u.subject) (map (update_by me) es))
above q me [] h = tt
above q me (e ∷ es) h = (less (nat_cmp q e.0) (first _ _ h), above q me es (second _ _ h))

sorted : (me : ℕ) (es : List Entry) → T (by.is_sorted nat_cmp es)
    → IsStrictlySortedBy nat_cmp (map (λ (u : Update). u.subject) (map (update_by me) es))
unfolding IsStrictlySortedBy
sorted me [] h = tt
sorted me (e ∷ es) h = (above e.0 me es (first _ _ h), sorted me es (second _ _ h))

rising : (me : ℕ) (table : Known) → IsStrictlyIncreasing (map (λ (u : Update). u.subject) (updates_by me table))
unfolding updates_by
rising me table = IsStrictlyIncreasing-from_sorted _ (sorted me (entries table) (entries_sorted table))

pub subjects_rise : (me incarnation : ℕ) (table : Known) → IsStrictlyIncreasing (map (λ (u : Update). u.subject) (whole_table me incarnation table))
unfolding whole_table
subjects_rise me incarnation table = rising me (insert table me (Alive, incarnation))

pub state_rises : (me : ℕ) (t : State) → IsStrictlyIncreasing (map (λ (u : Update). u.subject) (whole_state me t))
unfolding whole_state
state_rises me t = rising me (insert t.table me (own_word t.life.leaving, t.incarnation))
