-- The entries of a tree as a table.
use Rattle.std.proofs.Common.{◌≡◌, ℕ, ◌+◌, Bool, true, false, not, nat_eq, ◌&&◌, List, [], ◌∷◌, length, map, filter, sym, ap, ◌∙◌, T}
use Rattle.std.specs.Prelude.{count_by}
use Rattle.std.specs.List.{AllByRecursion}
use Rattle.std.specs.List.Sorted.{IsStrictlySortedBy}
use Rattle.std.specs.Map.{keys_of}
use Rattle.std.specs.Ordering.{nat_cmp, is_lt}
use Rattle.std.specs.Cmp.{nat_cmp_total}
use Rattle.std.specs.declared.cmp.Ordering.TheVariants.{Less}
use Rattle.std.specs.FinMap.{entries, from_sorted, entries-from_sorted, get-from_entries, get-from_sorted, same_map, nat_cmp-IsAntisymmetric}
use Rattle.std.specs.FinMap.Entries as by
use Rattle.incarnation.specs.declared.Claim.{Claim}
use Rattle.membership.specs.Table.{Known, known_of, is_alive, is_confirm, live_count, known_count, alive_but, update_by, updates_by}

abbrev Entry : Type 0
Entry = ℕ × (Claim × ℕ)

both : (a b : Bool) → T a → T b → T (a && b)
both true true h g = tt
both true false h g = g
both false b h g = h

below : (k : ℕ) (es : List Entry) → AllByRecursion (λ y. nat_cmp k y ≡ Less) (keys_of es) → T (by.below_all nat_cmp k es)
below k [] h = tt
below k (e ∷ es) h = both (is_lt (nat_cmp k e.0)) (by.below_all nat_cmp k es) (rw (h.0) tt) (below k es h.1)

sorted : (es : List Entry) → IsStrictlySortedBy nat_cmp (keys_of es) → T (by.is_sorted nat_cmp es)
unfolding IsStrictlySortedBy
sorted [] h = tt
sorted (e ∷ es) h = both (by.below_all nat_cmp e.0 es) (by.is_sorted nat_cmp es) (below e.0 es h.0) (sorted es h.1)

-- the table of entries in order has just these entries
pub entries-known_of : (es : List Entry) → IsStrictlySortedBy nat_cmp (keys_of es) → entries (known_of es) ≡ es
entries-known_of es ordered =
    let t = sorted es ordered in
    let same : ◌≡◌ {A = Known} (known_of es) (from_sorted es) = same_map nat_cmp_total nat_cmp-IsAntisymmetric _ _ (λ q. get-from_entries nat_cmp_total es q ∙ sym (get-from_sorted nat_cmp es q t)) in
    ap entries same ∙ entries-from_sorted nat_cmp es t

-- n by the entries
pub live_count-entries : (es : List Entry) → IsStrictlySortedBy nat_cmp (keys_of es) → live_count (known_of es) ≡ 1 + count_by (λ (e : Entry). not (is_confirm e.1.0)) es
unfolding live_count
live_count-entries es ordered = ap (λ l. 1 + count_by (λ (e : Entry). not (is_confirm e.1.0)) l) (entries-known_of es ordered)

-- and with those that are confirmed
pub known_count-entries : (es : List Entry) → IsStrictlySortedBy nat_cmp (keys_of es) → known_count (known_of es) ≡ 1 + length es
unfolding known_count
known_count-entries es ordered = ap (λ (l : List Entry). 1 + length l) (entries-known_of es ordered)

pub alive_but-entries : (member : ℕ) (es : List Entry) → IsStrictlySortedBy nat_cmp (keys_of es)
    → alive_but member (known_of es) ≡ map (λ (e : Entry). e.0) (filter (λ (e : Entry). is_alive e.1.0 && not (nat_eq e.0 member)) es)
unfolding alive_but
alive_but-entries member es ordered = ap (λ l. map (λ (e : Entry). e.0) (filter (λ (e : Entry). is_alive e.1.0 && not (nat_eq e.0 member)) l)) (entries-known_of es ordered)

pub updates_by-entries : (accuser : ℕ) (es : List Entry) → IsStrictlySortedBy nat_cmp (keys_of es) → updates_by accuser (known_of es) ≡ map (update_by accuser) es
unfolding updates_by
updates_by-entries accuser es ordered = ap (map (update_by accuser)) (entries-known_of es ordered)
