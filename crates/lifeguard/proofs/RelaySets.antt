-- The keys of a tree of relays, as a finite set.
use Rattle.std.proofs.Common.{◌≡◌, ◌≢◌, ◌⊎◌, ◌↔◌, inl, inr, IsTrue, true≢false, ℕ, Bool, true, false, cond, not, ◌&&◌, ◌||◌, List, refl, sym, ap, ◌∙◌}
use Rattle.std.specs.FinSet.{contains, insert, remove, from_list, contains-from_list, contains-insert, contains-remove, same_set}
use Rattle.std.specs.Cmp.{IsTotalOrder, nat_cmp_total, eq_by_cmp_equiv, on_total, then_total}
use Rattle.std.specs.Ordering.{nat_cmp, eq_by_cmp}
use Rattle.std.specs.List.{list_any}
use Rattle.std.proofs.lemmas.Map.Lookups.{CmpEqualImpliesEq, exact_pairs, exact_unsigned}
use Rattle.std.proofs.lemmas.Map.Views.{tells_apart}
use Rattle.lifeguard.specs.Relays.{relay_cmp, RelaySet}

pub relays_total : IsTotalOrder relay_cmp
relays_total = then_total (on_total (λ p. p.0) nat_cmp_total) (on_total (λ p. p.1) nat_cmp_total)

-- relays that compare alike are one
pub exact_relays : CmpEqualImpliesEq relay_cmp
exact_relays = exact_pairs nat_cmp nat_cmp exact_unsigned exact_unsigned

-- whether a list of relays has one
abbrev pub has_relay : List (ℕ × ℕ) → ℕ × ℕ → Bool
has_relay keys q = list_any (eq_by_cmp relay_cmp q) keys

pub contains_relay :
    (keys : List (ℕ × ℕ)) (q : ℕ × ℕ) → contains (from_list {R = relay_cmp} keys) q ≡ has_relay keys q
contains_relay keys q = contains-from_list relays_total keys q

module _ {P : Type 0} where
  -- by a test a that decides P, "a or b" is "P or b"
  either_is : (a b : Bool) → (a ≡ true → P) → (P → a ≡ true) → IsTrue (a || b) ↔ (P ⊎ IsTrue b)
  either_is true b fact test = (λ _. inl (fact refl), λ _. refl)
  either_is false b fact test = (λ h. inr h, λ h. elim h [ inl p ↦ absurd (true≢false (sym (test p))) | inr t ↦ t ])

  -- and "not a, and b" is "not P, and b"
  neither_is : (a b : Bool) → (a ≡ true → P) → (P → a ≡ true) → IsTrue (not a && b) ↔ ((P → ⊥) × IsTrue b)
  neither_is true b fact test = (λ h. absurd (true≢false (sym h)), λ h. absurd (h.0 (fact refl)))
  neither_is false b fact test = (λ h. (λ p. true≢false (sym (test p)), h), λ h. h.1)

-- the words of a tree's clauses, in those of a finite set's
cond-true : (a b x : Bool) → a ≡ b → cond a true x ≡ (b || x)
cond-true a true x h = ap (λ a. cond a true x) h
cond-true a false x h = ap (λ a. cond a true x) h

cond-false : (a b x : Bool) → a ≡ b → cond a false x ≡ (not b && x)
cond-false a true x h = ap (λ a. cond a false x) h
cond-false a false x h = ap (λ a. cond a false x) h

-- keys that have one relay more make a set that has it more
pub one_more :
    (old new : List (ℕ × ℕ)) (k : ℕ × ℕ)
    → ((q : ℕ × ℕ) → has_relay new q ≡ cond (eq_by_cmp relay_cmp k q) true (has_relay old q))
    → from_list {R = relay_cmp} new ≡ insert (from_list old) k
one_more old new k h = same_set relays_total exact_relays _ _ (λ q.
    contains_relay new q ∙ h q ∙ cond-true _ _ _ ((eq_by_cmp_equiv relays_total).symm k q)
    ∙ sym (contains-insert relays_total (from_list old) k q ∙ ap (λ b. eq_by_cmp relay_cmp q k || b) (contains_relay old q)))

-- keys that have one relay less make a set that has it less
pub one_less :
    (old new : List (ℕ × ℕ)) (k : ℕ × ℕ)
    → ((q : ℕ × ℕ) → has_relay new q ≡ cond (eq_by_cmp relay_cmp k q) false (has_relay old q))
    → from_list {R = relay_cmp} new ≡ remove (from_list old) k
one_less old new k h = same_set relays_total exact_relays _ _ (λ q.
    contains_relay new q ∙ h q ∙ cond-false _ _ _ ((eq_by_cmp_equiv relays_total).symm k q)
    ∙ sym (contains-remove relays_total (from_list old) k q ∙ ap (λ b. not (eq_by_cmp relay_cmp q k) && b) (contains_relay old q)))

one_relay : (q r : ℕ × ℕ) → eq_by_cmp relay_cmp q r ≡ true → q ≡ r
one_relay = tells_apart exact_relays

itself : (q r : ℕ × ℕ) → q ≡ r → eq_by_cmp relay_cmp q r ≡ true
itself q r h = ap (eq_by_cmp relay_cmp q) (sym h) ∙ (eq_by_cmp_equiv relays_total).refl q

-- a relay is in the set that another makes by being added: it is that one, or was there
pub has-insert :
    (relays : RelaySet) (relay other : ℕ × ℕ)
    → IsTrue (contains (insert relays relay) other) ↔ ((other ≡ relay) ⊎ IsTrue (contains relays other))
has-insert relays relay other =
    rw (contains-insert relays_total relays relay other)
    (either_is _ _ (one_relay other relay) (itself other relay))

-- a relay is in the set that another leaves by being removed: it isn't that one, and was there
pub has-remove :
    (relays : RelaySet) (relay other : ℕ × ℕ)
    → IsTrue (contains (remove relays relay) other) ↔ ((other ≢ relay) × IsTrue (contains relays other))
has-remove relays relay other =
    rw (contains-remove relays_total relays relay other)
    (neither_is _ _ (one_relay other relay) (itself other relay))
