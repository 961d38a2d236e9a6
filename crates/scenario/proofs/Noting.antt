-- Calendars: stretch by stretch and time by time.
use Rattle.std.proofs.Common.{◌≡◌, ◌<◌, ◌≤◌, ◌+◌, ◌-◌, ◌/◌, ◌%◌, ◌^◌, inl, inr, ℕ, List, Bool, true, false, ◌&&◌, ◌||◌, nat_lt, nat_le, nat_eq, length, get_or, set, take, min, refl, ap, sym, ◌∙◌, subst, arith}
use Rattle.std.specs.List.{list_any}
use Rattle.std.specs.Option.{option_map_or}
use Rattle.std.specs.Prelude.{bit_and, bit_or}
use Rattle.std.proofs.Math.Nat.{div-mul-le_self}
use Rattle.std.proofs.lemmas.Bool.{cases_lt, cases_eq, eq-eqb, ne_eqb, eqb-true, and_parts, leb-true, ltb-true}
use Rattle.std.proofs.lemmas.Nat.{pow_pos, le-div, and_le_l, and_or_self, and_or_apart, pow_apart}
use Rattle.std.proofs.lemmas.Option.{slice_get-get_or, slice_get_past}
use Rattle.std.proofs.lemmas.List.{get_or-set_same, get_or-set_other, get_or_default, length-set}
use Rattle.std.proofs.lemmas.List.Folds.{list_any_more}
use Rattle.scenario.specs.Calendar.{Stretches, bit_of, HasNoted, may_be_in}

-- ---- bits

-- a bit that is set stays so, whichever is set
bit_kept : (a i j : ℕ) → bit_and a (2 ^ j) ≡ 2 ^ j → bit_and (bit_or a (2 ^ i)) (2 ^ j) ≡ 2 ^ j
bit_kept a i j is = elim (cases_eq i j) as (λ _. bit_and (bit_or a (2 ^ i)) (2 ^ j) ≡ 2 ^ j) [
  | inl same ↦ ap (λ k. bit_and (bit_or a (2 ^ k)) (2 ^ j)) same ∙ and_or_self (2 ^ j) a
  | inr other ↦ and_or_apart (2 ^ j) a (2 ^ i) (pow_apart i j other) ∙ is
]

-- ---- stretches

-- a later moment isn't in an earlier stretch
pub in_order : (a b s : ℕ) → a ≤ b → a / 2 ^ s ≤ b / 2 ^ s
in_order a b s low = le-div (a / 2 ^ s) b (2 ^ s) (pow_pos s) (let e = div-mul-le_self a (2 ^ s) in omega (arith, e, low))

module _ (old : List ℕ) (k owner : ℕ) (within : k < length old) where
  abbrev new : List ℕ
  new = set old k (bit_or (get_or old k 0) (bit_of owner))

  pub noted_here : HasNoted new k owner
  noted_here = ap (λ n. bit_and n (bit_of owner)) (get_or-set_same old k (bit_or (get_or old k 0) (bit_of owner)) 0 within) ∙ and_or_self (bit_of owner) (get_or old k 0)

  pub noted_still : (i o : ℕ) → HasNoted old i o → HasNoted new i o
  noted_still i o is = elim (cases_eq i k) as (λ _. HasNoted new i o) [
    | inl same ↦
        ap (λ n. bit_and (get_or new n 0) (bit_of o)) same
        ∙ ap (λ n. bit_and n (bit_of o)) (get_or-set_same old k (bit_or (get_or old k 0) (bit_of owner)) 0 within)
        ∙ bit_kept (get_or old k 0) (owner % 64) (o % 64) (ap (λ n. bit_and (get_or old n 0) (bit_of o)) (sym same) ∙ is)
    | inr other ↦ ap (λ n. bit_and n (bit_of o)) (get_or-set_other old k i (bit_or (get_or old k 0) (bit_of owner)) 0 other) ∙ is
  ]

-- a stretch more in which an owner is noted
module _ (start old : List ℕ) (first k owner x bit : ℕ) (within : k < length old) (is : x ≡ get_or old k x) (of : bit ≡ bit_of owner) (same : length old ≡ length start)
    (noted : (i : ℕ) → first ≤ i → i < k → i < length start → HasNoted old i owner) (kept : (i o : ℕ) → HasNoted start i o → HasNoted old i o) where
  abbrev made : List ℕ
  made = set old k (bit_or x bit)

  made_is : made ≡ new old k owner within
  made_is = ap (λ y. set old k (bit_or y bit)) (is ∙ get_or_default old k x 0 within) ∙ ap (λ b. set old k (bit_or (get_or old k 0) b)) of

  pub made_same : length made ≡ length start
  made_same = length-set old k (bit_or x bit) ∙ same

  pub made_noted : (i : ℕ) → first ≤ i → i < k + 1 → i < length start → HasNoted made i owner
  made_noted i low high inside = subst (λ xs. HasNoted xs i owner) (sym made_is) (
      elim (cases_lt i k) as (λ _. HasNoted (new old k owner within) i owner) [
        | inl a ↦ noted_still old k owner within i owner (noted i low a inside)
        | inr b ↦ (let last : i ≡ k = omega (arith, high, b) in subst (λ j. HasNoted (new old k owner within) j owner) (sym last) (noted_here old k owner within))
      ]
      )

  pub made_kept : (i o : ℕ) → HasNoted start i o → HasNoted made i o
  made_kept i o was = subst (λ xs. HasNoted xs i o) (sym made_is) (noted_still old k owner within i o (kept i o was))

-- ---- moments

abbrev tells : ℕ → ℕ → ℕ → Bool
tells unknown o owners = nat_eq (bit_and owners (bit_of o)) (bit_of o) || nat_eq (bit_and unknown (bit_of o)) (bit_of o)

pub past : (c : Stretches) (o t : ℕ) → length c.owners ≤ t / 2 ^ c.shift → may_be_in c o t ≡ true
unfolding may_be_in
past c o t over = ap (λ x. option_map_or (tells c.unknown o) x true) (slice_get_past c.owners (t / 2 ^ c.shift) over)

in_stretch : (c : Stretches) (o t : ℕ) → t / 2 ^ c.shift < length c.owners → may_be_in c o t ≡ tells c.unknown o (get_or c.owners (t / 2 ^ c.shift) 0)
unfolding may_be_in
in_stretch c o t within = ap (λ x. option_map_or (tells c.unknown o) x true) (slice_get-get_or c.owners (t / 2 ^ c.shift) 0 within)

or_true : (b : Bool) → (b || true) ≡ true
or_true true = refl
or_true false = refl

either : (a b : Bool) (P : Type 0) → (a || b) ≡ true → (a ≡ true → P) → (b ≡ true → P) → P
either true b P is one other = one refl
either false b P is one other = other is

noted_in : (c : Stretches) (o t : ℕ) → t / 2 ^ c.shift < length c.owners → HasNoted c.owners (t / 2 ^ c.shift) o → may_be_in c o t ≡ true
noted_in c o t within is = in_stretch c o t within ∙ ap (λ b. b || nat_eq (bit_and c.unknown (bit_of o)) (bit_of o)) (eq-eqb _ _ is)

-- of an owner of whom nothing is known
unknown_in : (c : Stretches) (o t : ℕ) → bit_and c.unknown (bit_of o) ≡ bit_of o → may_be_in c o t ≡ true
unknown_in c o t is = elim (cases_lt (t / 2 ^ c.shift) (length c.owners)) as (λ _. may_be_in c o t ≡ true) [
  | inl a ↦
      in_stretch c o t a ∙ ap (λ b. nat_eq (bit_and (get_or c.owners (t / 2 ^ c.shift) 0) (bit_of o)) (bit_of o) || b) (eq-eqb _ _ is)
      ∙ or_true (nat_eq (bit_and (get_or c.owners (t / 2 ^ c.shift) 0) (bit_of o)) (bit_of o))
  | inr b ↦ past c o t b
]

-- nobody is noted where no bit is set
no_bits : (o : ℕ) → nat_eq (bit_and 0 (bit_of o)) (bit_of o) ≡ false
no_bits o = ne_eqb (bit_and 0 (bit_of o)) (bit_of o) (λ same. let few = and_le_l 0 (bit_of o) in let some = pow_pos (o % 64) in omega (arith, few, some, same))

pub none_noted : (c : Stretches) (o t end : ℕ) → t ≤ end → end / 2 ^ c.shift < length c.owners → ((k : ℕ) → get_or c.owners k 0 ≡ 0) → c.unknown ≡ 0 → may_be_in c o t ≡ false
none_noted c o t end early all empty known =
    in_stretch c o t (let low = in_order t end c.shift early in omega (arith, low, all))
    ∙ ap (tells c.unknown o) (empty (t / 2 ^ c.shift))
    ∙ ap (λ u. tells u o 0) known
    ∙ ap (λ b. b || nat_eq (bit_and 0 (bit_of o)) (bit_of o)) (no_bits o) ∙ no_bits o

-- a time that is past the last stretch
pub past_all : (c : Stretches) (o from until first last end : ℕ) → first ≡ from / 2 ^ c.shift → last ≡ (until - 1) / 2 ^ c.shift → end ≡ min (length c.owners) (last + 1) → end ≤ first
    → (t : ℕ) → from ≤ t → t < until → may_be_in c o t ≡ true
past_all c o from until first last end begins ends all late t low high =
    past c o t (let e = in_order from t c.shift low in let f = in_order t (until - 1) c.shift (omega (arith, high)) in omega (arith, e, f, begins, ends, all, late))

-- nothing is known of one owner more
module _ (old : Stretches) (owner bit : ℕ) (of : bit ≡ bit_of owner) where
  abbrev less : Stretches
  less = record { shift = old.shift; owners = old.owners; unknown = bit_or old.unknown bit }

  pub now_unknown : (t : ℕ) → may_be_in less owner t ≡ true
  now_unknown t = unknown_in less owner t (ap (λ b. bit_and (bit_or old.unknown b) (bit_of owner)) of ∙ and_or_self (bit_of owner) old.unknown)

  pub others_kept : (o t : ℕ) → may_be_in old o t ≡ true → may_be_in less o t ≡ true
  others_kept o t is = elim (cases_lt (t / 2 ^ old.shift) (length old.owners)) as (λ _. may_be_in less o t ≡ true) [
    | inl a ↦ either _ _ (may_be_in less o t ≡ true) (sym (in_stretch old o t a) ∙ is)
        (λ noted. noted_in less o t a (eqb-true _ _ noted))
        (λ unknown. unknown_in less o t (ap (λ b. bit_and (bit_or old.unknown b) (bit_of o)) of ∙ bit_kept old.unknown (owner % 64) (o % 64) (eqb-true _ _ unknown)))
    | inr b ↦ past less o t b
  ]

-- a time is noted in its stretches
module _ (old new : Stretches) (owner from until first last : ℕ) (shift : new.shift ≡ old.shift) (unknown : new.unknown ≡ old.unknown) (same : length new.owners ≡ length old.owners)
    (begins : first ≡ from / 2 ^ old.shift) (ends : last ≡ (until - 1) / 2 ^ old.shift)
    (noted : (k : ℕ) → first ≤ k → k < last + 1 → k < length old.owners → HasNoted new.owners k owner)
    (kept : (k o : ℕ) → HasNoted old.owners k o → HasNoted new.owners k o) where
  abbrev at : ℕ → ℕ
  at t = t / 2 ^ new.shift

  place : (t : ℕ) → at t ≡ t / 2 ^ old.shift
  place t = ap (λ s. t / 2 ^ s) shift

  pub time_noted : (t : ℕ) → from ≤ t → t < until → may_be_in new owner t ≡ true
  time_noted t low high = elim (cases_lt (at t) (length new.owners)) as (λ _. may_be_in new owner t ≡ true) [
    | inl a ↦ noted_in new owner t a (noted (at t)
        (let e = in_order from t old.shift low in omega (arith, e, begins, place t))
        (let e = in_order t (until - 1) old.shift (omega (arith, high)) in omega (arith, e, ends, place t))
        (omega (arith, a, same)))
    | inr b ↦ past new owner t b
  ]

  pub times_kept : (o t : ℕ) → may_be_in old o t ≡ true → may_be_in new o t ≡ true
  times_kept o t is = elim (cases_lt (at t) (length new.owners)) as (λ _. may_be_in new o t ≡ true) [
    | inl a ↦ (let there : t / 2 ^ old.shift < length old.owners = (let e = place t in omega (arith, a, same, e)) in
        either _ _ (may_be_in new o t ≡ true) (sym (in_stretch old o t there) ∙ is)
        (λ noted. noted_in new o t a (subst (λ k. HasNoted new.owners k o) (sym (place t)) (kept (t / 2 ^ old.shift) o (eqb-true _ _ noted))))
        (λ isnt. unknown_in new o t (ap (λ u. bit_and u (bit_of o)) unknown ∙ eqb-true _ _ isnt)))
    | inr b ↦ past new o t b
  ]

-- ---- entries

-- an entry more
pub entry_more : {E : Type 0} (p : E → Bool) (es : List E) (i : ℕ) (e : E) (old new : Stretches) (o t : ℕ) → i < length es → e ≡ get_or es i e
    → (may_be_in old o t ≡ true → may_be_in new o t ≡ true) → (list_any p (take i es) ≡ true → may_be_in old o t ≡ true) → (p e ≡ true → may_be_in new o t ≡ true)
    → list_any p (take (i + 1) es) ≡ true → may_be_in new o t ≡ true
entry_more p es i e old new o t within here kept before this is =
    either (list_any p (take i es)) (p e) (may_be_in new o t ≡ true)
    (ap (λ q. list_any p (take i es) || p q) here ∙ sym (list_any_more p es i e within) ∙ is)
    (λ earlier. kept (before earlier))
    this

-- the time of an owner's entry is noted
pub its_time : (new : Stretches) (k from until owner begin end m t : ℕ) → k ≡ owner → from ≡ begin → until ≡ end → ((t : ℕ) → from ≤ t → t < until → may_be_in new k t ≡ true)
    → (nat_eq owner m && (nat_le begin t && nat_lt t end)) ≡ true → may_be_in new m t ≡ true
its_time new k from until owner begin end m t same begins ends noted is =
    let both = and_parts (nat_eq owner m) (nat_le begin t && nat_lt t end) is in
    let times = and_parts (nat_le begin t) (nat_lt t end) both.1 in
    let low = leb-true begin t times.0 in
    let high = ltb-true t end times.1 in
    subst (λ o. may_be_in new o t ≡ true) (same ∙ eqb-true owner m both.0) (noted t (omega (arith, begins, low)) (omega (arith, ends, high)))
