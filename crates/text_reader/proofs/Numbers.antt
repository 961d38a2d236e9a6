-- What a value says is one: numbers of ticks, shares, and how long a tick is.
use Rattle.std.proofs.Common.{◌≡◌, ◌≢◌, ◌≤◌, ℕ, ◌*◌, List, Option, Some, None, Result, Ok, Err, pos, negsuc, min, refl, ap, sym, subst, ◌∙◌, codes, inl, inr, arith, [], ◌∷◌}
use Rattle.toml.specs.Data.{Data, array, boolean, datetime, float, get, integer, string, table}
use Rattle.lengths.proofs.Parts.{same_share}
use Rattle.written_groups.specs.Values.{CountsAt, CountsIn}
use Rattle.written_schema.specs.Lowest.{LowestFrom}
use Rattle.written_schema.specs.Values.{tick_or_millisecond, IsTickOf}
use Rattle.written_values.proofs.Unique.{same_ticks}
use Rattle.written_values.specs.Values.{AreTicksIn, CountsTicks, IsShareIn, IsTickIn, MayBeShare, MayBeTick, SaysNumber, SaysShareIn, SaysTickIn, SaysTickOf, SaysTicksIn}
use Rattle.written_values.specs.declared.fault.ValueFault.{ValueFault}
use Rattle.written_values.specs.declared.fault.ValueFault.TheVariants.{WrongKind, OutOfRange}

-- ---- a number

one_number : (counts : Type 0) (is : ℕ → Type 0) → ((n : ℕ) → is n → counts) → ((a b : ℕ) → is a → is b → a ≡ b) → (least most : ℕ) (a b : Result ℕ ValueFault)
    → SaysNumber counts is least most a → SaysNumber counts is least most b → a ≡ b
one_number counts is may one least most (Ok a) (Ok b) first second = ap Ok (one a b first.0 second.0)
one_number counts is may one least most (Ok a) (Err WrongKind) first second = absurd (second (may a first.0))
one_number counts is may one least most (Ok a) (Err OutOfRange) first second = absurd (second.1 a first.0 first.1.0 first.1.1)
one_number counts is may one least most (Err WrongKind) (Ok b) first second = absurd (first (may b second.0))
one_number counts is may one least most (Err OutOfRange) (Ok b) first second = absurd (first.1 b second.0 second.1.0 second.1.1)
one_number counts is may one least most (Err WrongKind) (Err WrongKind) first second = refl
one_number counts is may one least most (Err WrongKind) (Err OutOfRange) first second = absurd (first second.0)
one_number counts is may one least most (Err OutOfRange) (Err WrongKind) first second = absurd (second first.0)
one_number counts is may one least most (Err OutOfRange) (Err OutOfRange) first second = refl

-- ---- ticks

pub one_count : (tick : ℕ) (d : Data) → 1 ≤ tick → (a b : ℕ) → AreTicksIn tick d a → AreTicksIn tick d b → a ≡ b
one_count tick (integer (pos number)) some a b first second = sym first ∙ second
one_count tick (integer (negsuc number)) some a b first second = absurd first
one_count tick (string word) some a b first second = same_ticks tick word a b some first second
one_count tick (float x) some a b first second = absurd first
one_count tick (boolean on) some a b first second = absurd first
one_count tick (datetime dt) some a b first second = absurd first
one_count tick (array ds) some a b first second = absurd first
one_count tick (table ms) some a b first second = absurd first

counts : (tick : ℕ) (d : Data) (number : ℕ) → AreTicksIn tick d number → CountsTicks d
counts tick (integer z) number is = tt
counts tick (string word) number is = (number * (tick * 1000000), is)
counts tick (float x) number is = absurd is
counts tick (boolean b) number is = absurd is
counts tick (datetime dt) number is = absurd is
counts tick (array ds) number is = absurd is
counts tick (table ms) number is = absurd is

pub one_said : (tick least most : ℕ) (d : Data) (a b : Result ℕ ValueFault) → 1 ≤ tick → SaysTicksIn tick least most d a → SaysTicksIn tick least most d b → a ≡ b
one_said tick least most d a b some first second =
    one_number (CountsTicks d) (AreTicksIn tick d) (counts tick d) (one_count tick d some) least most a b first second

ok_no_err : (a : ℕ) (fault : ValueFault) → Ok a ≢ Err fault
ok_no_err a fault same = cc

one_count_in : (tick least most : ℕ) (d : Data) (a b : ℕ) → 1 ≤ tick → CountsIn tick least most d a → CountsIn tick least most d b → a ≡ b
one_count_in tick least most d a b some (inl x) (inl y) = one_count tick d some a b x.0 y.0
one_count_in tick least most d a b some (inl x) (inr y) = absurd (ok_no_err a y.1.0 (one_said tick least most d (Ok a) (Err y.1.0) some x y.1.1))
one_count_in tick least most d a b some (inr x) (inl y) = absurd (ok_no_err b x.1.0 (one_said tick least most d (Ok b) (Err x.1.0) some y x.1.1))
one_count_in tick least most d a b some (inr x) (inr y) = x.0 ∙ sym y.0

pub one_count_at : (tick least most : ℕ) (d : Option Data) (a b : ℕ) → 1 ≤ tick → CountsAt tick least most d a → CountsAt tick least most d b → a ≡ b
one_count_at tick least most None a b some first second = first ∙ sym second
one_count_at tick least most (Some d) a b some first second = one_count_in tick least most d a b some first second

-- ---- shares

one_share : (d : Data) (a b : ℕ) → IsShareIn d a → IsShareIn d b → a ≡ b
one_share (integer (pos number)) a b first second = sym first ∙ second
one_share (integer (negsuc number)) a b first second = absurd first
one_share (string word) a b first second = same_share word a b first second
one_share (float x) a b first second = absurd first
one_share (boolean on) a b first second = absurd first
one_share (datetime dt) a b first second = absurd first
one_share (array ds) a b first second = absurd first
one_share (table ms) a b first second = absurd first

shares : (d : Data) (number : ℕ) → IsShareIn d number → MayBeShare d
shares (integer z) number is = tt
shares (string word) number is = (number, is)
shares (float x) number is = absurd is
shares (boolean b) number is = absurd is
shares (datetime dt) number is = absurd is
shares (array ds) number is = absurd is
shares (table ms) number is = absurd is

pub one_said_share : (d : Data) (a b : Result ℕ ValueFault) → SaysShareIn d a → SaysShareIn d b → a ≡ b
one_said_share d a b first second = one_number (MayBeShare d) (IsShareIn d) (shares d) (one_share d) 0 1000000 a b first second

-- ---- how long a tick is

one_length : (d : Data) (a b : ℕ) → IsTickIn d a → IsTickIn d b → a ≡ b
one_length (string word) a b first second = same_ticks 1 word a b (omega arith) first second
one_length (integer z) a b first second = absurd first
one_length (float x) a b first second = absurd first
one_length (boolean on) a b first second = absurd first
one_length (datetime dt) a b first second = absurd first
one_length (array ds) a b first second = absurd first
one_length (table ms) a b first second = absurd first

lengths : (d : Data) (number : ℕ) → IsTickIn d number → MayBeTick d
lengths (string word) number is = (number * (1 * 1000000), is)
lengths (integer z) number is = absurd is
lengths (float x) number is = absurd is
lengths (boolean b) number is = absurd is
lengths (datetime dt) number is = absurd is
lengths (array ds) number is = absurd is
lengths (table ms) number is = absurd is

pub one_said_tick : (d : Data) (a b : Result ℕ ValueFault) → SaysTickOf d a → SaysTickOf d b → a ≡ b
one_said_tick d a b first second = one_number (MayBeTick d) (IsTickIn d) (lengths d) (one_length d) 1 1000000 a b first second

one_tick_in : (d : Option Data) (a b : Result ℕ ValueFault) → SaysTickIn d a → SaysTickIn d b → a ≡ b
one_tick_in None a b first second = first ∙ sym second
one_tick_in (Some d) a b first second = one_said_tick d a b first second

pub one_tick : (d : Data) (a b : ℕ) → IsTickOf d a → IsTickOf d b → a ≡ b
one_tick d a b first second =
    first.2 ∙ ap tick_or_millisecond (one_tick_in (get (codes "tick") d) first.0 second.0 first.1 second.1) ∙ sym second.2

some_in : (d : Option Data) (said : Result ℕ ValueFault) → SaysTickIn d said → 1 ≤ tick_or_millisecond said
some_in None said is = subst (λ (r : Result ℕ ValueFault). 1 ≤ tick_or_millisecond r) (sym is) (omega arith)
some_in (Some d) (Ok tick) is = is.1.0
some_in (Some d) (Err fault) is = omega arith

pub some_tick : (d : Data) (tick : ℕ) → IsTickOf d tick → 1 ≤ tick
some_tick d tick is = subst (λ (n : ℕ). 1 ≤ n) (sym is.2) (some_in (get (codes "tick") d) is.0 is.1)

-- ---- the lowest of rules

pub one_lowest : {A : Type 0} (Breaks : A → ℕ → Type 0) → ((x : A) (a b : ℕ) → Breaks x a → Breaks x b → a ≡ b) → (low : ℕ) (xs : List A) (a b : ℕ)
    → LowestFrom Breaks low xs a → LowestFrom Breaks low xs b → a ≡ b
one_lowest Breaks one low [] a b first second = first ∙ sym second
one_lowest Breaks one low (x ∷ xs) a b first second =
    let same : second.0 ≡ first.0 = one x second.0 first.0 second.1 first.1 in
    one_lowest Breaks one (min low first.0) xs a b first.2 (subst (λ (here : ℕ). LowestFrom Breaks (min low here) xs b) same second.2)
