-- A document says one length of its ticks.
use Rattle.std.proofs.Common.{◌≡◌, ◌⊎◌, ◌∙◌, ℕ, ◌*◌, Option, Some, None, Result, Ok, Err, List, codes, arith, inl, inr, sym}
use Rattle.toml.specs.Data.{Data, get, string, integer, float, boolean, datetime, array, table}
use Rattle.lengths.specs.Lengths.{AreTicks, IsLength}
use Rattle.written_values.specs.Values.{IsTickIn, MayBeTick, SaysTickIn}
use Rattle.written_values.specs.declared.fault.ValueFault.{ValueFault}
use Rattle.written_values.specs.declared.fault.ValueFault.TheVariants.{WrongKind, OutOfRange}
use Rattle.written_values.proofs.Unique.{same_ticks}
use Rattle.sweep.specs.Runs.{IsTickOf}

same_number : (a b : ℕ) → ◌≡◌ {A = Result ℕ ValueFault} (Ok a) (Ok b) → a ≡ b
same_number a b is = cc

no_fault : (a : ℕ) (fault : ValueFault) → ◌≡◌ {A = Result ℕ ValueFault} (Err fault) (Ok a) → ⊥
no_fault a fault is = cc

-- a value says one length
one_said : (d : Data) (a b : ℕ) → IsTickIn d a → IsTickIn d b → a ≡ b
one_said (string word) a b x y = same_ticks 1 word a b (omega arith) x y
one_said (integer number) a b x y = absurd x
one_said (float number) a b x y = absurd x
one_said (boolean b') a b x y = absurd x
one_said (datetime time) a b x y = absurd x
one_said (array items) a b x y = absurd x
one_said (table ms) a b x y = absurd x

may_say : (d : Data) (a : ℕ) → IsTickIn d a → MayBeTick d
may_say (string word) a x = (a * (1 * 1000000), x)
may_say (integer number) a x = absurd x
may_say (float number) a x = absurd x
may_say (boolean b') a x = absurd x
may_say (datetime time) a x = absurd x
may_say (array items) a x = absurd x
may_say (table ms) a x = absurd x

-- a key that says one says no fault
one_in : (d : Option Data) (a b : ℕ) → SaysTickIn d (Ok a) → SaysTickIn d (Ok b) → a ≡ b
one_in None a b x y = same_number a b (x ∙ sym y)
one_in (Some d) a b x y = one_said d a b x.0 y.0

not_both : (d : Option Data) (a : ℕ) (fault : ValueFault) → SaysTickIn d (Ok a) → SaysTickIn d (Err fault) → ⊥
not_both None a fault x y = no_fault a fault (y ∙ sym x)
not_both (Some d) a WrongKind x y = y (may_say d a x.0)
not_both (Some d) a OutOfRange x y = y.1 a x.0 x.1.0 x.1.1

pub one_tick : (tree : Data) (a b : ℕ) → IsTickOf tree a → IsTickOf tree b → a ≡ b
one_tick tree a b (inl x) (inl y) = one_in (get (codes "tick") tree) a b x y
one_tick tree a b (inl x) (inr (fault, y, is)) = absurd (not_both (get (codes "tick") tree) a fault x y)
one_tick tree a b (inr (fault, x, is)) (inl y) = absurd (not_both (get (codes "tick") tree) b fault y x)
one_tick tree a b (inr (fault, x, is)) (inr (other, y, so)) = is ∙ sym so
