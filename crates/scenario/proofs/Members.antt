-- What is said of a member's contact and crash, from what every scenario keeps.
use Rattle.std.proofs.Common.{◌≡◌, ℕ, zero, suc, ◌<◌, ◌≤◌, Option, Some, None, IfSome, subst, sym, refl, arith}
use Rattle.schema.specs.Schema.{most_members}
use Rattle.schema.specs.declared.schema.Version.{Version}
use Rattle.schema.specs.declared.schema.Version.TheVariants.{One, Two, Three, Four}
use Rattle.scenario.specs.Setup.{Setup, start_of, contact_of, member_count, IsSoundContact}

by_start : (n k : ℕ) (o : Option ℕ) (P : ℕ → Type 0) → (n ≡ 0 → o ≡ None) → (0 < n → (c : ℕ) × (o ≡ Some c) × (c < k) × P c) → IfSome o (λ c. c < k)
by_start zero k o P none some = subst (λ (p : Option ℕ). IfSome p (λ c. c < k)) (sym (none refl)) tt
by_start (suc n) k o P none some = let found = some (omega arith) in subst (λ (p : Option ℕ). IfSome p (λ c. c < k)) (sym found.1) found.2

-- a contact is a member
pub contact_within : (s : Setup) (m : ℕ) → IsSoundContact s m → IfSome (contact_of s m) (λ c. c < member_count s)
contact_within s m sound = by_start (start_of s m) (member_count s) (contact_of s m) (λ c. start_of s c ≡ 0) sound.none sound.some

pub some_so : {A : Type 0} (P Q : A → Type 0) (o : Option A) → IfSome o P → ((x : A) → P x → Q x) → IfSome o Q
some_so P Q None known so = tt
some_so P Q (Some x) known so = so x known

-- no version allows more members
pub most_of_all : (v : Version) → most_members v ≤ 16384
most_of_all One = omega arith
most_of_all Two = omega arith
most_of_all Three = omega arith
most_of_all Four = omega arith
