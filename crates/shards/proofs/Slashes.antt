-- A shard and the parts of its word.
use Rattle.std.proofs.Common.{◌≡◌, ℕ, List, Option, Some, None, Bor, decimal, sym, subst, lit<, arith}
use Rattle.std.specs.Option.{MatchOption}
use Rattle.std.proofs.lemmas.Str.Pattern.{IsSplitOnceResult, split_after}
use Rattle.decimals.specs.Numbers.{IsDecimal}
use Rattle.sweep_plan.proofs.Words.{unlike, decimal_lacks}
use Rattle.shards.specs.declared.shard.Shard.{Shard}
use Rattle.shards.specs.Shards.{IsShard, IsShardWord}

abbrev Parted : Type 0
Parted = Option (Bor (List ℕ) × Bor (List ℕ))

module _ (word : List ℕ) (p : Shard) (is : IsShardWord word p) where
  at_slash : (parted : Parted) → IsSplitOnceResult 47 word parted → MatchOption parted ⊥ (λ x. (x.0.now ≡ decimal p.number) × (x.1.now ≡ decimal p.of))
  at_slash parted cut =
      let most = is.sound.most in
      let few = is.sound.few in
      split_after 47 word (decimal p.number) (decimal p.of) parted cut (lit< tt) (sym is.written)
      (unlike 47 (decimal p.number) (decimal_lacks p.number 47 (omega arith) (lit< tt)))

  pub unparted : (parted : Parted) → parted ≡ None → IsSplitOnceResult 47 word parted → ⊥
  unparted parted none cut = rw none at (at_slash parted cut)

  module _ (parted : Parted) (first last : Bor (List ℕ)) (some : parted ≡ Some (first, last)) (cut : IsSplitOnceResult 47 word parted) where
    parts : (first.now ≡ decimal p.number) × (last.now ≡ decimal p.of)
    parts = rw some at (at_slash parted cut)

    pub number_there : IsDecimal first.now p.number
    number_there =
        let most = is.sound.most in
        let few = is.sound.few in
        record { written = sym parts.0; low = omega arith }

    pub of_there : IsDecimal last.now p.of
    of_there =
        let few = is.sound.few in
        record { written = sym parts.1; low = omega arith }

-- what is numbered as this shard isn't sound, so neither is this
pub unsound_too : (p q : Shard) → p.number ≡ q.number → p.of ≡ q.of → ¬ (IsShard q) → IsShard p → ⊥
unsound_too p q number of none sound = none (subst IsShard (λ i. record { number = number i; of = of i }) sound)
