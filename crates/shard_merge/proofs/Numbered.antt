-- The shard of a sweep that a text is, by the number that it says.
use Rattle.std.proofs.Common.{◌≡◌, ◌<◌, ◌≤◌, ◌+◌, ◌-◌, ℕ, List, ◌++◌, sym, subst, ◌∙◌, arith}
use Rattle.sweep_plan.specs.Sweep.{Sweep}
use Rattle.shards.specs.declared.shard.Shard.{Shard}
use Rattle.sweep.specs.Shards.{shard_header}
use Rattle.sweep.specs.Runs.{IsAskedFor}
use Rattle.shard_merge.specs.declared.fault.JoinFault.{JoinFault}
use Rattle.shard_merge.specs.declared.fault.JoinFault.TheVariants as fault
use Rattle.shard_merge.specs.Among.{shard_at}
use Rattle.shard_merge.specs.Joined.{IsMark}
use Rattle.shard_merge.specs.Reasons.{BeginsAs, RefusesText}
use Rattle.figures.specs.declared.column_set.ColumnSet.{ColumnSet}

pub memory_text : (text mark : List ℕ) (columns : ColumnSet) (sweep : Sweep) (of place : ℕ) (f : JoinFault) → f ≡ fault.Memory → RefusesText text mark columns sweep of place f
memory_text text mark columns sweep of place f is = subst (RefusesText text mark columns sweep of place) (sym is) tt

module _ (text mark : List ℕ) (columns : ColumnSet) (sweep : Sweep) (of number : ℕ) (only : (m : List ℕ) (r : ColumnSet) (s : Sweep) (p : Shard) → BeginsAs text m r s p → p.number ≡ number) where
  -- no shard of so many has a number past them
  pub past_all : of < number → (q : Shard) → q.of ≡ of → ¬ (BeginsAs text mark columns sweep q)
  past_all high q same begins =
      let at = only mark columns sweep q begins in
      let most = begins.sound.most in
      omega (arith, high, same, at, most)

  -- a text that doesn't begin as the shard of its number begins as none
  pub none_of_these : (p : Shard) → p.number ≡ number → p.of ≡ of → ((rest : List ℕ) → ¬ (text ≡ shard_header columns mark sweep p ++ rest)) → (q : Shard) → q.of ≡ of → ¬ (BeginsAs text mark columns sweep q)
  none_of_these p at many none q same begins =
      let number_is = only mark columns sweep q begins in
      let is : q ≡ p = (λ i. record { number = (number_is ∙ sym at) i; of = (same ∙ sym many) i }) in
      none begins.rest (subst (λ r. text ≡ shard_header columns mark sweep r ++ begins.rest) is begins.written)

-- one that does is that shard
pub begins_so : (text mark : List ℕ) (columns : ColumnSet) (sweep : Sweep) (p : Shard) (of number : ℕ) → IsAskedFor sweep → IsMark mark → 1 ≤ number → number ≤ of → of ≤ 10000 → p.number ≡ number → p.of ≡ of
    → (rest : List ℕ) × (text ≡ shard_header columns mark sweep p ++ rest) → (at : ℕ) → at ≡ number - 1 → BeginsAs text mark columns sweep (shard_at at of)
begins_so text mark columns sweep p of number asked marked low high few is many front at place =
    let next : p.number ≡ at + 1 = omega (arith, is, place, low) in
    let same : p ≡ shard_at at of = (λ i. record { number = next i; of = many i }) in
    record {
      asked = asked;
      marked = marked;
      sound = record { least = omega arith; most = omega (arith, place, low, high); few = few };
      rest = front.0;
      written = subst (λ r. text ≡ shard_header columns mark sweep r ++ front.0) same front.1;
    }
