-- Helpers are members of the scenario, and few.
use Rattle.std.proofs.Common.{◌≡◌, ℕ, ◌-◌, ◌<◌, ◌≤◌, ◌^◌, true, not, nat_eq, ◌&&◌, List, filter, length, arith}
use Rattle.std.specs.Prelude.{All}
use Rattle.std.specs.FinMap.{entries, contains_key}
use Rattle.std.proofs.lemmas.List.{length-map, length-take}
use Rattle.std.proofs.lemmas.List.Sums.{length-filter, count_by-le-length}
use Rattle.std.proofs.lemmas.List.Elements.{All-map, All-filter, All-take, All-from_recursion}
use Rattle.std.proofs.lemmas.List.Sorted.{All-permutation}
use Rattle.streams.specs.Draw.{Words, AreWords, shuffle_of}
use Rattle.streams.proofs.OrderLemmas.{shuffle_keeps}
use Rattle.probing.specs.ProbeOrder.{helpers_of}
use Rattle.incarnation.specs.declared.Claim.{Claim}
use Rattle.membership.specs.Table.{Known, is_alive, alive_but}
use Rattle.membership.proofs.Few.{entries_below, few_entries}

abbrev Entry : Type 0
Entry = ℕ × (Claim × ℕ)

module _ (n target : ℕ) (table : Known) (below : (q : ℕ) → contains_key table q ≡ true → q < n) where
  pub alive_below : All (λ q. q < n) (alive_but target table)
  unfolding alive_but
  alive_below =
      All-map (λ q. q < n) (λ (e : Entry). e.0) _
      (All-filter (λ (e : Entry). is_alive e.1.0 && not (nat_eq e.0 target)) (λ e. e.0 < n) (entries table) (All-from_recursion (λ (e : Entry). e.0 < n) (entries table) (entries_below n table below)))

  pub alive_few : length (alive_but target table) ≤ n
  unfolding alive_but
  alive_few =
      let test = λ (e : Entry). is_alive e.1.0 && not (nat_eq e.0 target) in
      omega (arith, length-map (filter test (entries table)) (λ (e : Entry). e.0), length-filter test (entries table), count_by-le-length test (entries table), few_entries n table below)

pub helpers_below : (n count : ℕ) (words : Words) (xs : List ℕ) → AreWords words → length xs < 2 ^ 32 - 1 → All (λ q. q < n) xs → All (λ q. q < n) (helpers_of words count xs).0
unfolding helpers_of
helpers_below n count words xs fit short h =
    All-take (λ q. q < n) count (shuffle_of words xs).0 (All-permutation (λ q. q < n) xs (shuffle_of words xs).0 (shuffle_keeps words xs fit short) h)

pub helpers_few : (count : ℕ) (words : Words) (xs : List ℕ) → length (helpers_of words count xs).0 ≤ count
unfolding helpers_of
helpers_few count words xs = omega (arith, length-take count (shuffle_of words xs).0)
