-- Workers are joined, one more after those before it.
use Rattle.std.proofs.Common.{◌≡◌, ◌≢◌, ℕ, ◌+◌, ◌<◌, List, [], ◌∷◌, ◌++◌, map, length, slice_set, Some, Vec, Global, inl, inr, ap, ◌∙◌, sym, subst, arith}
use Rattle.std.specs.List.{AllByRecursion, slice_get}
use Rattle.std.specs.Option.{option_map}
use Rattle.std.proofs.lemmas.Bool.{cases_lt}
use Rattle.std.proofs.lemmas.List.{map-append, length-map, length-append}
use Rattle.std.proofs.lemmas.Option.{slice_get-map}
use Rattle.base.proofs.Rising.{all_append, all_weaker, rising_append}
use Rattle.parallel_run.specs.declared.peers.Peer.{Peer}
use Rattle.parallel_run.specs.Peers.{AreOthers, AreJoined, numbers_of}
use Rattle.parallel_run.proofs.JoiningNumbers.{HaveNumbersBelow, one_more_number, one_before, one_last}
use Rattle.lookahead_windows.proofs.Places.{pushed_each}
use Rattle.parallel_run.proofs.JoiningPlaces.{written_each, slice_get_behind}

-- the numbers below a count are the others of the worker of that number
pub others_of_last : (count : ℕ) (ns : List ℕ) → HaveNumbersBelow (λ n. n) count ns → AreOthers (count + 1) count ns
others_of_last count ns have = record {
  others = all_weaker (λ n. n < count) (λ n. (n ≢ count) × (n < count + 1)) (λ n low. ((λ same. omega arith), omega arith)) ns have.below;
  different = have.different;
  complete = λ n low. elim (cases_lt n count) [ inl before ↦ inr (have.complete n before) | inr past ↦ inl (omega arith) ];
}

-- one more worker is another to those before it
pub one_more_other : (count own : ℕ) (ns : List ℕ) → own < count → AreOthers count own ns → AreOthers (count + 1) own (ns ++ count ∷ [])
one_more_other count own ns low are = record {
  others =
      all_append (λ n. (n ≢ own) × (n < count + 1)) ns (count ∷ [])
      (all_weaker (λ n. (n ≢ own) × (n < count)) (λ n. (n ≢ own) × (n < count + 1)) (λ n h. (h.0, omega (arith, h.1))) ns are.others)
      (((λ same. omega arith), omega arith), tt);
  different =
      rising_append (λ m n. m ≢ n) ns (count ∷ []) are.different (tt, tt)
      (all_weaker (λ n. (n ≢ own) × (n < count)) (λ n. AllByRecursion (λ m. n ≢ m) (count ∷ [])) (λ n h. ((λ same. omega (arith, h.1)), tt)) ns are.others);
  complete = λ n below. elim (cases_lt n count) [
    | inl before ↦ elim (are.complete n before) [ inl me ↦ inl me | inr one ↦ inr (one_before (λ m. m) ns count n one) ]
    | inr past ↦ inr (one_last (λ m. m) ns count n (omega arith))
  ];
}

module _ {K : Type 0} where
  -- the rings of a worker
  abbrev pub rings_of : Vec (Peer K) Global → List (Peer K)
  rings_of peers = peers.items

  -- the number of one peer more
  pub numbers_more : (peers : List (Peer K)) (p : Peer K) → numbers_of (peers ++ p ∷ []) ≡ numbers_of peers ++ p.number ∷ []
  numbers_more peers p = map-append (λ (q : Peer K). q.number) peers (p ∷ [])

  -- a new worker's rings, with those to one worker more
  pub own_more : (other : ℕ) (peers after : List (Peer K)) (p : Peer K) → HaveNumbersBelow (λ n. n) other (numbers_of peers) → after ≡ peers ++ p ∷ [] → p.number ≡ other
      → HaveNumbersBelow (λ n. n) (other + 1) (numbers_of after)
  own_more other peers after p have more is =
      subst (HaveNumbersBelow (λ n. n) (other + 1)) (sym (ap numbers_of more ∙ numbers_more peers p))
      (one_more_number (λ n. n) other (numbers_of peers) p.number have is)

  -- the worker at this place has its ring to a new one, as those before it have
  pub joined_more : (count other : ℕ) (all : List (Vec (Peer K) Global)) (item after : Vec (Peer K) Global) (p : Peer K) → other < count → AreOthers count other (numbers_of item.items)
      → after.items ≡ item.items ++ p ∷ [] → p.number ≡ count
      → ((i : ℕ) (peers : Vec (Peer K) Global) → i < other → slice_get all i ≡ Some peers → AreOthers (count + 1) i (numbers_of peers.items))
      → (i : ℕ) (peers : Vec (Peer K) Global) → i < other + 1 → slice_get (slice_set all other after) i ≡ Some peers → AreOthers (count + 1) i (numbers_of peers.items)
  joined_more count other all item after p low are more is before i peers below here =
      written_each (λ j (q : Vec (Peer K) Global). j < other + 1 → AreOthers (count + 1) j (numbers_of q.items)) all other after
      (λ _. subst (AreOthers (count + 1) other) (sym (ap numbers_of more ∙ numbers_more item.items p ∙ ap (λ n. numbers_of item.items ++ n ∷ []) is)) (one_more_other count other (numbers_of item.items) low are))
      (λ j q apart at low. before j q (omega arith) at) i peers here below

  -- the rings of the worker at a place, of workers that are joined
  pub joined_there : (count i : ℕ) (all : List (Vec (Peer K) Global)) (peers : Vec (Peer K) Global) → AreJoined count (map rings_of all) → slice_get all i ≡ Some peers → AreOthers count i (numbers_of peers.items)
  joined_there count i all peers are here = are.each i peers.items (slice_get-map rings_of all i ∙ ap (option_map rings_of) here)

  -- a worker more, with its rings, where those before have got their rings to it
  pub all_joined : (count : ℕ) (before now all : List (Vec (Peer K) Global)) (own : Vec (Peer K) Global) → AreJoined count (map rings_of before) → length now ≡ length before → all ≡ now ++ own ∷ []
      → ((i : ℕ) (peers : Vec (Peer K) Global) → slice_get now i ≡ Some peers → AreOthers (length before + 1) i (numbers_of peers.items))
      → AreOthers (length before + 1) (length before) (numbers_of own.items) → AreJoined (count + 1) (map rings_of all)
  all_joined count before now all own were same more others mine =
      let many : length before ≡ count = sym (length-map before rings_of) ∙ were.counted in
      let each : (i : ℕ) (peers : Vec (Peer K) Global) → slice_get all i ≡ Some peers → AreOthers (count + 1) i (numbers_of peers.items) =
      λ i peers here.
      subst (λ n. AreOthers (n + 1) i (numbers_of peers.items)) many
      (pushed_each (λ j (q : Vec (Peer K) Global). AreOthers (length before + 1) j (numbers_of q.items)) now own others
      (subst (λ n. AreOthers (length before + 1) n (numbers_of own.items)) (sym same) mine) i peers (ap (λ l. slice_get l i) (sym more) ∙ here)) in
      record {
        counted = length-map all rings_of ∙ ap length more ∙ length-append now (own ∷ []) ∙ ap (λ n. n + 1) (same ∙ many);
        each = λ i peers here.
            let found = slice_get_behind rings_of all i peers here in
            subst (λ l. AreOthers (count + 1) i (numbers_of l)) found.2 (each i found.0 found.1);
      }
