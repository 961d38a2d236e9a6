-- The members' ranks in order, and the members in the order of their first beats.
use Rattle.std.proofs.Common.{◌≡◌, ◌+◌, ◌*◌, ◌/◌, ◌%◌, ◌<◌, ◌≤◌, ℕ, List, [], ◌∷◌, ◌++◌, All, Some, Result, Ok, Err, MatchResult, nat_cmp, length, get_or, map, option_map, slice_get, inl, inr, refl, sym, ap, ◌∙◌, subst, arith}
use Rattle.std.specs.List.{Contains, range_with_len}
use Rattle.std.specs.List.Sorted.{IsBinarySearchResult, IsNonDecreasing, IsNonDecreasingBy, IsPermutation}
use Rattle.std.proofs.lemmas.Bool.{cases_lt}
use Rattle.std.proofs.lemmas.List.{get_or-map, get_or_append_left, get_or_default, get_or_push, length-map, length_push, map-id}
use Rattle.std.proofs.lemmas.List.Elements.{All-get_or, All-map}
use Rattle.std.proofs.lemmas.List.FromFn.{fill_by_all, get_or-map-range_with_len, get_or-range_with_len, length-map-range_with_len, length-range_with_len}
use Rattle.std.proofs.lemmas.List.Sorted.{All-permutation, Contains-permutation, IsPermutation-map, searched}
use Rattle.std.proofs.lemmas.Option.{get_or_from_slice_get, slice_get-map, slice_get_read}
use Rattle.scenario.specs.Setup.{Setup, member_count}
use Rattle.partitioning.specs.Beats.{first_beat, rank_of}

-- the ranks in the members' order
abbrev pub all_ranks : Setup → List ℕ
all_ranks s = map (rank_of s) (range_with_len 0 (member_count s))

-- a member's rank is among them
has_rank : (s : Setup) (m : ℕ) → m < member_count s → Contains (all_ranks s) (rank_of s m)
has_rank s m low =
    let count : length (all_ranks s) ≡ member_count s = length-map-range_with_len (rank_of s) 0 (member_count s) in
    (m, omega (arith, low, count), get_or-map-range_with_len (rank_of s) 0 (member_count s) m m (rank_of s m) low (omega arith))

-- a search for a member's rank finds it
module _ (s : Setup) (ranks : List ℕ) (m rank : ℕ) (low : m < member_count s) (is : rank ≡ rank_of s m) (all : IsPermutation (all_ranks s) ranks) (rise : IsNonDecreasing ranks) where
  abbrev Finds : Result ℕ ℕ → Type 0
  Finds r = MatchResult r (λ i. (i < length ranks) × (get_or ranks i 0 ≡ rank))
      (λ i. (i ≤ length ranks) × ((k : ℕ) → k < i → get_or ranks k 0 < rank) × ((k : ℕ) → i ≤ k → k < length ranks → rank < get_or ranks k 0))

  finds : (r : Result ℕ ℕ) → IsBinarySearchResult (λ y. nat_cmp y rank) ranks r → Finds r
  finds r answer = searched ranks rank r answer (λ i j up within. rise i j 0 up within)

  pub found : (r : Result ℕ ℕ) (place : ℕ) → IsBinarySearchResult (λ y. nat_cmp y rank) ranks r → r ≡ Ok place → slice_get ranks place ≡ Some (rank_of s m)
  found r place answer here =
      let at = subst Finds here (finds r answer) in
      slice_get_read ranks (length ranks) place (rank_of s m) refl at.0 (sym (get_or_default ranks place (rank_of s m) 0 at.0 ∙ at.1 ∙ is))

  pub never_absent : (r : Result ℕ ℕ) (i : ℕ) → IsBinarySearchResult (λ y. nat_cmp y rank) ranks r → r ≡ Err i → ⊥
  never_absent r i answer here =
      let absent = subst Finds here (finds r answer) in
      let there = Contains-permutation (all_ranks s) ranks (rank_of s m) all (has_rank s m low) in
      let at : get_or ranks there.0 0 ≡ rank = get_or_default ranks there.0 0 (rank_of s m) there.1 ∙ there.2 ∙ sym is in
      let not_below : ¬ (there.0 < i) = λ before. let less = absent.1 there.0 before in omega (arith, at, less) in
      let not_above : ¬ (i ≤ there.0) = λ from. let more = absent.2 there.0 from there.1 in omega (arith, at, more) in
      not_above (omega (arith, not_below))

-- the member that a rank has
abbrev pub member_of : ℕ → ℕ
member_of rank = rank % 65536

module _ (s : Setup) (few : member_count s ≤ 16384) where
  own : (m : ℕ) → m < 65536 → member_of (rank_of s m) ≡ m
  own m low = omega (arith, low)

  own_beat : (m : ℕ) → m < 65536 → first_beat s (member_of (rank_of s m)) ≡ rank_of s m / 65536
  own_beat m low =
      let drawn : first_beat s m ≡ rank_of s m / 65536 = omega (arith, low) in
      ap (first_beat s) (own m low) ∙ drawn

  -- they are of all members
  of_all : map member_of (all_ranks s) ≡ range_with_len 0 (member_count s)
  of_all =
      let n = member_count s in
      let count : length (all_ranks s) ≡ n = length-map-range_with_len (rank_of s) 0 n in
      let each : (m : ℕ) → m < n → get_or (map member_of (all_ranks s)) m 0 ≡ m = λ m low.
      get_or-map member_of (all_ranks s) m 0 0 (omega (arith, low, count))
      ∙ ap member_of (get_or-map-range_with_len (rank_of s) 0 n m m 0 low (omega arith))
      ∙ own m (omega (arith, low, few)) in
      fill_by_all (λ m. m) (map member_of (all_ranks s)) n 0 (length-map (all_ranks s) member_of ∙ count) each ∙ map-id (range_with_len 0 n)

  abbrev HasBeat : ℕ → Type 0
  HasBeat rank = first_beat s (member_of rank) ≡ rank / 65536

  beats : All HasBeat (all_ranks s)
  beats = All-map HasBeat (rank_of s) (range_with_len 0 (member_count s)) (λ m d low.
      let count : length (range_with_len 0 (member_count s)) ≡ member_count s = length-range_with_len 0 (member_count s) in
      let at : get_or (range_with_len 0 (member_count s)) m d ≡ 0 + m = get_or-range_with_len 0 (member_count s) m d (omega (arith, low, count)) in
      own_beat (get_or (range_with_len 0 (member_count s)) m d) (omega (arith, at, low, count, few)))

  module _ (ranks : List ℕ) (all : IsPermutation (all_ranks s) ranks) where
    -- in their order the members are all there
    pub members_all : IsPermutation (range_with_len 0 (member_count s)) (map member_of ranks)
    members_all = subst (λ xs. IsPermutation xs (map member_of ranks)) of_all (IsPermutation-map member_of (all_ranks s) ranks all)

    -- and their first beats rise
    pub beats_rise : IsNonDecreasing ranks → IsNonDecreasingBy (first_beat s) (map member_of ranks)
    beats_rise rise i j d up within =
        let low : j < length ranks = omega (arith, within, length-map ranks member_of) in
        let beat : (k : ℕ) → k < length ranks → first_beat s (get_or (map member_of ranks) k d) ≡ get_or ranks k 0 / 65536 = λ k inside.
        ap (first_beat s) (get_or-map member_of ranks k 0 d inside) ∙ All-get_or HasBeat ranks k 0 inside (All-permutation HasBeat (all_ranks s) ranks all beats) in
        let one = beat i (omega (arith, up, low)) in
        let other = beat j low in
        let above = rise i j 0 up low in
        omega (arith, one, other, above)

    -- each member is where its rank is
    pub at_rank : (m place : ℕ) → m < member_count s → slice_get ranks place ≡ Some (rank_of s m) → slice_get (map member_of ranks) place ≡ Some m
    at_rank m place low here = slice_get-map member_of ranks place ∙ ap (option_map member_of) here ∙ ap Some (own m (omega (arith, low, few)))

-- one member more is in the part that has its turn
pub one_placed : (s : Setup) (ranks : List ℕ) (parts : ℕ) (so_far after : List ℕ) (member place : ℕ) → length so_far ≡ member → slice_get ranks place ≡ Some (rank_of s member)
    → after ≡ so_far ++ (place % parts) ∷ []
    → ((m : ℕ) → m < member → (at : ℕ) × (slice_get ranks at ≡ Some (rank_of s m)) × (slice_get so_far m ≡ Some (at % parts)))
    → (m : ℕ) → m < member + 1 → (at : ℕ) × (slice_get ranks at ≡ Some (rank_of s m)) × (slice_get after m ≡ Some (at % parts))
one_placed s ranks parts so_far after member place count here pushed each m low =
    let turn = place % parts in
    elim (cases_lt m member) as (λ _. (at : ℕ) × (slice_get ranks at ≡ Some (rank_of s m)) × (slice_get after m ≡ Some (at % parts))) [
      | inl before ↦
          let own = each m before in
          let read : get_or after m (own.0 % parts) ≡ own.0 % parts = ap (λ xs. get_or xs m (own.0 % parts)) pushed
          ∙ get_or_append_left so_far (turn ∷ []) (own.0 % parts) m (omega (arith, before, count))
          ∙ get_or_from_slice_get so_far m (own.0 % parts) (own.0 % parts) own.2 in
          (own.0, own.1, slice_get_read after (length after) m (own.0 % parts) refl (omega (arith, long, before)) (sym read))
      | inr last ↦
          let is : m ≡ member = omega (arith, low, last) in
          let read : get_or after m turn ≡ turn = ap (λ xs. get_or xs m turn) pushed ∙ get_or_push so_far turn turn m (omega (arith, count, is)) in
          (place, here ∙ ap (λ (k : ℕ). Some (rank_of s k)) (sym is), slice_get_read after (length after) m turn refl (omega (arith, long, is)) (sym read))
    ]
  where
    long : length after ≡ member + 1
    long = ap length pushed ∙ length_push so_far (place % parts) ∙ ap (λ n. n + 1) count
