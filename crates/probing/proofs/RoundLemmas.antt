-- What calls of `next` answer, and that they keep an order sound.
use Rattle.std.proofs.Common.{◌≡◌, ◌≢◌, ℕ, zero, suc, ◌+◌, ◌<◌, ◌≤◌, ◌==◌, true, false, List, [], ◌∷◌, length, get_or, map, drop, Option, Some, None, unwrap_or, refl, sym, ap, subst, ◌∙◌, inl, inr, drop-cons, add-one, arith}
use Rattle.std.proofs.Math.Seq.{drop-length}
use Rattle.std.specs.List.{All}
use Rattle.std.specs.Option.{option_map_or}
use Rattle.std.specs.List.Sorted.{IsPermutation}
use Rattle.std.proofs.lemmas.Bool.{cases_lt, ne_eqb, eq-eqb}
use Rattle.std.proofs.lemmas.List.{nil_from_length}
use Rattle.std.proofs.lemmas.Option.{slice_get-get_or}
use Rattle.std.proofs.lemmas.List.Elements.{All-nil, All-cons}
use Rattle.std.proofs.lemmas.List.Sorted.{IsPermutation-refl, IsPermutation-trans, length_permutation, sum_by-IsPermutation}
use Rattle.streams.specs.Draw.{Words, AreWords, IsRestOf, rest_after, shuffle_of}
use Rattle.streams.proofs.PlaceLemmas.{rest_after-zero, rest-rest, shuffle_rest}
use Rattle.streams.proofs.RangeLemmas.{rest_fits}
use Rattle.streams.proofs.OrderLemmas.{shuffle_keeps}
use Rattle.probing.specs.ProbeOrder.{ProbeOrder, AreMembers, IsSoundOrder, times_in, round_over, next_of}
use Rattle.probing.specs.Rounds.{probes_of}
use Rattle.probing.proofs.SoundLemmas.{one_if, times_in-get_or, are_members-permutation, members_bounded}

-- a shuffle keeps the members
pub shuffle_kept : (words : Words) (xs : List ℕ) → AreWords words → AreMembers xs → IsPermutation xs (shuffle_of words xs).0
shuffle_kept words xs fit listed = shuffle_keeps words xs fit (omega (arith, members_bounded xs listed))

-- no member
next_of_none : (words : Words) (xs : List ℕ) (mark : ℕ) → length xs ≡ 0
    → next_of words (record { members = xs; mark = mark }) ≡ (None, record { members = xs; mark = mark }, words)
unfolding next_of
next_of_none words xs mark none =
    let empty : (length xs == 0) ≡ true = eq-eqb (length xs) 0 none in
    rw empty refl

-- within a round
next_of_within : (words : Words) (xs : List ℕ) (mark : ℕ) → mark < length xs
    → next_of words (record { members = xs; mark = mark }) ≡ (Some (get_or xs mark 0), record { members = xs; mark = mark + 1 }, words)
unfolding next_of
next_of_within words xs mark before =
    let full : (length xs == 0) ≡ false = ne_eqb (length xs) 0 (omega arith) in
    let during : (mark == length xs) ≡ false = ne_eqb mark (length xs) (omega arith) in
    rw (full, during) (ap (λ (o : Option ℕ). (o, record { members = xs; mark = mark + 1 }, words)) (slice_get-get_or xs mark 0 before))

-- where a round is over
next_of_over : (words : Words) (xs : List ℕ) → 0 < length xs → 0 < length (shuffle_of words xs).0
    → next_of words (round_over xs) ≡ next_of (shuffle_of words xs).1 (record { members = (shuffle_of words xs).0; mark = 0 })
unfolding next_of
next_of_over words xs some kept =
    let ys = (shuffle_of words xs).0 in
    let full : (length xs == 0) ≡ false = ne_eqb (length xs) 0 (omega arith) in
    let over : (length xs == length xs) ≡ true = eq-eqb (length xs) (length xs) refl in
    let full_after : (length ys == 0) ≡ false = ne_eqb (length ys) 0 (omega arith) in
    let during : (0 == length ys) ≡ false = ne_eqb 0 (length ys) (omega arith) in
    rw (full, over, full_after, during) refl

-- what is left of a round
pub probes_within : (n : ℕ) (words : Words) (xs : List ℕ) (mark : ℕ) → mark + n ≡ length xs
    → probes_of n words (record { members = xs; mark = mark }) ≡ (map Some (drop mark xs), round_over xs, words)
probes_within zero words xs mark end =
    let is : mark ≡ length xs = omega arith in
    rw (is, drop-length xs) refl
probes_within (suc n) words xs mark end =
    let more = probes_within n words xs (mark + 1) (omega arith) in
    let front : drop mark xs ≡ get_or xs mark 0 ∷ drop (mark + 1) xs = rw add-one (drop-cons xs mark 0 (omega arith)) in
    rw (next_of_within words xs mark (omega arith), front)
    (ap (λ (p : List (Option ℕ) × ProbeOrder × Words). (Some (get_or xs mark 0) ∷ p.0, p.1, p.2)) more)

-- the shuffle of no member
shuffle_of_none : (words : Words) → shuffle_of words [] ≡ ([], words)
unfolding shuffle_of
shuffle_of_none words = refl

-- a round
pub probes_of_a_round : (n : ℕ) (words : Words) (xs : List ℕ) → n ≡ length xs → AreWords words → AreMembers xs
    → probes_of n words (round_over xs) ≡ (map Some (shuffle_of words xs).0, round_over (shuffle_of words xs).0, (shuffle_of words xs).1)
probes_of_a_round zero words xs end fit listed = rw (nil_from_length xs (sym end), shuffle_of_none words) refl
probes_of_a_round (suc n) words xs end fit listed =
    let ys = (shuffle_of words xs).0 in
    let size : length ys ≡ length xs = length_permutation xs ys (shuffle_kept words xs fit listed) in
    rw (next_of_over words xs (omega arith) (omega (arith, size)))
    (probes_within (suc n) (shuffle_of words xs).1 ys 0 (omega (arith, size)))

-- as often in another order
kept_count : (m : ℕ) (xs ys : List ℕ) → IsPermutation xs ys → times_in ys m ≡ times_in xs m
kept_count m xs ys same = sum_by-IsPermutation (λ other. one_if (other == m)) xs ys same

-- what a probe gives and leaves
pub record IsProbe (words : Words) (order : ProbeOrder) (after : Option ℕ × ProbeOrder × Words) : Type 0 where
  pub same : IsPermutation order.members after.1.members
  pub within : after.1.mark ≤ length after.1.members
  pub rest : IsRestOf words after.2
  pub some : (m : ℕ) → after.0 ≡ Some m → 1 ≤ times_in order.members m
  pub none : after.0 ≡ None → length order.members ≡ 0

-- whether there is a member, as a number
abbrev one_if_some : Option ℕ → ℕ
one_if_some o = option_map_or (λ _. 1) o 0

not_one : ◌≡◌ {A = ℕ} 1 0 → ⊥
not_one h = omega arith

pub some_none : (x : ℕ) → Some x ≡ None → ⊥
some_none x is = not_one (ap one_if_some is)

-- the rest of a rest
pub rest_of_rest : (words left last : Words) → IsRestOf words left → IsRestOf left last → IsRestOf words last
rest_of_rest words left last (n, is_left) (m, is_last) =
    (n + m, is_last ∙ ap (rest_after m) is_left ∙ rest-rest m n words)

-- within a round
is_probe_within : (words : Words) (xs : List ℕ) (mark : ℕ) → mark < length xs
    → IsProbe words (record { members = xs; mark = mark }) (next_of words (record { members = xs; mark = mark }))
is_probe_within words xs mark before = rw (next_of_within words xs mark before) record {
  same = IsPermutation-refl xs;
  within = omega (arith, before);
  rest = (0, rest_after-zero words);
  some = λ m is.
      let here : get_or xs mark 0 ≡ m = ap (λ (o : Option ℕ). unwrap_or o 0) is in
      subst (λ (k : ℕ). 1 ≤ times_in xs k) here (times_in-get_or xs mark before);
  none = λ is. absurd (some_none (get_or xs mark 0) is);
}

-- any probe
pub is_probe : (words : Words) (order : ProbeOrder) → AreWords words → IsSoundOrder order → IsProbe words order (next_of words order)
is_probe words order fit sound =
    let xs = order.members in
    let ys = (shuffle_of words xs).0 in
    let left = (shuffle_of words xs).1 in
    let again : ProbeOrder = record { members = ys; mark = 0 } in
    elim (cases_lt order.mark (length xs)) [
      | inl before ↦ is_probe_within words xs order.mark before
      | inr over ↦
          let end : order.mark ≡ length xs = omega (arith, sound.within) in
          elim (cases_lt 0 (length xs)) [
            | inl many ↦
                let same : IsPermutation xs ys = shuffle_kept words xs fit sound.listed in
                let size : length ys ≡ length xs = length_permutation xs ys same in
                let next : IsProbe left again (next_of left again) = is_probe_within left ys 0 (omega (arith, size, many)) in
                let step : next_of words order ≡ next_of left again =
                ap (λ (mark : ℕ). next_of words (record { members = xs; mark = mark })) end
                ∙ next_of_over words xs many (omega (arith, size, many)) in
                rw step record {
                  same = IsPermutation-trans xs ys _ same next.same;
                  within = next.within;
                  rest = rest_of_rest words left (next_of left again).2 (shuffle_rest words xs) next.rest;
                  some = λ m is. omega (arith, next.some m is, kept_count m xs ys same);
                  none = λ is. sym size ∙ next.none is;
                }
            | inr none ↦ rw (next_of_none words xs order.mark (omega arith)) record {
              same = IsPermutation-refl xs;
              within = sound.within;
              rest = (0, rest_after-zero words);
              some = λ m is. absurd (some_none m (sym is));
              none = λ _. omega arith;
            }
          ]
    ]

-- a sound order stays so
pub next_sound : (words : Words) (order : ProbeOrder) → AreWords words → IsSoundOrder order → IsSoundOrder (next_of words order).1
next_sound words order fit sound =
    let probe = is_probe words order fit sound in
    record { listed = are_members-permutation _ _ probe.same sound.listed; within = probe.within }

-- a member that isn't there gets no probe
pub absent_unprobed : (n : ℕ) (words : Words) (m : ℕ) (order : ProbeOrder) → AreWords words → IsSoundOrder order → times_in order.members m ≡ 0
    → All (λ (answer : Option ℕ). answer ≢ Some m) (probes_of n words order).0
absent_unprobed zero words m order fit sound absent = All-nil (λ (answer : Option ℕ). answer ≢ Some m)
absent_unprobed (suc n) words m order fit sound absent =
    let probe = is_probe words order fit sound in
    let after = next_of words order in
    let still : times_in after.1.members m ≡ 0 = kept_count m order.members after.1.members probe.same ∙ absent in
    All-cons (λ (answer : Option ℕ). answer ≢ Some m) after.0 (probes_of n after.2 after.1).0
    (λ is. absurd (omega (arith, probe.some m is, absent)))
    (absent_unprobed n after.2 m after.1 (rest_fits words after.2 fit probe.rest) (next_sound words order fit sound) still)
