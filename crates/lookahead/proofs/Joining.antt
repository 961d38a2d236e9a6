-- Walks, one after the other.
use Rattle.std.proofs.Common.{◌≡◌, ℕ, ◌+◌, List, [], ◌∷◌, ◌++◌, refl, sym, ap, ◌∙◌, subst, arith}
use Rattle.windows.specs.Horizon.{IsWalk, Walk, walk_end, walk_length, length_of}
use Rattle.lookahead.specs.Walks.{IsLengthOfAWalk}

pub walk_end-append : (part : ℕ) (front back : List ℕ) → walk_end part (front ++ back) ≡ walk_end (walk_end part front) back
walk_end-append part [] back = refl
walk_end-append part (next ∷ rest) back = walk_end-append next rest back

module _ (HasMembers : ℕ → Type 0) where
  walks_on : (part : ℕ) (front back : List ℕ) → IsWalk HasMembers part front → IsWalk HasMembers (walk_end part front) back → IsWalk HasMembers part (front ++ back)
  walks_on part [] back first second = second
  walks_on part (next ∷ rest) back first second = (first.0, first.1, walks_on next rest back first.2 second)

  -- the part where a walk ends has members
  pub end_peopled : (part next : ℕ) (rest : List ℕ) → IsWalk HasMembers part (next ∷ rest) → HasMembers (walk_end next rest)
  end_peopled part next [] walk = walk.1
  end_peopled part next (other ∷ rest) walk = end_peopled next other rest walk.2

  pub ends_peopled : (from to : ℕ) → Walk HasMembers from to → HasMembers to
  ends_peopled from to walk = subst HasMembers walk.ends (end_peopled from walk.next walk.rest walk.apart)

  pub joined : (from way to : ℕ) → Walk HasMembers from way → Walk HasMembers way to → Walk HasMembers from to
  joined from way to a b = record {
    next = a.next;
    rest = a.rest ++ (b.next ∷ b.rest);
    begins = a.begins;
    apart = (
      a.apart.0,
      a.apart.1,
      walks_on a.next a.rest (b.next ∷ b.rest) a.apart.2 (subst (λ part. IsWalk HasMembers part (b.next ∷ b.rest)) (sym a.ends) b.apart),
    );
    ends = walk_end-append a.next a.rest (b.next ∷ b.rest) ∙ b.ends;
  }

module _ (between : ℕ → ℕ → ℕ) where
  walk_length-append : (part : ℕ) (front back : List ℕ) → walk_length between part (front ++ back) ≡ walk_length between part front + walk_length between (walk_end part front) back
  walk_length-append part [] back = omega arith
  walk_length-append part (next ∷ rest) back = let e = walk_length-append next rest back in omega arith

  length_of-joined : (HasMembers : ℕ → Type 0) (from way to : ℕ) (a : Walk HasMembers from way) (b : Walk HasMembers way to) → length_of between (joined HasMembers from way to a b) ≡ length_of between a + length_of between b
  unfolding joined
  length_of-joined HasMembers from way to a b =
      let e = walk_length-append a.next a.rest (b.next ∷ b.rest) in
      let f : walk_length between (walk_end a.next a.rest) (b.next ∷ b.rest) ≡ walk_length between way (b.next ∷ b.rest) = ap (λ part. walk_length between part (b.next ∷ b.rest)) a.ends in
      omega (arith, e, f)

  pub joined_lengths : (HasMembers : ℕ → Type 0) (from way to m n : ℕ) → IsLengthOfAWalk HasMembers between from way m → IsLengthOfAWalk HasMembers between way to n → IsLengthOfAWalk HasMembers between from to (m + n)
  joined_lengths HasMembers from way to m n a b = (joined HasMembers from way to a.0 b.0, length_of-joined HasMembers from way to a.0 b.0 ∙ ap (λ x. x + length_of between b.0) a.1 ∙ ap (λ x. m + x) b.1)
