-- Groups joined with their neighbours, one after the other.
use Rattle.std.proofs.Common.{◌≡◌, ℕ, ◌+◌, ◌<◌, List, [], ◌++◌, length, get_or, take, drop, All, Some, ap, ◌∙◌, arith}
use Rattle.std.specs.List.{range_with_len}
use Rattle.std.proofs.lemmas.List.{append-nil, drop_all, take_all, take_more}
use Rattle.std.proofs.lemmas.List.Elements.{All-from_get_or, All-more, All-nil, All-pop}
use Rattle.std.proofs.lemmas.List.FromFn.{get_or-range_with_len, length-range_with_len}
use Rattle.scenario.specs.Setup.{Setup, group_at}
use Rattle.windows.specs.Cluster.{link_delay}
use Rattle.partitioning.specs.Sites.{AreJoined, AreSiteNumbers, AgreesOnNeighbours, AgreesOnSites, IsJoined}

-- what holds of one more holds of those before, and of that one
one_less : (P : ℕ → Type 0) (xs : List ℕ) (i : ℕ) → i < length xs → All P (take (i + 1) xs) → All P (take i xs) × P (get_or xs i 0)
one_less P xs i within all = All-pop P (take (i + 1) xs) (take i xs) (Some (get_or xs i 0)) (take_more xs i 0 within) all

-- each group as a site of its own
pub alone : (sites : List ℕ) → sites ≡ range_with_len 0 64 → AreSiteNumbers sites
alone sites is = record {
  each = ap length is ∙ length-range_with_len 0 64;
  few = All-from_get_or (λ site. site < 64) sites 0 (λ k within.
      let low : k < 64 = omega (arith, within, ap length is, length-range_with_len 0 64) in
      let at : get_or sites k 0 ≡ 0 + k = ap (λ xs. get_or xs k 0) is ∙ get_or-range_with_len 0 64 k 0 low in
      omega (arith, low, at));
}

-- what a slice of all sites was made
pub all_written : (old new : List ℕ) (count : ℕ) → count ≡ length old → length old ≡ length new → take count (new ++ drop (length new) old) ≡ new
all_written old new count all same =
    ap (λ xs. take count (new ++ xs)) (drop_all (length new) old (omega (arith, same)))
    ∙ ap (take count) (append-nil new)
    ∙ take_all count new (omega (arith, all, same))

module _ (s : Setup) (ticks : ℕ) (firsts : List ℕ) where
  module _ (first next : ℕ) (before sites : List ℕ) (within : next < length firsts) (so_far : IsJoined s ticks (take next firsts) first before sites) where
    abbrev Agrees : (ℕ → ℕ) → ℕ → Type 0
    Agrees mark other = link_delay s first other < ticks → mark (group_at s.groups first) ≡ mark (group_at s.groups other)

    -- one more that is no neighbour
    pub passed_over : (link_delay s first (get_or firsts next 0) < ticks → ⊥) → IsJoined s ticks (take (next + 1) firsts) first before sites
    passed_over far = λ mark. (
      (λ agrees. let old = (so_far mark).0 agrees in (old.0, All-more (Agrees mark) firsts next 0 within old.1 (λ short. absurd (far short)))),
      (λ both. (so_far mark).1 (both.0, (one_less (Agrees mark) firsts next within both.1).0)),
    )

    -- one more that is one, and whose site was joined
    pub joined_too : (after : List ℕ) → link_delay s first (get_or firsts next 0) < ticks
        → ((mark : ℕ → ℕ) → AgreesOnSites after mark → AgreesOnSites sites mark × (mark (group_at s.groups first) ≡ mark (group_at s.groups (get_or firsts next 0))))
        → ((mark : ℕ → ℕ) → AgreesOnSites sites mark → mark (group_at s.groups first) ≡ mark (group_at s.groups (get_or firsts next 0)) → AgreesOnSites after mark)
        → IsJoined s ticks (take (next + 1) firsts) first before after
    joined_too after short agreed_before agree_now = λ mark. (
      (λ agrees.
          let both = agreed_before mark agrees in
          let old = (so_far mark).0 both.0 in
          (old.0, All-more (Agrees mark) firsts next 0 within old.1 (λ _. both.1))),
      (λ both.
          let rest = one_less (Agrees mark) firsts next within both.1 in
          agree_now mark ((so_far mark).1 (both.0, rest.0)) (rest.1 short)),
    )

  -- each group is a site of its own
  pub none_joined : (sites : List ℕ) → sites ≡ range_with_len 0 64 → AreJoined s ticks firsts [] sites
  none_joined sites alone = λ mark. (
    (λ _. All-nil (λ first. AgreesOnNeighbours s ticks firsts first mark)),
    (λ _ a b low_a low_b same.
        let at : (k : ℕ) → k < 64 → get_or sites k 0 ≡ 0 + k = λ k low. ap (λ xs. get_or xs k 0) alone ∙ get_or-range_with_len 0 64 k 0 low in
        ap mark (omega (arith, at a low_a, at b low_b, same))),
  )

  -- one group more is joined with its neighbours
  pub one_more : (next : ℕ) (sites after : List ℕ) → next < length firsts → AreJoined s ticks firsts (take next firsts) sites → IsJoined s ticks firsts (get_or firsts next 0) sites after
      → AreJoined s ticks firsts (take (next + 1) firsts) after
  one_more next sites after within so_far here = λ mark. (
    (λ agrees.
        let both = (here mark).0 agrees in
        All-more (λ first. AgreesOnNeighbours s ticks firsts first mark) firsts next 0 within ((so_far mark).0 both.0) both.1),
    (λ all.
        let rest = one_less (λ first. AgreesOnNeighbours s ticks firsts first mark) firsts next within all in
        (here mark).1 ((so_far mark).1 rest.0, rest.1)),
  )
