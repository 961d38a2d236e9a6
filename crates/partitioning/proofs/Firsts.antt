-- Members that stand for groups.
use Rattle.std.proofs.Common.{◌≡◌, ℕ, ◌+◌, ◌<◌, ◌≤◌, ◌&&◌, not, nat_lt, nat_eq, true, false, List, [], ◌∷◌, ◌++◌, length, get_or, All, inl, inr, refl, sym, ap, ◌∙◌, subst, arith}
use Rattle.std.proofs.lemmas.Bool.{cases_lt}
use Rattle.std.proofs.lemmas.Bool.Decides.{nat_tests}
use Rattle.std.proofs.lemmas.List.{length_push, get_or_append_left, get_or_push}
use Rattle.std.proofs.lemmas.List.Elements.{All-push}
use Rattle.scenario.specs.Setup.{Setup, Group, member_count, group_at}
use Rattle.partitioning.specs.Sites.{StandForGroups}

-- one of the members is of this group
abbrev pub IsStoodFor : List Group → List ℕ → ℕ → Type 0
IsStoodFor gs firsts group = (k : ℕ) × (k < length firsts) × (group_at gs (get_or firsts k 0) ≡ group)

-- the groups of the members below a number are stood for, and the last one that was looked at
pub record StandSoFar (s : Setup) (firsts : List ℕ) (next last : ℕ) : Type 0 where
  pub members : All (λ m. m < member_count s) firsts
  pub looked_at : All (λ m. group_at s.groups m < 64) firsts
  pub each : (m : ℕ) → m < next → group_at s.groups m < 64 → IsStoodFor s.groups firsts (group_at s.groups m)
  pub latest : last < 64 → IsStoodFor s.groups firsts last

module _ (s : Setup) (firsts : List ℕ) (next last group : ℕ) (is : group ≡ group_at s.groups next) (so_far : StandSoFar s firsts next last) where
  -- a member whose group was the last, or isn't looked at
  pub passed_over : (nat_lt group 64 && not (nat_eq group last)) ≡ false → StandSoFar s firsts (next + 1) last
  passed_over test =
      let seen : group < 64 → group ≡ last = λ low. grind (arith, nat_tests) in
      record {
        members = so_far.members;
        looked_at = so_far.looked_at;
        each = λ m below low. elim (cases_lt m next) as (λ _. IsStoodFor s.groups firsts (group_at s.groups m)) [
          | inl lower ↦ so_far.each m lower low
          | inr upper ↦ (
              let here : m ≡ next = omega (arith, upper, below) in
              let same : group ≡ group_at s.groups m = is ∙ ap (group_at s.groups) (sym here) in
              let latest : last ≡ group_at s.groups m = sym (seen (omega (arith, same, low))) ∙ same in
              subst (IsStoodFor s.groups firsts) latest (so_far.latest (omega (arith, latest, low))))
        ];
        latest = so_far.latest;
      }

  -- the first one of a group
  pub taken : (after : List ℕ) → next < member_count s → (nat_lt group 64 && not (nat_eq group last)) ≡ true → after ≡ firsts ++ next ∷ [] → StandSoFar s after (next + 1) group
  taken after within test pushed =
      let low : group < 64 = grind (arith, nat_tests) in
      let longer : length after ≡ length firsts + 1 = ap length pushed ∙ length_push firsts next in
      let own : IsStoodFor s.groups after group = (
        length firsts,
        omega (arith, longer),
        ap (group_at s.groups) (ap (λ xs. get_or xs (length firsts) 0) pushed ∙ get_or_push firsts next 0 (length firsts) refl) ∙ sym is,
      ) in
      let others : (g : ℕ) → IsStoodFor s.groups firsts g → IsStoodFor s.groups after g = λ g stood. (
        stood.0,
        omega (arith, longer, stood.1),
        ap (group_at s.groups) (ap (λ xs. get_or xs stood.0 0) pushed ∙ get_or_append_left firsts (next ∷ []) 0 stood.0 stood.1) ∙ stood.2,
      ) in
      record {
        members = subst (All (λ m. m < member_count s)) (sym pushed) (All-push (λ m. m < member_count s) firsts next so_far.members within);
        looked_at = subst (All (λ m. group_at s.groups m < 64)) (sym pushed) (All-push (λ m. group_at s.groups m < 64) firsts next so_far.looked_at (omega (arith, low, is)));
        each = λ m below seen. elim (cases_lt m next) as (λ _. IsStoodFor s.groups after (group_at s.groups m)) [
          | inl lower ↦ others (group_at s.groups m) (so_far.each m lower seen)
          | inr upper ↦ (
              let here : m ≡ next = omega (arith, upper, below) in
              subst (IsStoodFor s.groups after) (is ∙ ap (group_at s.groups) (sym here)) own)
        ];
        latest = λ _. own;
      }

-- all members' groups are stood for
pub all_stood_for : (s : Setup) (firsts : List ℕ) (next last : ℕ) → member_count s ≤ next → StandSoFar s firsts next last → StandForGroups s firsts
all_stood_for s firsts next last all so_far = record {
  members = so_far.members;
  looked_at = so_far.looked_at;
  each = λ m below low. so_far.each m (omega (arith, below, all)) low;
}
