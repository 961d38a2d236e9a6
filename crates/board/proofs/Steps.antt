-- Each step at a board keeps its rule.
use Rattle.std.proofs.Common.{◌≡◌, ◌≢◌, ℕ, zero, suc, ◌+◌, ◌-◌, ◌<◌, List, [], ◌∷◌, ◌++◌, length, set, map, Result, Ok, Err, MatchResult, IfErr, sym, refl, ap, ◌∙◌, subst, ⊎_elim, append-nil, arith}
use mathlib.Core.Option.{some, some-injective, some-ne-none}
use lib.ListN.{get_elem?}
use Rattle.std.specs.List.{sum_by, flat_map}
use Rattle.std.proofs.lemmas.List.{map-append, length-map}
use Rattle.std.proofs.lemmas.List.Elements.{All-push, All-head, All-tail, All-nil}
use Rattle.std.proofs.lemmas.List.Sums.{sum_by-cons, sum_by-append, sum_by_push}
use Rattle.crossbeam_queue.specs.Fifo.{Pushes, Pops, Forks, Merges, Learns, Held}
use Rattle.crossbeam_queue.proofs.Lists.{at_set, at_snoc}
use Rattle.board.specs.declared.rule.Hand.{Hand}
use Rattle.board.specs.Deal.{SameBag, DealBalance, whole, hand, IsBalanced, Sees}
use Rattle.board.proofs.Hands.{total_set, weight_set, two_at_most, alone, flat_last}

-- who has no share has dealt and taken nothing
abbrev Spent : {V : Type 0} → List (Hand V) → Type 0
Spent {V} hands = (port : ℕ) (v : Hand V) → get_elem? hands port ≡ some v → v.share ≡ 0 → (v.dealt ≡ []) × (v.taken ≡ [])

abbrev taken_by : {V : Type 0} → List (Hand V) → List V
taken_by hands = flat_map (λ v. v.taken) hands

spent_set : {V : Type 0} (hands : List (Hand V)) (port : ℕ) (w : Hand V) → (w.share ≡ 0 → (w.dealt ≡ []) × (w.taken ≡ [])) → Spent hands → Spent (set hands port w)
spent_set {V} hands port w mine old j u e = ⊎_elim
    (λ (is : (j ≡ port) × (w ≡ u)). subst (λ (y : Hand V). y.share ≡ 0 → (y.dealt ≡ []) × (y.taken ≡ [])) is.1 mine)
    (λ (is : (j ≢ port) × (get_elem? hands j ≡ some u)). old j u is.1)
    (at_set hands port j w u e)

only : {V : Type 0} → Spent (hand {V = V} whole [] [] ∷ [])
only zero v e none = absurd (omega (arith, ap (λ (u : Hand _). u.share) (some-injective (hand whole [] []) v e)))
only (suc port) v e none = absurd (some-ne-none v (sym e))

module _ {T V : Type 0} (stands_for : T → V) (belongs : T → Type 0) where
  pub begins : IsBalanced stands_for belongs [] (hand whole [] [] ∷ [])
  begins = record {
    shares = refl;
    balance = λ h. refl;
    spent = only;
    belong = All-nil belongs;
  }

  pub deals : (n port : ℕ) (v : Hand V) (x : T) → 0 < v.share → belongs x → Pushes (IsBalanced stands_for belongs) n port v x (λ w. w ≡ hand v.share (v.dealt ++ stands_for x ∷ []) v.taken)
  deals n port v x some_share mine items hands _ rule at =
      let w : Hand V = hand v.share (v.dealt ++ stands_for x ∷ []) v.taken in (
        w,
        record {
          shares = omega (arith, total_set (λ (u : Hand V). u.share) hands port v w at, rule.shares);
          balance = λ h.
              omega (
                arith,
                rule.balance h,
                weight_set h (λ (u : Hand V). u.dealt) hands port v w at,
                weight_set h (λ (u : Hand V). u.taken) hands port v w at,
                sum_by_push h v.dealt (stands_for x),
                sum_by_push h (map stands_for items) (stands_for x),
                ap (sum_by h) (map-append stands_for items (x ∷ [])),
                sum_by-append h (taken_by hands) (map stands_for items),
                sum_by-append h (taken_by (set hands port w)) (map stands_for (items ++ x ∷ [])),
              );
          spent = spent_set hands port w (λ none. absurd (omega arith)) rule.spent;
          belong = All-push belongs items x rule.belong mine;
        },
        refl,
      )

  pub takes : (port : ℕ) (v : Hand V) → 0 < v.share → Pops (IsBalanced stands_for belongs) port v (λ x w. (w ≡ hand v.share v.dealt (v.taken ++ stands_for x ∷ [])) × belongs x)
  takes port v some_share x items hands rule at =
      let w : Hand V = hand v.share v.dealt (v.taken ++ stands_for x ∷ []) in (
        w,
        record {
          shares = omega (arith, total_set (λ (u : Hand V). u.share) hands port v w at, rule.shares);
          balance = λ h.
              omega (
                arith,
                rule.balance h,
                weight_set h (λ (u : Hand V). u.dealt) hands port v w at,
                weight_set h (λ (u : Hand V). u.taken) hands port v w at,
                sum_by_push h v.taken (stands_for x),
                sum_by-cons h (stands_for x) (map stands_for items),
                sum_by-append h (taken_by hands) (map stands_for (x ∷ items)),
                sum_by-append h (taken_by (set hands port w)) (map stands_for items),
              );
          spent = spent_set hands port w (λ none. absurd (omega arith)) rule.spent;
          belong = All-tail belongs x items rule.belong;
        },
        (refl, All-head belongs x items rule.belong),
      )

  pub sees : (port : ℕ) (v : Hand V) → Learns (IsBalanced stands_for belongs) port v (Sees stands_for belongs v)
  sees port v items hands rule at = (
    (λ all.
        let others : (j : ℕ) (u : Hand V) → j ≢ port → get_elem? hands j ≡ some u → (u.dealt ≡ []) × (u.taken ≡ []) =
        λ j u apart e. rule.spent j u e (omega (arith, two_at_most (λ (y : Hand V). y.share) hands port j v u at e apart, rule.shares, all)) in
        let dealt = alone (λ (u : Hand V). u.dealt) hands port v at (λ j u apart e. (others j u apart e).0) in
        let taken = alone (λ (u : Hand V). u.taken) hands port v at (λ j u apart e. (others j u apart e).1) in
        λ h.
        omega (
          arith,
          rule.balance h,
          ap (sum_by h) dealt,
          ap (sum_by h) taken,
          sum_by-append h (taken_by hands) (map stands_for items),
          sum_by-append h v.taken (map stands_for items),
        )),
    rule.belong,
  )

  pub cuts : (port : ℕ) (v : Hand V) → 1 < v.share → Forks (IsBalanced stands_for belongs) port v (hand (v.share - 1) v.dealt v.taken) (hand 1 [] [])
  cuts port v shares items hands rule at =
      let l : Hand V = hand (v.share - 1) v.dealt v.taken in
      let r : Hand V = hand 1 [] [] in
      let hands' : List (Hand V) = set hands port l in
      record {
        shares = omega (arith, total_set (λ (u : Hand V). u.share) hands port v l at, rule.shares, sum_by_push (λ (u : Hand V). u.share) hands' r);
        balance = λ h.
            omega (
              arith,
              rule.balance h,
              weight_set h (λ (u : Hand V). u.dealt) hands port v l at,
              weight_set h (λ (u : Hand V). u.taken) hands port v l at,
              ap (sum_by h) (flat_last (λ (u : Hand V). u.dealt) hands' r ∙ append-nil (flat_map (λ (u : Hand V). u.dealt) hands')),
              ap (sum_by h) (flat_last (λ (u : Hand V). u.taken) hands' r ∙ append-nil (taken_by hands')),
              sum_by-append h (taken_by hands) (map stands_for items),
              sum_by-append h (taken_by (hands' ++ r ∷ [])) (map stands_for items),
            );
        spent = λ j u e.
            ⊎_elim (λ (was : get_elem? hands' j ≡ some u). spent_set hands port l (λ none. absurd (omega arith)) rule.spent j u was)
            (λ (is : r ≡ u). subst (λ (y : Hand V). y.share ≡ 0 → (y.dealt ≡ []) × (y.taken ≡ [])) is (λ none. absurd (omega arith)))
            (at_snoc hands' r u j e);
        belong = rule.belong;
      }

  pub joins : (port : ℕ) (v : Hand V) (other : ℕ) (w : Hand V) → 0 < v.share
      → Merges (IsBalanced stands_for belongs) port v other w (hand (v.share + w.share) (v.dealt ++ w.dealt) (v.taken ++ w.taken)) (hand 0 [] [])
  joins port v other w some_share items hands rule at apart at' =
      let b : Hand V = hand (v.share + w.share) (v.dealt ++ w.dealt) (v.taken ++ w.taken) in
      let none : Hand V = hand 0 [] [] in
      let hands' : List (Hand V) = set hands port b in
      record {
        shares =
            omega (
              arith,
              total_set (λ (u : Hand V). u.share) hands port v b at,
              total_set (λ (u : Hand V). u.share) hands' other w none at',
              rule.shares,
            );
        balance = λ h.
            omega (
              arith,
              rule.balance h,
              weight_set h (λ (u : Hand V). u.dealt) hands port v b at,
              weight_set h (λ (u : Hand V). u.taken) hands port v b at,
              weight_set h (λ (u : Hand V). u.dealt) hands' other w none at',
              weight_set h (λ (u : Hand V). u.taken) hands' other w none at',
              sum_by-append h v.dealt w.dealt,
              sum_by-append h v.taken w.taken,
              sum_by-append h (taken_by hands) (map stands_for items),
              sum_by-append h (taken_by (set hands' other none)) (map stands_for items),
            );
        spent = spent_set hands' other none (λ _. (refl, refl)) (spent_set hands port b (λ none. absurd (omega arith)) rule.spent);
        belong = rule.belong;
      }

  -- a push that was refused found the board full
  pub refused : {U : Type 0} (P : U → Type 0) (n : ℕ) (v w : Hand V) (item : T) (r : Result U T)
      → MatchResult r P (λ x. (x ≡ item) × (w ≡ v) × Held n (Sees stands_for belongs v))
      → IfErr r (λ _. v.share ≡ whole → (lying : List V) × (length lying ≡ n) × DealBalance v.dealt v.taken lying)
  refused P n v w item (Ok u) h = tt
  refused P n v w item (Err x) h = λ all. (map stands_for h.2.0, length-map h.2.0 stands_for ∙ h.2.1, h.2.2.0 all)

  -- what is counted lies on the board
  pub counted : (n : ℕ) (v : Hand V) (dealt taken : List V) → v.share ≡ whole → SameBag v.dealt dealt → SameBag v.taken taken → Held n (Sees stands_for belongs v)
      → (lying : List V) × (length lying ≡ n) × DealBalance dealt taken lying
  counted n v dealt taken all same same' held =
      let lying = map stands_for held.0 in (
        lying,
        length-map held.0 stands_for ∙ held.1,
        λ h. omega (arith, same h, same' h, held.2.0 all h, sum_by-append h v.taken lying, sum_by-append h taken lying),
      )

-- where nothing lies there, all was taken
pub none_lie : {V : Type 0} (n : ℕ) (dealt taken : List V) → (lying : List V) × (length lying ≡ n) × DealBalance dealt taken lying → n ≡ 0 → SameBag dealt taken
none_lie n dealt taken ([], l, balance) none = λ h. balance h ∙ ap (sum_by h) (append-nil taken)
none_lie n dealt taken (x ∷ xs, l, balance) none = absurd (omega arith)
