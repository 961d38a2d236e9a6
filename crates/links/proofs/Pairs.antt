-- The first two members of each group have the delays of all pairs.
use Rattle.std.proofs.Common.{◌≡◌, ℕ, ◌+◌, ◌-◌, ◌<◌, ◌≤◌, ◌⊎◌, inl, inr, Bool, true, false, not, nat_le, nat_eq, List, [], length, get_or, Option, Some, None, refl, sym, ap, ◌∙◌, subst, arith, zero, suc}
use Rattle.std.specs.Option.{unwrap_or, option_and_then}
use Rattle.std.specs.List.{slice_get}
use Rattle.std.proofs.lemmas.Bool.{and_parts, eqb-true, eq-eqb, ne_eqb, leb-true, cases_eq, false≢true}
use Rattle.std.proofs.lemmas.List.{nil_from_length}
use Rattle.std.proofs.lemmas.Option.{slice_get-get_or}
use Rattle.scenario.specs.declared.settings.Link.{Link}
use Rattle.links.specs.Entries.{numbered, number_in, route, link_of_pair}
use Rattle.links.specs.declared.routes.Routes.{Routes}
use Rattle.links.specs.Least.{AreOrderedPair, IsLeast, IsLeastBelow, is_third, is_other}

same_group : (groups : List ℕ) (a b : ℕ) → a < length groups → b < length groups → get_or groups a 0 ≡ get_or groups b 0 → slice_get groups a ≡ slice_get groups b
same_group groups a b i j same = slice_get-get_or groups a 0 i ∙ ap Some same ∙ sym (slice_get-get_or groups b 0 j)

-- a member with two others of its group right before it
record FollowsTwo (groups : List ℕ) (m : ℕ) : Type 0 where
  late : 2 ≤ m
  one : slice_get groups (m - 1) ≡ slice_get groups m
  two : slice_get groups (m - 2) ≡ slice_get groups m

follows_two : (groups : List ℕ) (m : ℕ) → m < length groups → is_third groups m ≡ true → FollowsTwo groups m
follows_two groups m within third =
    let parts = and_parts (nat_le 2 m) _ third in
    let groups_same = and_parts (nat_eq (get_or groups (m - 1) 0) (get_or groups m 0)) _ parts.1 in
    let late : 2 ≤ m = leb-true 2 m parts.0 in
    record {
      late = late;
      one = same_group groups (m - 1) m (omega (arith, late, within)) within (eqb-true _ _ groups_same.0);
      two = same_group groups (m - 2) m (omega (arith, late, within)) within (eqb-true _ _ groups_same.1);
    }

module _ (groups : List ℕ) (link : Link) (routes : ℕ → ℕ → Option Link) where
  abbrev delay : ℕ → ℕ → ℕ
  delay i j = (link_of_pair groups link routes i j).delay

  -- a pair of members that aren't passed over, with the delay of this one
  record StandsFor (i j : ℕ) : Type 0 where
    sender : ℕ
    receiver : ℕ
    apart : AreOrderedPair (length groups) sender receiver
    sender_kept : is_third groups sender ≡ false
    receiver_kept : is_third groups receiver ≡ false
    same : delay sender receiver ≡ delay i j

  of_sender : (i k j : ℕ) → slice_get groups k ≡ slice_get groups i → delay k j ≡ delay i j
  of_sender i k j same = ap (λ o. (unwrap_or (option_and_then (λ from. option_and_then (λ to. routes from to) (slice_get groups j)) o) link).delay) same

  of_receiver : (i j k : ℕ) → slice_get groups k ≡ slice_get groups j → delay i k ≡ delay i j
  of_receiver i j k same = ap (λ o. (unwrap_or (option_and_then (λ from. option_and_then (λ to. routes from to) o) (slice_get groups i)) link).delay) same

  carried : (i j k l : ℕ) → delay k l ≡ delay i j → StandsFor k l → StandsFor i j
  carried i j k l same stands = record {
    sender = stands.sender;
    receiver = stands.receiver;
    apart = stands.apart;
    sender_kept = stands.sender_kept;
    receiver_kept = stands.receiver_kept;
    same = stands.same ∙ same;
  }

  -- of the two members before it, one that isn't the other of the pair
  record Earlier (m other : ℕ) : Type 0 where
    at : ℕ
    before : at < m
    different : ¬ (at ≡ other)
    same : slice_get groups at ≡ slice_get groups m

  earlier_by : (m other : ℕ) → FollowsTwo groups m → (m - 1 ≡ other) ⊎ (¬ (m - 1 ≡ other)) → Earlier m other
  earlier_by m other two (inl same) = record { at = m - 2; before = omega (arith, two.late); different = λ is. omega (arith, two.late, same, is); same = two.two }
  earlier_by m other two (inr different) = record { at = m - 1; before = omega (arith, two.late); different = different; same = two.one }

  earlier : (m other : ℕ) → FollowsTwo groups m → Earlier m other
  earlier m other two = earlier_by m other two (cases_eq (m - 1) other)

  -- each pair has the delay of one whose members aren't passed over, where each earlier pair has
  stands_by : (t i j : ℕ) → i + j < suc t → AreOrderedPair (length groups) i j → ((k l : ℕ) → k + l < t → AreOrderedPair (length groups) k l → StandsFor k l)
      → (a b : Bool) → is_third groups i ≡ a → is_third groups j ≡ b → StandsFor i j
  stands_by t i j below apart before false false first second = record { sender = i; receiver = j; apart = apart; sender_kept = first; receiver_kept = second; same = refl }
  stands_by t i j below apart before true b first second =
      let e = earlier i j (follows_two groups i apart.sender first) in
      let there : AreOrderedPair (length groups) e.at j = record { sender = omega (arith, e.before, apart.sender); receiver = apart.receiver; different = e.different } in
      carried i j e.at j (of_sender i e.at j e.same) (before e.at j (omega (arith, e.before, below)) there)
  stands_by t i j below apart before false true first second =
      let e = earlier j i (follows_two groups j apart.receiver second) in
      let there : AreOrderedPair (length groups) i e.at = record { sender = apart.sender; receiver = omega (arith, e.before, apart.receiver); different = λ same. e.different (sym same) } in
      carried i j i e.at (of_receiver i j e.at e.same) (before i e.at (omega (arith, e.before, below)) there)

  stands : (t i j : ℕ) → i + j < t → AreOrderedPair (length groups) i j → StandsFor i j
  stands zero i j below apart = absurd (omega (arith, below))
  stands (suc t) i j below apart = stands_by t i j below apart (stands t) (is_third groups i) (is_third groups j) refl refl

  other_taken : (i j : ℕ) → AreOrderedPair (length groups) i j → is_third groups j ≡ false → is_other groups i j ≡ true
  other_taken i j apart kept = rw (ne_eqb j i (λ same. apart.different (sym same)), kept)

  taken_differs : (i j : ℕ) → is_other groups i j ≡ true → ¬ (i ≡ j)
  taken_differs i j taken same =
      let unequal : not (nat_eq j i) ≡ true = (and_parts (not (nat_eq j i)) (not (is_third groups j)) taken).0 in
      false≢true (ap not (sym (eq-eqb j i (sym same))) ∙ unequal)

  -- so the least delay over those is the least over all
  pub least_of_all : (k : ℕ) (least : Option ℕ) → k ≡ length groups → IsLeastBelow (is_third groups) (is_other groups) delay (length groups) k least → IsLeast delay (length groups) least
  least_of_all k None all none_taken = λ i j apart.
      let s = stands (suc (i + j)) i j (omega arith) apart in
      let within : s.sender < k = omega (arith, all, s.apart.sender) in
      absurd (false≢true (sym (none_taken s.sender s.receiver within s.sender_kept s.apart.receiver) ∙ other_taken s.sender s.receiver s.apart s.receiver_kept))
  least_of_all k (Some d) all (reached, no_greater) = (
    (reached.0, reached.1, record { sender = omega (arith, all, reached.2); receiver = reached.3; different = taken_differs reached.0 reached.1 reached.4 }, reached.5),
    λ i j apart.
        let s = stands (suc (i + j)) i j (omega arith) apart in
        let within : s.sender < k = omega (arith, all, s.apart.sender) in
        subst (λ n. d ≤ n) s.same (no_greater s.sender s.receiver within s.sender_kept s.apart.receiver (other_taken s.sender s.receiver s.apart s.receiver_kept)),
  )

-- ---- where no path is named

pub no_pair : (delay : ℕ → ℕ → ℕ) (n : ℕ) → n < 2 → IsLeast delay n None
no_pair delay n few = λ i j apart. apart.different (let s = apart.sender in let r = apart.receiver in omega (arith, s, r, few))

nobody_named : (link : Link) (routes : ℕ → ℕ → Option Link) → ((f t : ℕ) → routes f t ≡ None) → (from to : Option ℕ)
    → unwrap_or (option_and_then (λ f. option_and_then (λ t. routes f t) to) from) link ≡ link
nobody_named link routes none None to = refl
nobody_named link routes none (Some f) None = refl
nobody_named link routes none (Some f) (Some t) = ap (λ o. unwrap_or o link) (none f t)

none_numbered : (number : ℕ) → numbered [] number ≡ None
unfolding numbered
none_numbered zero = refl
none_numbered (suc k) = refl

module _ (groups : List ℕ) (link : Link) (routes : Routes) (empty : length routes.links.items ≡ 0) where
  no_route : (f t : ℕ) → route routes f t ≡ None
  no_route f t = ap (λ links. numbered links (number_in routes.rows.items f t)) (nil_from_length routes.links.items empty) ∙ none_numbered (number_in routes.rows.items f t)

  common : (i j : ℕ) → link_of_pair groups link (route routes) i j ≡ link
  common i j = nobody_named link (route routes) no_route (slice_get groups i) (slice_get groups j)

  pub one_delay : 1 < length groups → IsLeast (λ i j. (link_of_pair groups link (route routes) i j).delay) (length groups) (Some link.delay)
  one_delay several = (
    (0, 1, record { sender = omega (arith, several); receiver = several; different = λ same. absurd (omega (arith, same)) }, ap (λ (l : Link). l.delay) (common 0 1)),
    λ i j apart. subst (λ (l : Link). link.delay ≤ l.delay) (sym (common i j)) (let e : link.delay ≤ link.delay = omega arith in e),
  )
