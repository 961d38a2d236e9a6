-- Windows of all parts lead to one world, in whichever order they stand.
use Rattle.std.proofs.Common.{◌≡◌, ◌≢◌, ◌⊎◌, ℕ, ◌<◌, ◌≤◌, Bool, true, false, nat_lt, cond, List, [], ◌∷◌, Some, ap, inl, inr, ◌∙◌, sym, subst, refl, arith}
use Rattle.std.specs.List.{AllByRecursion, filter}
use Rattle.std.specs.Ordering.{eq_by_cmp, is_eq}
use Rattle.std.specs.Cmp.{tied_itself}
use Rattle.std.specs.FinMap.{FinMap, get, insert, get-insert, same_map}
use Rattle.std.proofs.lemmas.Bool.{false≢true, ltb-true, ltb-false}
use Rattle.std.proofs.lemmas.List.Elements.{filter-append, recursion_from_All}
use Rattle.base.specs.declared.key.Key.{Key}
use Rattle.base.specs.Order.{key_cmp, key_total, key_exact}
use Rattle.base.specs.World.{with_events}
use Rattle.base.specs.Run.{tells}
use Rattle.base.specs.Rising.{IsRising, AreNew}
use Rattle.base.proofs.Rising.{all_append, all_weaker, all_front, all_back}
use Rattle.scenario.specs.Setup.{Setup, IsSound}
use Rattle.trace.specs.declared.row.Row.{Row}
use Rattle.member.specs.declared.event_kind.EventKind.{EventKind}
use Rattle.member.specs.State.{State}
use Rattle.member.specs.Step.{step}
use Rattle.member_laws.specs.Runs.{Cluster}
use Rattle.windows.specs.Parts.{Window, IsWindowOfItsPart, AreWindowsOfDifferentParts, IncludesPart, PartWindow, StandsAfter, part_of, for_own, with_arrivals, is_in, all_out}
use Rattle.windows.specs.Cluster.{UsesUpTo}
use Rattle.windows.proofs.Cuts.{all_kept}
use Rattle.windows.proofs.Division.{same_parts}
use Rattle.windows.proofs.Far.{all_both}
use Rattle.windows.proofs.Members.{sent_new}
use Rattle.windows.proofs.Swaps.{NoneIs}
use Rattle.lookahead_windows.proofs.AllWindows.{window_once, window_at, window_runs, named_at}
use Rattle.lookahead_windows.proofs.Bounded.{rising_last}
use Rattle.lookahead_windows.proofs.Pending.{all_passing}

-- ---- events that come in any order

module _ {C : Type 0} where
  get_other : (es : List (Key × C)) (m : FinMap key_cmp C) (k : Key) → NoneIs k es → get (with_events m es) k ≡ get m k
  get_other [] m k none = refl
  get_other (e ∷ es) m k none = get_other es (insert m e.0 e.1) k none.1 ∙ get-insert key_total m e.0 e.1 k ∙ by_test (eq_by_cmp key_cmp k e.0) refl
    where
      by_test : (b : Bool) → eq_by_cmp key_cmp k e.0 ≡ b → cond b (Some e.1) (get m k) ≡ get m k
      by_test true same = absurd (none.0 (sym (tells k e.0 same)))
      by_test false other = refl

  get_itself : (m : FinMap key_cmp C) (k : Key) (c : C) → get (insert m k c) k ≡ Some c
  get_itself m k c = get-insert key_total m k c k ∙ ap (λ o. cond (is_eq o) (Some c) (get m k)) (tied_itself key_total k)

  -- events with different keys pend as they came
  each_found : (es : List (Key × C)) (m : FinMap key_cmp C) → IsRising (λ e f. e.0 ≢ f.0) es → AllByRecursion (λ e. get (with_events m es) e.0 ≡ Some e.1) es
  each_found [] m up = tt
  each_found (e ∷ es) m up = (
    get_other es (insert m e.0 e.1) e.0 (all_weaker (λ f. e.0 ≢ f.0) (λ f. f.0 ≢ e.0) (λ f other same. other (sym same)) es up.0) ∙ get_itself m e.0 e.1,
    each_found es (insert m e.0 e.1) up.1,
  )

  -- what holds of all their keys holds of a key, or it is none of theirs
  either_key : (P : Key → Type 0) (k : Key) (es : List (Key × C)) → AllByRecursion (λ e. P e.0) es → P k ⊎ NoneIs k es
  either_key P k [] all = inr tt
  either_key P k (e ∷ es) all = by_test (eq_by_cmp key_cmp e.0 k) refl (either_key P k es all.1)
    where
      by_test : (b : Bool) → eq_by_cmp key_cmp e.0 k ≡ b → P k ⊎ NoneIs k es → P k ⊎ NoneIs k (e ∷ es)
      by_test true same rest = inl (subst P (tells e.0 k same) all.0)
      by_test false other (inl found) = inl found
      by_test false other (inr none) = inr ((λ same. false≢true (sym other ∙ ap (λ (q : Key). eq_by_cmp key_cmp q k) same ∙ ap is_eq (tied_itself key_total k))), none)

  module _ (m : FinMap key_cmp C) (es fs : List (Key × C)) (up : IsRising (λ e f. e.0 ≢ f.0) es) (rises : IsRising (λ e f. e.0 ≢ f.0) fs) where
    abbrev IsAlike : Key → Type 0
    IsAlike k = get (with_events m es) k ≡ get (with_events m fs) k

    alike : (l : List (Key × C)) → AllByRecursion (λ e. get (with_events m es) e.0 ≡ Some e.1) l → AllByRecursion (λ e. get (with_events m fs) e.0 ≡ Some e.1) l → AllByRecursion (λ e. IsAlike e.0) l
    alike l first second =
        all_weaker _ (λ e. IsAlike e.0) (λ e h. h.0 ∙ sym h.1) l (all_both (λ e. get (with_events m es) e.0 ≡ Some e.1) (λ e. get (with_events m fs) e.0 ≡ Some e.1) l first second)

    either_alike : (k : Key) → IsAlike k ⊎ NoneIs k es → IsAlike k ⊎ NoneIs k fs → IsAlike k
    either_alike k (inl same) other = same
    either_alike k (inr none) (inl same) = same
    either_alike k (inr none) (inr gone) = get_other es m k none ∙ sym (get_other fs m k gone)

    -- Events of which the ones are among the others, and back.
    pub same_events : ((P : Key × C → Type 0) → AllByRecursion P es → AllByRecursion P fs) → ((P : Key × C → Type 0) → AllByRecursion P fs → AllByRecursion P es) → with_events m es ≡ with_events m fs
    same_events there back =
        same_map key_total key_exact (with_events m es) (with_events m fs) (λ k.
        either_alike k
        (either_key IsAlike k es (alike es (each_found es m up) (back (λ e. get (with_events m fs) e.0 ≡ Some e.1) (each_found fs m rises))))
        (either_key IsAlike k fs (alike fs (there (λ e. get (with_events m es) e.0 ≡ Some e.1) (each_found es m up)) (each_found fs m rises))))

-- what holds of what passes holds of all that is kept
all_of_kept : {A : Type 0} (test : A → Bool) (P : A → Type 0) (xs : List A) → AllByRecursion (λ x. test x ≡ true → P x) xs → AllByRecursion P (filter test xs)
all_of_kept test P xs all = all_weaker _ P (λ x h. h.1 h.0) (filter test xs) (all_kept test (λ x. test x ≡ true → P x) xs all)

-- ---- windows of one world

module _ (s : Setup) (sound : IsSound s) (division bounds : ℕ → ℕ) (w : Cluster) where
  abbrev IsHere : Window State EventKind Row → Type 0
  IsHere d = IsWindowOfItsPart (step s) division bounds w d

  -- windows of one part are one
  pub window_of_part : (d e : Window State EventKind Row) → IsHere d → IsHere e → d.part ≡ e.part → (d.after ≡ e.after) × (d.out ≡ e.out) × (d.rows ≡ e.rows)
  window_of_part d e a b same =
      window_once s sound (is_in division e.part) (bounds e.part) (part_of (is_in division e.part) w) d.after e.after d.keys e.keys d.out e.out d.rows e.rows
      (subst (λ n. PartWindow (step s) (is_in division n) (bounds n) (part_of (is_in division n) w) d.keys d.out d.rows d.after) same a) b

  out_there : (P : Key × EventKind → Type 0) (d : Window State EventKind Row) → IsHere d → (es : List (Window State EventKind Row)) → AllByRecursion IsHere es → IncludesPart es d.part → AllByRecursion P (all_out es)
      → AllByRecursion P d.out
  out_there P d here [] all none holds = absurd none
  out_there P d here (e ∷ es) all (inl same) holds = subst (AllByRecursion P) (sym (window_of_part d e here all.0 (sym same)).1) (all_front P e.out (all_out es) holds)
  out_there P d here (e ∷ es) all (inr more) holds = out_there P d here es all.1 more (all_back P e.out (all_out es) holds)

  all_there : (P : Key × EventKind → Type 0) (ds es : List (Window State EventKind Row)) → AllByRecursion IsHere ds → AllByRecursion IsHere es → AllByRecursion (λ (d : Window State EventKind Row). IncludesPart es d.part) ds
      → AllByRecursion P (all_out es) → AllByRecursion P (all_out ds)
  all_there P [] es a b has holds = tt
  all_there P (d ∷ ds) es a b has holds = all_append P d.out (all_out ds) (out_there P d a.0 es b has.0 holds) (all_there P ds es a.1 b has.1 holds)

  own_there : (owns : ℕ → Bool) (ds es : List (Window State EventKind Row)) → AllByRecursion IsHere ds → AllByRecursion IsHere es → AllByRecursion (λ (d : Window State EventKind Row). IncludesPart es d.part) ds
      → (P : Key × EventKind → Type 0) → AllByRecursion P (for_own owns (all_out es)) → AllByRecursion P (for_own owns (all_out ds))
  own_there owns ds es a b has P holds =
      all_of_kept (λ (e : Key × EventKind). owns e.0.to) P (all_out ds)
      (all_there (λ e. owns e.0.to ≡ true → P e) ds es a b has (all_passing (λ (e : Key × EventKind). owns e.0.to) P (all_out es) holds))

  module _ (numbered : UsesUpTo w) where
    new_at : (part : ℕ) (l : List (Key × EventKind)) (es : List (Window State EventKind Row)) → AllByRecursion (λ (d : Window State EventKind Row). AreNew d.after.pending (for_own (is_in division d.part) l)) es
        → IncludesPart es part → IsRising (λ (e f : Key × EventKind). e.0 ≢ f.0) (for_own (is_in division part) l)
    new_at part l [] all none = absurd none
    new_at part l (d ∷ es) all (inl same) = subst (λ n. IsRising (λ (e f : Key × EventKind). e.0 ≢ f.0) (for_own (is_in division n) l)) same all.0.unlike_each_other
    new_at part l (d ∷ es) all (inr more) = new_at part l es all.1 more

    each_new : (ds : List (Window State EventKind Row)) → AreWindowsOfDifferentParts (step s) division bounds w ds
        → AllByRecursion (λ (d : Window State EventKind Row). AreNew d.after.pending (for_own (is_in division d.part) (all_out ds))) ds
    each_new ds are = recursion_from_All (λ (d : Window State EventKind Row). AreNew d.after.pending (for_own (is_in division d.part) (all_out ds))) ds (sent_new s division bounds w ds sound numbered are)

    -- a window of a part that has none among them stands before them
    apart_with : (x : Window State EventKind Row) → IsHere x → (ds : List (Window State EventKind Row)) → AreWindowsOfDifferentParts (step s) division bounds w ds
        → AllByRecursion (λ (d : Window State EventKind Row). x.part ≢ d.part) ds → IsRising (λ (e f : Key × EventKind). e.0 ≢ f.0) (for_own (is_in division x.part) (all_out ds))
    apart_with x here ds are others =
        let all : AreWindowsOfDifferentParts (step s) division bounds w (x ∷ ds) = record { windows = (here, are.windows); different = (others, are.different) } in
        rising_last (λ (e f : Key × EventKind). e.0 ≢ f.0) (for_own (is_in division x.part) x.out) (for_own (is_in division x.part) (all_out ds))
        (subst (IsRising (λ (e f : Key × EventKind). e.0 ≢ f.0)) (filter-append (λ (e : Key × EventKind). is_in division x.part e.0.to) x.out (all_out ds)) (each_new (x ∷ ds) all).0.unlike_each_other)

    module _ (parts : ℕ) where
      none_past : (part : ℕ) → parts ≤ part → (ds : List (Window State EventKind Row)) → AllByRecursion (λ (d : Window State EventKind Row). d.part < parts) ds → ¬ (IncludesPart ds part)
      none_past part past [] low none = none
      none_past part past (d ∷ ds) low (inl same) = let less = low.0 in omega (arith, less, same)
      none_past part past (d ∷ ds) low (inr more) = none_past part past ds low.1 more

      apart_past : (part : ℕ) → parts ≤ part → (ds : List (Window State EventKind Row)) → AreWindowsOfDifferentParts (step s) division bounds w ds → AllByRecursion (λ (d : Window State EventKind Row). d.part < parts) ds
          → IsRising (λ (e f : Key × EventKind). e.0 ≢ f.0) (for_own (is_in division part) (all_out ds))
      apart_past part past ds are low =
          let x = window_at s sound division w bounds part in
          let named : x.part ≡ part = named_at s sound division w bounds part in
          subst (λ n. IsRising (λ (e f : Key × EventKind). e.0 ≢ f.0) (for_own (is_in division n) (all_out ds))) named
          (apart_with x (window_runs s sound division w bounds part) ds are
          (all_weaker (λ (d : Window State EventKind Row). d.part < parts) (λ (d : Window State EventKind Row). x.part ≢ d.part) (λ d less same. omega (arith, less, same, named)) ds low))

      -- what went out for a part has different keys
      apart_in : (part : ℕ) (ds : List (Window State EventKind Row)) → AreWindowsOfDifferentParts (step s) division bounds w ds → AllByRecursion (λ (d : Window State EventKind Row). d.part < parts) ds
          → (part < parts → IncludesPart ds part) → IsRising (λ (e f : Key × EventKind). e.0 ≢ f.0) (for_own (is_in division part) (all_out ds))
      apart_in part ds are low has = by_test (nat_lt part parts) refl
        where
          by_test : (b : Bool) → nat_lt part parts ≡ b → IsRising (λ (e f : Key × EventKind). e.0 ≢ f.0) (for_own (is_in division part) (all_out ds))
          by_test true h = new_at part (all_out ds) ds (each_new ds are) (has (ltb-true part parts h))
          by_test false h = let past = ltb-false part parts h in apart_past part (omega (arith, past)) ds are low

      module _ (ds es : List (Window State EventKind Row)) (a : AreWindowsOfDifferentParts (step s) division bounds w ds) (b : AreWindowsOfDifferentParts (step s) division bounds w es)
          (a_low : AllByRecursion (λ (d : Window State EventKind Row). d.part < parts) ds) (b_low : AllByRecursion (λ (d : Window State EventKind Row). d.part < parts) es)
          (a_all : (part : ℕ) → part < parts → IncludesPart ds part) (b_all : (part : ℕ) → part < parts → IncludesPart es part) where
        own_same : (part : ℕ) (m : FinMap key_cmp EventKind) → with_events m (for_own (is_in division part) (all_out ds)) ≡ with_events m (for_own (is_in division part) (all_out es))
        own_same part m =
            same_events m (for_own (is_in division part) (all_out ds)) (for_own (is_in division part) (all_out es)) (apart_in part ds a a_low (a_all part)) (apart_in part es b b_low (b_all part))
            (own_there (is_in division part) es ds b.windows a.windows (all_weaker (λ (d : Window State EventKind Row). d.part < parts) (λ (d : Window State EventKind Row). IncludesPart ds d.part) (λ d low. a_all d.part low) es b_low))
            (own_there (is_in division part) ds es a.windows b.windows (all_weaker (λ (d : Window State EventKind Row). d.part < parts) (λ (d : Window State EventKind Row). IncludesPart es d.part) (λ d low. b_all d.part low) ds a_low))

        came_same : (part : ℕ) (p : Cluster) → with_arrivals p (for_own (is_in division part) (all_out ds)) ≡ with_arrivals p (for_own (is_in division part) (all_out es))
        came_same part p = ap (λ (m : FinMap key_cmp EventKind). record { members = p.members; pending = m }) (own_same part p.pending)

        -- the windows lead to one world
        pub one_after : (u v : Cluster) → StandsAfter division w ds u → StandsAfter division w es v → u ≡ v
        one_after u v first second = same_parts division u v each
          where
            after_there : (part : ℕ) (l : List (Key × EventKind)) (x : Cluster) (gs : List (Window State EventKind Row))
                → AllByRecursion (λ (d : Window State EventKind Row). part_of (is_in division d.part) x ≡ with_arrivals d.after (for_own (is_in division d.part) l)) gs → AllByRecursion IsHere gs → IncludesPart gs part
                → (d : Window State EventKind Row) × IsHere d × (d.part ≡ part) × (part_of (is_in division part) x ≡ with_arrivals d.after (for_own (is_in division part) l))
            after_there part l x [] cuts all none = absurd none
            after_there part l x (d ∷ gs) cuts all (inl same) =
                (d, all.0, same, subst (λ n. part_of (is_in division n) x ≡ with_arrivals d.after (for_own (is_in division n) l)) same cuts.0)
            after_there part l x (d ∷ gs) cuts all (inr more) = after_there part l x gs cuts.1 all.1 more

            here_same : (part : ℕ) → part < parts → part_of (is_in division part) u ≡ part_of (is_in division part) v
            here_same part low =
                let p = after_there part (all_out ds) u ds first.parts a.windows (a_all part low) in
                let q = after_there part (all_out es) v es second.parts b.windows (b_all part low) in
                let same = window_of_part p.0 q.0 p.1 q.1 (p.2 ∙ sym q.2) in
                p.3 ∙ came_same part p.0.after ∙ ap (λ (x : Cluster). with_arrivals x (for_own (is_in division part) (all_out es))) same.0 ∙ sym q.3

            each : (part : ℕ) → part_of (is_in division part) u ≡ part_of (is_in division part) v
            each part = by_test (nat_lt part parts) refl
              where
                by_test : (b : Bool) → nat_lt part parts ≡ b → part_of (is_in division part) u ≡ part_of (is_in division part) v
                by_test true h = here_same part (ltb-true part parts h)
                by_test false h =
                    let over = ltb-false part parts h in
                    let past : parts ≤ part = omega (arith, over) in
                    first.others part (none_past part past ds a_low) ∙ came_same part (part_of (is_in division part) w) ∙ sym (second.others part (none_past part past es b_low))
