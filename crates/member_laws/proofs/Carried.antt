-- Whom the updates are about that messages take along.
use Rattle.std.proofs.Common.{◌≡◌, ℕ, ◌==◌, Bool, true, false, cond, eqb, List, [], ◌∷◌, map, filter, find, take, filter_map, zero, suc, Option, Some, None, refl, sym, ap, subst, ◌∙◌}
use Rattle.std.proofs.lemmas.Option.{same_Some}
use Rattle.std.specs.Option.{is_some, option_and_then, option_to_list}
use Rattle.std.specs.List.{AllByRecursion, cons_option}
use Rattle.std.specs.Ordering.{nat_cmp, eq_by_cmp, is_eq}
use Rattle.std.specs.Cmp.{nat_cmp_total, tied_itself, unsigned_tied}
use Rattle.std.specs.FinMap.{entries, values, get, insert, contains_key, entries_sorted, get-entries}
use Rattle.std.specs.FinMap.Entries as by
use Rattle.std.proofs.lemmas.Bool.{false≢true, eqb-true, and_parts}
use Rattle.base.proofs.Rising.{all_append}
use Rattle.incarnation.specs.declared.Claim.{Claim}
use Rattle.incarnation.specs.declared.Claim.TheVariants.{Alive}
use Rattle.incarnation.specs.declared.Update.{Update}
use Rattle.piggyback.specs.Picked.{Counted, HeldUpdates, counted_with, count_before, in_order, is_candidate, picked, waiting, left_after, left_by_pick}
use Rattle.piggyback.proofs.Counts.{find_below_all, kept, get-left_after}
use Rattle.piggyback.proofs.Rising.{true_from_T}
use Rattle.membership.specs.Table.{Known, update_by, updates_by}
use Rattle.member.specs.Send.{whole_table}
use Rattle.member_laws.proofs.Tables.{get_put, has_put}

-- ---- lists

module _ {X : Type 0} (P : X → Type 0) where
  all_take : (n : ℕ) (xs : List X) → AllByRecursion P xs → AllByRecursion P (take n xs)
  all_take zero xs h = tt
  all_take (suc n) [] h = tt
  all_take (suc n) (x ∷ xs) h = (h.0, all_take n xs h.1)

  pub all_filter : (p : X → Bool) (xs : List X) → AllByRecursion P xs → AllByRecursion P (filter p xs)
  all_filter p [] h = tt
  all_filter p (x ∷ xs) h = either (p x) (all_filter p xs h.1)
    where
      either : (b : Bool) → AllByRecursion P (filter p xs) → AllByRecursion P (cond b (x ∷ filter p xs) (filter p xs))
      either true rest = (h.0, rest)
      either false rest = rest

  found_either : (b : Bool) (x y : X) (rest : Option X) → P x → (rest ≡ Some y → P y) → cond b (Some x) rest ≡ Some y → P y
  found_either true x y rest own later is = subst P (same_Some x y is) own
  found_either false x y rest own later is = later is

  found : (p : X → Bool) (xs : List X) (y : X) → AllByRecursion P xs → find p xs ≡ Some y → P y
  found p [] y h is = absurd (false≢true (ap is_some is))
  found p (x ∷ xs) y h is = found_either (p x) x y (find p xs) h.0 (found p xs y h.1) is

  all_filter_map : {N : Type 0} (h : N → Option X) → ((n : N) (x : X) → h n ≡ Some x → P x) → (ns : List N) → AllByRecursion P (filter_map h ns)
  all_filter_map h is [] = tt
  all_filter_map h is (n ∷ ns) = either (h n) refl (all_filter_map h is ns)
    where
      either : (o : Option X) → h n ≡ o → AllByRecursion P (filter_map h ns) → AllByRecursion P (cons_option o (filter_map h ns))
      either None e rest = rest
      either (Some x) e rest = (is n x e, rest)

  pub all_map : {Y : Type 0} (f : Y → X) (ys : List Y) → AllByRecursion (λ y. P (f y)) ys → AllByRecursion P (map f ys)
  all_map f [] h = tt
  all_map f (y ∷ ys) h = (h.0, all_map f ys h.1)

-- ---- maps

find_at_first : {X : Type 0} (e : ℕ × X) (es : List (ℕ × X)) → by.find nat_cmp e.0 (e ∷ es) ≡ Some e.1
find_at_first e es = ap (λ o. cond (is_eq o) (Some e.1) (by.find nat_cmp e.0 es)) (tied_itself nat_cmp_total e.0)

module _ (N : ℕ → Type 0) where
  abbrev About : Counted → Type 0
  About it = N it.0.subject

  later : (q : ℕ) (it : Counted) (e : ℕ × Counted) (es : List (ℕ × Counted)) (b : Bool) → eq_by_cmp nat_cmp q e.0 ≡ b → by.below_all nat_cmp e.0 es ≡ true → by.find nat_cmp q es ≡ Some it
      → cond b (Some e.1) (by.find nat_cmp q es) ≡ Some it
  later q it e es true tied below there =
      let same : q ≡ e.0 = eqb-true q e.0 (sym (unsigned_tied q e.0) ∙ tied) in
      absurd (false≢true (ap is_some (sym (ap (λ r. by.find nat_cmp r es) same ∙ find_below_all e.0 es below) ∙ there)))
  later q it e es false tied below there = there

  all_found : (es : List (ℕ × Counted)) → by.is_sorted nat_cmp es ≡ true → ((q : ℕ) (it : Counted) → by.find nat_cmp q es ≡ Some it → About it) → AllByRecursion (λ e. About e.1) es
  all_found [] sorted h = tt
  all_found (e ∷ es) sorted h =
      let parts = and_parts (by.below_all nat_cmp e.0 es) (by.is_sorted nat_cmp es) sorted in
      (h e.0 e.1 (find_at_first e es), all_found es parts.1 (λ q it there. h q it (later q it e es (eq_by_cmp nat_cmp q e.0) refl parts.0 there)))

  pub all_values : (held : HeldUpdates) → ((q : ℕ) (it : Counted) → get held q ≡ Some it → About it) → AllByRecursion About (values held)
  all_values held h =
      all_map About (λ (e : ℕ × Counted). e.1) (entries held)
      (all_found (entries held) (true_from_T _ (entries_sorted held)) (λ q it there. h q it (get-entries held q ∙ there)))

  all_in_order : (these : List Counted) → AllByRecursion About these → AllByRecursion About (in_order these)
  all_in_order these h = all_filter_map About (λ place. find (λ it. count_before these it == place) these) (λ place it is. found About _ these it h is) _

  all_buddy : (buddy : Option Update) → ((u : Update) → buddy ≡ Some u → N u.subject) → AllByRecursion (λ u. N u.subject) (option_to_list buddy)
  all_buddy None h = tt
  all_buddy (Some u) h = (h u refl, tt)

  pub all_picked : (held : HeldUpdates) (carry limit : ℕ) (buddy : Option Update) → ((q : ℕ) (it : Counted) → get held q ≡ Some it → About it)
      → ((u : Update) → buddy ≡ Some u → N u.subject) → AllByRecursion (λ u. N u.subject) (picked held carry limit buddy)
  all_picked held carry limit buddy h g =
      let candidates = filter (is_candidate limit buddy) (values held) in
      all_take (λ (u : Update). N u.subject) carry _
      (all_append (λ (u : Update). N u.subject) (option_to_list buddy) _ (all_buddy buddy g)
      (all_map (λ (u : Update). N u.subject) (λ (it : Counted). it.0) (in_order candidates)
      (all_in_order candidates (all_filter About (is_candidate limit buddy) (values held) (all_values held h)))))

  -- what is left after a message
  left_kept : (updates : List Update) (limit : ℕ) (o : Option Counted) (it : Counted) → ((x : Counted) → o ≡ Some x → About x) → option_and_then (kept updates limit) o ≡ Some it → About it
  left_kept updates limit None it h is = absurd (false≢true (ap is_some is))
  left_kept updates limit (Some x) it h is = found_either About _ (counted_with updates x) it None (h x refl) (λ e. absurd (false≢true (ap is_some e))) is

  pub all_left : (held : HeldUpdates) (carry limit : ℕ) (buddy : Option Update) → ((q : ℕ) (it : Counted) → get held q ≡ Some it → About it)
      → (q : ℕ) (it : Counted) → get (left_by_pick held carry limit buddy) q ≡ Some it → About it
  all_left held carry limit buddy h q it here =
      left_kept (picked held carry limit buddy) limit (get held q) it (h q) (sym (get-left_after (picked held carry limit buddy) limit held q) ∙ here)

  pub all_left_after : (held : HeldUpdates) (updates : List Update) (limit : ℕ) → ((q : ℕ) (it : Counted) → get held q ≡ Some it → About it)
      → (q : ℕ) (it : Counted) → get (left_after held updates limit) q ≡ Some it → About it
  all_left_after held updates limit h q it here = left_kept updates limit (get held q) it (h q) (sym (get-left_after updates limit held q) ∙ here)

  -- all that waits
  pub all_waiting : (held : HeldUpdates) (limit : ℕ) → ((q : ℕ) (it : Counted) → get held q ≡ Some it → About it) → AllByRecursion (λ u. N u.subject) (waiting held limit)
  all_waiting held limit h =
      let candidates = filter (is_candidate limit None) (values held) in
      all_map (λ (u : Update). N u.subject) (λ (it : Counted). it.0) (in_order candidates) (all_in_order candidates (all_filter About (is_candidate limit None) (values held) (all_values held h)))

  put_either : (b : Bool) (v it : Counted) (rest : Option Counted) → About v → (rest ≡ Some it → About it) → cond b (Some v) rest ≡ Some it → About it
  put_either b v it rest own later is = found_either About b v it rest own later is

  pub all_put : (held : HeldUpdates) (u : Update) → N u.subject → ((q : ℕ) (it : Counted) → get held q ≡ Some it → About it)
      → (q : ℕ) (it : Counted) → get (insert held u.subject (u, 0)) q ≡ Some it → About it
  all_put held u own h q it here = put_either (eqb q u.subject) (u, 0) it (get held q) own (h q it) (sym (get_put held u.subject q (u, 0)) ∙ here)

  -- ---- the table

  next_key : (b : Bool) (x : Claim × ℕ) (o : Option (Claim × ℕ)) → is_some o ≡ true → is_some (cond b (Some x) o) ≡ true
  next_key true x o h = refl
  next_key false x o h = h

  all_keys : (es : List (ℕ × (Claim × ℕ))) → ((q : ℕ) → is_some (by.find nat_cmp q es) ≡ true → N q) → AllByRecursion (λ e. N e.0) es
  all_keys [] h = tt
  all_keys (e ∷ es) h = (h e.0 (ap is_some (find_at_first e es)), all_keys es (λ q there. h q (next_key (eq_by_cmp nat_cmp q e.0) e.1 (by.find nat_cmp q es) there)))

  known_either : (b : Bool) (me q : ℕ) (rest : Bool) → eqb q me ≡ b → N me → (rest ≡ true → N q) → cond b true rest ≡ true → N q
  known_either true me q rest e own later is = subst N (sym (eqb-true q me e)) own
  known_either false me q rest e own later is = later is

  pub all_said : (me incarnation : ℕ) (word : Claim) (table : Known) → N me → ((q : ℕ) → contains_key table q ≡ true → N q) → AllByRecursion (λ u. N u.subject) (updates_by me (insert table me (word, incarnation)))
  unfolding updates_by
  all_said me incarnation word table own h =
      all_map (λ (u : Update). N u.subject) (update_by me) (entries (insert table me (word, incarnation)))
      (all_keys (entries (insert table me (word, incarnation)))
      (λ q there. known_either (eqb q me) me q (contains_key table q) refl own (h q)
      (sym (has_put table me q (word, incarnation)) ∙ ap is_some (get-entries (insert table me (word, incarnation)) q) ∙ there)))

  pub all_whole : (me incarnation : ℕ) (table : Known) → N me → ((q : ℕ) → contains_key table q ≡ true → N q) → AllByRecursion (λ u. N u.subject) (whole_table me incarnation table)
  unfolding whole_table
  all_whole me incarnation table own h = all_said me incarnation Alive table own h
