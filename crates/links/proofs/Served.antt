-- A table that is made of a scenario's groups, paths, slow entries and cuts serves that scenario.
use Rattle.std.proofs.Common.{◌≡◌, ℕ, false, ◌+◌, ◌<◌, ◌≤◌, ◌^◌, ◌⊎◌, inl, inr, List, [], ◌∷◌, ◌++◌, map, length, Option, Some, None, refl, sym, ap, ◌∙◌, subst, zero-add, arith}
use Rattle.std.specs.Option.{unwrap_or, option_and_then}
use Rattle.std.specs.List.{filter, range_with_len, slice_get, list_any}
use Rattle.std.specs.Map.{lookup}
use Rattle.std.specs.BTreeMap.{is_at}
use Rattle.std.proofs.lemmas.Bool.{cases_lt}
use Rattle.std.proofs.lemmas.List.{nil_from_length}
use Rattle.std.proofs.lemmas.List.FromFn.{length-map-range_with_len, get_or-map-range_with_len, map-range_with_len_more}
use Rattle.std.proofs.lemmas.Option.{slice_get-get_or, slice_get_past}
use Rattle.scenario.specs.Setup.{Setup, Group, group_at, member_count, leads, last_link, link_between, extra_of, cuts_off, is_cut, IsSound, IsSoundLink}
use Rattle.scenario.specs.Spells.{is_in_any}
use Rattle.scenario.specs.declared.spells.Spell.{Spell}
use Rattle.scenario.specs.declared.settings.Link.{Link}
use Rattle.scenario.specs.declared.settings.Path.{Path}
use Rattle.scenario.specs.declared.settings.Slow.{Slow}
use Rattle.scenario.specs.declared.settings.Cut.{Cut}
use Rattle.links.specs.Entries.{pair_cmp, link_of_pair, spans_in, slow_spans, extra_in, outages_in, outages_of_pair}
use Rattle.links.specs.declared.spans.times.SlowSpan.{SlowSpan}

-- the numbers of the groups of the first members
abbrev pub groups_below : List Group → ℕ → List ℕ
groups_below gs n = map (group_at gs) (range_with_len 0 n)

-- one member more
pub groups_more : (gs : List Group) (old new : List ℕ) (m x : ℕ) → old ≡ groups_below gs m → x ≡ group_at gs m → new ≡ old ++ x ∷ [] → new ≡ groups_below gs (m + 1)
groups_more gs old new m x before is more =
    more ∙ ap (λ xs. xs ++ x ∷ []) before ∙ ap (λ y. groups_below gs m ++ y ∷ []) is ∙ sym (map-range_with_len_more (group_at gs) 0 m m (zero-add m))

group_within : (gs : List Group) (n i : ℕ) → i < n → slice_get (groups_below gs n) i ≡ Some (group_at gs i)
group_within gs n i within =
    let here : i < length (groups_below gs n) = omega (arith, length-map-range_with_len (group_at gs) 0 n) in
    slice_get-get_or (groups_below gs n) i 0 here ∙ ap Some (get_or-map-range_with_len (group_at gs) 0 n i i 0 within (zero-add i))

group_past : (gs : List Group) (n i : ℕ) → n ≤ i → slice_get (groups_below gs n) i ≡ None
group_past gs n i past = slice_get_past (groups_below gs n) i (omega (arith, length-map-range_with_len (group_at gs) 0 n))

-- by the groups of two members, where they have one
abbrev by_groups : (ℕ → ℕ → Option Link) → Link → Option ℕ → Option ℕ → Link
by_groups routes link from to = unwrap_or (option_and_then (λ f. option_and_then (λ t. routes f t) to) from) link

nobody : (routes : ℕ → ℕ → Option Link) (link : Link) (from : Option ℕ) → by_groups routes link from None ≡ link
nobody routes link None = refl
nobody routes link (Some f) = refl

-- what the maps have of all paths and all slow entries
pub routes_of_all : (s : Setup) (ps : List Path) (routes : ℕ → ℕ → Option Link) → ps ≡ s.paths
    → ((l : Link) (from to : ℕ) → unwrap_or (routes from to) l ≡ last_link l (map (λ p. p.link) (filter (leads from to) ps)))
    → (l : Link) (from to : ℕ) → unwrap_or (routes from to) l ≡ last_link l (map (λ p. p.link) (filter (leads from to) s.paths))
routes_of_all s ps routes same last l from to = last l from to ∙ ap (λ (qs : List Path). last_link l (map (λ (p : Path). p.link) (filter (leads from to) qs))) same

pub outages_of_all : (s : Setup) (cs : List Cut) (outages : List ((ℕ × ℕ) × List Spell)) → cs ≡ s.cuts → ((from to t : ℕ) → is_in_any (outages_in outages from to) t ≡ list_any (cuts_off from to t) cs)
    → (from to t : ℕ) → is_in_any (outages_in outages from to) t ≡ list_any (cuts_off from to t) s.cuts
outages_of_all s cs outages same kept from to t = kept from to t ∙ ap (list_any (cuts_off from to t)) same

-- the times by the groups of two members, where they have one
abbrev outages_by_groups : List ((ℕ × ℕ) × List Spell) → Option ℕ → Option ℕ → List Spell
outages_by_groups table from to = unwrap_or (option_and_then (λ f. option_and_then (λ t. lookup (is_at (pair_cmp (f, t))) table) to) from) []

none_by_groups : (t : ℕ) (from to : Option ℕ) → is_in_any (outages_by_groups [] from to) t ≡ false
none_by_groups t None to = refl
none_by_groups t (Some f) None = refl
none_by_groups t (Some f) (Some g) = refl

-- an empty table cuts no link
pub never_cut : (groups : List ℕ) (outages : List ((ℕ × ℕ) × List Spell)) (i j t : ℕ) → length outages ≡ 0 → is_in_any (outages_of_pair groups outages i j) t ≡ false
never_cut groups outages i j t empty = ap (λ table. is_in_any (outages_of_pair groups table i j) t) (nil_from_length outages empty) ∙ none_by_groups t (slice_get groups i) (slice_get groups j)

module _ (s : Setup) (groups : List ℕ) (outages : List ((ℕ × ℕ) × List Spell)) (grouped : groups ≡ groups_below s.groups (member_count s))
    (kept : (from to t : ℕ) → is_in_any (outages_in outages from to) t ≡ list_any (cuts_off from to t) s.cuts) where
  pub cuts_are : (i j t : ℕ) → i < member_count s → j < member_count s → is_in_any (outages_of_pair groups outages i j) t ≡ is_cut s i j t
  cuts_are i j t sender receiver =
      ap (λ gs. is_in_any (outages_of_pair gs outages i j) t) grouped
      ∙ ap (λ o. is_in_any (outages_by_groups outages o (slice_get (groups_below s.groups (member_count s)) j)) t) (group_within s.groups (member_count s) i sender)
      ∙ ap (λ o. is_in_any (outages_by_groups outages (Some (group_at s.groups i)) o) t) (group_within s.groups (member_count s) j receiver)
      ∙ kept (group_at s.groups i) (group_at s.groups j) t

module _ (s : Setup) (groups : List ℕ) (link : Link) (routes : ℕ → ℕ → Option Link) (grouped : groups ≡ groups_below s.groups (member_count s)) (all : link ≡ s.link)
    (last : (l : Link) (from to : ℕ) → unwrap_or (routes from to) l ≡ last_link l (map (λ p. p.link) (filter (leads from to) s.paths))) where
  pub links_are : (i j : ℕ) → i < member_count s → j < member_count s → link_of_pair groups link routes i j ≡ link_between s i j
  links_are i j sender receiver =
      ap (λ gs. link_of_pair gs link routes i j) grouped
      ∙ ap (λ o. by_groups routes link o (slice_get (groups_below s.groups (member_count s)) j)) (group_within s.groups (member_count s) i sender)
      ∙ ap (λ o. by_groups routes link (Some (group_at s.groups i)) o) (group_within s.groups (member_count s) j receiver)
      ∙ ap (λ l. unwrap_or (routes (group_at s.groups i) (group_at s.groups j)) l) all
      ∙ last s.link (group_at s.groups i) (group_at s.groups j)

  others_sound : IsSound s → IsSoundLink link
  others_sound sound = subst IsSoundLink (sym all) (record { delay = sound.delay; jitter = sound.jitter; loss = sound.loss })

  no_receiver : (i j : ℕ) → member_count s ≤ j → link_of_pair groups link routes i j ≡ link
  no_receiver i j past =
      ap (λ o. by_groups routes link (slice_get groups i) o) (ap (λ gs. slice_get gs j) grouped ∙ group_past s.groups (member_count s) j past)
      ∙ nobody routes link (slice_get groups i)

  no_sender : (i j : ℕ) → member_count s ≤ i → link_of_pair groups link routes i j ≡ link
  no_sender i j past = ap (λ o. by_groups routes link o (slice_get groups j)) (ap (λ gs. slice_get gs i) grouped ∙ group_past s.groups (member_count s) i past)

  sound_by : IsSound s → (i j : ℕ) → (i < member_count s) ⊎ (member_count s ≤ i) → (j < member_count s) ⊎ (member_count s ≤ j) → IsSoundLink (link_of_pair groups link routes i j)
  sound_by sound i j (inl a) (inl b) = subst IsSoundLink (sym (links_are i j a b)) (sound.between i j)
  sound_by sound i j (inl a) (inr b) = subst IsSoundLink (sym (no_receiver i j b)) (others_sound sound)
  sound_by sound i j (inr a) b = subst IsSoundLink (sym (no_sender i j a)) (others_sound sound)

  pub links_sound : IsSound s → (i j : ℕ) → IsSoundLink (link_of_pair groups link routes i j)
  links_sound sound i j = sound_by sound i j (cases_lt i (member_count s)) (cases_lt j (member_count s))

module _ (s : Setup) (spans : List (List SlowSpan)) (extras_are : (m t : ℕ) → extra_in (spans_in spans m) t ≡ extra_of s m t) where
  pub extras_small : IsSound s → (m t : ℕ) → extra_in (spans_in spans m) t ≤ 2 ^ 24
  extras_small sound m t = subst (λ n. n ≤ 2 ^ 24) (sym (extras_are m t)) (sound.extras m t)
