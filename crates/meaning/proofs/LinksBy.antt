-- The links of a group by the paths so far, in a list by the numbers of the other groups.
use Rattle.std.proofs.Common.{◌≡◌, ℕ, ◌+◌, ◌<◌, Bool, true, false, ◌&&◌, nat_eq, inl, inr, List, length, take, get_or, set, replicate, Some, None, sym, ap, ◌∙◌, subst, arith}
use Rattle.std.specs.List.{slice_get}
use Rattle.std.specs.Option.{unwrap_or}
use Rattle.std.proofs.lemmas.Bool.{cases_lt, cases_eq}
use Rattle.std.proofs.lemmas.Bool.Decides.{nat_tests}
use Rattle.std.proofs.lemmas.List.{get_or-replicate, length-replicate, length-set, get_or-set_same, get_or-set_other}
use Rattle.std.proofs.lemmas.Option.{slice_get-get_or, slice_get_past}
use Rattle.scenario.specs.declared.settings.Link.{Link}
use Rattle.scenario.specs.declared.settings.Path.{Path}
use Rattle.scenario.proofs.Between.{last_more}
use Rattle.meaning.specs.Trips.{AreLinksBy, last_of, put_if}

-- what stands at a place is there
stands_within : (xs : List Link) (h : ℕ) (l : Link) → slice_get xs h ≡ Some l → h < length xs
stands_within xs h l is = elim (cases_lt h (length xs)) as (λ _. h < length xs) [
  | inl within ↦ within
  | inr past ↦ (let nothing : None ≡ Some l = sym (slice_get_past xs h past) ∙ is in absurd (cc nothing))
]

stands : (xs : List Link) (h : ℕ) (l : Link) → slice_get xs h ≡ Some l → l ≡ get_or xs h l
stands xs h l is = ap (λ o. unwrap_or o l) (sym is ∙ slice_get-get_or xs h l (stands_within xs h l is))

-- without paths each link is that of all pairs
pub no_paths : (n : ℕ) (base : Link) (xs : List Link) → xs ≡ replicate n base → AreLinksBy (λ _. base) xs
no_paths n base xs all h l is =
    let in_all : slice_get (replicate n base) h ≡ Some l = ap (λ ys. slice_get ys h) (sym all) ∙ is in
    stands (replicate n base) h l in_all ∙ get_or-replicate n h base l (subst (λ k. h < k) (length-replicate n base) (stands_within (replicate n base) h l in_all))

module _ (base : Link) (test : ℕ → Path → Bool) (ps : List Path) (i : ℕ) (d : Path) (within : i < length ps) (old : List Link)
    (before : AreLinksBy (λ h. last_of base (test h) (take i ps)) old) where
  -- a path that concerns no place
  kept : ((h : ℕ) → test h (get_or ps i d) ≡ false) → AreLinksBy (λ h. last_of base (test h) (take (i + 1) ps)) old
  kept none h l is = before h l is ∙ sym (last_more base (test h) ps i d false within (none h))

  -- a path that concerns one place
  placed : (at : ℕ) → ((h : ℕ) → test h (get_or ps i d) ≡ nat_eq at h) → AreLinksBy (λ h. last_of base (test h) (take (i + 1) ps)) (set old at (get_or ps i d).link)
  placed at only h l is =
      let p = get_or ps i d in
      let new = set old at p.link in
      let here : h < length old = subst (λ n. h < n) (length-set old at p.link) (stands_within new h l is) in
      elim (cases_eq h at) as (λ _. l ≡ last_of base (test h) (take (i + 1) ps)) [
        | inl same ↦ (
            let passes : test h p ≡ true = only h ∙ grind (arith, nat_tests, same) in
            let there : get_or new h l ≡ p.link = subst (λ k. get_or (set old at p.link) k l ≡ p.link) (sym same) (get_or-set_same old at p.link l (subst (λ k. k < length old) same here)) in
            stands new h l is ∙ there ∙ sym (last_more base (test h) ps i d true within passes))
        | inr other ↦ (
            let fails : test h p ≡ false = only h ∙ grind (arith, nat_tests, other) in
            let as_before : l ≡ get_or old h l = stands new h l is ∙ get_or-set_other old at h p.link l other in
            let was : slice_get old h ≡ Some l = slice_get-get_or old h l here ∙ ap Some (sym as_before) in
            before h l was ∙ sym (last_more base (test h) ps i d false within fails))
      ]

  -- a path that concerns one place, where a test of its own holds
  pub path_more : (wanted : Bool) (at : ℕ) (new : List Link) → ((h : ℕ) → test h (get_or ps i d) ≡ (wanted && nat_eq at h))
      → new ≡ put_if wanted at (get_or ps i d).link old → AreLinksBy (λ h. last_of base (test h) (take (i + 1) ps)) new
  path_more true at new only is = subst (AreLinksBy (λ h. last_of base (test h) (take (i + 1) ps))) (sym is) (placed at only)
  path_more false at new only is = subst (AreLinksBy (λ h. last_of base (test h) (take (i + 1) ps))) (sym is) (kept only)
