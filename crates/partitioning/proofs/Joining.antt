-- Two sites that become one.
use Rattle.std.proofs.Common.{◌≡◌, ◌≢◌, ◌==◌, ℕ, ◌+◌, ◌<◌, ◌≤◌, List, ◌++◌, length, get_or, map, take, drop, All, true, false, if◌then◌else◌, inl, inr, refl, sym, ap, ◌∙◌, subst, arith}
use Rattle.std.proofs.Math.ListN.{set}
use Rattle.std.proofs.lemmas.Bool.{cases_eq}
use Rattle.std.proofs.lemmas.Bool.Decides.{nat_tests}
use Rattle.std.proofs.lemmas.List.{length-append, length-map, length-take, length-drop, get_or-map, get_or_default, take_all, drop_all, append-nil}
use Rattle.std.proofs.lemmas.List.Edits.{map_over_more}
use Rattle.std.proofs.lemmas.List.Elements.{All-map, All-weaker}
use Rattle.partitioning.specs.Sites.{AreSiteNumbers, AgreesOnSites, joined_site}

module _ (kept gone : ℕ) (old : List ℕ) where
  -- the first so many groups have their new site, the others that of before
  abbrev pub joined_below : ℕ → List ℕ
  joined_below i = map (joined_site kept gone) (take i old) ++ drop i old

  as_many : (i : ℕ) → i ≤ length old → length (joined_below i) ≡ length old
  as_many i within =
      let front = length-map (take i old) (joined_site kept gone) in
      omega (arith, within, length-append (map (joined_site kept gone) (take i old)) (drop i old), front, length-take i old, length-drop i old)

  -- one group more
  pub one_more : (i site : ℕ) (sites after : List ℕ) → i < length old → sites ≡ joined_below i → site ≡ joined_site kept gone (get_or sites i 0) → after ≡ set sites i site → after ≡ joined_below (i + 1)
  one_more i site sites after within so_far is set_to =
      let inside : i < length sites = omega (arith, within, ap length so_far, as_many i (omega (arith, within))) in
      set_to ∙ ap (set sites i) is
      ∙ map_over_more (joined_site kept gone) old sites i (get_or sites i 0) within so_far (get_or_default sites i 0 (get_or sites i 0) inside)

  -- all of them
  pub all_joined : (i : ℕ) (sites : List ℕ) → length old ≤ i → sites ≡ joined_below i → sites ≡ map (joined_site kept gone) old
  all_joined i sites all so_far =
      so_far ∙ ap (λ xs. map (joined_site kept gone) xs ++ drop i old) (take_all i old all)
      ∙ ap (λ xs. map (joined_site kept gone) old ++ xs) (drop_all i old all) ∙ append-nil (map (joined_site kept gone) old)

module _ (group other : ℕ) (old new : List ℕ) (sound : AreSiteNumbers old) (low : group < 64) (high : other < 64)
    (is : new ≡ map (joined_site (get_or old group 0) (get_or old other 0)) old) where
  abbrev kept : ℕ
  kept = get_or old group 0

  abbrev gone : ℕ
  gone = get_or old other 0

  at : (k : ℕ) → k < 64 → get_or new k 0 ≡ joined_site kept gone (get_or old k 0)
  at k inside = ap (λ xs. get_or xs k 0) is ∙ get_or-map (joined_site kept gone) old k 0 0 (omega (arith, inside, sound.each))

  goes : (site : ℕ) → site ≡ gone → joined_site kept gone site ≡ kept
  goes site same =
      let test : (site == gone) ≡ true = grind (arith, nat_tests, same) in
      ap (λ b. if b then kept else site) test

  stays : (site : ℕ) → site ≢ gone → joined_site kept gone site ≡ site
  stays site apart =
      let test : (site == gone) ≡ false = grind (arith, nat_tests, apart) in
      ap (λ b. if b then kept else site) test

  within : (site : ℕ) → site < 64 → joined_site kept gone site < 64
  within site inside = elim (cases_eq site gone) as (λ _. joined_site kept gone site < 64) [
    | inl same ↦ omega (arith, goes site same, sound.few group 0 (omega (arith, low, sound.each)))
    | inr apart ↦ omega (arith, stays site apart, inside)
  ]

  pub still_numbers : AreSiteNumbers new
  still_numbers = record {
    each = ap length is ∙ length-map old (joined_site kept gone) ∙ sound.each;
    few = subst (All (λ s. s < 64)) (sym is) (All-map (λ s. s < 64) (joined_site kept gone) old (All-weaker (λ s. s < 64) (λ s. joined_site kept gone s < 64) within old sound.few));
  }

  kept_stays : joined_site kept gone kept ≡ kept
  kept_stays = elim (cases_eq kept gone) as (λ _. joined_site kept gone kept ≡ kept) [
    | inl same ↦ goes kept same
    | inr apart ↦ stays kept apart
  ]

  -- marks that agree on the new sites agree on the old ones, and on the two groups
  pub agreed_before : (mark : ℕ → ℕ) → AgreesOnSites new mark → AgreesOnSites old mark × (mark group ≡ mark other)
  agreed_before mark agrees = (
    (λ a b low_a low_b same. agrees a b low_a low_b (at a low_a ∙ ap (joined_site kept gone) same ∙ sym (at b low_b))),
    agrees group other low high (at group low ∙ kept_stays ∙ sym (goes gone refl) ∙ sym (at other high)),
  )

  -- and the other way round
  pub agree_now : (mark : ℕ → ℕ) → AgreesOnSites old mark → mark group ≡ mark other → AgreesOnSites new mark
  agree_now mark agrees same a b low_a low_b now =
      let from = get_or old a 0 in
      let to = get_or old b 0 in
      let both : joined_site kept gone from ≡ joined_site kept gone to = sym (at a low_a) ∙ now ∙ at b low_b in
      elim (cases_eq from gone) as (λ _. mark a ≡ mark b) [
        | inl gone_a ↦ elim (cases_eq to gone) as (λ _. mark a ≡ mark b) [
          | inl gone_b ↦ agrees a b low_a low_b (gone_a ∙ sym gone_b)
          | inr there_b ↦ agrees a other low_a high gone_a ∙ sym same ∙ agrees group b low low_b (sym (goes from gone_a) ∙ both ∙ stays to there_b)
        ]
        | inr there_a ↦ elim (cases_eq to gone) as (λ _. mark a ≡ mark b) [
          | inl gone_b ↦ agrees a group low_a low (sym (stays from there_a) ∙ both ∙ goes to gone_b) ∙ same ∙ agrees other b high low_b (sym gone_b)
          | inr there_b ↦ agrees a b low_a low_b (sym (stays from there_a) ∙ both ∙ stays to there_b)
        ]
      ]
