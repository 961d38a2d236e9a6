-- The times of members' pauses, place by place and pause by pause.
use Rattle.std.proofs.Common.{◌≡◌, ◌≢◌, ◌<◌, ◌≤◌, ◌+◌, ℕ, List, [], ◌∷◌, ◌++◌, Bool, true, false, ◌&&◌, ◌||◌, nat_lt, nat_le, length, get_or, take, inl, inr, refl, ap, sym, ◌∙◌, subst, arith}
use Rattle.std.specs.List.{list_any}
use Rattle.std.proofs.lemmas.Bool.{cases_lt, cases_eq, eq-eqb, ne_eqb}
use Rattle.std.proofs.lemmas.List.{get_or_append_left, get_or_push, get_or_past, get_or_read, length-append}
use Rattle.std.proofs.lemmas.List.Folds.{list_any_more}
use Rattle.scenario.specs.Setup.{is_in_pause}
use Rattle.scenario.specs.Spells.{is_in_any, HaveBegun}
use Rattle.scenario.specs.Naps.{naps_at}
use Rattle.scenario.specs.declared.spells.Spell.{Spell}
use Rattle.scenario.specs.declared.settings.Pause.{Pause}

-- a place without times is as good as none
pub place_more : (naps : List (List Spell)) (m : ℕ) → naps_at (naps ++ [] ∷ []) m ≡ naps_at naps m
place_more naps m = elim (cases_lt m (length naps)) as (λ _. naps_at (naps ++ [] ∷ []) m ≡ naps_at naps m) [
  | inl a ↦ get_or_append_left naps ([] ∷ []) [] m a
  | inr b ↦ elim (cases_eq (length naps) m) as (λ _. naps_at (naps ++ [] ∷ []) m ≡ naps_at naps m) [
    | inl same ↦ get_or_push naps [] [] m same ∙ sym (get_or_past naps m [] b)
    | inr other ↦ get_or_past (naps ++ [] ∷ []) m [] (let all = length-append naps ([] ∷ []) in omega (arith, all, b, other)) ∙ sym (get_or_past naps m [] b)
  ]
]

or_false : (b : Bool) → (b || false) ≡ b
or_false true = refl
or_false false = refl

module _ (old new : List (List Spell)) (ps : List Pause) (i k from until : ℕ) (p : Pause) (within : i < length ps) (here : p ≡ get_or ps i p) (member : k ≡ p.member) (begins : from ≡ p.from) (ends : until ≡ p.until)
    (added : (t : ℕ) → is_in_any (naps_at new k) t ≡ (is_in_any (naps_at old k) t || (nat_le from t && nat_lt t until)))
    (others : (m : ℕ) → m ≢ k → naps_at new m ≡ naps_at old m) (begun : HaveBegun (naps_at new k) from) where
  one : (m t : ℕ) → is_in_any (naps_at new m) t ≡ (is_in_any (naps_at old m) t || is_in_pause m t p)
  one m t = elim (cases_eq m k) as (λ _. is_in_any (naps_at new m) t ≡ (is_in_any (naps_at old m) t || is_in_pause m t p)) [
    | inl a ↦
        ap (λ n. is_in_any (naps_at new n) t) a ∙ added t ∙ ap (λ n. is_in_any (naps_at old n) t || (nat_le from t && nat_lt t until)) (sym a)
        ∙ ap (λ n. is_in_any (naps_at old m) t || (nat_le n t && nat_lt t until)) begins
        ∙ ap (λ n. is_in_any (naps_at old m) t || (nat_le p.from t && nat_lt t n)) ends
        ∙ ap (λ b. is_in_any (naps_at old m) t || (b && (nat_le p.from t && nat_lt t p.until))) (sym (eq-eqb p.member m (sym (a ∙ member))))
    | inr b ↦
        ap (λ xs. is_in_any xs t) (others m b) ∙ sym (or_false (is_in_any (naps_at old m) t))
        ∙ ap (λ v. is_in_any (naps_at old m) t || (v && (nat_le p.from t && nat_lt t p.until))) (sym (ne_eqb p.member m (λ same. b (sym same ∙ sym member))))
  ]

  pub nap_more : ((m t : ℕ) → is_in_any (naps_at old m) t ≡ list_any (is_in_pause m t) (take i ps)) → (m t : ℕ) → is_in_any (naps_at new m) t ≡ list_any (is_in_pause m t) (take (i + 1) ps)
  nap_more before m t =
      one m t ∙ ap (λ b. b || is_in_pause m t p) (before m t) ∙ ap (λ q. list_any (is_in_pause m t) (take i ps) || is_in_pause m t q) here
      ∙ sym (list_any_more (is_in_pause m t) ps i p within)

  pub begun_more : ((a b : ℕ) (d : Pause) → a ≤ b → b < length ps → (get_or ps a d).from ≤ (get_or ps b d).from)
      → ((m j : ℕ) (d : Pause) → i ≤ j → j < length ps → HaveBegun (naps_at old m) (get_or ps j d).from)
      → (m j : ℕ) (d : Pause) → i + 1 ≤ j → j < length ps → HaveBegun (naps_at new m) (get_or ps j d).from
  begun_more rising before m j d later below = elim (cases_eq m k) as (λ _. HaveBegun (naps_at new m) (get_or ps j d).from) [
    | inl a ↦ subst (λ n. HaveBegun (naps_at new n) (get_or ps j d).from) (sym a) (λ n e inside.
        let first = begun n e inside in
        let next : from ≤ (get_or ps j d).from = subst (λ x. x ≤ (get_or ps j d).from) (ap (λ (q : Pause). q.from) (sym (get_or_read ps i p within here d)) ∙ sym begins) (rising i j d (omega (arith, later)) below) in
        omega (arith, first, next))
    | inr b ↦ subst (λ xs. HaveBegun xs (get_or ps j d).from) (sym (others m b)) (before m j d (omega (arith, later)) below)
  ]

-- without a place nothing has begun
pub none_begun : (m t : ℕ) → HaveBegun (naps_at [] m) t
none_begun m t = λ i d within. absurd (omega (arith, within))
