-- The scripts of members, place by place and event by event; and the greatest extra, entry by entry.
use Rattle.std.proofs.Common.{◌≡◌, ◌≢◌, ◌<◌, ◌≤◌, ◌+◌, ℕ, List, [], ◌∷◌, ◌++◌, Bool, true, false, cond, max, nat_eq, length, get_or, take, inl, inr, refl, ap, sym, ◌∙◌, arith}
use Rattle.std.specs.List.{filter}
use Rattle.std.proofs.lemmas.Bool.{cases_lt, cases_eq, eq-eqb, ne_eqb}
use Rattle.std.proofs.lemmas.List.{append-nil, get_or_append_left, get_or_push, get_or_past, length-append, take_more}
use Rattle.std.proofs.lemmas.List.Elements.{filter_more}
use Rattle.scenario.specs.Script.{is_of}
use Rattle.scenario.specs.Scripts.{script_at}
use Rattle.scenario.specs.Setup.{is_slow, more_extra, greatest_extra}
use Rattle.scenario.specs.declared.script.ScriptEvent.{ScriptEvent}
use Rattle.scenario.specs.declared.settings.Slow.{Slow}

-- a place without events is as good as none
pub place_more : (scripts : List (List ScriptEvent)) (m : ℕ) → script_at (scripts ++ [] ∷ []) m ≡ script_at scripts m
place_more scripts m = elim (cases_lt m (length scripts)) as (λ _. script_at (scripts ++ [] ∷ []) m ≡ script_at scripts m) [
  | inl a ↦ get_or_append_left scripts ([] ∷ []) [] m a
  | inr b ↦ elim (cases_eq (length scripts) m) as (λ _. script_at (scripts ++ [] ∷ []) m ≡ script_at scripts m) [
    | inl same ↦ get_or_push scripts [] [] m same ∙ sym (get_or_past scripts m [] b)
    | inr other ↦ get_or_past (scripts ++ [] ∷ []) m [] (let all = length-append scripts ([] ∷ []) in omega (arith, all, b, other)) ∙ sym (get_or_past scripts m [] b)
  ]
]

module _ (old new : List (List ScriptEvent)) (es : List ScriptEvent) (i k : ℕ) (e : ScriptEvent) (within : i < length es) (here : e ≡ get_or es i e) (member : k ≡ e.member)
    (added : script_at new k ≡ script_at old k ++ e ∷ []) (others : (m : ℕ) → m ≢ k → script_at new m ≡ script_at old m) where
  one_more : (m : ℕ) (b : Bool) → is_of m e ≡ b → filter (is_of m) (take (i + 1) es) ≡ filter (is_of m) (take i es) ++ cond b (e ∷ []) []
  one_more m b its =
      filter_more (is_of m) es i e within ∙ ap (λ x. filter (is_of m) (take i es) ++ cond (is_of m x) (x ∷ []) []) (sym here)
      ∙ ap (λ c. filter (is_of m) (take i es) ++ cond c (e ∷ []) []) its

  pub dealt_more : ((m : ℕ) → script_at old m ≡ filter (is_of m) (take i es)) → (m : ℕ) → script_at new m ≡ filter (is_of m) (take (i + 1) es)
  dealt_more before m = elim (cases_eq m k) as (λ _. script_at new m ≡ filter (is_of m) (take (i + 1) es)) [
    | inl same ↦
        ap (script_at new) same ∙ added ∙ ap (λ n. script_at old n ++ e ∷ []) (sym same) ∙ ap (λ l. l ++ e ∷ []) (before m)
        ∙ sym (one_more m true (eq-eqb e.member m (sym (same ∙ member))))
    | inr other ↦
        others m other ∙ before m ∙ sym (append-nil (filter (is_of m) (take i es))) ∙ sym (one_more m false (ne_eqb e.member m (λ same. other (sym same ∙ sym member))))
  ]

-- ---- the greatest extra

either_first : (p q : Bool) (a b n : ℕ) → cond p (max a (cond q (max b n) n)) (cond q (max b n) n) ≡ cond q (max b (cond p (max a n) n)) (cond p (max a n) n)
either_first true true a b n = omega arith
either_first true false a b n = refl
either_first false true a b n = refl
either_first false false a b n = refl

greatest_last : (m t : ℕ) (es : List Slow) (e : Slow) → greatest_extra (es ++ e ∷ []) m t ≡ more_extra m t e (greatest_extra es m t)
greatest_last m t [] e = refl
greatest_last m t (x ∷ es) e = ap (more_extra m t x) (greatest_last m t es e) ∙ either_first (is_slow m t x) (is_slow m t e) x.extra e.extra (greatest_extra es m t)

pub greatest_more : (m t : ℕ) (es : List Slow) (i : ℕ) (e : Slow) (so_far new : ℕ) → i < length es → e ≡ get_or es i e → so_far ≡ greatest_extra (take i es) m t → new ≡ more_extra m t e so_far
    → new ≡ greatest_extra (take (i + 1) es) m t
greatest_more m t es i e so_far new within here before is =
    is ∙ ap (more_extra m t e) before ∙ sym (ap (λ l. greatest_extra l m t) (take_more es i e within ∙ ap (λ x. take i es ++ x ∷ []) (sym here)) ∙ greatest_last m t (take i es) e)
