-- Words and what they want, side by side.
use Rattle.std.proofs.Common.{◌∙◌, ◌+◌, ◌<◌, ℕ, zero, suc, List, [], ◌∷◌, ◌++◌, Bor, ap, arith, get_or, length, map, subst, sym, take}
use Rattle.std.proofs.lemmas.List.{map-append, take_more}
use Rattle.goals.specs.declared.want.Want.{Want}
use Rattle.goals.specs.Words.{AreWants, IsWantWord}

zip_push : (words : List (List ℕ)) (wants : List Want) (word : List ℕ) (want : Want) → AreWants words wants → IsWantWord word want → AreWants (words ++ word ∷ []) (wants ++ want ∷ [])
zip_push [] [] word want all here = (here, tt)
zip_push [] (w ∷ wants) word want all here = absurd all
zip_push (v ∷ words) [] word want all here = absurd all
zip_push (v ∷ words) (w ∷ wants) word want all here = (all.0, zip_push words wants word want all.1 here)

abbrev text : Bor (List ℕ) → List ℕ
text word = word.now

-- one word more
pub one_more : (words : List (Bor (List ℕ))) (i : ℕ) (d : Bor (List ℕ)) → i < length words → (wants : List Want) (want : Want) → AreWants (map text (take i words)) wants
    → IsWantWord (get_or words i d).now want → AreWants (map text (take (i + 1) words)) (wants ++ want ∷ [])
one_more words i d inside wants want so here =
    subst (λ l. AreWants l (wants ++ want ∷ [])) (sym (ap (map text) (take_more words i d inside) ∙ map-append text (take i words) (get_or words i d ∷ [])))
    (zip_push (map text (take i words)) wants (get_or words i d).now want so here)

-- where a word wants nothing, they don't
pub none_at : (words : List (Bor (List ℕ))) (i : ℕ) (d : Bor (List ℕ)) → i < length words → ((want : Want) → IsWantWord (get_or words i d).now want → ⊥)
    → (wants : List Want) → AreWants (map text words) wants → ⊥
none_at [] i d inside none wants are = absurd (omega (arith, inside))
none_at (word ∷ words) i d inside none [] are = are
none_at (word ∷ words) zero d inside none (want ∷ wants) are = none want are.0
none_at (word ∷ words) (suc i) d inside none (want ∷ wants) are = none_at words i d (omega (arith, inside)) none wants are.1
