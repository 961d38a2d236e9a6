use Rattle.std.proofs.Common.{◌≡◌, ◌++◌, ◌∷◌, [], List, ℕ, sym, subst, ◌∙◌}
use Rattle.std.proofs.lemmas.Bool.Decides.{Decides-eqb}
use Rattle.std.proofs.lemmas.List.{append_cancel_right}
use Rattle.std.proofs.lemmas.Option.{IfSome_then}
use Rattle.std.proofs.lemmas.Slice.Eq.{strip_suffix_is}
use Rattle.lengths.specs.Numerals.{IsNumeral}
use Rattle.lengths.proofs.share.share_of.Goals as goal

pub returns-clause-some : goal.returns-clause-some
returns-clause-some c =
    let parted = strip_suffix_is Decides-eqb c.as_bytes.result.now (37 ∷ []) c.strip_suffix.result c.strip_suffix.ensures.cases in
    let ends = rw c.in-Some.is at parted in
    let whole : c.in-Some.number.now ++ (37 ∷ []) ≡ c.args.word.now = sym ends ∙ c.as_bytes.ensures.value in
    IfSome_then c.numeral.result c.numeral.ensures.some (λ n is. (c.in-Some.number.now, whole, is))

pub returns-clause-none : goal.returns-clause-none
returns-clause-none c gone n (word, written, is) =
    let parted = strip_suffix_is Decides-eqb c.as_bytes.result.now (37 ∷ []) c.strip_suffix.result c.strip_suffix.ensures.cases in
    let ends = rw c.in-Some.is at parted in
    let same : word ≡ c.in-Some.number.now = append_cancel_right word c.in-Some.number.now (37 ∷ []) (written ∙ sym c.as_bytes.ensures.value ∙ ends) in
    c.numeral.ensures.none gone n (subst (λ (w : List ℕ). IsNumeral 3 4 w n) same is)
