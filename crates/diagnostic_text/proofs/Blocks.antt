-- Words on diagnostics, one after another.
use Rattle.std.proofs.Common.{◌≡◌, ◌∙◌, ◌++◌, ◌∷◌, ◌+◌, ◌<◌, ℕ, List, [], ap, sym, subst, refl, get_or, length, take}
use Rattle.std.proofs.lemmas.List.{append_assoc, append-nil, take_more}
use Rattle.diagnostics.specs.declared.list.Diagnostic.{Diagnostic}
use Rattle.diagnostic_text.specs.Told.{AreBlocks, block_of}

-- words on one diagnostic more
blocks_push : (ms : List Diagnostic) (m : Diagnostic) (text words : List ℕ) → AreBlocks ms text → AreBlocks (ms ++ m ∷ []) (text ++ block_of m.rule words)
blocks_push [] m text words none =
    (words, [], ap (λ t. t ++ block_of m.rule words) none ∙ sym (append-nil (block_of m.rule words)), refl)
blocks_push (first ∷ ms) m text words (old, rest, is, more) =
    (old, rest ++ block_of m.rule words, ap (λ t. t ++ block_of m.rule words) is ∙ append_assoc (block_of first.rule old) rest (block_of m.rule words), blocks_push ms m rest words more)

-- the same in a loop
pub blocks_more : (ms : List Diagnostic) (i : ℕ) (d : Diagnostic) (text after words : List ℕ) → i < length ms
    → AreBlocks (take i ms) text → after ≡ text ++ block_of (get_or ms i d).rule words → AreBlocks (take (i + 1) ms) after
blocks_more ms i d text after words inside so_far is =
    subst (λ ns. AreBlocks ns after) (sym (take_more ms i d inside))
    (subst (AreBlocks (take i ms ++ get_or ms i d ∷ [])) (sym is) (blocks_push (take i ms) (get_or ms i d) text words so_far))
