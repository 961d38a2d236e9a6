-- The name with which a text begins that is a shard.
use Rattle.std.proofs.Common.{◌≡◌, ◌<◌, ◌==◌, ℕ, false, List, [], ◌∷◌, ◌++◌, length, decimal, lit<, arith, refl, sym, ap, subst, ◌∙◌, append_assoc, take, drop, take_at, is_some}
use Rattle.std.specs.Prelude.{Option, Some, None, IfSome}
use Rattle.std.specs.Borrow.{Bor}
use Rattle.std.specs.Option.{MatchOption}
use Rattle.std.proofs.lemmas.List.Elements.{All-drop, All-take}
use Rattle.std.proofs.Math.Seq.{drop_at}
use Rattle.std.proofs.lemmas.Str.Pattern.{IsSplitOnceResult, split_after, split_parts}
use Rattle.sweep_plan.specs.Sweep.{Sweep}
use Rattle.sweep_plan.proofs.Words.{Lacks, decimal_lacks, lacks_each, unlike}
use Rattle.figures.specs.declared.column_set.ColumnSet.{ColumnSet}
use Rattle.figures.specs.Lines.{header_line}
use Rattle.shards.specs.declared.shard.Shard.{Shard}
use Rattle.shards.specs.Shards.{IsShard, shard_text}
use Rattle.shards.specs.Names.{head_cell, shard_name, plan_text}
use Rattle.sweep.specs.Table.{names_of}
use Rattle.shard_merge.specs.Joined.{IsMark}
use Rattle.shard_merge.specs.Reasons.{BeginsAs}
use Rattle.table_rows.proofs.Bytes.{lacks_both, lacks_cons}
use Rattle.shard_merge.proofs.SameSweep.{plan_lacks}

abbrev Parted : Type 0
Parted = Option (Bor (List ℕ) × Bor (List ℕ))

-- what is said of what is there, from what holds of it
pub if_some : {X : Type 0} (o : Option X) (Q : X → Type 0) → ((x : X) → o ≡ Some x → Q x) → IfSome o Q
if_some None Q gives = tt
if_some (Some x) Q gives = gives x refl

-- a text that must be cut is cut
pub none_there : (o : Parted) (Q : Bor (List ℕ) × Bor (List ℕ) → Type 0) → is_some o ≡ false → MatchOption o ⊥ Q → ⊥
none_there None Q none cut = cut
none_there (Some x) Q none cut = cc

-- a part behind lacks what the whole lacks
pub lacks_behind : (c : ℕ) (xs ys all : List ℕ) → all ≡ xs ++ ys → Lacks c all → Lacks c ys
lacks_behind c xs ys all is lacks =
    subst (Lacks c) (ap (drop (length xs)) is ∙ drop_at xs ys (length xs) refl) (All-drop (λ x. (x == c) ≡ false) (length xs) all lacks)

-- of a list that begins with one element, what comes behind it
behind : (x : ℕ) (xs ys : List ℕ) → x ∷ xs ≡ x ∷ ys → xs ≡ ys
behind x xs ys same = cc

shard_lacks : (c : ℕ) (p : Shard) → IsShard p → (47 == c) ≡ false → c < 48 → Lacks c (shard_text p)
shard_lacks c p sound slash small =
    let most = sound.most in
    let few = sound.few in
    lacks_both c (decimal p.number) (47 ∷ decimal p.of) (decimal_lacks p.number c (omega arith) small)
    (lacks_cons c 47 (decimal p.of) slash (decimal_lacks p.of c (omega arith) small))

module _ (text mark : List ℕ) (columns : ColumnSet) (sweep : Sweep) (p : Shard) (b : BeginsAs text mark columns sweep p) where
  abbrev name : List ℕ
  name = shard_name mark sweep p

  abbrev tail : List ℕ
  tail = 44 ∷ (header_line columns (names_of sweep.swept_keys) ++ b.rest)

  pub laid : text ≡ 34 ∷ (name ++ 34 ∷ tail)
  laid =
      b.written ∙ append_assoc (head_cell mark sweep p) (header_line columns (names_of sweep.swept_keys)) b.rest
      ∙ ap (λ l. 34 ∷ l) (append_assoc name (34 ∷ 44 ∷ []) (header_line columns (names_of sweep.swept_keys) ++ b.rest))

  name_lacks : Lacks 34 name
  name_lacks =
      lacks_both 34 (shard_text p ++ 32 ∷ mark) (32 ∷ plan_text sweep)
      (lacks_both 34 (shard_text p) (32 ∷ mark) (shard_lacks 34 p b.sound refl (lit< tt)) (lacks_cons 34 32 mark refl b.marked.quoteless))
      (lacks_cons 34 32 (plan_text sweep) refl (plan_lacks sweep b.asked))

  -- what stands before the second quote
  pub quoted : (inside : List ℕ) (parted : Parted) → text ≡ 34 ∷ inside → IsSplitOnceResult 34 inside parted → MatchOption parted ⊥ (λ x. (x.0.now ≡ name) × (x.1.now ≡ tail))
  quoted inside parted is cut = split_after 34 inside name tail parted cut (lit< tt) (behind 34 inside (name ++ 34 ∷ tail) (sym is ∙ laid)) (unlike 34 name name_lacks)

  -- and before the first space, and behind it
  pub spaced : (given : List ℕ) (parted : Parted) → given ≡ name → IsSplitOnceResult 32 given parted
      → MatchOption parted ⊥ (λ x. (x.0.now ≡ shard_text p) × (x.1.now ≡ mark ++ 32 ∷ plan_text sweep))
  spaced given parted is cut =
      split_after 32 given (shard_text p) (mark ++ 32 ∷ plan_text sweep) parted cut (lit< tt)
      (is ∙ append_assoc (shard_text p) (32 ∷ mark) (32 ∷ plan_text sweep)) (unlike 32 (shard_text p) (shard_lacks 32 p b.sound refl (lit< tt)))

-- a mark and the words behind it
pub marked_words : (rest mark words : List ℕ) (parted : Parted) → rest ≡ mark ++ 32 ∷ words → IsMark mark → IsSplitOnceResult 32 rest parted
    → MatchOption parted ⊥ (λ x. (x.0.now ≡ mark) × (x.1.now ≡ words))
marked_words rest mark words parted is marked cut = split_after 32 rest mark words parted cut (lit< tt) is (unlike 32 mark marked.spaceless)

-- what stands before the first space has none, and no quote where the whole has none
pub mark_read : (rest : List ℕ) (parted : Parted) (first words : Bor (List ℕ)) → parted ≡ Some (first, words) → IsSplitOnceResult 32 rest parted → Lacks 34 rest → IsMark first.now
mark_read rest parted first words some is lacks =
    let cut = rw some at (split_parts 32 rest parted is (lit< tt)) in
    record { spaceless = lacks_each 32 first.now cut.1; quoteless = lacks_front 34 first.now (32 ∷ words.now) rest cut.0 lacks }
  where
    lacks_front : (c : ℕ) (xs ys all : List ℕ) → all ≡ xs ++ ys → Lacks c all → Lacks c xs
    lacks_front c xs ys all is lacks = subst (Lacks c) (ap (take (length xs)) is ∙ take_at xs ys (length xs) refl) (All-take (λ x. (x == c) ≡ false) (length xs) all lacks)

-- a part that was split off the whole lacks what the whole lacks
pub rest_lacks : (given : List ℕ) (parted : Parted) (x : Bor (List ℕ) × Bor (List ℕ)) → parted ≡ Some x → IsSplitOnceResult 32 given parted → Lacks 34 given → Lacks 34 x.1.now
rest_lacks given parted x some is lacks =
    let cut = rw some at (split_parts 32 given parted is (lit< tt)) in
    lacks_behind 34 (x.0.now ++ 32 ∷ []) x.1.now given (cut.0 ∙ sym (append_assoc x.0.now (32 ∷ []) x.1.now)) lacks
