-- The keys of a table, one after the other, in the nodes of a document.
use Rattle.std.proofs.Common.{◌≡◌, ℕ, Ordering, Less, Equal, Greater, nat_cmp, is_eq, true, false, List, [], ◌∷◌, Option, Some, None, option_map, refl, ap, sym, subst, ◌∙◌, inl, inr, ◌⊎◌}
use Rattle.std.specs.List.{AllByRecursion}
use Rattle.std.specs.Cmp.Lexicographic.{slice_cmp}
use Rattle.std.proofs.lemmas.Bool.{cases_Bool, false≢true}
use Rattle.std.proofs.lemmas.Option.{none-some}
use Rattle.std.proofs.lemmas.Map.Lookups.{exact_bytes}
use Rattle.toml.specs.Data.{Data, get_member, same_key}
use Rattle.toml.specs.Tables.{Edit, Node, Nodes, along_dots, at_key, close, close_node, define, get_node, header_node, insert, key_value, along_header, no_nodes, node, put, replace, value}
use Rattle.toml.proofs.NodeLaws.{along_found, get_node-insert, get_node-replace, replace-replace, replace-self, same_key-self}
use Rattle.plain_text.specs.Document.{defined}
use Rattle.plain_text.specs.Headings.{found, pair_lines, IsEachOnce, Pairs}

-- ---- other keys

pub by_order : (o : Ordering) → (o ≡ Less) ⊎ ((o ≡ Equal) ⊎ (o ≡ Greater))
by_order Less = inl refl
by_order Equal = inr (inl refl)
by_order Greater = inr (inr refl)

equal_from : (o : Ordering) → is_eq o ≡ true → o ≡ Equal
equal_from Less same = absurd (false≢true same)
equal_from Equal same = refl
equal_from Greater same = absurd (false≢true same)

pub same_from : (k l : List ℕ) → same_key k l ≡ true → k ≡ l
same_from k l same = exact_bytes k l (equal_from (slice_cmp nat_cmp k l) same)

pub other_way : (k l : List ℕ) → same_key k l ≡ false → same_key l k ≡ false
other_way k l other =
    elim (cases_Bool (same_key l k)) [
      | inl same ↦ absurd (false≢true (sym other ∙ subst (λ (m : List ℕ). same_key k m ≡ true) (sym (same_from l k same)) (same_key-self k)))
      | inr apart ↦ apart
    ]

pub other_insert : (k l : List ℕ) (x : Node) (ns : Nodes) → same_key k l ≡ false → get_node k (insert l x ns) ≡ get_node k ns
other_insert k l x no_nodes other = rw other refl
other_insert k l x (node j y ns) other =
    elim (by_order (slice_cmp nat_cmp l j)) [
      | inl less ↦ rw (less, other) refl
      | inr more ↦ elim more [
        | inl tie ↦
            let apart : same_key k j ≡ false = subst (λ (m : List ℕ). same_key k m ≡ false) (exact_bytes l j tie) other in
            rw (tie, apart) refl
        | inr greater ↦ elim (cases_Bool (same_key k j)) [
          | inl here ↦ rw (greater, here) refl
          | inr past ↦ rw (greater, past) (other_insert k l x ns other)
        ]
      ]
    ]

pub other_replace : (k l : List ℕ) (x : Node) (ns : Nodes) → same_key k l ≡ false → get_node k (replace l x ns) ≡ get_node k ns
other_replace k l x no_nodes other = refl
other_replace k l x (node j y ns) other =
    elim (cases_Bool (same_key l j)) [
      | inl same ↦
          let apart : same_key k j ≡ false = subst (λ (m : List ℕ). same_key k m ≡ false) (same_from l j same) other in
          rw (same, apart) refl
      | inr past ↦ elim (cases_Bool (same_key k j)) [
        | inl here ↦ rw (past, here) refl
        | inr more ↦ rw (past, more) (other_replace k l x ns other)
      ]
    ]

-- what a key holds once the nodes are closed
pub closed_at : (k : List ℕ) (ns : Nodes) → get_member k (close ns) ≡ option_map close_node (get_node k ns)
closed_at k no_nodes = refl
closed_at k (node l x ns) =
    elim (by_order (slice_cmp nat_cmp k l)) [
      | inl less ↦ rw less (closed_at k ns)
      | inr more ↦ elim more [
        | inl tie ↦ rw tie refl
        | inr greater ↦ rw greater (closed_at k ns)
      ]
    ]

-- ---- keys of a table

abbrev pub filled : Pairs → Nodes → Nodes
filled [] ns = ns
filled (pair ∷ pairs) ns = filled pairs (insert pair.0 (value pair.1) ns)

abbrev pub or_else : Option Node → Option Node → Option Node
or_else (Some x) o = Some x
or_else None o = o

pub found_first : (key : List ℕ) (pairs : Pairs) (ns : Nodes) → IsEachOnce pairs → get_node key (filled pairs ns) ≡ or_else (option_map value (found key pairs)) (get_node key ns)
found_first key [] ns once = refl
found_first key (pair ∷ pairs) ns once =
    let next = insert pair.0 (value pair.1) ns in
    elim (cases_Bool (same_key key pair.0)) [
      | inl same ↦
          let is = sym (same_from key pair.0 same) in
          let none : found key pairs ≡ None = subst (λ (k : List ℕ). found k pairs ≡ None) is once.0 in
          let here : get_node key next ≡ Some (value pair.1) = subst (λ (k : List ℕ). get_node k next ≡ Some (value pair.1)) is (get_node-insert pair.0 (value pair.1) ns) in
          found_first key pairs next once.1 ∙ rw (none, here, same) refl
      | inr other ↦ found_first key pairs next once.1 ∙ rw (other_insert key pair.0 (value pair.1) ns other, other) refl
    ]

-- no key is there yet
abbrev pub AreNew : Pairs → Nodes → Type 0
AreNew pairs ns = AllByRecursion (λ (pair : List ℕ × Data). get_node pair.0 ns ≡ None) pairs

pub all_new : (pairs : Pairs) → AreNew pairs no_nodes
all_new [] = tt
all_new (pair ∷ pairs) = (refl, all_new pairs)

head_apart : (k l : List ℕ) (d : Data) (pairs : Pairs) → found k ((l, d) ∷ pairs) ≡ None → (same_key k l ≡ false) × (found k pairs ≡ None)
head_apart k l d pairs none =
    elim (cases_Bool (same_key k l)) [
      | inl same ↦ absurd (none-some d (sym (rw same at none)))
      | inr other ↦ (other, rw other at none)
    ]

still_new : (k : List ℕ) (x : Node) (pairs : Pairs) (ns : Nodes) → found k pairs ≡ None → AreNew pairs ns → AreNew pairs (insert k x ns)
still_new k x [] ns none new = tt
still_new k x (pair ∷ pairs) ns none new =
    let (other, more) = head_apart k pair.0 pair.1 pairs none in
    (other_insert pair.0 k x ns (other_way k pair.0 other) ∙ new.0, still_new k x pairs ns more new.1)

put_new : (k : List ℕ) (d : Data) (ns : Nodes) → get_node k ns ≡ None → along_header [] (put ([], k) d) ns ≡ Some (insert k (value d) ns)
unfolding along_header along_dots at_key
put_new k d ns new = rw new refl

define_top : (k : List ℕ) (d : Data) (ns : Nodes) → get_node k ns ≡ None → define (ns, []) (([], k), key_value d) ≡ Some (insert k (value d) ns, [])
unfolding define
define_top k d ns new = ap (option_map (λ (root : Nodes). (root, []))) (put_new k d ns new)

-- the top's keys
pub top_filled : (pairs : Pairs) (ns : Nodes) → IsEachOnce pairs → AreNew pairs ns → defined (ns, []) (pair_lines pairs) ≡ Some (filled pairs ns, [])
top_filled [] ns once new = refl
top_filled (pair ∷ pairs) ns once new =
    rw (define_top pair.0 pair.1 ns new.0)
    (top_filled pairs (insert pair.0 (value pair.1) ns) once.1 (still_new pair.0 (value pair.1) pairs ns once.0 new.1))

-- the keys of a table or of an item, whose header was the last
module _ (name : List ℕ) (wrap : Nodes → Node) (wraps : (e : Edit) (ns : Nodes) → header_node e (wrap ns) ≡ option_map wrap (e ns)) where
  define_below : (k : List ℕ) (d : Data) (inner root : Nodes) → get_node name root ≡ Some (wrap inner) → get_node k inner ≡ None
      → define (root, name ∷ []) (([], k), key_value d) ≡ Some (replace name (wrap (insert k (value d) inner)) root, name ∷ [])
  unfolding define
  define_below k d inner root there new =
      ap (option_map (λ (ns : Nodes). (ns, name ∷ [])))
      (along_found name [] (put ([], k) d) root (wrap inner) there
      ∙ ap (option_map (λ (x : Node). replace name x root)) (wraps (along_header [] (put ([], k) d)) inner ∙ ap (option_map wrap) (put_new k d inner new)))

  pub below_filled : (pairs : Pairs) (inner root : Nodes) → get_node name root ≡ Some (wrap inner) → IsEachOnce pairs → AreNew pairs inner
      → defined (root, name ∷ []) (pair_lines pairs) ≡ Some (replace name (wrap (filled pairs inner)) root, name ∷ [])
  below_filled [] inner root there once new = ap (λ (ns : Nodes). Some (ns, name ∷ [])) (sym (replace-self name (wrap inner) root there))
  below_filled (pair ∷ pairs) inner root there once new =
      let next = insert pair.0 (value pair.1) inner in
      rw (define_below pair.0 pair.1 inner root there new.0)
      (below_filled pairs next (replace name (wrap next) root) (get_node-replace name (wrap next) root (wrap inner) there) once.1
      (still_new pair.0 (value pair.1) pairs inner once.0 new.1)
      ∙ ap (λ (ns : Nodes). Some (ns, name ∷ [])) (replace-replace name (wrap next) (wrap (filled pairs next)) root))
