-- The lines of runs with which a text begins.
use Rattle.std.proofs.Common.{◌≡◌, ◌∙◌, ◌+◌, ◌<◌, ◌⊎◌, ℕ, zero, suc, List, [], ◌∷◌, ◌++◌, length, length-append, inl, inr, refl, sym, ap, subst, arith, append_assoc, append-nil}
use Rattle.std.specs.Prelude.{All}
use Rattle.std.specs.List.{AllZip, flat_map, range_with_len}
use Rattle.std.proofs.lemmas.List.Concat.{flat_map-append}
use Rattle.std.proofs.lemmas.List.Elements.{All-cons, All-nil}
use Rattle.std.proofs.lemmas.Slice.Zip.{all_zipped_more}
use Rattle.sweep_plan.specs.Sweep.{Sweep}
use Rattle.line_sums.specs.Sums.{IsFirstLine, summed}
use Rattle.line_sums.proofs.Cuts.{one_summed, same_first}
use Rattle.sweep.specs.Sums.{AreLinesOf, BeginsWithLine, BeginsWithLines, HasLineOf, IsFed, IsLineOf, IsPlaced}
use Rattle.sweep.specs.declared.summing.LineKey.{LineKey}
use Rattle.rayon.proofs.ListFacts.{AllZip-append}
use Rattle.sweep.proofs.Numbers.{range_more, range_split}

-- a line that a text begins with is its first
fed_first : (text line left : List ℕ) → IsFed line → text ≡ line ++ left → IsFirstLine text line left
fed_first text line left fed is = record { body = fed.body; one = fed.one; fed = fed.fed; written = is }

-- and some text
fed_some : (line more : List ℕ) → IsFed line → line ++ more ≡ [] → ⊥
fed_some line more fed none =
    let long : length line ≡ length (fed.body ++ 10 ∷ []) = ap length fed.fed in
    let no_bytes : length (line ++ more) ≡ 0 = ap length none in
    omega (arith, long, length-append fed.body (10 ∷ []), length-append line more, no_bytes)

module _ (key : LineKey) (sweep : Sweep) where
  pub none_yet : (first : ℕ) (text : List ℕ) → BeginsWithLines key sweep first text text 0
  none_yet first text = record { lines = []; are = tt; written = refl }

  pub one_more : (first count : ℕ) (text left next : List ℕ) → BeginsWithLines key sweep first text left count → BeginsWithLine key sweep (first + count) left next
      → BeginsWithLines key sweep first text next (count + 1)
  one_more first count text left next so here =
      let all = so.lines in
      let joined : List (List ℕ) → List ℕ = flat_map (λ (line : List ℕ). line) in
      record {
        lines = all ++ here.line ∷ [];
        are = subst (λ l. AllZip (IsLineOf key sweep) l (all ++ here.line ∷ [])) (sym (range_more first count))
            (all_zipped_more (IsLineOf key sweep) (range_with_len first count) all (first + count) here.line so.are here.is);
        written = so.written ∙ ap (λ l. joined all ++ l) here.written ∙ sym (append_assoc (joined all) here.line next)
            ∙ ap (λ l. l ++ next) (ap (λ l. joined all ++ l) (sym (append-nil here.line)) ∙ sym (flat_map-append (λ (line : List ℕ). line) all (here.line ∷ [])));
      }

  -- the lines of some runs, and behind them those of the next
  pub both_lines : (first n m : ℕ) (a b : List ℕ) → AreLinesOf key sweep first a n → AreLinesOf key sweep (first + n) b m → AreLinesOf key sweep first (a ++ b) (n + m)
  both_lines first n m a b these those =
      let joined : List (List ℕ) → List ℕ = flat_map (λ (line : List ℕ). line) in
      let front : a ≡ joined these.lines = these.written ∙ append-nil (joined these.lines) in
      let back : b ≡ joined those.lines = those.written ∙ append-nil (joined those.lines) in
      record {
        lines = these.lines ++ those.lines;
        are = subst (λ l. AllZip (IsLineOf key sweep) l (these.lines ++ those.lines)) (sym (range_split first n m))
            (AllZip-append (IsLineOf key sweep) (range_with_len first n) (range_with_len (first + n) m) these.lines those.lines these.are those.are);
        written = (λ i. front i ++ back i) ∙ sym (flat_map-append (λ (line : List ℕ). line) these.lines those.lines) ∙ sym (append-nil (joined (these.lines ++ those.lines)));
      }

  -- each of them is a line
  pub all_fed : (first count : ℕ) (lines : List (List ℕ)) → AllZip (IsLineOf key sweep) (range_with_len first count) lines → All IsFed lines
  all_fed first zero [] are = All-nil IsFed
  all_fed first zero (line ∷ lines) are = absurd are
  all_fed first (suc count) [] are = absurd are
  all_fed first (suc count) (line ∷ lines) are = All-cons IsFed line lines are.0.fed (all_fed (first + 1) count lines are.1)

  -- how many they are
  pub lines_counted : (first count : ℕ) (lines : List (List ℕ)) → AllZip (IsLineOf key sweep) (range_with_len first count) lines → length lines ≡ count
  lines_counted first zero [] are = refl
  lines_counted first zero (line ∷ lines) are = absurd are
  lines_counted first (suc count) [] are = absurd are
  lines_counted first (suc count) (line ∷ lines) are = ap suc (lines_counted (first + 1) count lines are.1)

  -- a text that is lines of runs goes on behind the first of them with the next, or ends
  pub cut_lines : (first n m : ℕ) (xs ys : List (List ℕ)) (left : List ℕ) → AllZip (IsLineOf key sweep) (range_with_len first n) xs → AllZip (IsLineOf key sweep) (range_with_len first m) ys
      → flat_map (λ (line : List ℕ). line) xs ++ left ≡ flat_map (λ (line : List ℕ). line) ys → ((n ≡ m) × (left ≡ [])) ⊎ ((n < m) × HasLineOf key sweep (first + n) left)
  cut_lines first zero zero [] [] left is also same = inl (refl, same)
  cut_lines first zero zero [] (y ∷ ys) left is also same = absurd also
  cut_lines first zero zero (x ∷ xs) ys left is also same = absurd is
  cut_lines first zero (suc m) [] [] left is also same = absurd also
  cut_lines first zero (suc m) [] (y ∷ ys) left is also same =
      let none : first + zero ≡ first = omega arith in
      inr (omega arith, subst (λ n. HasLineOf key sweep n left) (sym none) (flat_map (λ (line : List ℕ). line) ys, record { line = y; is = also.0; written = same }))
  cut_lines first zero (suc m) (x ∷ xs) ys left is also same = absurd is
  cut_lines first (suc n) m [] ys left is also same = absurd is
  cut_lines first (suc n) zero (x ∷ xs) [] left is also same = absurd (fed_some x (flat_map (λ (line : List ℕ). line) xs ++ left) is.0.fed (sym (append_assoc x (flat_map (λ (line : List ℕ). line) xs) left) ∙ same))
  cut_lines first (suc n) zero (x ∷ xs) (y ∷ ys) left is also same = absurd also
  cut_lines first (suc n) (suc m) (x ∷ xs) [] left is also same = absurd also
  cut_lines first (suc n) (suc m) (x ∷ xs) (y ∷ ys) left is also same =
      let joined : List (List ℕ) → List ℕ = flat_map (λ (line : List ℕ). line) in
      let parted : x ++ (joined xs ++ left) ≡ y ++ joined ys = sym (append_assoc x (joined xs) left) ∙ same in
      let one = same_first (x ++ (joined xs ++ left)) x (joined xs ++ left) y (joined ys) (fed_first _ x (joined xs ++ left) is.0.fed refl) (fed_first _ y (joined ys) also.0.fed parted) in
      on (cut_lines (first + 1) n m xs ys left is.1 also.1 one.1)
    where
      on : ((n ≡ m) × (left ≡ [])) ⊎ ((n < m) × HasLineOf key sweep (first + 1 + n) left) → ((suc n ≡ suc m) × (left ≡ [])) ⊎ ((suc n < suc m) × HasLineOf key sweep (first + suc n) left)
      on (inl it) = inl (ap suc it.0, it.1)
      on (inr it) =
          let at : first + 1 + n ≡ first + suc n = omega arith in
          inr (omega (arith, it.0), subst (λ k. HasLineOf key sweep k left) at it.1)

  -- a text that is lines of runs isn't more of them, nor fewer
  pub one_count : (first n m : ℕ) (text : List ℕ) → AreLinesOf key sweep first text n → AreLinesOf key sweep first text m → n ≡ m
  one_count first n m text a b = on (cut_lines first n m a.lines b.lines [] a.are b.are (sym a.written ∙ b.written ∙ append-nil (flat_map (λ (line : List ℕ). line) b.lines)))
    where
      on : ((n ≡ m) × (◌≡◌ {A = List ℕ} [] [])) ⊎ ((n < m) × HasLineOf key sweep (first + n) []) → n ≡ m
      on (inl it) = it.0
      on (inr it) = absurd (fed_some it.1.1.line it.1.0 it.1.1.is.fed (sym it.1.1.written))

  -- behind the lines of so many runs, which are not all, stands the next
  pub not_all : (first n m : ℕ) (text left : List ℕ) → BeginsWithLines key sweep first text left n → AreLinesOf key sweep first text m → ((n ≡ m) × (left ≡ [])) ⊎ ((n < m) × HasLineOf key sweep (first + n) left)
  not_all first n m text left begins all =
      cut_lines first n m begins.lines all.lines left begins.are all.are (sym begins.written ∙ all.written ∙ append-nil (flat_map (λ (line : List ℕ). line) all.lines))

  -- a text of which so many were read, and which doesn't end there or has others behind, isn't so many
  pub not_so : (first count stood : ℕ) (text left : List ℕ) → BeginsWithLines key sweep first text left stood → (stood ≡ count) ⊎ ¬ (HasLineOf key sweep (first + stood) left)
      → (stood ≡ count → left ≡ [] → ⊥) → ¬ (AreLinesOf key sweep first text count)
  not_so first count stood text left begins no_more not all = by (not_all first stood count text left begins all) no_more
    where
      by : ((stood ≡ count) × (left ≡ [])) ⊎ ((stood < count) × HasLineOf key sweep (first + stood) left) → (stood ≡ count) ⊎ ¬ (HasLineOf key sweep (first + stood) left) → ⊥
      by (inl it) no_more = not it.0 it.1
      by (inr it) (inl same) = absurd (omega (arith, it.0, same))
      by (inr it) (inr none) = none it.1

  module _ (number : ℕ) (text : List ℕ) where
    -- the first line of the text, its checksum and its place
    pub line_there : (line left rest : List ℕ) → IsFirstLine text line left → line ≡ summed key.digest rest → IsPlaced key sweep number rest → BeginsWithLine key sweep number text left
    line_there line left rest first sum placed = record {
      line = line;
      is = record { fed = record { body = first.body; one = first.one; fed = first.fed }; rest = rest; sum = sum; placed = placed };
      written = first.written;
    }

    pub no_first : ((line left : List ℕ) → ¬ (IsFirstLine text line left)) → ¬ (HasLineOf key sweep number text)
    no_first none has = none has.1.line has.0 (fed_first text has.1.line has.0 has.1.is.fed has.1.written)

    module _ (line left : List ℕ) (first : IsFirstLine text line left) where
      the_line : (has : HasLineOf key sweep number text) → has.1.line ≡ line
      the_line has = (same_first text has.1.line has.0 line left (fed_first text has.1.line has.0 has.1.is.fed has.1.written) first).0

      pub no_sum : ((rest : List ℕ) → ¬ (line ≡ summed key.digest rest)) → ¬ (HasLineOf key sweep number text)
      no_sum none has = none has.1.is.rest (sym (the_line has) ∙ has.1.is.sum)

      pub no_place : (rest : List ℕ) → line ≡ summed key.digest rest → ¬ (IsPlaced key sweep number rest) → ¬ (HasLineOf key sweep number text)
      no_place rest sum none has =
          let same : has.1.is.rest ≡ rest = one_summed key.digest has.1.is.rest rest (sym has.1.is.sum ∙ the_line has ∙ sum) in
          none (subst (IsPlaced key sweep number) same has.1.is.placed)
