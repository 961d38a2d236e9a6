-- What stands in a text one after the other, read one by one: one text is of one list of items.
use Rattle.std.proofs.Common.{◌≡◌, ◌∙◌, ◌<◌, ◌≤◌, ◌+◌, ℕ, List, [], ◌∷◌, ◌++◌, length, length-append, arith, refl, sym, ap, subst, append_assoc, append-nil}
use Rattle.std.specs.Prelude.{All}
use Rattle.std.specs.List.{flat_map}
use Rattle.std.proofs.lemmas.List.Concat.{flat_map-append}
use Rattle.std.proofs.lemmas.List.Elements.{All-head, All-nil, All-push, All-tail}
use Rattle.table_rows.specs.Items.{BeginsWith, IsAllOf}
use Rattle.table_rows.specs.Refused.{Refuses}
use Rattle.table_rows.specs.declared.fault.LineFault.{LineFault}
use Rattle.table_rows.specs.declared.fault.LineFault.TheVariants as fault

-- what holds of all of a list holds of all behind its first ones
pub all_behind : {X : Type 0} (P : X → Type 0) (xs ys : List X) → All P (xs ++ ys) → All P ys
all_behind P [] ys all = all
all_behind P (x ∷ xs) ys all = all_behind P xs ys (All-tail P x (xs ++ ys) all)

pub none_left : {X : Type 0} (xs : List X) → length xs ≡ 0 → xs ≡ []
none_left [] none = refl
none_left (x ∷ xs) none = absurd (omega (arith, none))

-- what isn't there, since what it would bring isn't
pub refused_so : (A B : Type 0) (f : LineFault) → (B → A) → Refuses A f → Refuses B f
refused_so A B fault.Torn turn none = λ b. none (turn b)
refused_so A B fault.Memory turn none = tt

-- ---- what is read

-- so many items were read, of which this holds, and this is left
pub record Reads {X : Type 0} (Sound : X → Type 0) (text_of : X → List ℕ) (Holds : List X → Type 0) (text left : List ℕ) (count : ℕ) : Type 0 where
  pub items : List X
  pub many : length items ≡ count
  pub sound : All Sound items
  pub written : text ≡ flat_map text_of items ++ left
  pub holds : Holds items

module _ {X : Type 0} (Sound : X → Type 0) (text_of : X → List ℕ) where
  abbrev pub none_read : (Holds : List X → Type 0) (text : List ℕ) → Holds [] → Reads Sound text_of Holds text text 0
  none_read Holds text holds = record { items = []; many = refl; sound = All-nil Sound; written = refl; holds = holds }

  abbrev pub one_more : (Held Holds : List X → Type 0) (text left next : List ℕ) (count : ℕ) (so : Reads Sound text_of Held text left count) (begins : BeginsWith Sound text_of left next)
      → Holds (so.items ++ begins.one ∷ []) → Reads Sound text_of Holds text next (count + 1)
  one_more Held Holds text left next count so begins holds =
      let one = begins.one in
      record {
        items = so.items ++ one ∷ [];
        many = length-append so.items (one ∷ []) ∙ ap (λ n. n + 1) so.many;
        sound = All-push Sound so.items one so.sound begins.sound;
        written = so.written ∙ ap (λ l. flat_map text_of so.items ++ l) begins.written ∙ sym (append_assoc (flat_map text_of so.items) (text_of one) next)
            ∙ ap (λ l. l ++ next) (ap (λ l. flat_map text_of so.items ++ l) (sym (append-nil (text_of one))) ∙ sym (flat_map-append text_of so.items (one ∷ [])));
        holds = holds;
      }

  pub all_read : (Holds : List X → Type 0) (text left : List ℕ) (at count : ℕ) → at ≡ count → length left ≡ 0 → Reads Sound text_of Holds text left at
      → (are : IsAllOf Sound text_of text count) × Holds are.items
  all_read Holds text left at count counted none so = (
    record {
      items = so.items;
      many = so.many ∙ counted;
      sound = so.sound;
      written = so.written ∙ ap (λ l. flat_map text_of so.items ++ l) (none_left left none) ∙ append-nil (flat_map text_of so.items);
    },
    so.holds,
  )

  -- ---- where items with which one text begins are one, and leave the same

  module _ (one : (a b : X) (x y : List ℕ) → Sound a → Sound b → text_of a ++ x ≡ text_of b ++ y → (a ≡ b) × (x ≡ y)) where
    -- of two lists of items with which one text begins, the longer one goes on behind the other
    pub cut_items : (xs ys : List X) (x y : List ℕ) → All Sound xs → All Sound ys → flat_map text_of xs ++ x ≡ flat_map text_of ys ++ y → length xs ≤ length ys
        → (rest : List X) × (ys ≡ xs ++ rest) × (x ≡ flat_map text_of rest ++ y)
    cut_items [] ys x y sound also same few = (ys, refl, same)
    cut_items (a ∷ xs) [] x y sound also same few = absurd (omega (arith, few))
    cut_items (a ∷ xs) (b ∷ ys) x y sound also same few =
        let whole : text_of a ++ (flat_map text_of xs ++ x) ≡ text_of b ++ (flat_map text_of ys ++ y) =
        sym (append_assoc (text_of a) (flat_map text_of xs) x) ∙ same ∙ append_assoc (text_of b) (flat_map text_of ys) y in
        let first = one a b (flat_map text_of xs ++ x) (flat_map text_of ys ++ y) (All-head Sound a xs sound) (All-head Sound b ys also) whole in
        let more = cut_items xs ys x y (All-tail Sound a xs sound) (All-tail Sound b ys also) first.1 (omega (arith, few)) in
        (more.0, (λ i. sym first.0 i ∷ more.1 i), more.2)

    -- lists of as many items that are one text are one
    pub same_items : (xs ys : List X) → All Sound xs → All Sound ys → length xs ≡ length ys → flat_map text_of xs ≡ flat_map text_of ys → xs ≡ ys
    same_items xs ys sound also long same =
        let cut = cut_items xs ys [] [] sound also (append-nil (flat_map text_of xs) ∙ same ∙ sym (append-nil (flat_map text_of ys))) (omega (arith, long)) in
        let none : cut.0 ≡ [] = none_left cut.0 (omega (arith, long, ap length cut.1, length-append xs cut.0)) in
        sym (cut.1 ∙ ap (λ l. xs ++ l) none ∙ append-nil xs)

    module _ (Holds : List X → Type 0) (text left : List ℕ) (at count : ℕ) (so : Reads Sound text_of Holds text left at) (are : IsAllOf Sound text_of text count) where
      -- the items that such a text is go on behind those that were read
      go_on : at ≤ count → (rest : List X) × (length rest + at ≡ count) × All Sound rest × (left ≡ flat_map text_of rest)
      go_on few =
          let same : flat_map text_of so.items ++ left ≡ flat_map text_of are.items ++ [] = sym so.written ∙ are.written ∙ sym (append-nil (flat_map text_of are.items)) in
          let cut = cut_items so.items are.items left [] so.sound are.sound same (omega (arith, so.many, are.many, few)) in
          let long : length are.items ≡ length so.items + length cut.0 = ap length cut.1 ∙ length-append so.items cut.0 in
          (cut.0, omega (arith, long, so.many, are.many), all_behind Sound so.items cut.0 (subst (All Sound) cut.1 are.sound), cut.2 ∙ append-nil (flat_map text_of cut.0))

      -- behind all of them nothing is left
      pub nothing_left : at ≡ count → left ≡ []
      nothing_left counted =
          let behind = go_on (omega (arith, counted)) in
          let none : behind.0 ≡ [] = none_left behind.0 (omega (arith, behind.1, counted)) in
          behind.3 ∙ ap (flat_map text_of) none

      -- and before that there is one more
      pub one_there : at < count → (next : List ℕ) × BeginsWith Sound text_of left next
      one_there within =
          let behind = go_on (omega (arith, within)) in
          step behind.0 behind.1 behind.2 behind.3
        where
          step : (rest : List X) → length rest + at ≡ count → All Sound rest → left ≡ flat_map text_of rest → (next : List ℕ) × BeginsWith Sound text_of left next
          step [] long sound same = absurd (omega (arith, long, within))
          step (x ∷ rest) long sound same = (flat_map text_of rest, record { one = x; sound = All-head Sound x rest sound; written = same })
