-- Areas that stand on one another, one more.
use Rattle.std.proofs.Common.{◌≡◌, ℕ, ◌+◌, ◌<◌, true, List, [], ◌∷◌, ◌++◌, map, length, get_or, take, drop, flat_map, min, sum_by, Option, Some, None, sym, ap, ◌∙◌, arith, append_assoc, add-one}
use Rattle.std.specs.Option.{is_some}
use Rattle.std.proofs.lemmas.Bool.{false≢true}
use Rattle.std.proofs.lemmas.List.{take_more, flat_map_more}
use Rattle.std.proofs.lemmas.List.Sums.{sum_by-append, sum_by-cons}
use Rattle.std.proofs.Math.Seq.{drop-cons}
use Rattle.scenario.specs.Setup.{Setup}
use Rattle.trace.specs.declared.row.What.{What}
use Rattle.series.specs.Series.{kind_place}
use Rattle.series.specs.Spans.{span_width}
use Rattle.drawing.specs.Shapes.{area}
use Rattle.member_timelines.specs.Heights.{stacked}
use Rattle.member_timelines.specs.Lanes.{moments}
use Rattle.run_page.specs.Stacks.{Layer, layers, tops}

-- the text that the layers left append, and one layer of them appended
pub layers_step : (s : Setup) (most : ℕ) (layer : Layer) (left later : List Layer) (bases top all before after : List ℕ) → left ≡ layer ∷ later → all ≡ before ++ layers s most bases left
    → top ≡ stacked bases layer.heights most → after ≡ before ++ area layer.class bases top (span_width s) (moments s) most → all ≡ after ++ layers s most top later
layers_step s most layer left later bases top all before after splits held is goes =
    held ∙ ap (λ l. before ++ layers s most bases l) splits
    ∙ ap (λ t. before ++ (area layer.class bases t (span_width s) (moments s) most ++ layers s most t later)) (sym is)
    ∙ sym (append_assoc before (area layer.class bases top (span_width s) (moments s) most) (layers s most top later))
    ∙ ap (λ t. t ++ layers s most top later) (sym goes)

-- how high the layers left reach, and one layer of them less
pub tops_step : (most : ℕ) (layer : Layer) (left later : List Layer) (bases top all : List ℕ) → left ≡ layer ∷ later → all ≡ tops most bases left → top ≡ stacked bases layer.heights most → all ≡ tops most top later
tops_step most layer left later bases top all splits held is = held ∙ ap (tops most bases) splits ∙ ap (λ t. tops most t later) (sym is)

-- the layers of the items left
pub items_step : {X : Type 0} (f : X → Layer) (items : List X) (place : ℕ) (d : X) → place < length items → map f (drop place items) ≡ f (get_or items place d) ∷ map f (drop (place + 1) items)
items_step f items place d within = ap (map f) (drop-cons items place d within) ∙ ap (λ n. f (get_or items place d) ∷ map f (drop n items)) (sym (add-one place))

-- a count that is known wherever a kind of message has its place
pub where_counted : (kind : What) (found count : ℕ) (place : Option ℕ) → kind_place kind ≡ place → is_some place ≡ true → ((at : ℕ) → kind_place kind ≡ Some at → found ≡ count) → found ≡ count
where_counted kind found count (Some at) is some each = each at is
where_counted kind found count None is some each = absurd (false≢true some)

-- a sum of items as far as a limit allows, with one item more
pub sum_of_items : {X : Type 0} (f : X → ℕ) (items : List X) (place : ℕ) (d : X) (most before after : ℕ) → place < length items
    → before ≡ min (sum_by f (take place items)) most → after ≡ min (before + f (get_or items place d)) most → after ≡ min (sum_by f (take (place + 1) items)) most
sum_of_items f items place d most before after within held goes =
    goes ∙ ap (λ b. min (b + f (get_or items place d)) most) held ∙ cut (sum_by f (take place items)) (f (get_or items place d)) most ∙ ap (λ n. min n most) (sym more)
  where
    cut : (a b m : ℕ) → min (min a m + b) m ≡ min (a + b) m
    cut a b m = omega arith

    alone : (a : ℕ) → a + 0 ≡ a
    alone a = omega arith

    more : sum_by f (take (place + 1) items) ≡ sum_by f (take place items) + f (get_or items place d)
    more =
        ap (sum_by f) (take_more items place d within)
        ∙ sum_by-append f (take place items) (get_or items place d ∷ [])
        ∙ ap (λ n. sum_by f (take place items) + n) (sum_by-cons f (get_or items place d) [] ∙ alone (f (get_or items place d)))

-- a text that holds what is made of each of the first items goes on by what is made of the next
pub item_more : {X : Type 0} (f : X → List ℕ) (items : List X) (place : ℕ) (d : X) (old before after : List ℕ) → place < length items
    → before ≡ old ++ flat_map f (take place items) → after ≡ before ++ f (get_or items place d) → after ≡ old ++ flat_map f (take (place + 1) items)
item_more f items place d old before after within held goes =
    goes ∙ ap (λ t. t ++ f (get_or items place d)) held ∙ flat_map_more f old (take place items) (get_or items place d)
    ∙ ap (λ l. old ++ flat_map f l) (sym (take_more items place d within))
