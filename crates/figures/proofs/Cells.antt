-- How a line of aligned columns grows.
use Rattle.std.proofs.Common.{◌≡◌, ◌+◌, ◌==◌, ◌<◌, ℕ, Bool, true, false, List, [], ◌∷◌, ◌++◌, codes, decimal, length, length-append, map, take, get_or, refl, sym, ap, ◌∙◌, arith, append-nil, append_assoc}
use Rattle.std.specs.Prelude.{Option, Some, None, if◌then◌else◌}
use Rattle.std.specs.List.{flat_map, zip}
use Rattle.std.proofs.lemmas.Bool.{eqb-true}
use Rattle.std.proofs.lemmas.List.{take_more, length-take-le, length-map, map-append}
use Rattle.incident_figures.specs.declared.setting.DayRates.{DayRates}
use Rattle.incident_figures.specs.declared.setting.IncidentSummary.{IncidentSummary}
use Rattle.figures.specs.declared.column_set.ColumnSet.{ColumnSet}
use Rattle.figures.specs.declared.column_set.ColumnSet.TheVariants.{First, WithRevived, WithIncidents}
use Rattle.figures.specs.declared.summary.SettingSummary.{SettingSummary}
use Rattle.figures.specs.SettingLines.{padded, cells_aligned, day_texts, first_texts, incident_texts, last_texts, some_words, figure_texts, figure_widths, widths_of}

-- the parts of a line, as they were added and as the definition has them
pub parts_joined : {A : Type 0} (keys first revived last : List A) → ((keys ++ first) ++ revived) ++ last ≡ keys ++ (first ++ (revived ++ last))
parts_joined keys first revived last = simp append_assoc

-- the widths of the columns of the figures
abbrev pub first_widths : List ℕ
first_widths = 8 ∷ 11 ∷ 11 ∷ 11 ∷ 16 ∷ 8 ∷ 13 ∷ 13 ∷ 10 ∷ []

abbrev pub last_widths : List ℕ
last_widths = 9 ∷ 9 ∷ 10 ∷ 8 ∷ []

pub widths_told : (columns : ColumnSet) → first_widths ++ (widths_of (some_words columns) ++ last_widths) ≡ figure_widths columns
widths_told First = refl
widths_told WithRevived = refl
widths_told WithIncidents = refl

-- there are as many figures as columns
pub as_many : (columns : ColumnSet) (setting : SettingSummary) → length (figure_texts columns setting) ≡ length (figure_widths columns)
as_many First setting = refl
as_many WithRevived setting = refl
as_many WithIncidents setting = with_incidents setting.incidents
  where
    days : (day : Option DayRates) → length (day_texts day) ≡ 3
    days None = refl
    days (Some rates) = refl

    six : (incidents : Option IncidentSummary) → length (incident_texts incidents) ≡ 6
    six None = refl
    six (Some told) = let three = days told.day in omega (arith, three)

    with_incidents : (incidents : Option IncidentSummary) → length (first_texts setting ++ ((decimal setting.revived ∷ incident_texts incidents) ++ last_texts setting)) ≡ length (figure_widths WithIncidents)
    with_incidents incidents = let long = six incidents in omega (arith, long, length-append (incident_texts incidents) (last_texts setting))

-- what stands before the cell at a place
abbrev pub gap : ℕ → List ℕ
gap place = if place == 0 then [] else codes "  "

later : (n : ℕ) → 0 < n → gap n ≡ codes "  "
later n some = by (n == 0) refl
  where
    by : (b : Bool) → (n == 0) ≡ b → gap n ≡ codes "  "
    by true e = absurd (omega (arith, some, eqb-true n 0 e))
    by false e = ap (λ (b : Bool). let text : List ℕ = (if b then [] else codes "  ") in text) e

-- the cells after the first
abbrev pub others : List ℕ → List (List ℕ) → List ℕ
others widths texts = flat_map (λ cell. codes "  " ++ padded cell.0 cell.1) (zip widths texts)

others_more : (widths : List ℕ) (texts : List (List ℕ)) (width : ℕ) (text : List ℕ) → length widths ≡ length texts
    → others (widths ++ width ∷ []) (texts ++ text ∷ []) ≡ others widths texts ++ (codes "  " ++ padded width text)
others_more [] [] width text same = append-nil (codes "  " ++ padded width text)
others_more [] (t ∷ texts) width text same = absurd (omega (arith, same))
others_more (w ∷ widths) [] width text same = absurd (omega (arith, same))
others_more (w ∷ widths) (t ∷ texts) width text same =
    ap (λ l. (codes "  " ++ padded w t) ++ l) (others_more widths texts width text (omega (arith, same)))
    ∙ sym (append_assoc (codes "  " ++ padded w t) (others widths texts) (codes "  " ++ padded width text))

-- one cell more at the end
pub cells_more : (widths : List ℕ) (texts : List (List ℕ)) (width : ℕ) (text : List ℕ) (place : ℕ) → length widths ≡ length texts → place ≡ length texts
    → cells_aligned (widths ++ width ∷ []) (texts ++ text ∷ []) ≡ cells_aligned widths texts ++ (gap place ++ padded width text)
cells_more [] [] width text place same at =
    append-nil (padded width text) ∙ ap (λ n. gap n ++ padded width text) (sym at)
cells_more [] (t ∷ texts) width text place same at = absurd (omega (arith, same))
cells_more (w ∷ widths) [] width text place same at = absurd (omega (arith, same))
cells_more (w ∷ widths) (t ∷ texts) width text place same at =
    ap (λ l. padded w t ++ l) (others_more widths texts width text (omega (arith, same)))
    ∙ sym (append_assoc (padded w t) (others widths texts) (codes "  " ++ padded width text))
    ∙ ap (λ l. (padded w t ++ others widths texts) ++ (l ++ padded width text)) (sym (later place (omega (arith, at))))

-- the same as the line is written: a gap, and then the cell
pub cell_written : {X : Type 0} (f : X → List ℕ) (widths : List ℕ) (texts : List X) (place width : ℕ) (item : X) (text before line gapped after : List ℕ)
    → length widths ≡ length texts → place < length texts → width ≡ get_or widths place 0 → item ≡ get_or texts place item → text ≡ f item
    → line ≡ before ++ cells_aligned (take place widths) (map f (take place texts)) → gapped ≡ line ++ gap place → after ≡ gapped ++ padded width text
    → after ≡ before ++ cells_aligned (take (place + 1) widths) (map f (take (place + 1) texts))
cell_written f widths texts place width item text before line gapped after same lt wide at said so gaps is =
    let ws = take place widths in
    let ts = map f (take place texts) in
    let long_w : length ws ≡ place = length-take-le place widths (omega (arith, same, lt)) in
    let long_t : length ts ≡ place = length-map (take place texts) f ∙ length-take-le place texts (omega (arith, lt)) in
    let more_w : take (place + 1) widths ≡ ws ++ width ∷ [] = take_more widths place 0 (omega (arith, same, lt)) ∙ ap (λ w. ws ++ w ∷ []) (sym wide) in
    let more_t : map f (take (place + 1) texts) ≡ ts ++ text ∷ [] =
    ap (map f) (take_more texts place item lt ∙ ap (λ t. take place texts ++ t ∷ []) (sym at)) ∙ map-append f (take place texts) (item ∷ []) ∙ ap (λ t. ts ++ t ∷ []) (sym said) in
    is ∙ ap (λ l. l ++ padded width text) (gaps ∙ ap (λ l. l ++ gap place) so)
    ∙ append_assoc (before ++ cells_aligned ws ts) (gap place) (padded width text)
    ∙ append_assoc before (cells_aligned ws ts) (gap place ++ padded width text)
    ∙ ap (λ l. before ++ l) (sym (cells_more ws ts width text place (long_w ∙ sym long_t) (sym long_t)))
    ∙ ap (λ l. before ++ cells_aligned l (ts ++ text ∷ [])) (sym more_w)
    ∙ ap (λ l. before ++ cells_aligned (take (place + 1) widths) l) (sym more_t)
