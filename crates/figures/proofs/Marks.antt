-- Members that are marked, each by its place in a list.
use Rattle.std.proofs.Common.{◌≡◌, ◌+◌, ◌<◌, ℕ, suc, Bool, false, cond, ◌||◌, List, [], ◌∷◌, length, get_or, replicate, refl, sym, ap, ◌∙◌, arith, add-zero, zero-add, subst, take, ◌++◌}
use Rattle.std.specs.Prelude.{Option, filter, map, true, count_by, All, IfSome, if◌then◌else◌}
use Rattle.std.specs.List.{list_any, range_with_len}
use Rattle.std.proofs.lemmas.List.Sums.{sum_by-cons}
use Rattle.std.proofs.lemmas.List.Elements.{All-map, All-filter, All-weaker, All-same}
use Rattle.scenario.specs.Setup.{Setup, member_count}
use Rattle.trace.specs.declared.row.What.{What}
use Rattle.trace.specs.declared.row.Row.{Row}
use Rattle.trace.specs.Text.{NamesMembers}
use Rattle.trace_rows.specs.Rows.{rows_in_place, has_kind, is_about}
use Rattle.schema.specs.declared.schema.Version.{Version}
use Rattle.schema.specs.declared.schema.Version.TheVariants.{One, Two, Three, Four}
use Rattle.reports.specs.Absences.{as_confirm, with_left, with_others_left, is_wrong, wrongs_of}
use Rattle.reports.specs.FalsePositives.{ways_to_depart, is_false_positive}
use Rattle.reports.specs.Failures.{false_positives_of}
use Rattle.reports.proofs.Places.{All-placed_after}
use Rattle.reports.proofs.Pushes.{placed_false_positive}
use Rattle.reports.specs.declared.false_positives.FalsePositive.{FalsePositive}
use Rattle.trace.specs.declared.row.What.TheVariants as what
use Rattle.std.proofs.lemmas.List.{get_or-replicate, length-replicate}
use Rattle.std.proofs.Math.Seq.{take-append_seam}
use Rattle.figures.specs.Figures.{claims_told, is_of, is_thrown_out}

-- false claims are about members where the rows name members alone
pub about_members : (s : Setup) (claim : What) (rows : List Row) → All (NamesMembers s) rows → All (λ c. IfSome c.about (λ m. m < member_count s)) (false_positives_of claim rows)
about_members s claim rows named =
    All-map (λ c. IfSome c.about (λ m. m < member_count s)) placed_false_positive (filter (is_false_positive ways_to_depart claim) (rows_in_place rows))
    (All-filter (is_false_positive ways_to_depart claim) (λ p. IfSome p.row.about (λ m. m < member_count s)) (rows_in_place rows)
    (All-placed_after (λ row. IfSome row.about (λ m. m < member_count s)) [] rows (All-weaker (NamesMembers s) (λ row. IfSome row.about (λ m. m < member_count s)) (λ row names. names.about) rows named)))

-- as many are marked as pass the test by which each is marked
pub marked : (test : ℕ → Bool) (first : ℕ) (marks : List Bool) → ((place : ℕ) → place < length marks → get_or marks place false ≡ test (first + place))
    → count_by (λ mark. mark) marks ≡ count_by test (range_with_len first (length marks))
marked test first [] same = refl
marked test first (mark ∷ marks) same =
    let here : mark ≡ test first = same 0 (omega arith) ∙ ap test (add-zero first) in
    let later : (place : ℕ) → place < length marks → get_or marks place false ≡ test ((first + 1) + place) =
    λ place lt. same (suc place) (omega (arith, lt)) ∙ ap test (next place) in
    sum_by-cons (λ (m : Bool). cond m 1 0) mark marks
    ∙ ap (λ b. cond b 1 0 + count_by (λ (m : Bool). m) marks) here
    ∙ ap (λ n. cond (test first) 1 0 + n) (marked test (first + 1) marks later)
    ∙ sym (sum_by-cons (λ (m : ℕ). cond (test m) 1 0) first (range_with_len (first + 1) (length marks)))
  where
    next : (place : ℕ) → first + suc place ≡ (first + 1) + place
    next place = omega arith

-- the same of the rows as version 4 reads them
same_about : (row : Row) → (with_others_left row).about ≡ row.about
same_about row = by_self (is_about row.member row)
  where
    by_kind : (b : Bool) → (if b then as_confirm row else row).about ≡ row.about
    by_kind true = refl
    by_kind false = refl

    by_self : (b : Bool) → (if b then row else with_left row).about ≡ row.about
    by_self true = refl
    by_self false = by_kind (has_kind what.Left row)

abbrev IsAboutMember : Setup → Row → Type 0
IsAboutMember s row = IfSome row.about (λ m. m < member_count s)

others_about : (s : Setup) (rows : List Row) → All (NamesMembers s) rows → All (IsAboutMember s) (map with_others_left rows)
others_about s rows named =
    All-map (IsAboutMember s) with_others_left rows
    (All-weaker (NamesMembers s) (λ row. IsAboutMember s (with_others_left row)) (λ row names. subst (λ (about : Option ℕ). IfSome about (λ m. m < member_count s)) (sym (same_about row)) names.about) rows named)

about_wrongs : (s : Setup) (claim : What) (rows : List Row) → All (NamesMembers s) rows → All (λ c. IfSome c.about (λ m. m < member_count s)) (wrongs_of claim (map with_others_left rows))
about_wrongs s claim rows named =
    All-map (λ c. IfSome c.about (λ m. m < member_count s)) placed_false_positive (filter (is_wrong claim) (rows_in_place (map with_others_left rows)))
    (All-filter (is_wrong claim) (λ p. IsAboutMember s p.row) (rows_in_place (map with_others_left rows))
    (All-placed_after (IsAboutMember s) [] (map with_others_left rows) (others_about s rows named)))

-- and of the claims that a report tells
pub about_told : (version : Version) (s : Setup) (rows : List Row) → All (NamesMembers s) rows → All (λ c. IfSome c.about (λ m. m < member_count s)) (claims_told version what.Confirm rows)
about_told One s rows named = about_members s what.Confirm rows named
about_told Two s rows named = about_members s what.Confirm rows named
about_told Three s rows named = about_members s what.Confirm rows named
about_told Four s rows named = about_wrongs s what.Confirm rows named

-- those whom claims are about are marked among all members, so they are counted
pub all_marked : (members : ℕ) (before after : List Bool) (claims : List FalsePositive) (count : ℕ)
    → before ≡ replicate members false → length after ≡ length before
    → ((member : ℕ) → get_or after member false ≡ (get_or before member false || list_any (is_of member) claims))
    → count ≡ count_by (λ mark. mark) after → count ≡ count_by (is_thrown_out claims) (range_with_len 0 members)
all_marked members before after claims count none same marks counted =
    counted ∙ marked (is_thrown_out claims) 0 after each ∙ ap (λ n. count_by (is_thrown_out claims) (range_with_len 0 n)) long
  where
    long : length after ≡ members
    long = same ∙ ap length none ∙ length-replicate members false

    each : (place : ℕ) → place < length after → get_or after place false ≡ is_thrown_out claims (0 + place)
    each place lt =
        marks place ∙ ap (λ l. get_or l place false || list_any (is_of place) claims) none
        ∙ ap (λ b. b || list_any (is_of place) claims) (get_or-replicate members place false false (omega (arith, lt, long)))
        ∙ ap (is_thrown_out claims) (sym (zero-add place))

pub front_of : (n : ℕ) (front rest : List Bool) → length front ≡ n → take n (front ++ rest) ≡ front
front_of n front rest long = ap (λ k. take k (front ++ rest)) (sym long) ∙ take-append_seam front rest
