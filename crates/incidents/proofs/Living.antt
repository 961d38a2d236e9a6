-- What one row more tells of a restart.
use Rattle.std.proofs.Common.{◌≡◌, ℕ, ◌+◌, ◌≤◌, ◌<◌, ◌^◌, Bool, true, false, cond, ◌&&◌, ◌||◌, ◌==◌, List, [], ◌∷◌, ◌++◌, length, Option, Some, None, refl, sym, ap, ◌∙◌, arith, append-nil}
use Rattle.std.specs.Prelude.{not, filter, find, count_by, if◌then◌else◌}
use Rattle.std.specs.Option.{option_or, option_map_or}
use Rattle.std.specs.List.{last_or, list_any, slice_index_or}
use Rattle.std.proofs.Math.Path.{fun_ext}
use Rattle.std.proofs.Math.Bool.{and-false}
use Rattle.std.proofs.lemmas.Bool.{eq-eqb, ne_eqb, false≢true}
use Rattle.std.proofs.lemmas.List.Folds.{list_any-append}
use denote.Enum.Bare.{sameb, same_true}
use Rattle.trace.specs.contracts.row.What.{the_type}
use Rattle.trace.specs.declared.row.What.TheVariants as what
use Rattle.trace.specs.declared.row.Row.{Row}
use Rattle.trace_rows.specs.Rows.{Placed, has_kind, is_about, tells_of}
use Rattle.trace_rows.specs.Moments.{moment_of}
use Rattle.trace_rows.specs.Moments.{moment_if}
use Rattle.trace_rows.proofs.Moments.{first-push, last-push, or-none}
use Rattle.trace_rows.proofs.Tellings.{tells_of-other, has_kind-same}
use Rattle.incidents.specs.declared.returns.Return.{Return}
use Rattle.incidents.specs.declared.lines.Line.{Line}
use Rattle.incidents.specs.Lives.{members, weight, ends}
use Rattle.incidents.specs.Returns.{ends_life, life_of, joins, greets, return_with}
use Rattle.incidents.specs.Lines.{and_later, is_holder, whom, goes_on, IsLineOf}
use Rattle.incidents.specs.Kept.{placed}
use Rattle.incidents.proofs.Sums.{change_from, few_members, none_count}

-- ---- lives

or-first : (a b : Bool) → (a || b) ≡ false → a ≡ false
or-first false b none = refl
or-first true b none = none

or-rest : (a b : Bool) → (a || b) ≡ false → b ≡ false
or-rest false b none = none
or-rest true b none = absurd (false≢true (sym none))

life_whole : (m : ℕ) (rows : List Row) → list_any (ends_life m) rows ≡ false → life_of m rows ≡ rows
life_whole m [] none = refl
life_whole m (row ∷ rows) none =
    ap (λ b. if b then [] else row ∷ life_of m rows) (or-first (ends_life m row) _ none) ∙ ap (λ l. row ∷ l) (life_whole m rows (or-rest (ends_life m row) _ none))

life_more : (m : ℕ) (rows : List Row) (row : Row) → list_any (ends_life m) rows ≡ false → life_of m (rows ++ row ∷ []) ≡ rows ++ cond (ends_life m row) [] (row ∷ [])
life_more m [] row none = refl
life_more m (first ∷ rows) row none =
    ap (λ b. if b then [] else first ∷ life_of m (rows ++ row ∷ [])) (or-first (ends_life m first) _ none) ∙ ap (λ l. first ∷ l) (life_more m rows row (or-rest (ends_life m first) _ none))

over_step : (b rest : Bool) (first : Row) (one two : List Row) → (b || rest) ≡ true → (rest ≡ true → one ≡ two) → (if b then [] else first ∷ one) ≡ (if b then [] else first ∷ two)
over_step true rest first one two some same = refl
over_step false rest first one two some same = ap (λ l. first ∷ l) (same some)

life_over : (m : ℕ) (rows : List Row) (row : Row) → list_any (ends_life m) rows ≡ true → life_of m (rows ++ row ∷ []) ≡ life_of m rows
life_over m [] row some = absurd (false≢true some)
life_over m (first ∷ rows) row some =
    over_step (ends_life m first) (list_any (ends_life m) rows) first (life_of m (rows ++ row ∷ [])) (life_of m rows) some (life_over m rows row)

not_true : (b : Bool) → not b ≡ true → b ≡ false
not_true true is = absurd (false≢true is)
not_true false is = refl

not_false : (b : Bool) → not b ≡ false → b ≡ true
not_false true is = refl
not_false false is = absurd (false≢true (sym is))

or_false : (b : Bool) → (b || false) ≡ b
or_false true = refl
or_false false = refl

-- whether the life goes on after a row more
goes_on-push : (row : Row) (p : Placed) → goes_on (and_later row p) ≡ not (list_any (ends_life p.row.member) p.later || (ends_life p.row.member row || false))
goes_on-push row p = ap not (list_any-append (ends_life p.row.member) p.later (row ∷ []))

-- ---- one row more of a life that goes on

-- who has said that the member is alive
pub greeted-push : (m i : ℕ) (rows : List Row) (row : Row) → list_any (greets m i) (rows ++ row ∷ []) ≡ (list_any (greets m i) rows || ((row.member == i) && tells_of what.Alive m row))
greeted-push m i rows row = list_any-append (greets m i) rows (row ∷ []) ∙ ap (λ b. list_any (greets m i) rows || b) (or_false (greets m i row))

one_not : (b : Bool) → weight (not b) + weight b ≡ 1
one_not true = refl
one_not false = refl

or_true : (b : Bool) → (b || true) ≡ true
or_true true = refl
or_true false = refl

none_greeted : (m i : ℕ) (rows : List Row) (row : Row) → tells_of what.Alive m row ≡ false → list_any (greets m i) (rows ++ row ∷ []) ≡ list_any (greets m i) rows
none_greeted m i rows row none =
    greeted-push m i rows row ∙ ap (λ t. list_any (greets m i) rows || ((row.member == i) && t)) none ∙ ap (λ b. list_any (greets m i) rows || b) (and-false (row.member == i)) ∙ or_false _

one_greeted : (m i : ℕ) (rows : List Row) (row : Row) → tells_of what.Alive m row ≡ true → list_any (greets m i) (rows ++ row ∷ []) ≡ (list_any (greets m i) rows || (row.member == i))
one_greeted m i rows row is =
    greeted-push m i rows row ∙ ap (λ t. list_any (greets m i) rows || ((row.member == i) && t)) is ∙ ap (λ b. list_any (greets m i) rows || b) (and_true (row.member == i))
  where
    and_true : (b : Bool) → (b && true) ≡ b
    and_true true = refl
    and_true false = refl

-- how many have
same_holders : (count m : ℕ) (rows : List Row) (row : Row) → tells_of what.Alive m row ≡ false
    → count_by (λ i. list_any (greets m i) (rows ++ row ∷ [])) (members count) ≡ count_by (λ i. list_any (greets m i) rows) (members count)
same_holders count m rows row none = ap (λ t. count_by t (members count)) (fun_ext (λ i. none_greeted m i rows row none))

more_holders : (count m : ℕ) (rows : List Row) (row : Row) → row.member < count → tells_of what.Alive m row ≡ true
    → count_by (λ i. list_any (greets m i) (rows ++ row ∷ [])) (members count) ≡ count_by (λ i. list_any (greets m i) rows) (members count) + weight (not (list_any (greets m row.member) rows))
more_holders count m rows row low is =
    let k = row.member in
    let sums : count_by (λ i. list_any (greets m i) (rows ++ row ∷ [])) (members count) + weight (list_any (greets m k) rows)
    ≡ count_by (λ i. list_any (greets m i) rows) (members count) + weight (list_any (greets m k) (rows ++ row ∷ [])) =
    change_from (λ i. weight (list_any (greets m i) rows)) (λ i. weight (list_any (greets m i) (rows ++ row ∷ []))) k 0 count (omega arith) (omega (arith, low))
    (λ i other. ap weight (one_greeted m i rows row is ∙ ap (λ t. list_any (greets m i) rows || t) (ne_eqb k i (λ same. other (sym same))) ∙ or_false _)) in
    let now : weight (list_any (greets m k) (rows ++ row ∷ [])) ≡ 1 = ap weight (one_greeted m k rows row is ∙ ap (λ t. list_any (greets m k) rows || t) (eq-eqb k k refl) ∙ or_true _) in
    let one = one_not (list_any (greets m k) rows) in
    omega (arith, sums, now, one)

-- ---- returns of the same parts

abbrev pub made : ℕ → ℕ → Option ℕ → Option ℕ → ℕ → Return
made m at joined back holders = record { member = m; at = at; joined = joined; back = back; holders = holders }

-- what a life of one row more tells
return-more : (count m at : ℕ) (rows : List Row) (row : Row) (holders : ℕ) → count_by (λ i. list_any (greets m i) (rows ++ row ∷ [])) (members count) ≡ holders
    → return_with count m at (rows ++ row ∷ []) ≡ made m at (option_or (moment_of (find (joins m) rows)) (moment_if (joins m row) row.at))
    (cond (tells_of what.Alive m row) (Some row.at) (moment_of (last_or None (filter (tells_of what.Alive m) rows)))) holders
return-more count m at rows row holders is =
    ap (λ j. made m at j (moment_of (last_or None (filter (tells_of what.Alive m) (rows ++ row ∷ [])))) (count_by (λ i. list_any (greets m i) (rows ++ row ∷ [])) (members count))) (first-push (joins m) rows row)
    ∙ ap (λ b. made m at (option_or (moment_of (find (joins m) rows)) (moment_if (joins m row) row.at)) b (count_by (λ i. list_any (greets m i) (rows ++ row ∷ [])) (members count))) (last-push (tells_of what.Alive m) rows row)
    ∙ ap (made m at (option_or (moment_of (find (joins m) rows)) (moment_if (joins m row) row.at)) (cond (tells_of what.Alive m row) (Some row.at) (moment_of (last_or None (filter (tells_of what.Alive m) rows))))) is

-- ---- lines

-- a line whose life is over
pub line_over : (count : ℕ) (line : Line) (p : Placed) (row : Row) → line.is_open ≡ false → IsLineOf count line p → IsLineOf count line (and_later row p)
line_over count line p row shut is =
    let over : list_any (ends_life p.row.member) p.later ≡ true = not_false _ (sym is.lives ∙ shut) in
    let still : goes_on (and_later row p) ≡ false = goes_on-push row p ∙ ap (λ b. not (b || (ends_life p.row.member row || false))) over in
    record {
      told = is.told ∙ ap (return_with count p.row.member p.row.at) (sym (life_over p.row.member p.later row over));
      lives = shut ∙ sym still;
      room = is.room;
      holders = λ on. absurd (false≢true (sym still ∙ on));
    }

-- one whose life ends with the row
pub line_ends : (count : ℕ) (old new : Line) (p : Placed) (row : Row) → old.is_open ≡ true → ends_life p.row.member row ≡ true → IsLineOf count old p
    → new.told ≡ old.told → new.is_open ≡ false → new.holders ≡ old.holders → IsLineOf count new (and_later row p)
line_ends count old new p row lasts ends is told shut same =
    let going : list_any (ends_life p.row.member) p.later ≡ false = not_true _ (sym is.lives ∙ lasts) in
    let over : goes_on (and_later row p) ≡ false = goes_on-push row p ∙ ap (λ b. not (b || (ends_life p.row.member row || false))) going ∙ ap (λ b. not (b || false)) ends in
    record {
      told = told ∙ is.told ∙ ap (return_with count p.row.member p.row.at) (life_whole p.row.member p.later going
          ∙ sym (life_more p.row.member p.later row going ∙ ap (λ b. p.later ++ cond b [] (row ∷ [])) ends ∙ append-nil p.later));
      lives = shut ∙ sym over;
      room = ap (λ h. length h.items) same ∙ is.room;
      holders = λ on. absurd (false≢true (sym over ∙ on));
    }

-- what is told of a line whose life goes on
open_told : (count : ℕ) (line : Line) (p : Placed) → line.is_open ≡ true → IsLineOf count line p → line.told ≡ return_with count p.row.member p.row.at p.later
open_told count line p lasts is = is.told ∙ ap (return_with count p.row.member p.row.at) (life_whole p.row.member p.later (not_true _ (sym is.lives ∙ lasts)))

still_on : (line : Line) (count : ℕ) (p : Placed) (row : Row) → line.is_open ≡ true → ends_life p.row.member row ≡ false → IsLineOf count line p → goes_on (and_later row p) ≡ true
still_on line count p row lasts none is =
    goes_on-push row p ∙ ap (λ b. not (b || (ends_life p.row.member row || false))) (not_true _ (sym is.lives ∙ lasts)) ∙ ap (λ b. not (b || false)) none

life_on : (line : Line) (count : ℕ) (p : Placed) (row : Row) → line.is_open ≡ true → ends_life p.row.member row ≡ false → IsLineOf count line p
    → life_of p.row.member (p.later ++ row ∷ []) ≡ p.later ++ row ∷ []
life_on line count p row lasts none is =
    life_more p.row.member p.later row (not_true _ (sym is.lives ∙ lasts)) ∙ ap (λ b. p.later ++ cond b [] (row ∷ [])) none

-- one whose life goes on, and of which the row doesn't say that it is alive
pub line_silent : (count : ℕ) (old new : Line) (p : Placed) (row : Row) → old.is_open ≡ true → ends_life p.row.member row ≡ false → tells_of what.Alive p.row.member row ≡ false
    → IsLineOf count old p → new.told ≡ record old.told { joined = option_or old.told.joined (moment_if (joins p.row.member row) row.at) }
    → new.is_open ≡ old.is_open → new.holders ≡ old.holders → IsLineOf count new (and_later row p)
line_silent count old new p row lasts none silent is told same holders =
    let m = p.row.member in
    let was = open_told count old p lasts is in
    record {
      told = told ∙ ap (λ (t : Return). made t.member t.at (option_or t.joined (moment_if (joins m row) row.at)) t.back t.holders) was
          ∙ sym (return-more count m p.row.at p.later row _ (same_holders count m p.later row silent)
          ∙ ap (λ b. made m p.row.at (option_or (moment_of (find (joins m) p.later)) (moment_if (joins m row) row.at)) (cond b (Some row.at) (moment_of (last_or None (filter (tells_of what.Alive m) p.later)))) (count_by (λ i. list_any (greets m i) p.later) (members count))) silent)
          ∙ ap (return_with count m p.row.at) (sym (life_on old count p row lasts none is));
      lives = same ∙ lasts ∙ sym (still_on old count p row lasts none is);
      room = ap (λ h. length h.items) holders ∙ is.room;
      holders = λ on i. ap (λ h. slice_index_or h.items i false) holders ∙ is.holders (sym is.lives ∙ lasts) i ∙ sym (none_greeted m i p.later row silent);
    }

or_comm : (b c : Bool) → (if b then true else c) ≡ (c || b)
or_comm true c = sym (or_true c)
or_comm false c = sym (or_false c)

-- one whose life goes on, and of which the row says that it is alive
pub line_greeted : (count : ℕ) (old new : Line) (p : Placed) (row : Row) → count ≤ 2 ^ 16 → row.member < count → old.is_open ≡ true → ends_life p.row.member row ≡ false → tells_of what.Alive p.row.member row ≡ true
    → IsLineOf count old p
    → new.told ≡ made old.told.member old.told.at (option_or old.told.joined (moment_if (joins p.row.member row) row.at)) (Some row.at) new.told.holders
    → (old.told.holders < 2 ^ 63 → new.told.holders ≡ old.told.holders + weight (not (is_holder old row.member)))
    → new.is_open ≡ old.is_open → length new.holders.items ≡ length old.holders.items
    → ((i : ℕ) → is_holder new i ≡ (if row.member == i then true else is_holder old i)) → IsLineOf count new (and_later row p)
line_greeted count old new p row few low lasts none says is told more same room holders =
    let m = p.row.member in
    let was = open_told count old p lasts is in
    let before : old.told.holders ≡ count_by (λ i. list_any (greets m i) p.later) (members count) = ap (λ (t : Return). t.holders) was in
    let bound = few_members count (λ i. list_any (greets m i) p.later) in
    let raised = more (omega (arith, before, bound, few)) in
    let had : weight (not (is_holder old row.member)) ≡ weight (not (list_any (greets m row.member) p.later)) = ap (λ b. weight (not b)) (is.holders (sym is.lives ∙ lasts) row.member) in
    let after = more_holders count m p.later row low says in
    let now : new.told.holders ≡ count_by (λ i. list_any (greets m i) (p.later ++ row ∷ [])) (members count) = omega (arith, raised, before, had, after) in
    record {
      told = told ∙ ap (λ (t : Return). made t.member t.at (option_or t.joined (moment_if (joins m row) row.at)) (Some row.at) new.told.holders) was
          ∙ sym (return-more count m p.row.at p.later row new.told.holders (sym now)
          ∙ ap (λ b. made m p.row.at (option_or (moment_of (find (joins m) p.later)) (moment_if (joins m row) row.at)) (cond b (Some row.at) (moment_of (last_or None (filter (tells_of what.Alive m) p.later)))) new.told.holders) says)
          ∙ ap (return_with count m p.row.at) (sym (life_on old count p row lasts none is));
      lives = same ∙ lasts ∙ sym (still_on old count p row lasts none is);
      room = room ∙ is.room;
      holders = λ on i. holders i ∙ ap (λ c. if row.member == i then true else c) (is.holders (sym is.lives ∙ lasts) i) ∙ or_comm (row.member == i) (list_any (greets m i) p.later) ∙ sym (one_greeted m i p.later row says);
    }

-- the line of a row before any other
pub line_new : (count : ℕ) (line : Line) (rows : List Row) (row : Row) → line.told ≡ made row.member row.at None None 0 → line.is_open ≡ true → length line.holders.items ≡ count → ((i : ℕ) → is_holder line i ≡ false) → IsLineOf count line (placed rows row)
line_new count line rows row told lasts room empty = record {
  told = told ∙ ap (made row.member row.at None None) (sym (none_count (λ i. false) 0 count (λ i. refl)));
  lives = lasts;
  room = room;
  holders = λ on i. empty i;
}

-- whose line it is
pub own_member : (count : ℕ) (line : Line) (p : Placed) → IsLineOf count line p → line.told.member ≡ p.row.member
own_member count line p is = ap (λ (t : Return). t.member) is.told

-- ---- a row that tells nothing of a member

pub whom_alive : (row : Row) → has_kind what.Alive row ≡ true → row.about ≡ whom row
whom_alive row is = sym (ap (λ b. if b then row.about else (if has_kind what.Joined row || ends row then Some row.member else None)) is)

pub whom_own : (row : Row) → has_kind what.Alive row ≡ false → (has_kind what.Joined row || ends row) ≡ true → Some row.member ≡ whom row
whom_own row other own =
    sym (ap (λ b. if b then row.about else (if has_kind what.Joined row || ends row then Some row.member else None)) other ∙ ap (λ b. if b then Some row.member else None) own)

pub whom_none : (row : Row) → has_kind what.Alive row ≡ false → (has_kind what.Joined row || ends row) ≡ false → None ≡ whom row
whom_none row other none =
    sym (ap (λ b. if b then row.about else (if has_kind what.Joined row || ends row then Some row.member else None)) other ∙ ap (λ b. if b then Some row.member else None) none)

record TellsNothing (m : ℕ) (row : Row) : Type 0 where
  pub no_end : ends_life m row ≡ false
  pub no_join : joins m row ≡ false
  pub no_greeting : tells_of what.Alive m row ≡ false

nothing : (m : ℕ) (row : Row) (alive own : Bool) → has_kind what.Alive row ≡ alive → (has_kind what.Joined row || ends row) ≡ own
    → option_map_or (λ k. k == m) (whom row) false ≡ false → TellsNothing m row
nothing m row true own is _ none =
    let kind : row.what ≡ what.Alive = same_true the_type tt row.what what.Alive is in
    let about : is_about m row ≡ false = ap (λ o. option_map_or (λ (k : ℕ). k == m) o false) (whom_alive row is) ∙ none in
    let over : ends row ≡ false = ap (λ w. sameb the_type w what.Crash || sameb the_type w what.Leave) kind in
    record {
      no_end = ap (λ b. (row.member == m) && b) over ∙ and-false (row.member == m);
      no_join = ap (λ b. (row.member == m) && b) (has_kind-same what.Alive what.Joined row kind) ∙ and-false (row.member == m);
      no_greeting = tells_of-other what.Alive m row about;
    }
nothing m row false true is own none =
    let other : (row.member == m) ≡ false = ap (λ o. option_map_or (λ (k : ℕ). k == m) o false) (whom_own row is own) ∙ none in
    record {
      no_end = ap (λ b. b && ends row) other;
      no_join = ap (λ b. b && has_kind what.Joined row) other;
      no_greeting = ap (λ b. b && is_about m row) is;
    }
nothing m row false false is own none = record {
  no_end = ap (λ b. (row.member == m) && b) (or-rest (has_kind what.Joined row) (ends row) own) ∙ and-false (row.member == m);
  no_join = ap (λ b. (row.member == m) && b) (or-first (has_kind what.Joined row) (ends row) own) ∙ and-false (row.member == m);
  no_greeting = ap (λ b. b && is_about m row) is;
}

-- such a row leaves a line
apart_by : (b : Bool) (count : ℕ) (line : Line) (p : Placed) (row : Row) → line.is_open ≡ b → TellsNothing p.row.member row → IsLineOf count line p → IsLineOf count line (and_later row p)
apart_by false count line p row is_open none is = line_over count line p row is_open is
apart_by true count line p row is_open none is =
    line_silent count line line p row is_open none.no_end none.no_greeting is
    (ap (λ j. made line.told.member line.told.at j line.told.back line.told.holders)
    (sym (ap (λ b. option_or line.told.joined (moment_if b row.at)) none.no_join ∙ or-none line.told.joined)))
    refl refl

pub line_apart : (count : ℕ) (line : Line) (p : Placed) (row : Row) → option_map_or (λ k. k == p.row.member) (whom row) false ≡ false → IsLineOf count line p → IsLineOf count line (and_later row p)
line_apart count line p row none is =
    apart_by line.is_open count line p row refl (nothing p.row.member row (has_kind what.Alive row) (has_kind what.Joined row || ends row) refl refl none) is

-- a line that goes on after a row went on before it, and the row doesn't end its life
pub went_on : (p : Placed) (row : Row) → goes_on (and_later row p) ≡ true → goes_on p ≡ true
went_on p row on = ap not (or-first (list_any (ends_life p.row.member) p.later) _ (not_true _ (sym (goes_on-push row p) ∙ on)))

pub no_end_then : (p : Placed) (row : Row) → goes_on (and_later row p) ≡ true → ends_life p.row.member row ≡ false
no_end_then p row on =
    or-first (ends_life p.row.member row) false (or-rest (list_any (ends_life p.row.member) p.later) _ (not_true _ (sym (goes_on-push row p) ∙ on)))
