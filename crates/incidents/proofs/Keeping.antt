-- What one row more makes of what is kept.
use Rattle.std.proofs.Common.{◌≡◌, ℕ, ◌<◌, Bool, true, false, ◌&&◌, ◌||◌, ◌==◌, List, [], ◌∷◌, ◌++◌, length, zero, suc, true≢false, arith, refl, sym, ap, subst, ◌∙◌}
use Rattle.std.specs.Prelude.{if◌then◌else◌, slice_index_or}
use Rattle.trace.specs.declared.row.What.{What}
use Rattle.trace.specs.declared.row.Row.{Row}
use Rattle.trace_rows.specs.Rows.{has_kind, is_about}
use Rattle.incidents.specs.declared.lives.Lives.{Lives}
use Rattle.incidents.specs.Lives.{begins, ends, is_turn, is_turn_of, is_up, restarts}
use Rattle.incidents.specs.Views.{views, is_one_of, says}
use Rattle.incidents.specs.Flags.{is_up_in, has_restarted_in}
use Rattle.incidents.specs.Kept.{doubt_with, AreLivesOf}
use Rattle.incidents.proofs.Turning.{turn_is_no_view}
use Rattle.incidents.proofs.Pushes.{up-push, restarted-push, says-push}

-- ---- lives

pub lives-push : (old new : Lives) (count : ℕ) (rows : List Row) (row : Row) → AreLivesOf old count rows
    → ((m : ℕ) → is_up_in new m ≡ (if is_turn_of m row then begins row else is_up_in old m))
    → ((m : ℕ) → has_restarted_in new m ≡ (has_restarted_in old m || restarts m row))
    → length new.up.items ≡ length old.up.items → length new.restarted.items ≡ length old.restarted.items
    → AreLivesOf new count (rows ++ row ∷ [])
lives-push old new count rows row are up restarted members also = record {
  up = λ m. up m ∙ ap (λ b. if is_turn_of m row then begins row else b) (are.up m) ∙ sym (up-push rows row m);
  restarted = λ m. restarted m ∙ ap (λ b. b || restarts m row) (are.restarted m) ∙ sym (restarted-push rows row m);
  members = members ∙ are.members;
  also = also ∙ are.also;
}

flag_below : (flags : List Bool) (m : ℕ) → slice_index_or flags m false ≡ true → m < length flags
flag_below [] m is = absurd (true≢false (sym is))
flag_below (f ∷ flags) zero is = omega arith
flag_below (f ∷ flags) (suc m) is = let low = flag_below flags m is in omega (arith, low)

-- who is up is one of the members
pub up_is_member : (lives : Lives) (count : ℕ) (rows : List Row) → AreLivesOf lives count rows → (m : ℕ) → is_up rows m ≡ true → m < count
up_is_member lives count rows are m up =
    let low : m < length lives.up.items = flag_below lives.up.items m (are.up m ∙ up) in
    subst (λ n. m < n) are.members low

-- who isn't up has no pair of those that are kept of members that are
pub none_of_down : (up down pair said : Bool) → pair ≡ (up && said) → down ≡ up → down ≡ false → pair ≡ false
none_of_down up down pair said is same off = is ∙ ap (λ u. u && said) (sym same ∙ off)

-- ---- doubts

-- a pair after a row: whose it is, whether that begins or ends its life, or says something about the second, and of this kind
doubt_step : (own beg en view about kind up said doubt : Bool) → doubt ≡ (up && said)
    → ((beg || en) ≡ true → kind ≡ false) → ((beg || en) ≡ true → view ≡ false)
    → (if own && (beg || en) then false else (if own && (up && (view && about)) then kind else doubt))
    ≡ ((if own && (beg || en) then beg else up) && (if own && (beg || (view && about)) then kind else said))
doubt_step false beg en view about kind up said doubt is no_kind no_view = is
doubt_step true true en view about kind up said doubt is no_kind no_view = sym (no_kind refl)
doubt_step true false true view about kind up said doubt is no_kind no_view = refl
doubt_step true false false view about kind true said doubt is no_kind no_view = ap (λ b. if view && about then kind else b) is
doubt_step true false false view about kind false said doubt is no_kind no_view = is

pub doubt-push : (kind : What) (up : ℕ → Bool) (before after : ℕ → ℕ → Bool) (rows : List Row) (row : Row)
    → (is_turn row ≡ true → has_kind kind row ≡ false)
    → ((m : ℕ) → up m ≡ is_up rows m)
    → ((a b : ℕ) → before a b ≡ (is_up rows a && says kind rows a b))
    → ((a b : ℕ) → after a b ≡ doubt_with kind up row before a b)
    → (a b : ℕ) → after a b ≡ (is_up (rows ++ row ∷ []) a && says kind (rows ++ row ∷ []) a b)
doubt-push kind up before after rows row no_kind are_up were is a b =
    is a b
    ∙ ap (λ u. if is_turn_of a row then false else (if (row.member == a) && (u && (is_one_of views row && is_about b row)) then has_kind kind row else before a b)) (are_up a)
    ∙ doubt_step (row.member == a) (begins row) (ends row) (is_one_of views row) (is_about b row) (has_kind kind row) (is_up rows a) (says kind rows a b) (before a b) (were a b) no_kind (turn_is_no_view row)
    ∙ sym (ap (λ u. u && says kind (rows ++ row ∷ []) a b) (up-push rows row a) ∙ ap (λ s. (if is_turn_of a row then begins row else is_up rows a) && s) (says-push kind rows row a b))
