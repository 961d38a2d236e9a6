-- A row is of one kind, so no more messages were sent than there are rows.
use Rattle.std.proofs.Common.{◌≡◌, ◌+◌, ◌≤◌, ℕ, Bool, true, false, cond, ◌&&◌, List, [], ◌∷◌, length, refl, ap, arith, lit≤, take, get_or, ◌<◌}
use Rattle.std.specs.Prelude.{count_by, sum_by}
use Rattle.std.proofs.lemmas.List.Sums.{sum_by-cons, sum_by-le-sum_by, sum_by_more, sum_by_more_le}
use denote.Enum.Bare.{sameb}
use Rattle.schema.specs.declared.schema.Version.{Version}
use Rattle.schema.specs.declared.schema.Version.TheVariants.{One, Two, Three, Four}
use Rattle.trace.specs.contracts.row.What.{the_type}
use Rattle.trace.specs.declared.row.What.{What}
use Rattle.trace.specs.declared.row.What.TheVariants as what
use Rattle.trace.specs.declared.row.Row.{Row}
use Rattle.reports.specs.Rows.{has_kind, count_of, losses_of}
use Rattle.reports.specs.Text.{message_kinds}
use Rattle.figures.specs.Figures.{messages_sent, messages_lost}

-- a sum of sums
sums : {X : Type 0} (f g h : X → ℕ) → ((x : X) → f x ≡ g x + h x) → (xs : List X) → sum_by f xs ≡ sum_by g xs + sum_by h xs
sums f g h same [] = refl
sums f g h same (x ∷ xs) = omega (arith, sum_by-cons f x xs, sum_by-cons g x xs, sum_by-cons h x xs, same x, sums f g h same xs)

-- without rows the number of messages is 0
none : (kinds : List What) → sum_by (λ (kind : What). count_of kind []) kinds ≡ 0
none [] = refl
none (kind ∷ kinds) = omega (arith, sum_by-cons (λ (kind : What). count_of kind []) kind kinds, none kinds)

-- what a row records is of one kind of message at most
one_kind : (version : Version) (told : What) → count_by (sameb the_type told) (message_kinds version) ≤ 1
one_kind One what.Join = lit≤ tt
one_kind One _ = lit≤ tt
one_kind Two what.Join = lit≤ tt
one_kind Two _ = lit≤ tt
one_kind Three what.Join = lit≤ tt
one_kind Three _ = lit≤ tt
one_kind Four what.Join = lit≤ tt
one_kind Four _ = lit≤ tt

pub few_sent : (version : Version) (rows : List Row) → messages_sent version rows ≤ length rows
few_sent version [] = omega (arith, none (message_kinds version))
few_sent version (row ∷ rows) =
    omega (
      arith,
      one_kind version row.what,
      few_sent version rows,
      sums (λ kind. count_of kind (row ∷ rows)) (λ kind. cond (sameb the_type row.what kind) 1 0) (λ kind. count_of kind rows) (λ kind. sum_by-cons (λ (r : Row). cond (has_kind kind r) 1 0) row rows) (message_kinds version),
    )

one_lost : (kind lost : Bool) → cond (kind && lost) 1 0 ≤ cond kind 1 0
one_lost true true = lit≤ tt
one_lost true false = lit≤ tt
one_lost false lost = lit≤ tt

-- nor were more lost than were sent
pub few_lost : (version : Version) (rows : List Row) → messages_lost version rows ≤ length rows
few_lost version rows =
    omega (
      arith,
      few_sent version rows,
      sum_by-le-sum_by (λ kind. losses_of kind rows) (λ kind. count_of kind rows) (message_kinds version)
          (λ kind. sum_by-le-sum_by (λ row. cond (has_kind kind row && row.lost) 1 0) (λ row. cond (has_kind kind row) 1 0) rows (λ row. one_lost (has_kind kind row) row.lost)),
    )

-- one kind more is summed
pub one_more : (f : What → ℕ) (kinds : List What) (i : ℕ) (d : What) (sum next : ℕ) → i < length kinds → sum ≡ sum_by f (take i kinds) → next ≡ f (get_or kinds i d)
    → sum + next ≡ sum_by f (take (i + 1) kinds)
one_more f kinds i d sum next lt so_far is = omega (arith, sum_by_more f kinds i d lt, so_far, is)

-- and the sum is no more than that of all kinds
pub still_few : (f : What → ℕ) (kinds all : List What) (i : ℕ) (d : What) (sum next most : ℕ) → i < length kinds → sum ≡ sum_by f (take i kinds) → next ≡ f (get_or kinds i d)
    → kinds ≡ all → sum_by f all ≤ most → sum + next ≤ most
still_few f kinds all i d sum next most lt so_far is same few = omega (arith, sum_by_more_le f kinds i d lt, so_far, is, ap (sum_by f) same, few)
