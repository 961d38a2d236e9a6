-- What is promised of choices at their end.
use Rattle.std.proofs.Common.{◌≡◌, ◌↔◌, ℕ, ◌+◌, ◌<◌, ◌≤◌, List, length, Option, Some, None, IfSome, ap, ◌∙◌, sym, subst, refl, arith}
use Rattle.std.specs.Option.{is_some, IfNone}
use Rattle.std.specs.List.Sorted.{IsPermutation, IsSorted}
use Rattle.std.specs.FinMap.{empty, contains_key, get-empty}
use Rattle.std.specs.Cmp.{IsTotalOrder}
use Rattle.std.specs.declared.cmp.Ordering.{Ordering}
use Rattle.std.specs.declared.cmp.Ordering.TheVariants.{Less}
use Rattle.std.proofs.lemmas.Bool.{false≢true}
use Rattle.std.proofs.lemmas.List.Sorted.{IsPermutation-refl, IsPermutation-trans}
use Rattle.base.specs.declared.key.Key.{Key}
use Rattle.base.specs.Order.{key_cmp, moments-from_not_before}
use Rattle.base.specs.World.{World}
use Rattle.base.specs.Rising.{IsPlaceBefore}
use Rattle.scenario.specs.Setup.{Setup, IsSound, member_count, link_between}
use Rattle.links.specs.Least.{IsDelayOfAPair, IsNoGreater}
use Rattle.trace.specs.declared.row.Row.{Row}
use Rattle.member.specs.Places.{place_of}
use Rattle.member_laws.specs.Runs.{Cluster, IsRunOf}
use Rattle.worker_queue.specs.Queue.{IsLeastKey}
use Rattle.windows.specs.declared.choices.Played.{Played}
use Rattle.windows.specs.Schedule.{rows_by}
use Rattle.windows.specs.Cluster.{IsLeastDelay, IsRowOrder, whose}
use Rattle.windows.specs.Play.{IsPlayOf, IsLeastLeft, IsBeginning}
use Rattle.windows.specs.Choosing.{HasPlayed}
use Rattle.windows.proofs.Playing.{rows_to_the_end, rows_of_each}

module _ {S C : Type 0} (end : ℕ) (w : World S C) where
  -- the least that pends, where it is no later than the end
  pub least_left : (k : Key) → IsLeastKey w.pending k → k.at ≤ end → IsLeastLeft end w (Some k.at)
  least_left k is in_time = (in_time, (k, is.here, refl), λ q here. moments-from_not_before q k (is.least q here))

  pub none_left_up_to : (k : Key) → IsLeastKey w.pending k → end < k.at → IsLeastLeft end w None
  none_left_up_to k is late q here = let low = moments-from_not_before q k (is.least q here) in omega arith

  pub none_left_at_all : w.pending ≡ empty → IsLeastLeft end w None
  none_left_at_all none q here = absurd (false≢true (sym (ap (λ p. contains_key p q) none ∙ ap is_some (get-empty key_cmp q)) ∙ here))

-- the choices have led there
pub play_of : (s : Setup) (d : Option ℕ) (choices : List ℕ) (handled : ℕ) (rows : List Row) (w : Cluster) (played : Played) → IsLeastDelay s d → HasPlayed s d choices handled rows w
    → played.rows.items ≡ rows → played.handled ≡ handled → handled + played.skipped ≡ length choices → IsLeastLeft s.end w played.left → IsPlayOf s choices played
play_of s d choices handled rows w played least so_far same counted skipped left = record {
  least_delay = d;
  least = least;
  keys = so_far.keys;
  made = rows;
  world = w;
  plays = so_far.plays;
  rows = subst (IsPermutation rows) (sym same) (IsPermutation-refl rows);
  handled = counted ∙ so_far.counted;
  skipped = ap (λ n. n + played.skipped) counted ∙ skipped;
  left = left;
}

-- and do so with the rows in another order
pub play_sorted : (s : Setup) (choices : List ℕ) (played after : Played) → IsPlayOf s choices played → IsPermutation played.rows.items after.rows.items → after.handled ≡ played.handled
    → after.skipped ≡ played.skipped → after.left ≡ played.left → IsPlayOf s choices after
play_sorted s choices played after is same handled skipped left = record {
  least_delay = is.least_delay;
  least = is.least;
  keys = is.keys;
  made = is.made;
  world = is.world;
  plays = is.plays;
  rows = IsPermutation-trans is.made played.rows.items after.rows.items is.rows same;
  handled = handled ∙ is.handled;
  skipped = (λ i. handled i + skipped i) ∙ is.skipped;
  left = subst (IsLeastLeft s.end is.world) (sym left) is.left;
}

-- an order that is total and by places first
pub ordered_by : {cmp : Row → Row → Ordering} → IsTotalOrder cmp → ((a b : Row) → IsPlaceBefore (place_of a) (place_of b) → cmp a b ≡ Less) → IsRowOrder cmp
ordered_by total agrees = record { total = total; agrees = agrees }

module _ (s : Setup) (sound : IsSound s) (choices : List ℕ) (played : Played) (is : IsPlayOf s choices played) (cmp : Row → Row → Ordering) (order : IsRowOrder cmp) (up : IsSorted cmp played.rows.items) where
  pub each_member : (run : List Row) → IsRunOf s run → (m : ℕ) → IsBeginning (rows_by whose m played.rows.items) (rows_by whose m run)
  each_member = rows_of_each s is.least_delay choices is.keys is.made is.world sound is.least is.plays cmp order played.rows.items is.rows up

  whole_if : (left : Option ℕ) → IsLeastLeft s.end is.world left → IfNone left (IsRunOf s played.rows.items)
  whole_if None over = rows_to_the_end s is.least_delay choices is.keys is.made is.world sound is.least is.plays cmp order played.rows.items is.rows up over
  whole_if (Some at) least = tt

  pub whole_run : IfNone played.left (IsRunOf s played.rows.items)
  whole_run = whole_if played.left is.left

-- ---- the least delay

is_least : (s : Setup) (d : Option ℕ) → IfSome d (IsDelayOfAPair (λ i j. (link_between s i j).delay) (member_count s)) → IfSome d (IsNoGreater (λ i j. (link_between s i j).delay) (member_count s))
    → (d ≡ None → member_count s ≡ 1) → IsLeastDelay s d
is_least s None reached least alone = alone refl
is_least s (Some d) reached least alone = (reached, least)

-- what follows from the links for it
pub least_of_links : (s : Setup) (d : Option ℕ) → IfSome d (IsDelayOfAPair (λ i j. (link_between s i j).delay) (member_count s))
    → IfSome d (IsNoGreater (λ i j. (link_between s i j).delay) (member_count s)) → (d ≡ None ↔ member_count s ≡ 1) → IsLeastDelay s d
least_of_links s d reached least alone = is_least s d reached least alone.0
