-- How the runs of a setting come to be enough.
use Rattle.std.proofs.Common.{◌≡◌, ◌∙◌, ◌<◌, ◌≤◌, ◌+◌, ◌-◌, ℕ, List, ◌++◌, Bool, true, false, Option, inl, refl, sym, ap, arith, take, length, length-append, ltb, map}
use Rattle.std.proofs.Math.Seq.{take-append-add, take-append-le}
use Rattle.std.proofs.lemmas.Bool.{ltb-true, ltb-false}
use Rattle.std.proofs.lemmas.List.{take-map, take_all, length-map}
use Rattle.toml.specs.Data.{Data}
use Rattle.sweep_plan.specs.Sweep.{Sweep, run_count}
use Rattle.figures.specs.Notes.{Note}
use Rattle.sweep.specs.Runs.{Made, AreMadeBetween, noted}
use Rattle.sweep.specs.Judged.{AreAccepted}
use Rattle.sweep.specs.Summaries.{HasCome}
use Rattle.sweep.specs.Table.{BeginsLines, Course}
use Rattle.trace.proofs.Beginnings.{beginning-whole}
use Rattle.sweep_until.specs.Kept.{AreKept}
use Rattle.sweep_until.specs.Until.{BeginsWide, GoesOn, HasEnded, HasGone, IsWide, is_narrow_of}
use Rattle.sweep_until.specs.declared.runs.SettingRuns.{SettingRuns}
use Rattle.sweep_until.proofs.Same.{OneRun, made_long, same_first}

-- no fewer of some are narrow, nor are they: so are no fewer of their first
pub up_to : (width n : ℕ) (runs : List Note) → IsWide width runs → is_narrow_of width runs ≡ false → n ≤ length runs → is_narrow_of width (take n runs) ≡ false
up_to width n runs wide open_yet few = by (ltb n (length runs)) refl
  where
    by : (b : Bool) → ltb n (length runs) ≡ b → is_narrow_of width (take n runs) ≡ false
    by true less = wide n (ltb-true n (length runs) less)
    by false no_less =
        let all = ltb-false n (length runs) no_less in
        ap (is_narrow_of width) (take_all n runs (omega (arith, all))) ∙ open_yet

-- the first of two lists that go on behind the same are one where the first behind it are
pub take_both : (n : ℕ) (before made more : List Note) → take (n - length before) made ≡ take (n - length before) more → take n (before ++ made) ≡ take n (before ++ more)
take_both n before made more same = by (ltb n (length before)) refl
  where
    by : (b : Bool) → ltb n (length before) ≡ b → take n (before ++ made) ≡ take n (before ++ more)
    by true less =
        let few : n ≤ length before = (let low = ltb-true n (length before) less in omega (arith, low)) in
        take-append-le n before made few ∙ sym (take-append-le n before more few)
    by false no_less =
        let sum : n ≡ length before + (n - length before) = (let high = ltb-false n (length before) no_less in omega (arith, high)) in
        ap (λ k. take k (before ++ made)) sum ∙ take-append-add before made (n - length before) ∙ ap (λ l. before ++ l) same
        ∙ sym (take-append-add before more (n - length before)) ∙ ap (λ k. take k (before ++ more)) (sym sum)

-- the course of the same lines that ends elsewhere
abbrev pub up_till : Course → ℕ → Course
up_till course till = record { key = course.key; start = course.start; front = course.front; from = course.from; till = till }

pub ended_before : (tree : Data) (sweep : Sweep) (course : Course) (held : Option (List ℕ)) (Has : List Note → Type 0) (number till : ℕ)
    → HasCome tree sweep course held Has number → HasCome tree sweep (up_till course till) held Has number
ended_before tree sweep course held Has number till come = record {
  lines = record { made = come.lines.made; low = come.lines.low; are = come.lines.are; written = come.lines.written };
  gathered = come.gathered;
}

module _ (tree : Data) (sweep : Sweep) (one : OneRun) (ok : AreAccepted tree sweep) (width : ℕ) (before : List Note) where
  -- with one run more, or fewer
  pub wide_next : (from number other : ℕ) (made more : List Made) → from ≤ number → number ≤ run_count sweep → from ≤ other → other ≤ run_count sweep → other ≤ number + 1
      → AreMadeBetween tree sweep from number made → AreMadeBetween tree sweep from other more
      → IsWide width (before ++ map noted made) → is_narrow_of width (before ++ map noted made) ≡ false → IsWide width (before ++ map noted more)
  wide_next from number other made more low high low_too high_too near are too wide open_yet n less =
      let long = made_long tree one sweep from number made low high are in
      let long_too = made_long tree one sweep from other more low_too high_too too in
      let size = length-map made noted in
      let size_too = length-map more noted in
      let both = length-append before (map noted made) in
      let both_too = length-append before (map noted more) in
      let k = n - length before in
      let same : take k more ≡ take k made = sym (same_first tree one sweep from number other k made more ok (omega arith) (omega arith) are too) in
      let first : take k (map noted more) ≡ take k (map noted made) = take-map noted k more ∙ ap (map noted) same ∙ sym (take-map noted k made) in
      ap (is_narrow_of width) (take_both n before (map noted more) (map noted made) first) ∙ up_to width n (before ++ map noted made) wide open_yet (omega arith)

  -- one line more was written
  pub goes_next : (course : Course) (mid held : Option (List ℕ)) (old new : SettingRuns) (number : ℕ) → number < run_count sweep → GoesOn tree sweep width before course mid old number
      → HasCome tree sweep course held (λ notes. AreKept (before ++ notes) new) (number + 1) → HasGone tree sweep width before course held new (number + 1)
  goes_next course mid held old new number high goes come =
      let gone = goes.gone in
      let low = gone.come.lines.low in
      record {
        come = come;
        wide = wide_next course.from number (number + 1) gone.come.lines.made come.lines.made low (omega (arith, high)) (omega (arith, low)) (omega (arith, high)) (omega arith)
            gone.come.lines.are come.lines.are gone.wide goes.open_yet;
      }

  -- a beginning of it was
  pub begins_next : (course : Course) (mid held : Option (List ℕ)) (old : SettingRuns) (number : ℕ) → number < run_count sweep → number + 1 ≤ course.till
      → GoesOn tree sweep width before course mid old number
      → BeginsLines tree sweep (up_till course (number + 1)) held
      → BeginsWide tree sweep width before course held
  begins_next course mid held old number high till goes begun =
      let gone = goes.gone in
      let low = gone.come.lines.low in
      let below = begun.high in
      record {
        begun = record { number = begun.number; made = begun.made; low = begun.low; high = omega (arith, below, till); are = begun.are; written = begun.written };
        wide = wide_next course.from number begun.number gone.come.lines.made begun.made low (omega (arith, high)) begun.low (omega (arith, high, below)) below
            gone.come.lines.are begun.are gone.wide goes.open_yet;
      }

module _ (tree : Data) (sweep : Sweep) (width : ℕ) (before : List Note) where
  module _ (course : Course) (held : Option (List ℕ)) (kept : SettingRuns) (number : ℕ) (answer : Bool) (answers : (runs : List Note) → AreKept runs kept → answer ≡ is_narrow_of width runs) where
    pub goes_on : answer ≡ false → HasGone tree sweep width before course held kept number → GoesOn tree sweep width before course held kept number
    goes_on is gone = record { gone = gone; open_yet = sym (answers _ gone.come.gathered) ∙ is }

    pub ends_here : (first past : ℕ) → first < number → number ≤ past → answer ≡ true → HasGone tree sweep width before course held kept number
        → HasEnded tree sweep width before course held kept first past
    ends_here first past more high is gone = record { next = number; more = more; high = high; gone = gone; ends = inl (sym (answers _ gone.come.gathered) ∙ is) }

  -- no line more
  pub begins_so : (course : Course) (held : Option (List ℕ)) (kept : SettingRuns) (number : ℕ) → number ≤ course.till → HasGone tree sweep width before course held kept number
      → BeginsWide tree sweep width before course held
  begins_so course held kept number till gone =
      let lines = gone.come.lines in
      record {
        begun = record { number = number; made = lines.made; low = lines.low; high = till; are = lines.are; written = beginning-whole course.start held _ lines.written };
        wide = gone.wide;
      }
