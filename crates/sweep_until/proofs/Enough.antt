-- Runs of a setting that are enough.
use Rattle.std.proofs.Common.{◌≡◌, ◌∙◌, ◌<◌, ◌≤◌, ◌⊎◌, ◌+◌, ℕ, suc, List, [], ◌∷◌, ◌++◌, true, false, true≢false, refl, sym, ap, arith, inl, inr, length, length-append, take, take_at}
use Rattle.std.proofs.Math.Seq.{take-append-le}
use Rattle.figures.specs.Notes.{Note}
use Rattle.sweep_until.specs.Until.{AreEnough, IsWide, is_narrow_of}
use Rattle.sweep_until.proofs.Wide.{up_to}

-- one note more
pub wide_push : (width : ℕ) (runs : List Note) (note : Note) → IsWide width runs → is_narrow_of width runs ≡ false → IsWide width (runs ++ note ∷ [])
wide_push width runs note wide open_yet n less =
    let few : n ≤ length runs = omega (arith, less, length-append runs (note ∷ [])) in
    ap (is_narrow_of width) (take-append-le n runs (note ∷ []) few) ∙ up_to width n runs wide open_yet few

-- some are enough
pub some_enough : (width each : ℕ) (runs : List Note) → 0 < each → AreEnough width each runs → 0 < length runs
some_enough width each [] some enough = by enough.ends
  where
    by : (is_narrow_of width [] ≡ true) ⊎ (0 ≡ each) → 0 < 0
    by (inl narrow) = absurd (true≢false (sym narrow))
    by (inr all) = omega (arith, some, all)
some_enough width each (note ∷ runs) some enough = omega arith

-- what goes on behind runs that are enough is no longer just enough
pub no_longer : (width each : ℕ) (a b more : List Note) → AreEnough width each a → AreEnough width each b → b ≡ a ++ more → more ≡ []
no_longer width each a b [] enough also is = refl
no_longer width each a b (note ∷ more) enough also is = absurd (by enough.ends)
  where
    long : length b ≡ length a + suc (length more)
    long = ap length is ∙ length-append a (note ∷ more)

    by : (is_narrow_of width a ≡ true) ⊎ (length a ≡ each) → ⊥
    by (inl narrow) =
        let front : take (length a) b ≡ a = ap (take (length a)) is ∙ take_at a (note ∷ more) (length a) refl in
        true≢false (sym narrow ∙ ap (is_narrow_of width) (sym front) ∙ also.wide (length a) (omega (arith, long)))
    by (inr all) = omega (arith, all, also.few, long)
