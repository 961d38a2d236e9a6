-- The runs that a sweep asks for are made in one way.
use Rattle.std.proofs.Common.{◌≡◌, ◌∙◌, ◌≤◌, ◌+◌, ◌-◌, ℕ, zero, suc, List, [], ◌∷◌, refl, sym, subst, arith, take, drop, length}
use Rattle.std.specs.Prelude.{Result, Ok, All}
use Rattle.std.specs.List.{AllZip}
use Rattle.std.proofs.lemmas.List.{length-drop, length-take, take-take}
use Rattle.std.proofs.lemmas.List.Elements.{All-drop, All-head, All-tail, All-take}
use Rattle.toml.specs.Data.{Data}
use Rattle.scenario.specs.Setup.{Setup, IsSound}
use Rattle.trace.specs.declared.row.Row.{Row}
use Rattle.member_laws.specs.Runs.{IsRunOf}
use Rattle.sweep_plan.specs.Sweep.{Sweep, run_count}
use Rattle.text_reader.proofs.One.{one_answer}
use Rattle.sweep.specs.Runs.{Planned, Made, IsMadeAs, AreMadeBetween, document_of, runs_between, runs_of}
use Rattle.sweep.specs.Judged.{IsAccepted, AreAccepted}
use Rattle.sweep.proofs.Steps.{zipped_long}
use Rattle.sweep.proofs.Ticks.{one_tick}
use Rattle.sweep.proofs.Flat.{runs_counted}

pub zip_taken : {X Y : Type 0} (R : X → Y → Type 0) (n : ℕ) (xs : List X) (ys : List Y) → AllZip R xs ys → AllZip R (take n xs) (take n ys)
zip_taken R zero xs ys all = tt
zip_taken R (suc n) [] [] all = tt
zip_taken R (suc n) [] (y ∷ ys) all = absurd all
zip_taken R (suc n) (x ∷ xs) [] all = absurd all
zip_taken R (suc n) (x ∷ xs) (y ∷ ys) all = (all.0, zip_taken R n xs ys all.1)

same_ok : (s t : Setup) → ◌≡◌ {A = Result Setup ℕ} (Ok s) (Ok t) → s ≡ t
same_ok s t e = cc

abbrev pub OneRun : Type 0
OneRun = (s : Setup) (first second : List Row) → IsSound s → IsRunOf s first → IsRunOf s second → first ≡ second

module _ (tree : Data) (one : OneRun) where
  same_run : (p : Planned) (a b : Made) → IsAccepted tree p → IsMadeAs tree p a → IsMadeAs tree p b → a ≡ b
  same_run p a b ok x y =
      let settings : a.setting ≡ b.setting = x.same ∙ sym y.same in
      let document = document_of tree p in
      let scenarios : a.scenario ≡ b.scenario = same_ok a.scenario b.scenario (one_answer document (Ok a.scenario) (Ok b.scenario) x.accepted y.accepted) in
      let sound : IsSound a.scenario = subst IsSound (same_ok ok.0 a.scenario (one_answer document (Ok ok.0) (Ok a.scenario) ok.1 x.accepted)) ok.2 in
      let rows : a.rows ≡ b.rows = one a.scenario a.rows b.rows sound x.run (subst (λ s. IsRunOf s b.rows) (sym scenarios) y.run) in
      let ticks : a.tick ≡ b.tick = one_tick tree a.tick b.tick x.timed y.timed in
      (λ i. record { setting = settings i; scenario = scenarios i; rows = rows i; tick = ticks i })

  same_runs : (xs : List Planned) (a b : List Made) → All (IsAccepted tree) xs → AllZip (IsMadeAs tree) xs a → AllZip (IsMadeAs tree) xs b → a ≡ b
  same_runs [] [] [] ok x y = refl
  same_runs [] [] (n ∷ b) ok x y = absurd y
  same_runs [] (m ∷ a) b ok x y = absurd x
  same_runs (p ∷ xs) [] b ok x y = absurd x
  same_runs (p ∷ xs) (m ∷ a) [] ok x y = absurd y
  same_runs (p ∷ xs) (m ∷ a) (n ∷ b) ok x y =
      let here = same_run p m n (All-head (IsAccepted tree) p xs ok) x.0 y.0 in
      let rest = same_runs xs a b (All-tail (IsAccepted tree) p xs ok) x.1 y.1 in
      (λ i. here i ∷ rest i)

  module _ (sweep : Sweep) where
    -- how many there are
    pub made_long : (from number : ℕ) (made : List Made) → from ≤ number → number ≤ run_count sweep → AreMadeBetween tree sweep from number made → from + length made ≡ number
    made_long from number made low high are =
        let all = runs_of sweep in
        omega (arith, zipped_long (IsMadeAs tree) (runs_between sweep from number) made are, length-take (number - from) (drop from all), length-drop from all, runs_counted sweep)

    -- the first of them are the same however many are made
    pub same_first : (from number other n : ℕ) (made more : List Made) → AreAccepted tree sweep → n ≤ number - from → n ≤ other - from
        → AreMadeBetween tree sweep from number made → AreMadeBetween tree sweep from other more → take n made ≡ take n more
    same_first from number other n made more ok few fewer are too =
        let left = drop from (runs_of sweep) in
        let Made_so = IsMadeAs tree in
        let first = subst (λ l. AllZip Made_so l (take n made)) (take-take n (number - from) left few) (zip_taken Made_so n (take (number - from) left) made are) in
        let second = subst (λ l. AllZip Made_so l (take n more)) (take-take n (other - from) left fewer) (zip_taken Made_so n (take (other - from) left) more too) in
        same_runs (take n left) (take n made) (take n more) (All-take (IsAccepted tree) n left (All-drop (IsAccepted tree) from (runs_of sweep) ok)) first second
