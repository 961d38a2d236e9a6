-- How the table grows by a line, and why it ends.
use Rattle.std.proofs.Common.{◌≡◌, ℕ, zero, suc, ◌+◌, ◌-◌, ◌≤◌, List, [], ◌∷◌, ◌++◌, Option, Some, refl, sym, ap, subst, ◌∙◌, arith, take, drop, length, map, append_assoc, append-nil, ◌≢◌, Bool, true, false, eqb, true≢false}
use Rattle.std.proofs.lemmas.Bool.{eqb-true, eq-eqb}
use Rattle.std.proofs.lemmas.List.{take_all, take-append-drop, take_more, map-append}
use Rattle.std.proofs.Math.Seq.{take-take}
use Rattle.std.proofs.lemmas.List.Concat.{flat_map-append}
use Rattle.std.proofs.lemmas.List.Elements.{All-drop, All-head, All-push, All-tail, All-take}
use Rattle.std.proofs.lemmas.Option.{slice_get_within, get_or_from_slice_get}
use Rattle.std.proofs.lemmas.Slice.Zip.{all_zipped_more}
use Rattle.std.proofs.Common.{IsErrAnd}
use Rattle.std.specs.Prelude.{slice_get, All, Result, Ok, Err, IfErr}
use Rattle.std.specs.List.{AllZip, flat_map}
use Rattle.std.specs.Io.KnownBytes.{Appends, Keeps}
use Rattle.rayon.proofs.ListFacts.{AllZip-append}
use Rattle.toml.specs.Data.{Data}
use Rattle.base.specs.declared.fault.Fault.{Fault}
use Rattle.base.specs.declared.fault.Fault.TheVariants as fault
use Rattle.scenario.specs.Setup.{Setup, IsSound}
use Rattle.trace.specs.declared.row.Row.{Row}
use Rattle.trace.specs.Sinks.{AppendsBeginning}
use Rattle.trace.proofs.Beginnings.{Appends-then, Appends-kept, beginning-kept, beginning-first, beginning-then, beginning-whole, beginning-of}
use Rattle.member_laws.specs.Runs.{IsRunOf}
use Rattle.run_output.specs.Written.{sink_failures}
use Rattle.figures.specs.Notes.{Note}
use Rattle.sweep_plan.specs.Sweep.{Sweep, run_count}
use Rattle.sweep.specs.Runs.{Planned, Made, IsMadeAs, AreMadeBetween, IsRunAt, noted, runs_of, runs_between, document_of, IsAnswered}
use Rattle.sweep.specs.Table.{columns_of, noted_line, lines_text, Course, HasLines, BeginsLines, HasCause, IsCauseAt, IsMadeOf, IsMadeRun}
use Rattle.sweep.specs.declared.making.MadeRun.{MadeRun}
use Rattle.sweep.specs.Summaries.{HasCome}
use Rattle.sweep.specs.Judged.{IsAccepted, IsAcceptedAt, AreAccepted, AreFirstAccepted}
use Rattle.text_reader.proofs.One.{one_answer}
use Rattle.sweep.proofs.Flat.{runs_counted}
use Rattle.figures.proofs.Handing.{handed}

pub taken_more : {X : Type 0} (xs : List X) (n : ℕ) (x : X) → slice_get xs n ≡ Some x → take (n + 1) xs ≡ take n xs ++ x ∷ []
taken_more xs n x e = take_more xs n x (slice_get_within xs n x e) ∙ ap (λ y. take n xs ++ y ∷ []) (get_or_from_slice_get xs n x x e)

-- the runs between two numbers, one more
past : {X : Type 0} (xs : List X) (from n : ℕ) → from ≤ n → slice_get (drop from xs) (n - from) ≡ slice_get xs n
past xs zero n le = let same : n - zero ≡ n = omega arith in ap (slice_get xs) same
past [] (suc from) n le = refl
past (x ∷ xs) (suc from) zero le = absurd (omega (arith, le))
past (x ∷ xs) (suc from) (suc n) le =
    let less : suc n - suc from ≡ n - from = omega arith in
    ap (slice_get (drop from xs)) less ∙ past xs from n (omega (arith, le))

pub between_more : {X : Type 0} (xs : List X) (from n : ℕ) (x : X) → from ≤ n → slice_get xs n ≡ Some x
    → take (n + 1 - from) (drop from xs) ≡ take (n - from) (drop from xs) ++ x ∷ []
between_more xs from n x le e =
    let more : n + 1 - from ≡ (n - from) + 1 = omega (arith, le) in
    ap (λ k. take k (drop from xs)) more ∙ taken_more (drop from xs) (n - from) x (past xs from n le ∙ e)

pub text_more : (tree : Data) (course : Course) (made : List Made) (m : Made)
    → lines_text tree course made ++ noted_line (columns_of tree) course.key m ≡ lines_text tree course (made ++ m ∷ [])
text_more tree course made m =
    let line : Made → List ℕ = noted_line (columns_of tree) course.key in
    append_assoc course.front (flat_map line made) (line m)
    ∙ ap (λ l. course.front ++ l) (ap (λ l. flat_map line made ++ l) (sym (append-nil (line m))) ∙ sym (flat_map-append line made (m ∷ [])))

pub zipped_long : {X Y : Type 0} (R : X → Y → Type 0) (xs : List X) (ys : List Y) → AllZip R xs ys → length xs ≡ length ys
zipped_long R [] [] all = refl
zipped_long R [] (b ∷ ys) all = absurd all
zipped_long R (a ∷ xs) [] all = absurd all
zipped_long R (a ∷ xs) (b ∷ ys) all = ap suc (zipped_long R xs ys all.1)

module _ (tree : Data) (sweep : Sweep) where
  -- a run that is accepted is refused for want of memory alone
  pub refused_for_memory : (number : ℕ) (p : Planned) (rule : ℕ) → AreAccepted tree sweep → IsRunAt sweep number p
      → (rule ≢ 11 → IsAnswered tree p (Err rule)) → rule ≡ 11
  refused_for_memory number p rule all at broken =
      let runs = runs_of sweep in
      let here : IsAccepted tree p =
      subst (IsAccepted tree) (get_or_from_slice_get runs number p p at) (all number p (slice_get_within runs number p at)) in
      by (λ other. apart here.0 rule (one_answer (document_of tree p) (Ok here.0) (Err rule) here.1 (broken other))) (eqb rule 11) refl
    where
      apart : (s : Setup) (n : ℕ) → ◌≡◌ {A = Result Setup ℕ} (Ok s) (Err n) → ⊥
      apart s n e = cc

      by : (rule ≢ 11 → ⊥) → (b : Bool) → eqb rule 11 ≡ b → rule ≡ 11
      by not_other true e = eqb-true rule 11 e
      by not_other false e = absurd (not_other (λ same. true≢false (sym (eq-eqb rule 11 same) ∙ e)))

  -- one more run was judged
  pub accepted_more : (number : ℕ) → IsAcceptedAt tree sweep number → AreFirstAccepted tree sweep number → AreFirstAccepted tree sweep (number + 1)
  accepted_more number here before =
      subst (All (IsAccepted tree)) (sym (taken_more (runs_of sweep) number here.0 here.1)) (All-push (IsAccepted tree) (take number (runs_of sweep)) here.0 before here.2)

  -- all were
  pub accepted_all : (number : ℕ) → run_count sweep ≤ number → AreFirstAccepted tree sweep number → AreAccepted tree sweep
  accepted_all number le before =
      let long : length (runs_of sweep) ≤ number = omega (arith, le, runs_counted sweep) in
      subst (All (IsAccepted tree)) (take_all number (runs_of sweep) long) before

  pub are_more : (from number : ℕ) (p : Planned) (m : Made) (made : List Made) → from ≤ number → IsRunAt sweep number p → IsMadeAs tree p m
      → AreMadeBetween tree sweep from number made → AreMadeBetween tree sweep from (number + 1) (made ++ m ∷ [])
  are_more from number p m made low at so are =
      subst (λ l. AllZip (IsMadeAs tree) l (made ++ m ∷ [])) (sym (between_more (runs_of sweep) from number p low at))
      (all_zipped_more (IsMadeAs tree) (runs_between sweep from number) made p m are so)

  module _ (course : Course) where
    pub none_between : AreMadeBetween tree sweep course.from course.from []
    none_between =
        let none : 0 ≡ course.from - course.from = omega arith in
        subst (λ n. AllZip (IsMadeAs tree) (take n (drop course.from (runs_of sweep))) []) none tt

    -- what was written is a beginning
    pub have_begun : (held : Option (List ℕ)) (number : ℕ) → number ≤ course.till → HasLines tree sweep course held number → BeginsLines tree sweep course held
    have_begun held number high lines = record {
      number = number;
      made = lines.made;
      low = lines.low;
      high = high;
      are = lines.are;
      written = beginning-whole course.start held (lines_text tree course lines.made) lines.written;
    }

    -- no line yet, and nothing that is gathered
    pub front_come : (held : Option (List ℕ)) (HasGathered : List Note → Type 0) → Appends course.start held course.front → HasGathered []
        → HasCome tree sweep course held HasGathered course.from
    front_come held HasGathered p fresh = record {
      lines = record {
        made = [];
        low = omega arith;
        are = none_between;
        written = subst (Appends course.start held) (sym (append-nil course.front)) p;
      };
      gathered = fresh;
    }

    -- what is held stays as it is
    pub come_kept : (mid held : Option (List ℕ)) (HasGathered : List Note → Type 0) (number : ℕ) → HasCome tree sweep course mid HasGathered number → Keeps mid held
        → HasCome tree sweep course held HasGathered number
    come_kept mid held HasGathered number come kept =
        let lines = come.lines in
        record {
          lines = record {
            made = lines.made;
            low = lines.low;
            are = lines.are;
            written = Appends-kept course.start mid held (lines_text tree course lines.made) lines.written kept;
          };
          gathered = come.gathered;
        }

    -- the same of a beginning
    pub begun_kept : (mid held : Option (List ℕ)) → BeginsLines tree sweep course mid → Keeps mid held → BeginsLines tree sweep course held
    begun_kept mid held lines kept = record {
      number = lines.number;
      made = lines.made;
      low = lines.low;
      high = lines.high;
      are = lines.are;
      written = beginning-kept course.start mid held (lines_text tree course lines.made) lines.written kept;
    }

    pub front_part : (held : Option (List ℕ)) → course.from ≤ course.till → AppendsBeginning course.start held course.front → BeginsLines tree sweep course held
    front_part held ordered p = record {
      number = course.from;
      made = [];
      low = omega arith;
      high = ordered;
      are = none_between;
      written = beginning-first course.start held course.front [] p;
    }

  -- why there is no run of a number is why the sweep ends
  pub cause_at : (number : ℕ) (f : Fault) → IsCauseAt tree sweep number f → HasCause tree sweep f
  cause_at number fault.Memory h = tt
  cause_at number fault.CounterOverflow h =
      record { number = number; planned = h.read.0; there = h.read.1; scenario = h.scenario; accepted = h.read.2; overflow = h.overflow }
  cause_at number fault.Write h = absurd h
  cause_at number fault.ThreadLost h = absurd h

  -- also where it is handed on
  pub cause_handed : {T : Type 0} (number : ℕ) (e : Fault) (r : Result T Fault) → IsErrAnd r (λ f. f ≡ e) → IsCauseAt tree sweep number e → IfErr r (HasCause tree sweep)
  cause_handed number e r gives h = handed r (λ f. f ≡ e) (HasCause tree sweep) gives (λ f same. subst (HasCause tree sweep) (sym same) (cause_at number e h))

  -- and it is no failure of a sink
  pub cause_fails_none : {T : Type 0} (number : ℕ) (e : Fault) (r : Result T Fault) (n : ℕ) → IsErrAnd r (λ f. f ≡ e) → IsCauseAt tree sweep number e
      → n ≡ n + sink_failures r
  cause_fails_none number e (Ok x) n gives h = omega arith
  cause_fails_none {T} number e (Err f) n gives h = subst (λ f. n ≡ n + sink_failures {T = T} (Err f)) (sym gives) (by e h)
    where
      by : (e : Fault) → IsCauseAt tree sweep number e → n ≡ n + sink_failures {T = T} (Err e)
      by fault.Memory h = omega arith
      by fault.CounterOverflow h = omega arith
      by fault.Write h = absurd h
      by fault.ThreadLost h = absurd h

  -- there is no run where memory is refused
  pub no_room : (key : List ℕ) (number : ℕ) (r : Result MadeRun Fault) → IsErrAnd r (λ f. f ≡ fault.Memory) → IsMadeOf tree sweep key number r
  no_room key number (Ok run) gives = absurd gives
  no_room key number (Err f) gives = subst (IsCauseAt tree sweep number) (sym gives) tt

  -- the runs from the first to past the last are all
  between_all : runs_between sweep 0 (run_count sweep) ≡ runs_of sweep
  between_all =
      let whole : run_count sweep - 0 ≡ run_count sweep = omega arith in
      let long : length (runs_of sweep) ≤ run_count sweep = omega (arith, runs_counted sweep) in
      ap (λ n. take n (runs_of sweep)) whole ∙ take_all (run_count sweep) (runs_of sweep) long

  pub all_made : (made : List Made) → AreMadeBetween tree sweep 0 (run_count sweep) made → AllZip (IsMadeAs tree) (runs_of sweep) made
  all_made made are = subst (λ l. AllZip (IsMadeAs tree) l made) between_all are

  pub are_all : (made : List Made) → AllZip (IsMadeAs tree) (runs_of sweep) made → AreMadeBetween tree sweep 0 (run_count sweep) made
  are_all made all = subst (λ l. AllZip (IsMadeAs tree) l made) (sym between_all) all

  module _ (exists : (s : Setup) → IsSound s → (rows : List Row) × IsRunOf s rows) where
    -- each run that is accepted can be made
    pub runs_left : (xs : List Planned) → All (IsAccepted tree) xs → (made : List Made) × AllZip (IsMadeAs tree) xs made
    runs_left [] all = ([], tt)
    runs_left (p ∷ xs) all =
        let here = All-head (IsAccepted tree) p xs all in
        let run = exists here.0 here.2 in
        let rest = runs_left xs (All-tail (IsAccepted tree) p xs all) in
        let m : Made = record { setting = p.setting; scenario = here.0; rows = run.0; tick = here.3.0 } in
        let so : IsMadeAs tree p m = record { same = refl; accepted = here.1; run = run.1; timed = here.3.1 } in
        (m ∷ rest.0, (so, rest.1))

    -- so a beginning of the first lines is one of all lines of a course
    pub begun_lines : (course : Course) (held : Option (List ℕ)) → AreAccepted tree sweep → BeginsLines tree sweep course held
        → (made : List Made) × AreMadeBetween tree sweep course.from course.till made × AppendsBeginning course.start held (lines_text tree course made)
    begun_lines course held all lines =
        let planned = runs_between sweep course.from course.till in
        let count = lines.number - course.from in
        let few : count ≤ course.till - course.from = omega (arith, lines.high) in
        let front : take count planned ≡ runs_between sweep course.from lines.number =
        take-take count (course.till - course.from) (drop course.from (runs_of sweep)) few in
        let accepted = All-take (IsAccepted tree) (course.till - course.from) (drop course.from (runs_of sweep)) (All-drop (IsAccepted tree) course.from (runs_of sweep) all) in
        let left = runs_left (drop count planned) (All-drop (IsAccepted tree) count planned accepted) in
        let line : Made → List ℕ = noted_line (columns_of tree) course.key in
        let text : lines_text tree course lines.made ++ flat_map line left.0 ≡ lines_text tree course (lines.made ++ left.0) =
        append_assoc course.front (flat_map line lines.made) (flat_map line left.0) ∙ ap (λ l. course.front ++ l) (sym (flat_map-append line lines.made left.0)) in (
          lines.made ++ left.0,
          subst (λ l. AllZip (IsMadeAs tree) l (lines.made ++ left.0)) (take-append-drop count planned)
              (AllZip-append (IsMadeAs tree) (take count planned) (drop count planned) lines.made left.0
              (subst (λ l. AllZip (IsMadeAs tree) l lines.made) (sym front) lines.are) left.1),
          beginning-of course.start held _ _ text (beginning-first course.start held (lines_text tree course lines.made) (flat_map line left.0) lines.written),
        )

  module _ (key : List ℕ) (number : ℕ) (run : MadeRun) (is : IsMadeRun tree sweep key number run) (course : Course) (keyed : course.key ≡ key) where
    line_is : run.line.items ≡ noted_line (columns_of tree) course.key is.made
    line_is = is.written ∙ ap (λ k. noted_line (columns_of tree) k is.made) (sym keyed)

    -- its line was written, and it was gathered
    pub line_whole : (mid held : Option (List ℕ)) (Before After : List Note → Type 0) → Appends mid held run.line.items
        → ((made : List Note) → Before made → After (made ++ run.note ∷ []))
        → HasCome tree sweep course mid Before number → HasCome tree sweep course held After (number + 1)
    line_whole mid held Before After p gathers come =
        let lines = come.lines in
        let added : map noted lines.made ++ run.note ∷ [] ≡ map noted (lines.made ++ is.made ∷ []) =
        ap (λ n. map noted lines.made ++ n ∷ []) is.kept ∙ sym (map-append noted lines.made (is.made ∷ [])) in
        record {
          lines = record {
            made = lines.made ++ is.made ∷ [];
            low = omega (arith, lines.low);
            are = are_more course.from number is.planned is.made lines.made lines.low is.there is.is lines.are;
            written = subst (Appends course.start held) (text_more tree course lines.made is.made)
                (Appends-then course.start mid held (lines_text tree course lines.made) (noted_line (columns_of tree) course.key is.made) lines.written (subst (Appends mid held) line_is p));
          };
          gathered = subst After added (gathers (map noted lines.made) come.gathered);
        }

    -- a beginning of its line was written
    pub line_part : (mid held : Option (List ℕ)) → number + 1 ≤ course.till → AppendsBeginning mid held run.line.items
        → HasLines tree sweep course mid number → BeginsLines tree sweep course held
    line_part mid held high p lines = record {
      number = number + 1;
      made = lines.made ++ is.made ∷ [];
      low = omega (arith, lines.low);
      high = high;
      are = are_more course.from number is.planned is.made lines.made lines.low is.there is.is lines.are;
      written = beginning-of course.start held _ _ (text_more tree course lines.made is.made)
          (beginning-then course.start mid held (lines_text tree course lines.made) (noted_line (columns_of tree) course.key is.made) lines.written (beginning-of mid held _ _ line_is p));
    }
