-- One run more in a setting.
use Rattle.std.proofs.Common.{◌≡◌, ◌+◌, ◌*◌, ◌<◌, ◌==◌, ℕ, Bool, true, false, cond, not, List, [], ◌∷◌, ◌++◌, length, get_or, take, refl, sym, ap, subst, ◌∙◌, arith, append-nil, append_assoc, length-append}
use Rattle.std.specs.Prelude.{Option, Some, None, sum_by, if◌then◌else◌}
use Rattle.std.specs.Option.{option_to_list}
use Rattle.std.specs.List.{filter_map, cons_option}
use Rattle.std.proofs.lemmas.List.{take_more}
use Rattle.std.proofs.lemmas.List.Elements.{filter_map-append}
use Rattle.std.proofs.lemmas.List.Sums.{sum_by_push}
use Rattle.std.proofs.lemmas.Grind.{flat_map-append}
use Rattle.incident_figures.specs.declared.run.RunCounts.{RunCounts}
use Rattle.incident_figures.specs.Settings.{AreIncidentsOf}
use Rattle.figures.specs.declared.setting.SettingFigures.{SettingFigures}
use Rattle.figures.specs.declared.crashes.CrashTimes.{CrashTimes}
use Rattle.figures.specs.Notes.{Note}
use Rattle.figures.specs.Settings.{crashes_in, suspected_in, confirmed_in, last_in, incidents_in, false_deaths}
use Rattle.figures.specs.Kept.{AreFiguresOf}

-- ---- times

one_time : (time : Option ℕ) (h : CrashTimes → Option ℕ) (crash : CrashTimes) → time ≡ h crash → filter_map h (crash ∷ []) ≡ option_to_list time
one_time None h crash is = ap (λ o. cons_option o []) (sym is)
one_time (Some n) h crash is = ap (λ o. cons_option o []) (sym is)

-- the time of one crash more
pub time_more : (h : CrashTimes → Option ℕ) (crashes : List CrashTimes) (i : ℕ) (d : CrashTimes) (before now after : List ℕ) → i < length crashes
    → now ≡ before ++ filter_map h (take i crashes) → after ≡ now ++ option_to_list (h (get_or crashes i d)) → after ≡ before ++ filter_map h (take (i + 1) crashes)
time_more h crashes i d before now after lt so_far is =
    is ∙ ap (λ l. l ++ option_to_list (h (get_or crashes i d))) so_far
    ∙ append_assoc before (filter_map h (take i crashes)) (option_to_list (h (get_or crashes i d)))
    ∙ ap (λ l. before ++ (filter_map h (take i crashes) ++ l)) (sym (one_time (h (get_or crashes i d)) h (get_or crashes i d) refl))
    ∙ ap (λ l. before ++ l) (sym (filter_map-append h (take i crashes) (get_or crashes i d ∷ [])))
    ∙ ap (λ cs. before ++ filter_map h cs) (sym (take_more crashes i d lt))

-- ---- a run

crashes_push : (runs : List Note) (run : Note) → crashes_in (runs ++ run ∷ []) ≡ crashes_in runs ++ run.crashes
crashes_push runs run =
    flat_map-append (λ (those : Note). those.crashes) runs (run ∷ []) ∙ ap (λ l. crashes_in runs ++ l) (append-nil (run.crashes))

times_push : (h : CrashTimes → Option ℕ) (runs : List Note) (run : Note) (old new : List ℕ) → old ≡ filter_map h (crashes_in runs) → new ≡ old ++ filter_map h (run.crashes)
    → new ≡ filter_map h (crashes_in (runs ++ run ∷ []))
times_push h runs run old new were are =
    are ∙ ap (λ l. l ++ filter_map h (run.crashes)) were ∙ sym (filter_map-append h (crashes_in runs) (run.crashes)) ∙ ap (filter_map h) (sym (crashes_push runs run))

sum_push : (f : Note → ℕ) (runs : List Note) (run : Note) (old new this : ℕ) → old ≡ sum_by f runs → new ≡ old + this → this ≡ f run → new ≡ sum_by f (runs ++ run ∷ [])
sum_push f runs run old new this was is same = omega (arith, was, is, same, sum_by_push f runs run)

one_count : (o : Option RunCounts) → cons_option o [] ≡ option_to_list o
one_count None = refl
one_count (Some c) = refl

incidents_push : (runs : List Note) (run : Note) → incidents_in (runs ++ run ∷ []) ≡ incidents_in runs ++ option_to_list run.incidents
incidents_push runs run = filter_map-append (λ (those : Note). those.incidents) runs (run ∷ []) ∙ ap (λ l. incidents_in runs ++ l) (one_count run.incidents)

one_or_none : (n : ℕ) → ◌≡◌ {A = ℕ} (if n == 0 then 0 else 1) (cond (not (n == 0)) 1 0)
one_or_none n = settings (n == 0)
  where
    settings : (b : Bool) → ◌≡◌ {A = ℕ} (if b then 0 else 1) (cond (not b) 1 0)
    settings true = refl
    settings false = refl

-- what is kept of a setting, with one run more
pub one_run : (old new : SettingFigures) (this : Note) (runs : List Note) → AreFiguresOf old runs
    → new.suspected.items ≡ old.suspected.items ++ filter_map suspected_in this.crashes
    → new.confirmed.items ≡ old.confirmed.items ++ filter_map confirmed_in this.crashes
    → new.last.items ≡ old.last.items ++ filter_map last_in this.crashes
    → new.runs ≡ old.runs + 1 → new.crashes ≡ old.crashes + length this.crashes → new.false_suspect ≡ old.false_suspect + this.false_suspect
    → new.thrown_out ≡ old.thrown_out + this.thrown_out → new.revived ≡ old.revived + this.revived
    → new.runs_with ≡ old.runs_with + (if this.thrown_out == 0 then 0 else 1) → new.deaths ≡ old.deaths + false_deaths this
    → new.squares ≡ old.squares + false_deaths this * false_deaths this → new.sent ≡ old.sent + this.sent
    → new.member_ticks ≡ old.member_ticks + this.member_ticks
    → ((counts : List RunCounts) → AreIncidentsOf old.incidents counts → AreIncidentsOf new.incidents (counts ++ option_to_list this.incidents)) → AreFiguresOf new (runs ++ this ∷ [])
one_run old new this runs were suspected confirmed last counted crashed falsely thrown back with_thrown dead squared sent lasting incidents =
    record {
      all = omega (arith, counted, were.all, length-append runs (this ∷ []));
      crashed = omega (arith, crashed, were.crashed, ap length (crashes_push runs this), length-append (crashes_in runs) this.crashes);
      suspicions = times_push suspected_in runs this _ _ were.suspicions suspected;
      confirmations = times_push confirmed_in runs this _ _ were.confirmations confirmed;
      lasts = times_push last_in runs this _ _ were.lasts last;
      false_claims = sum_push (λ those. those.false_suspect) runs this _ _ _ were.false_claims falsely refl;
      thrown = sum_push (λ those. those.thrown_out) runs this _ _ _ were.thrown thrown refl;
      returned = sum_push (λ those. those.revived) runs this _ _ _ were.returned back refl;
      with_thrown = sum_push (λ those. cond (not (those.thrown_out == 0)) 1 0) runs this _ _ _ were.with_thrown with_thrown (one_or_none this.thrown_out);
      deaths = sum_push false_deaths runs this _ _ _ were.deaths dead refl;
      squares = sum_push (λ those. false_deaths those * false_deaths those) runs this _ _ _ were.squares squared refl;
      sendings = sum_push (λ those. those.sent) runs this _ _ _ were.sendings sent refl;
      lasting = sum_push (λ those. those.member_ticks) runs this _ _ _ were.lasting lasting refl;
      with_incidents = subst (AreIncidentsOf new.incidents) (sym (incidents_push runs this)) (incidents (incidents_in runs) were.with_incidents);
    }
