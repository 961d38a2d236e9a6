-- The course of a drive is a schedule of safe steps of the machine whose steps are its answers.
use Rattle.std.proofs.Common.{◌≡◌, ◌≢◌, inl, inr, ℕ, ◌≤◌, Bool, true, false, List, [], ◌∷◌, ◌++◌, length, Option, Some, ap, ◌∙◌, sym, subst, refl, append-nil, append_assoc, length-append, arith}
use Rattle.std.specs.List.{AllByRecursion}
use Rattle.std.specs.FinMap.{get}
use Rattle.base.specs.declared.key.Key.{Key}
use Rattle.base.specs.Rising.{IsRising}
use Rattle.base.specs.World.{Machine, World, settled, rows_of, outcome}
use Rattle.base.proofs.Rising.{all_append, all_weaker, rising_append}
use Rattle.scenario.specs.Setup.{Setup, IsSound}
use Rattle.windows.specs.Cluster.{IsLeastDelay}
use Rattle.windows.specs.Safe.{IsSafe}
use Rattle.windows.specs.Schedule.{TestedStep, Schedule}
use Rattle.drive_events.specs.declared.content.Content.{Content}
use Rattle.drive_answers.specs.declared.action.Action.{Action}
use Rattle.drive_process.specs.Answers.{AreSoundAnswers}
use Rattle.drive_process.specs.Driven.{Answers, driven, opening}
use Rattle.drive_process.specs.Process.{Process}
use Rattle.drive_process.proofs.Fair.{driven_later}
use Rattle.drive_world.specs.declared.fate.Fate.{Fate}
use Rattle.drive_world.specs.declared.fate.Fate.TheVariants.{Untold, Told, Asked}
use Rattle.drive_world.specs.Telling.{fate_of, IsNext}
use Rattle.drive_world.specs.Courses.{Course, Move, IsCourse, begins, goes_on, Takes, ask, pass, take, move_by, with_move, outcome_by}
use Rattle.drive_world.specs.Drives.{Agree}
use Rattle.drive_world.proofs.Kept.{safe_kept}
use Rattle.drive_world.proofs.People.{IsForMembers, keeps_far, opening_people}
use Rattle.drive_world.proofs.Unasked.{passed, answered}

-- ---- schedules

-- a schedule goes on by one step
schedule_more : {S C R : Type 0} (step : Machine S C R) (Test : World S C → Key → Type 0) (ks : List Key) (w v u : World S C) (rows made : List R) (k : Key)
    → Schedule step Test w ks rows v → TestedStep step Test v k u made → Schedule step Test w (ks ++ k ∷ []) (rows ++ made) u
schedule_more step Test [] w v u rows made k run next =
    (u, made, [], subst (λ m. TestedStep step Test m k u made) run.0 next, (refl, refl), ap (λ l. l ++ made) run.1 ∙ sym (append-nil made))
schedule_more step Test (l ∷ ls) w v u rows made k run next =
    (run.0, run.1, run.2 ++ made, run.3, schedule_more step Test ls run.0 v u run.2 made k run.4 next, ap (λ l. l ++ made) run.5 ∙ append_assoc run.1 run.2 made)

-- ---- answers that agree

-- answers that agree with a course agree with its beginning
agree_front : (answers : Answers) (keys more : List Key) (taken later : List (List ℕ × List Action)) → length taken ≤ length keys
    → Agree answers (keys ++ more) (taken ++ later) → Agree answers keys taken
agree_front answers keys more [] later few agree = tt
agree_front answers [] more (t ∷ taken) later few agree = absurd (omega (arith, few))
agree_front answers (k ∷ keys) more (t ∷ taken) later few agree = (agree.0, agree_front answers keys more taken later (omega (arith, few)) agree.1)

-- the answer that is taken behind those before is that to the key behind theirs
agree_next : (answers : Answers) (done : List Key) (key : Key) (others : List Key) (taken : List (List ℕ × List Action)) (line : List ℕ) (actions : List Action)
    → length done ≡ length taken → Agree answers (done ++ key ∷ others) (taken ++ (line, actions) ∷ []) → answers key ≡ actions
agree_next answers [] key others [] line actions many agree = agree.0
agree_next answers [] key others (t ∷ taken) line actions many agree = absurd (omega (arith, many))
agree_next answers (k ∷ done) key others [] line actions many agree = absurd (omega (arith, many))
agree_next answers (k ∷ done) key others (t ∷ taken) line actions many agree = agree_next answers done key others taken line actions (omega (arith, many)) agree.1

-- ---- what is asked is what was answered, and then what waits

pub record IsSplit (c : Course) : Type 0 where
  pub done : List Key
  pub split : c.asked ≡ done ++ c.last.waiting
  pub as_many : length done ≡ length c.taken

few : (c : Course) → IsSplit c → length c.taken ≤ length c.asked
few c is = let a = ap length is.split in let b = length-append is.done c.last.waiting in let d = is.as_many in omega arith

module _ (s : Setup) (c : Course) (is : IsSplit c) where
  split_ask : (k : Key) (content : Content) → IsSplit (with_move c (ask s c.last k content))
  split_ask k content = record {
    done = is.done;
    split = ap (λ l. l ++ k ∷ []) is.split ∙ append_assoc is.done c.last.waiting (k ∷ []);
    as_many = is.as_many ∙ ap length (sym (append-nil c.taken));
  }

  split_pass : (k : Key) (content : Content) (tells : Bool) → IsSplit (with_move c (pass s c.last k content tells))
  split_pass k content tells = record { done = is.done; split = append-nil c.asked ∙ is.split; as_many = is.as_many ∙ ap length (sym (append-nil c.taken)) }

  split_take : (k : Key) (content : Content) (others : List Key) (line : List ℕ) (actions : List Action) → c.last.waiting ≡ k ∷ others
      → IsSplit (with_move c (take s c.last k content others line actions))
  split_take k content others line actions first = record {
    done = is.done ++ k ∷ [];
    split = append-nil c.asked ∙ is.split ∙ ap (λ l. is.done ++ l) first ∙ sym (append_assoc is.done (k ∷ []) others);
    as_many =
        let a = length-append is.done (k ∷ []) in
        let b = length-append c.taken ((line, actions) ∷ []) in
        let d = is.as_many in omega arith;
  }

  split_by : (k : Key) (content : Content) (fate : Fate) → IsSplit (with_move c (move_by fate s c.last k content))
  split_by k content Untold = split_pass k content false
  split_by k content Told = split_pass k content true
  split_by k content Asked = split_ask k content

split_course : (s : Setup) (least_delay : Option ℕ) (c : Course) → IsCourse s least_delay c → IsSplit c
split_course s d c begins = record { done = []; split = refl; as_many = refl }
split_course s d c (goes_on before m is (inl tells)) =
    subst (λ x. IsSplit (with_move before x)) (sym tells.move)
    (split_by s before (split_course s d before is) tells.key tells.content (fate_of before.last.world tells.key tells.content))
split_course s d c (goes_on before m is (inr takes)) =
    subst (λ x. IsSplit (with_move before x)) (sym takes.move)
    (split_take s before (split_course s d before is) takes.key takes.content takes.others takes.line takes.actions takes.first)

-- ---- what holds wherever a course has come, if the answers are those that it took

pub record IsOn (s : Setup) (least_delay : Option ℕ) (answers : Answers) (c : Course) : Type 0 where
  pub schedule : Schedule (driven s answers) (IsSafe s.end least_delay) (opening s) c.over c.rows c.last.world
  -- what waits is safe, and of different members
  pub safe : AllByRecursion (IsSafe s.end least_delay c.last.world) c.last.waiting
  pub apart : IsRising (λ a b. a.to ≢ b.to) c.last.waiting
  pub people : IsForMembers s c.last.world

module _ (s : Setup) (sound : IsSound s) (least_delay : Option ℕ) (least : IsLeastDelay s least_delay) (answers : Answers) (are : AreSoundAnswers s answers) where
  all_kept : (w : World Process Content) (k : Key) (content : Content) (waiting : List Key) → IsSafe s.end least_delay w k → IsForMembers s w → get w.pending k ≡ Some content
      → AllByRecursion (IsSafe s.end least_delay w) waiting → AllByRecursion (λ q. q.to ≢ k.to) waiting
      → AllByRecursion (IsSafe s.end least_delay (settled w k (outcome (driven s answers) w k content))) waiting
  all_kept w k content [] safe people here all free = tt
  all_kept w k content (q ∷ waiting) safe people here all free = (
    safe_kept (driven s answers) (driven_later s sound answers are) s.end least_delay (IsForMembers s) (keeps_far s sound answers are least_delay least) w q k content all.0 safe people here (λ same. free.0 (sym same)),
    all_kept w k content waiting safe people here all.1 free.1,
  )

  module _ (c : Course) (on : IsOn s least_delay answers c) where
    on_ask : (k : Key) (content : Content) → IsNext s least_delay c.last k → IsOn s least_delay answers (with_move c (ask s c.last k content))
    on_ask k content next = record {
      schedule =
          subst (λ ks. Schedule (driven s answers) (IsSafe s.end least_delay) (opening s) ks (c.rows ++ []) c.last.world) (sym (append-nil c.over))
          (subst (λ rows. Schedule (driven s answers) (IsSafe s.end least_delay) (opening s) c.over rows c.last.world) (sym (append-nil c.rows)) on.schedule);
      safe = all_append (IsSafe s.end least_delay c.last.world) c.last.waiting (k ∷ []) on.safe (next.may.safe, tt);
      apart = rising_append (λ a b. a.to ≢ b.to) c.last.waiting (k ∷ []) on.apart (tt, tt)
          (all_weaker (λ q. q.to ≢ k.to) (λ q. AllByRecursion (λ b. q.to ≢ b.to) (k ∷ [])) (λ q other. (other, tt)) c.last.waiting next.may.free);
      people = on.people;
    }

    -- an event that is safe is over, by what the machine makes of it
    on_over : (k : Key) (content : Content) (others : List Key) (made : _) → IsSafe s.end least_delay c.last.world k → get c.last.world.pending k ≡ Some content
        → made ≡ outcome (driven s answers) c.last.world k content
        → AllByRecursion (IsSafe s.end least_delay c.last.world) others → AllByRecursion (λ q. q.to ≢ k.to) others → IsRising (λ a b. a.to ≢ b.to) others
        → (m : Move) → m.after.world ≡ settled c.last.world k made → m.after.waiting ≡ others → m.over ≡ k ∷ [] → m.rows ≡ rows_of made
        → IsOn s least_delay answers (with_move c m)
    on_over k content others made safe here is all free apart m world waiting over rows = record {
      schedule =
          subst (λ ks. Schedule (driven s answers) (IsSafe s.end least_delay) (opening s) (c.over ++ ks) (c.rows ++ m.rows) m.after.world) (sym over)
          (schedule_more (driven s answers) (IsSafe s.end least_delay) c.over (opening s) c.last.world m.after.world c.rows m.rows k on.schedule (record {
            content = content;
            here = here;
            passes = safe;
            world = world ∙ ap (settled c.last.world k) is;
            made = rows ∙ ap rows_of is;
          }));
      safe =
          subst (λ ks. AllByRecursion (IsSafe s.end least_delay m.after.world) ks) (sym waiting)
          (subst (λ w. AllByRecursion (IsSafe s.end least_delay w) others) (sym (world ∙ ap (settled c.last.world k) is))
          (all_kept c.last.world k content others safe on.people here all free));
      apart = subst (IsRising (λ a b. a.to ≢ b.to)) (sym waiting) apart;
      people = subst (IsForMembers s) (sym (world ∙ ap (settled c.last.world k) is)) ((keeps_far s sound answers are least_delay least).stays c.last.world k content on.people here safe.in_time);
    }

    on_pass : (k : Key) (content : Content) (tells : Bool) → IsNext s least_delay c.last k → get c.last.world.pending k ≡ Some content → fate_of c.last.world k content ≢ Asked
        → IsOn s least_delay answers (with_move c (pass s c.last k content tells))
    on_pass k content tells next here other =
        on_over k content c.last.waiting (outcome_by s [] c.last.world k content) next.may.safe here (passed s answers k content c.last.world other) on.safe next.may.free on.apart
        (pass s c.last k content tells) refl refl refl refl

    on_take : (k : Key) (content : Content) (others : List Key) (line : List ℕ) (actions : List Action) → c.last.waiting ≡ k ∷ others → get c.last.world.pending k ≡ Some content → answers k ≡ actions
        → IsOn s least_delay answers (with_move c (take s c.last k content others line actions))
    on_take k content others line actions first here agrees =
        let all : AllByRecursion (IsSafe s.end least_delay c.last.world) (k ∷ others) = subst (AllByRecursion (IsSafe s.end least_delay c.last.world)) first on.safe in
        let rises : IsRising (λ (a : Key) (b : Key). a.to ≢ b.to) (k ∷ others) = subst (IsRising (λ a b. a.to ≢ b.to)) first on.apart in
        on_over k content others (outcome_by s actions c.last.world k content) all.0 here
        (subst (λ list. outcome_by s list c.last.world k content ≡ outcome (driven s answers) c.last.world k content) agrees (answered s answers k content c.last.world))
        all.1 (all_weaker (λ b. k.to ≢ b.to) (λ q. q.to ≢ k.to) (λ b other same. other (sym same)) others rises.0) rises.1
        (take s c.last k content others line actions) refl refl refl refl

    on_by : (k : Key) (content : Content) (fate : Fate) → fate_of c.last.world k content ≡ fate → IsNext s least_delay c.last k → get c.last.world.pending k ≡ Some content
        → IsOn s least_delay answers (with_move c (move_by fate s c.last k content))
    on_by k content Untold is next here = on_pass k content false next here (λ same. let no : Untold ≡ Asked = sym is ∙ same in cc)
    on_by k content Told is next here = on_pass k content true next here (λ same. let no : Told ≡ Asked = sym is ∙ same in cc)
    on_by k content Asked is next here = on_ask k content next

  -- the answer that is taken is that to the event that takes it
  taken_for : (c : Course) (m : Move) (takes : Takes s least_delay c.last m) → IsSplit c → Agree answers (c.asked ++ m.asked) (c.taken ++ m.taken) → answers takes.key ≡ takes.actions
  taken_for c m takes split agree =
      let keys : c.asked ++ m.asked ≡ split.done ++ takes.key ∷ takes.others = ap (λ (x : Move). c.asked ++ x.asked) takes.move ∙ append-nil c.asked ∙ split.split ∙ ap (λ l. split.done ++ l) takes.first in
      agree_next answers split.done takes.key takes.others c.taken takes.line takes.actions split.as_many
      (subst (λ l. Agree answers (split.done ++ takes.key ∷ takes.others) (c.taken ++ l)) (ap (λ (x : Move). x.taken) takes.move)
      (subst (λ l. Agree answers l (c.taken ++ m.taken)) keys agree))

  -- the course is on its way, whatever the answers to other events would have been
  pub on_course : (c : Course) → IsCourse s least_delay c → Agree answers c.asked c.taken → IsOn s least_delay answers c
  on_course c begins agree = record { schedule = (refl, refl); safe = tt; apart = tt; people = opening_people s }
  on_course c (goes_on before m is (inl tells)) agree =
      let front = agree_front answers before.asked m.asked before.taken m.taken (few before (split_course s least_delay before is)) agree in
      subst (λ x. IsOn s least_delay answers (with_move before x)) (sym tells.move)
      (on_by before (on_course before is front) tells.key tells.content (fate_of before.last.world tells.key tells.content) refl tells.next tells.here)
  on_course c (goes_on before m is (inr takes)) agree =
      let split = split_course s least_delay before is in
      let front = agree_front answers before.asked m.asked before.taken m.taken (few before split) agree in
      subst (λ x. IsOn s least_delay answers (with_move before x)) (sym takes.move)
      (on_take before (on_course before is front) takes.key takes.content takes.others takes.line takes.actions takes.first takes.here (taken_for before m takes split agree))
