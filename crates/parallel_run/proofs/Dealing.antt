-- What is dealt and taken on the board of a run, part by part.
use Rattle.std.proofs.Common.{◌≡◌, ℕ, suc, ◌+◌, ◌<◌, List, Vec, Global, get_or, swap_remove, [], ◌∷◌, ◌++◌, length, map, Option, Result, Ok, Err, IfOk, OnOk, ap, ◌∙◌, sym, subst, refl, append_assoc, arith}
use Rattle.std.specs.Box.{box_value}
use Rattle.std.specs.List.{sum_by}
use Rattle.std.proofs.lemmas.List.{get_or_default, map-append}
use Rattle.std.proofs.lemmas.List.FromFn.{map-range_with_len_more, sum_by-map-range_with_len_more}
use Rattle.std.proofs.lemmas.List.Sums.{sum_by-cons, sum_by-swap_remove}
use Rattle.base.specs.declared.fault.Fault.{Fault}
use Rattle.base.specs.declared.fault.Memory.{Memory}
use Rattle.board.specs.declared.record.BoardRecord.{BoardRecord}
use Rattle.board.specs.declared.rule.Hand.{Hand}
use Rattle.board.specs.declared.seats.Seat.{Seat}
use Rattle.board.specs.Deal.{SameBag, hand}
use Rattle.board.specs.Records.{all_dealt, all_taken, own_dealt, own_taken}
use Rattle.parallel_run.specs.declared.of_run.OfRun.{Ghosts}
use Rattle.parallel_run.specs.declared.batch_sender.BatchSender.{BatchSender}
use Rattle.parallel_run.specs.declared.board_item.BoardEntry.{BoardEntry}
use Rattle.parallel_run.specs.declared.process.Process.{Process}
use Rattle.parallel_run.specs.Dealt.{AreDealt, DealtAll, all_begun, all_ended}
use Rattle.parallel_run.specs.Processes.{begun_entry}
use Rattle.parallel_run.specs.Returned.{AreAllBack, TakesBack, TakesOut, ended_entry}
use Rattle.parallel_run.specs.Settled.{IsSettledFrom}
use Rattle.parallel_run.proofs.Worked.{worked}

-- ---- the processes, as they begin

module _ {K Q : Type 0} {G : Ghosts K} where
  -- one more process, whose number is how many there are before it
  pub begun_more : (processes more : List (Process K Q G)) (one : Process K Q G) (count : ℕ) → more ≡ processes ++ one ∷ [] → length processes ≡ count → (box_value one.state).lines.number ≡ count → map begun_entry processes ≡ all_begun (length processes)
      → map begun_entry more ≡ all_begun (suc count)
  begun_more processes more one count joined counted number so_far =
      let last : 0 + count ≡ count = omega arith in
      let longer : count + 1 ≡ suc count = omega arith in
      ap (map begun_entry) joined ∙ (map-append begun_entry processes (one ∷ [])
      ∙ (ap (λ l. l ++ BoardEntry.Process (box_value one.state).lines.number ∷ []) (so_far ∙ ap all_begun counted)
      ∙ (ap (λ n. all_begun count ++ BoardEntry.Process n ∷ []) number ∙ (sym (map-range_with_len_more (λ (n : ℕ). BoardEntry.Process n) 0 count count last) ∙ ap all_begun longer))))

  -- the first of those that are left was dealt
  pub dealt_one : (old new before all : List BoardEntry) (rest : List (Process K Q G)) (one : Process K Q G) (left : List (Process K Q G)) → left ≡ one ∷ rest → new ≡ old ++ begun_entry one ∷ [] → old ++ map begun_entry left ≡ before ++ all
      → new ++ map begun_entry rest ≡ before ++ all
  dealt_one old new before all rest one left first is so_far =
      ap (λ l. l ++ map begun_entry rest) is ∙ (append_assoc old (begun_entry one ∷ []) (map begun_entry rest) ∙ (ap (λ l. old ++ map begun_entry l) (sym first) ∙ so_far))

-- ---- the ends of the relays, as they come back

module _ {K : Type 0} {G : Ghosts K} where
  -- one more end was taken
  pub back_more : (first old new : Hand BoardEntry) (ends more : List (BatchSender K G)) (one : BatchSender K G) → old.dealt ≡ first.dealt → old.taken ≡ first.taken ++ map ended_entry ends
      → new ≡ hand 1 old.dealt (old.taken ++ ended_entry one ∷ []) → more ≡ ends ++ one ∷ [] → (new.dealt ≡ first.dealt) × (new.taken ≡ first.taken ++ map ended_entry more)
  back_more first old new ends more one dealt taken is joined = (
    ap (λ h. h.dealt) is ∙ dealt,
    ap (λ h. h.taken) is ∙ (ap (λ l. l ++ ended_entry one ∷ []) taken ∙ (append_assoc first.taken (map ended_entry ends) (ended_entry one ∷ [])
        ∙ ap (λ l. first.taken ++ l) (sym (map-append ended_entry ends (one ∷ [])) ∙ ap (map ended_entry) (sym joined)))),
  )

  -- the end at a place was taken out, whose number was read
  pub taken_out : (ends left : List (BatchSender K G)) (place number : ℕ) (read one : BatchSender K G) → place < length ends → read ≡ get_or ends place read → read.number ≡ number → one ≡ get_or ends place one
      → left ≡ swap_remove ends place one → (one.number ≡ number) × TakesOut ends left one
  taken_out ends left place number read one low is known value items = (
    ap (λ e. e.number) (value ∙ (get_or_default ends place one read low ∙ sym is)) ∙ known,
    λ weight. omega (arith, ap (sum_by weight) items, ap weight value, sum_by-swap_remove weight ends place one low),
  )

  pub weighed : (weight : BoardEntry → ℕ) (ends : List (BatchSender K G)) → sum_by weight (map ended_entry ends) ≡ sum_by (λ e. weight (ended_entry e)) ends
  weighed weight [] = refl
  weighed weight (e ∷ ends) = omega (arith, sum_by-cons weight (ended_entry e) (map ended_entry ends), sum_by-cons (λ (x : BatchSender K G). weight (ended_entry x)) e ends, weighed weight ends)

  -- the end of the next part was taken out of those that came back
  pub ended_more : (weight : BoardEntry → ℕ) (all old new : List (BatchSender K G)) (one : BatchSender K G) (count : ℕ) → one.number ≡ count → TakesOut old new one
      → sum_by (λ e. weight (ended_entry e)) old + sum_by weight (all_ended count) ≡ sum_by (λ e. weight (ended_entry e)) all
      → sum_by (λ e. weight (ended_entry e)) new + sum_by weight (all_ended (count + 1)) ≡ sum_by (λ e. weight (ended_entry e)) all
  ended_more weight all old new one count number out so_far =
      let last : 0 + count ≡ count = omega arith in
      omega (
        arith,
        so_far,
        out (λ e. weight (ended_entry e)),
        sum_by-map-range_with_len_more weight (λ (n : ℕ). BoardEntry.Ended n) 0 count count last,
        ap (λ n. weight (BoardEntry.Ended n)) number,
      )

  -- where none is left, they were the ends of so many parts
  pub all_ended_back : (all left : List (BatchSender K G)) (count : ℕ) → left ≡ []
      → ((weight : BoardEntry → ℕ) → sum_by (λ e. weight (ended_entry e)) left + sum_by weight (all_ended count) ≡ sum_by (λ e. weight (ended_entry e)) all) → SameBag (map ended_entry all) (all_ended count)
  all_ended_back all left count none so_far = λ weight. omega (arith, so_far weight, weighed weight all, ap (sum_by (λ e. weight (ended_entry e))) none)

  -- who took back all ends took each part as it had come to the end
  pub all_taken_back : (first old new : Hand BoardEntry) (ends : Result (Option (Vec (BatchSender K G) Global)) Memory) (count : ℕ) → TakesBack old new ends → AreAllBack count ends
      → old.taken ≡ [] → (new.dealt ≡ old.dealt) × SameBag new.taken (all_ended count)
  all_taken_back first old new (Ok (Option.Some ends)) count back all none =
      (back.0, subst (λ l. SameBag l (all_ended count)) (sym (back.1 ∙ ap (λ l. l ++ map ended_entry ends.items) none)) all)
  all_taken_back first old new (Ok Option.None) count back all none = absurd all
  all_taken_back first old new (Err memory) count back all none = absurd all

-- ---- the seat of the calling thread

module _ {K : Type 0} {G : Ghosts K} where
  -- who began with nothing, dealt all parts and took back all of them did so where the run came to its end
  pub own_deals : {S T : Type 0} (count : ℕ) (outcome : Result T Fault) (back : Result (S × BoardRecord BoardEntry) Memory) (first dealt_out last : Hand BoardEntry) (ends : Result (Option (Vec (BatchSender K G) Global)) Memory)
      → first ≡ hand 1 [] [] → dealt_out.dealt ≡ first.dealt ++ all_begun count → dealt_out.taken ≡ first.taken → TakesBack dealt_out last ends → OnOk outcome (AreAllBack count ends)
      → IfOk back (λ b. (own_dealt b.1 ≡ last.dealt) × (own_taken b.1 ≡ last.taken)) → OnOk outcome (IfOk back (λ b. DealtAll count b.1))
  own_deals count (Ok x) (Ok b) first dealt_out last ends none dealt taken takes all own =
      let mine = all_taken_back first dealt_out last ends count takes all (taken ∙ ap (λ h. h.taken) none) in (
        own.0 ∙ (mine.0 ∙ (dealt ∙ ap (λ h. h.dealt ++ all_begun count) none)),
        subst (λ l. SameBag l (all_ended count)) (sym own.1) mine.1,
      )
  own_deals count (Ok x) (Err m) first dealt_out last ends none dealt taken takes all own = tt
  own_deals count (Err f) back first dealt_out last ends none dealt taken takes all own = tt

-- the record that the closed board left
pub settled_whole : {T S : Type 0} (count : ℕ) (outcome so_far : Result T Fault) (back : Result (Vec (Seat S BoardEntry) Global × BoardRecord BoardEntry) Memory) (board : BoardRecord BoardEntry) → OnOk outcome (outcome ≡ so_far)
    → OnOk so_far (IfOk back (λ b. DealtAll count b.1)) → OnOk outcome (IsSettledFrom back board) → OnOk outcome (AreDealt count board)
settled_whole count (Ok x) so_far (Ok b) board same own settled =
    let mine = subst (λ o. OnOk o (DealtAll count b.1)) (sym same) own in
    let balance = subst (λ (r : BoardRecord BoardEntry). SameBag (all_dealt r) (all_taken r)) settled.0 settled.1 in
    subst (λ r. AreDealt count r) (sym settled.0) (record { dealt = mine.0; taken_back = mine.1; balance = balance; worked = worked count b.1 mine.0 mine.1 balance })
settled_whole count (Ok x) so_far (Err m) board same own settled = absurd settled
settled_whole count (Err f) so_far back board same own settled = tt
