-- Which text is which shard, one text more at a time, and why texts aren't the shards of a sweep.
use Rattle.std.proofs.Common.{◌≡◌, ◌≢◌, ◌<◌, ◌≤◌, ◌+◌, ℕ, Bool, true, false, List, ◌++◌, length, get_or, set, replicate, inr, refl, sym, ap, subst, ◌∙◌, append_assoc, arith}
use Rattle.std.specs.Prelude.{Option, Some, None, Vec, nat_eq, nat_lt}
use Rattle.std.specs.Option.{ForSome}
use Rattle.std.specs.declared.alloc.Global.{Global}
use Rattle.std.proofs.lemmas.Bool.Decides.{nat_tests}
use Rattle.std.proofs.lemmas.List.{get_or-replicate, get_or-set_same, get_or-set_other, get_or_past, length-replicate, length-set}
use Rattle.std.proofs.lemmas.Option.{none-some, same_Some, slice_get_within}
use Rattle.sweep_plan.specs.Sweep.{Sweep}
use Rattle.figures.specs.declared.column_set.ColumnSet.{ColumnSet}
use Rattle.figures.specs.Lines.{header_line}
use Rattle.shards.specs.declared.shard.Shard.{Shard}
use Rattle.shards.specs.Names.{head_cell}
use Rattle.sweep.specs.Shards.{shard_header}
use Rattle.sweep.specs.Table.{names_of}
use Rattle.shard_merge.specs.declared.fault.JoinFault.{JoinFault}
use Rattle.shard_merge.specs.declared.fault.JoinFault.TheVariants as fault
use Rattle.sweep.specs.Sums.{IsOlder, line_key}
use Rattle.shard_merge.specs.Among.{IsAmongTexts, shard_at}
use Rattle.shard_merge.specs.Joined.{IsFirstSeed}
use Rattle.shard_merge.specs.Reasons.{AreIts, ArePlaces, BeginsAs, IsBehind, IsDoubled, IsFirst, IsMissing, IsOlderAt, IsNoShard, IsOfSink, IsOther, IsReason, IsTextAt, IsTorn, RefusesLines, RefusesPlace, RefusesText}
use Rattle.shard_merge.proofs.SameSweep.{same_heads}

-- a text begins as one shard of a sweep
pub one_shard : (text mark : List ℕ) (columns : ColumnSet) (sweep : Sweep) (p q : Shard) → BeginsAs text mark columns sweep p → BeginsAs text mark columns sweep q → p ≡ q
one_shard text mark columns sweep p q a b =
    (same_heads mark mark sweep sweep p q (header_line columns (names_of sweep.swept_keys) ++ a.rest) (header_line columns (names_of sweep.swept_keys) ++ b.rest) a.marked b.marked a.asked b.asked a.sound b.sound
    (sym (append_assoc (head_cell mark sweep p) (header_line columns (names_of sweep.swept_keys)) a.rest) ∙ sym a.written ∙ b.written
    ∙ append_assoc (head_cell mark sweep q) (header_line columns (names_of sweep.swept_keys)) b.rest)).shard

-- one text stands at a place
pub one_text : (texts : List (Vec ℕ Global)) (place : ℕ) (text other : List ℕ) → IsTextAt texts place text → IsTextAt texts place other → other ≡ text
one_text texts place text other a b =
    let same : b.0 ≡ a.0 = same_Some b.0 a.0 (sym b.1 ∙ a.1) in
    b.2 ∙ ap (λ (v : Vec ℕ Global). v.items) same ∙ sym a.2

-- one that is at some place is among them
pub among : (texts : List (Vec ℕ Global)) (place : ℕ) (text whole : List ℕ) → IsTextAt texts place text → text ≡ whole → IsAmongTexts texts whole
among texts place text whole there is = (place, there.0, there.1, sym is ∙ there.2)

-- no text yet
pub no_places : (texts : List (Vec ℕ Global)) (mark : List ℕ) (columns : ColumnSet) (sweep : Sweep) (of : ℕ) (places : List (Option ℕ)) → places ≡ replicate of None → ArePlaces texts mark columns sweep of places 0
no_places texts mark columns sweep of places is = record {
  size = ap length is ∙ length-replicate of None;
  held = λ number place here. absurd (none number place (subst (λ (l : List (Option ℕ)). get_or l number None ≡ Some place) is here) (nat_lt number of) refl);
  kept = λ place text before there. absurd (omega (arith, before));
}
  where
    none : (number place : ℕ) → get_or (replicate of None) number None ≡ Some place → (b : Bool) → nat_lt number of ≡ b → ⊥
    none number place here true within =
        let low : number < of = grind (arith, nat_tests) in
        none-some place (sym (get_or-replicate of number None None low) ∙ here)
    none number place here false within =
        let high : of ≤ number = grind (arith, nat_tests) in
        let empties : List (Option ℕ) = replicate of None in
        let long : length empties ≡ of = length-replicate of None in
        none-some place (sym (get_or_past empties number None (omega (arith, high, long))) ∙ here)

-- one text more
pub place_more : (texts : List (Vec ℕ Global)) (mark : List ℕ) (columns : ColumnSet) (sweep : Sweep) (of number place : ℕ) (text : List ℕ) (places more : List (Option ℕ)) → number < length places
    → get_or places number None ≡ None → more ≡ set places number (Some place) → ArePlaces texts mark columns sweep of places place → IsTextAt texts place text
    → BeginsAs text mark columns sweep (shard_at number of) → ArePlaces texts mark columns sweep of more (place + 1)
place_more texts mark columns sweep of number place text places more inside free is are there begins = record {
  size = ap length is ∙ length-set places number (Some place) ∙ are.size;
  held = λ n k here. held n k (subst (λ (l : List (Option ℕ)). get_or l n None ≡ Some k) is here) (nat_eq n number) refl;
  kept = λ k other before at. kept k other before at (nat_eq k place) refl;
}
  where
    held : (n k : ℕ) → get_or (set places number (Some place)) n None ≡ Some k → (b : Bool) → nat_eq n number ≡ b
        → (k < place + 1) × ((other : List ℕ) × IsTextAt texts k other × BeginsAs other mark columns sweep (shard_at n of))
    held n k here true e =
        let same : n ≡ number = grind (arith, nat_tests) in
        let set_here : get_or (set places number (Some place)) number None ≡ Some place = get_or-set_same places number (Some place) None inside in
        let its : k ≡ place = same_Some k place (sym here ∙ ap (λ m. get_or (set places number (Some place)) m None) same ∙ set_here) in
        (omega (arith, its), (text, subst (λ m. IsTextAt texts m text) (sym its) there, subst (λ m. BeginsAs text mark columns sweep (shard_at m of)) (sym same) begins))
    held n k here false e =
        let other : n ≢ number = λ same. let yes : nat_eq n number ≡ true = grind (arith, nat_tests) in cc in
        let old = are.held n k (sym (get_or-set_other places number n (Some place) None other) ∙ here) in
        (omega (arith, old.0), old.1)

    kept : (k : ℕ) (other : List ℕ) → k < place + 1 → IsTextAt texts k other → (b : Bool) → nat_eq k place ≡ b
        → (n : ℕ) × (get_or more n None ≡ Some k) × BeginsAs other mark columns sweep (shard_at n of)
    kept k other before at true e =
        let same : k ≡ place = grind (arith, nat_tests) in
        let set_here : get_or (set places number (Some place)) number None ≡ Some place = get_or-set_same places number (Some place) None inside in
        let text_is : other ≡ text = one_text texts place text other there (subst (λ m. IsTextAt texts m other) same at) in
        (number, ap (λ l. get_or l number None) is ∙ set_here ∙ ap Some (sym same), subst (λ t. BeginsAs t mark columns sweep (shard_at number of)) (sym text_is) begins)
    kept k other before at false e =
        let differs : k ≢ place = λ same. let yes : nat_eq k place ≡ true = grind (arith, nat_tests) in cc in
        let old = are.kept k other (omega (arith, before, differs)) at in
        let apart : old.0 ≢ number = λ same. let empty : get_or places old.0 None ≡ None = ap (λ m. get_or places m None) same ∙ free in let is_there = old.1 in cc in
        (old.0, ap (λ l. get_or l old.0 None) is ∙ get_or-set_other places number old.0 (Some place) None apart ∙ old.1, old.2)

-- what befell the memory or the table is handed on as it is
pub of_sink : (texts : List (Vec ℕ Global)) (f : JoinFault) → IsOfSink f → IsReason texts f
of_sink texts fault.Write h = tt
of_sink texts fault.Memory h = tt
of_sink texts (fault.NoShard at) h = absurd h
of_sink texts (fault.Other at) h = absurd h
of_sink texts (fault.Doubled at) h = absurd h
of_sink texts (fault.Torn at) h = absurd h
of_sink texts (fault.Older at) h = absurd h
of_sink texts (fault.Missing number) h = absurd h

pub memory_reason : (texts : List (Vec ℕ Global)) (f : JoinFault) → f ≡ fault.Memory → IsReason texts f
memory_reason texts f is = subst (IsReason texts) (sym is) tt

pub memory_lines : (text header : List ℕ) (place : ℕ) (f : JoinFault) → f ≡ fault.Memory → RefusesLines text header place f
memory_lines text header place f is = subst (RefusesLines text header place) (sym is) tt

module _ (texts : List (Vec ℕ Global)) (mark : List ℕ) (columns : ColumnSet) (sweep : Sweep) (p : Shard) (first : IsFirst texts mark columns sweep p) where
  -- a text that isn't a shard of the sweep
  pub text_reason : (text : List ℕ) (place : ℕ) (f : JoinFault) → IsTextAt texts place text → RefusesText text mark columns sweep p.of place f → IsReason texts f
  text_reason text place (fault.NoShard at) there h = subst (IsNoShard texts) (sym h.0) (inr (text, there, h.1))
  text_reason text place (fault.Other at) there h =
      subst (IsOther texts) (sym h.0) (record { mark = mark; columns = columns; sweep = sweep; p = p; first = first; text = text; there = there; none = h.1 })
  text_reason text place fault.Memory there h = tt
  text_reason text place fault.Write there h = tt
  text_reason text place (fault.Doubled at) there h = absurd h
  text_reason text place (fault.Torn at) there h = absurd h
  text_reason text place (fault.Older at) there h = absurd h
  text_reason text place (fault.Missing number) there h = absurd h

  -- one that is a shard which another is
  pub place_reason : (text : List ℕ) (places : List (Option ℕ)) (number place : ℕ) (f : JoinFault) → ArePlaces texts mark columns sweep p.of places place → IsTextAt texts place text
      → BeginsAs text mark columns sweep (shard_at number p.of) → RefusesPlace places number place f → IsReason texts f
  place_reason text places number place (fault.Doubled at) are there begins h =
      let its = are.held number h.1.0 h.1.1 in
      subst (IsDoubled texts) (sym h.0) (record {
        mark = mark;
        columns = columns;
        sweep = sweep;
        p = shard_at number p.of;
        earlier = h.1.0;
        before = its.0;
        text = text;
        there = there;
        begins = begins;
        other = its.1.0;
        there_too = its.1.1;
        begins_too = its.1.2;
      })
  place_reason text places number place fault.Memory are there begins h = tt
  place_reason text places number place fault.Write are there begins h = tt
  place_reason text places number place (fault.NoShard at) are there begins h = absurd h
  place_reason text places number place (fault.Other at) are there begins h = absurd h
  place_reason text places number place (fault.Torn at) are there begins h = absurd h
  place_reason text places number place (fault.Older at) are there begins h = absurd h
  place_reason text places number place (fault.Missing n) are there begins h = absurd h

  module _ (places : List (Option ℕ)) (are : ArePlaces texts mark columns sweep p.of places (length texts)) where
    -- a shard that no text is
    pub missing : (number : ℕ) → number < p.of → get_or places number None ≡ None → IsMissing texts (number + 1)
    missing number within empty = record {
      mark = mark;
      columns = columns;
      sweep = sweep;
      p = p;
      first = first;
      low = omega arith;
      high = omega (arith, within);
      none = λ place text q there same of begins.
          let kept = are.kept place text (slice_get_within texts place there.0 there.1) there in
          let one : shard_at kept.0 p.of ≡ q = one_shard text mark columns sweep (shard_at kept.0 p.of) q kept.2 begins in
          let next : kept.0 + 1 ≡ q.number = ap (λ (r : Shard). r.number) one in
          let at : kept.0 ≡ number = omega (arith, next, same) in
          let free : get_or places kept.0 None ≡ None = ap (λ n. get_or places n None) at ∙ empty in
          let found = kept.1 in
          cc;
    }

    -- a text whose lines aren't those of its shard
    module _ (number place : ℕ) (rest : List ℕ) (behind : IsBehind texts mark columns sweep p.of places number place rest) where
      pub torn : (at : ℕ) (seed : Option ℕ) → at ≡ place → ForSome seed (IsFirstSeed texts mark columns sweep p.of)
          → ¬ (AreIts sweep.until (line_key columns seed mark sweep) sweep (shard_at number p.of) rest) → IsTorn texts at
      torn at seed same first_seed not =
          let held = are.held number place behind.found in
          let its = held.1.2 in
          subst (IsTorn texts) (sym same) (record {
            mark = mark;
            columns = columns;
            sweep = sweep;
            p = shard_at number p.of;
            text = behind.text;
            there = behind.there;
            begins = record { asked = its.asked; marked = its.marked; sound = its.sound; rest = rest; written = behind.written };
            seed = seed;
            first = first_seed;
            torn = not;
          })

      -- one whose lines have no checksums
      pub of_before : IsOlder rest → IsOlderAt texts place
      of_before older =
          let its = (are.held number place behind.found).1.2 in
          record {
            mark = mark;
            columns = columns;
            sweep = sweep;
            p = shard_at number p.of;
            text = behind.text;
            there = behind.there;
            begins = record { asked = its.asked; marked = its.marked; sound = its.sound; rest = rest; written = behind.written };
            older = older;
          }

    -- one whose lines can't be read
    pub lines_reason : (number place : ℕ) (text : List ℕ) → get_or places number None ≡ Some place → IsTextAt texts place text → (f : JoinFault)
        → RefusesLines text (shard_header columns mark sweep (shard_at number p.of)) place f → IsReason texts f
    lines_reason number place text found there (fault.Older at) h =
        subst (IsOlderAt texts) (sym h.0) (of_before number place h.1.0 (record { found = found; text = text; there = there; written = h.1.1 }) h.1.2)
    lines_reason number place text found there (fault.Torn at) h =
        torn number place h.1.0 (record { found = found; text = text; there = there; written = h.1.1 }) at None h.0 (λ k one. absurd (none-some k one))
        (λ its. h.1.2 its.encoded)
    lines_reason number place text found there fault.Memory h = tt
    lines_reason number place text found there fault.Write h = absurd h
    lines_reason number place text found there (fault.NoShard at) h = absurd h
    lines_reason number place text found there (fault.Other at) h = absurd h
    lines_reason number place text found there (fault.Doubled at) h = absurd h
    lines_reason number place text found there (fault.Missing n) h = absurd h

    -- the text of a shard begins with its first line
    pub begins_there : (number place : ℕ) (text : List ℕ) → get_or places number None ≡ Some place → IsTextAt texts place text
        → BeginsAs text mark columns sweep (shard_at number p.of)
    begins_there number place text found there =
        let held = are.held number place found in
        subst (λ t. BeginsAs t mark columns sweep (shard_at number p.of)) (sym (one_text texts place held.1.0 text held.1.1 there)) held.1.2
