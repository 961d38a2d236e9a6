-- Each step of a relay keeps its rule, and what follows from the rule.
use Rattle.std.proofs.Common.{◌≡◌, ◌≢◌, ℕ, zero, suc, Bool, true, false, true≢false, ◌||◌, List, [], ◌∷◌, ◌++◌, length, map, set, All, Option, Some, None, IfSome, sym, refl, ap, ◌∙◌, subst, ⊎_elim, append_assoc, append-nil}
use Rattle.std.proofs.lemmas.List.{map-append}
use Rattle.std.proofs.lemmas.List.Elements.{All-nil, All-head, All-tail, All-push, All-same}
use mathlib.Core.Option.{some, some-injective, some-ne-none}
use lib.ListN.{get_elem?}
use Rattle.crossbeam_channel.specs.Fifo.{Pushes, Pops, Forks, Merges, Learns}
use Rattle.relay.specs.declared.rule.Log.{Log}
use Rattle.relay.specs.Lots.{has_last, NoneAfterLast}
use Rattle.relay.specs.Rule.{log, Fits, Relayed, Remains}
use Rattle.relay.proofs.Passes.{Each, at_set, each_set, each_more}

module _ {T L G : Type 0} (stands_for : T → L) (is_last : L → Bool) (belongs : G → T → Type 0) where
  -- one more may follow where none is the last
  one_more : (lots : List L) (lot : L) → has_last is_last lots ≡ false → NoneAfterLast is_last (lots ++ lot ∷ [])
  one_more [] lot none = ((λ _. refl), tt)
  one_more (l ∷ ls) lot none = first (is_last l) refl (one_more ls lot)
    where
      first : (b : Bool) → is_last l ≡ b → (has_last is_last ls ≡ false → NoneAfterLast is_last (ls ++ lot ∷ [])) → NoneAfterLast is_last ((l ∷ ls) ++ lot ∷ [])
      first true is more = absurd (true≢false (sym (ap (λ b. b || has_last is_last ls) is) ∙ none))
      first false is more = ((λ h. absurd (true≢false (sym h ∙ is))), more (sym (ap (λ b. b || has_last is_last ls) is) ∙ none))

  empty_after : (xs ys : List L) → xs ++ ys ≡ [] → ys ≡ []
  empty_after [] ys e = e
  empty_after (x ∷ xs) ys e = cc

  -- nothing follows where one is the last
  none_more : (lots rest : List L) → NoneAfterLast is_last (lots ++ rest) → has_last is_last lots ≡ true → rest ≡ []
  none_more [] rest none has = absurd (true≢false (sym has))
  none_more (l ∷ ls) rest none has = first (is_last l) refl (none_more ls rest none.1)
    where
      first : (b : Bool) → is_last l ≡ b → (has_last is_last ls ≡ true → rest ≡ []) → rest ≡ []
      first true is more = empty_after ls rest (none.0 is)
      first false is more = more (sym (ap (λ b. b || has_last is_last ls) is) ∙ has)

  -- one more that belongs
  belong_more : (given : Option G) (items : List T) (x : T) → IfSome given (λ s. All (belongs s) items) → IfSome given (λ s. belongs s x)
      → IfSome given (λ s. All (belongs s) (items ++ x ∷ []))
  belong_more None items x all one = tt
  belong_more (Some s) items x all one = All-push (belongs s) items x all one

  -- the first belongs, and the rest
  belong_first : (given : Option G) (x : T) (items : List T) → IfSome given (λ s. All (belongs s) (x ∷ items))
      → IfSome given (λ s. belongs s x) × IfSome given (λ s. All (belongs s) items)
  belong_first None x items all = (tt, tt)
  belong_first (Some s) x items all = (All-head (belongs s) x items all, All-tail (belongs s) x items all)

  belong_none : (given : Option G) (items : List T) → items ≡ [] → IfSome given (λ s. All (belongs s) items)
  belong_none None items e = tt
  belong_none (Some s) items e = All-same (belongs s) items [] e (All-nil (belongs s))

  lies_none : (items : List T) → [] ≡ map stands_for items → items ≡ []
  lies_none [] e = refl
  lies_none (x ∷ xs) e = cc

  -- in a new relay
  pub begins : Relayed stands_for is_last belongs [] (log true true None [] [] ∷ [])
  begins = record { sender = 0; taker = 0; given = None; sent = []; taken = []; in_order = refl; one_end = tt; belong = tt; each = only }
    where
      only : Each (Fits {L = L} {G = G} 0 0 None [] []) (log true true None [] [] ∷ [])
      only zero v e = subst (Fits 0 0 None [] [] 0) (some-injective (log true true None [] []) v e) (record { sends = λ _. (refl, refl, refl); takes = λ _. (refl, refl, refl) })
      only (suc pass) v e = absurd (some-ne-none v (sym e))

  pub sends : (n pass : ℕ) (v : Log L G) (x : T) → v.sends ≡ true → has_last is_last v.sent ≡ false → IfSome v.given (λ s. belongs s x)
      → Pushes (Relayed stands_for is_last belongs) n pass v x (λ w. w ≡ log v.sends v.takes v.given (v.sent ++ stands_for x ∷ []) v.taken)
  sends n pass v x may none fits items views _ h at =
      let w : Log L G = log v.sends v.takes v.given (v.sent ++ stands_for x ∷ []) v.taken in
      let mine = h.each pass v at in
      let knows = mine.sends may in
      let sent : List L = h.sent ++ stands_for x ∷ [] in (
        w,
        record {
          sender = h.sender;
          taker = h.taker;
          given = h.given;
          sent = sent;
          taken = h.taken;
          in_order = ap (λ l. l ++ stands_for x ∷ []) h.in_order ∙ append_assoc h.taken (map stands_for items) (stands_for x ∷ []) ∙ ap (λ l. h.taken ++ l) (sym (map-append stands_for items (x ∷ [])));
          one_end = one_more h.sent (stands_for x) (ap (has_last is_last) (sym knows.2) ∙ none);
          belong = belong_more h.given items x h.belong (subst (λ o. IfSome o (λ s. belongs s x)) knows.1 fits);
          each = each_set (Fits h.sender h.taker h.given sent h.taken) views pass w
              (record { sends = λ _. (knows.0, knows.1, ap (λ l. l ++ stands_for x ∷ []) knows.2); takes = mine.takes })
              (λ j u other e. record { sends = λ p. absurd (other (((h.each j u e).sends p).0 ∙ sym knows.0)); takes = (h.each j u e).takes });
        },
        refl,
      )

  pub gets : (pass : ℕ) (v : Log L G) → v.takes ≡ true
      → Pops (Relayed stands_for is_last belongs) pass v (λ x w. (w ≡ log v.sends v.takes v.given v.sent (v.taken ++ stands_for x ∷ [])) × IfSome v.given (λ s. belongs s x))
  gets pass v may x items views h at =
      let w : Log L G = log v.sends v.takes v.given v.sent (v.taken ++ stands_for x ∷ []) in
      let mine = h.each pass v at in
      let knows = mine.takes may in
      let belong = belong_first h.given x items h.belong in
      let taken : List L = h.taken ++ stands_for x ∷ [] in (
        w,
        record {
          sender = h.sender;
          taker = h.taker;
          given = h.given;
          sent = h.sent;
          taken = taken;
          in_order = h.in_order ∙ sym (append_assoc h.taken (stands_for x ∷ []) (map stands_for items));
          one_end = h.one_end;
          belong = belong.1;
          each = each_set (Fits h.sender h.taker h.given h.sent taken) views pass w
              (record { sends = mine.sends; takes = λ _. (knows.0, knows.1, ap (λ l. l ++ stands_for x ∷ []) knows.2) })
              (λ j u other e. record { sends = (h.each j u e).sends; takes = λ p. absurd (other (((h.each j u e).takes p).0 ∙ sym knows.0)) });
        },
        (refl, subst (λ o. IfSome o (λ s. belongs s x)) (sym knows.1) belong.0),
      )

  -- where nothing was sent and taken, the right to take may go into a pass of its own
  pub forks : (pass : ℕ) (v : Log L G) (given : Option G) → v.sends ≡ true → v.takes ≡ true → v.sent ≡ [] → v.taken ≡ []
      → Forks (Relayed stands_for is_last belongs) pass v (log true false given v.sent []) (log false true given [] v.taken)
  forks pass v given a b none_sent none_taken items views h at =
      let l : Log L G = log true false given v.sent [] in
      let r : Log L G = log false true given [] v.taken in
      let mine = h.each pass v at in
      let sender = mine.sends a in
      let taker = mine.takes b in
      let vs : List (Log L G) = set views pass l in
      let lies : items ≡ [] = lies_none items (sym none_sent ∙ sender.2 ∙ h.in_order ∙ ap (λ xs. xs ++ map stands_for items) (sym taker.2 ∙ none_taken)) in
      record {
        sender = h.sender;
        taker = length vs;
        given = given;
        sent = h.sent;
        taken = h.taken;
        in_order = h.in_order;
        one_end = h.one_end;
        belong = belong_none given items lies;
        each = each_more (Fits h.sender (length vs) given h.sent h.taken) vs r
            (record { sends = λ p. absurd (true≢false (sym p)); takes = λ _. (refl, refl, taker.2) })
            (each_set (Fits h.sender (length vs) given h.sent h.taken) views pass l
            (record { sends = λ _. (sender.0, refl, sender.2); takes = λ p. absurd (true≢false (sym p)) })
            (λ j u other e. record { sends = λ p. absurd (other (((h.each j u e).sends p).0 ∙ sym sender.0)); takes = λ p. absurd (other (((h.each j u e).takes p).0 ∙ sym taker.0)) }));
      }

  pub merges : (pass : ℕ) (v : Log L G) (other : ℕ) (u : Log L G) → v.sends ≡ true → u.takes ≡ true
      → Merges (Relayed stands_for is_last belongs) pass v other u (log true true v.given v.sent u.taken) (log false false None [] [])
  merges pass v other u a b items views h at two at' =
      let both : Log L G = log true true v.given v.sent u.taken in
      let sender = (h.each pass v at).sends a in
      let vs : List (Log L G) = set views pass both in
      let was : get_elem? views other ≡ some u = ⊎_elim (λ x. absurd (two x.0)) (λ x. x.1) (at_set views pass other both u at') in
      let taker = (h.each other u was).takes b in
      let now : Each (λ j y. j ≢ other → Fits h.sender pass h.given h.sent h.taken j y) vs = each_set (λ j y. j ≢ other → Fits h.sender pass h.given h.sent h.taken j y) views pass both
      (λ _. record { sends = λ _. sender; takes = λ _. (refl, sender.1, taker.2) })
      (λ j y _ e apart. record { sends = (h.each j y e).sends; takes = λ p. absurd (apart (((h.each j y e).takes p).0 ∙ sym taker.0)) }) in
      record {
        sender = h.sender;
        taker = pass;
        given = h.given;
        sent = h.sent;
        taken = h.taken;
        in_order = h.in_order;
        one_end = h.one_end;
        belong = h.belong;
        each = each_set (Fits h.sender pass h.given h.sent h.taken) vs other (log false false None [] [])
            (record { sends = λ p. absurd (true≢false (sym p)); takes = λ p. absurd (true≢false (sym p)) })
            (λ j y apart e. now j y e apart);
      }

  -- what a pass with both rights learns
  pub tells : (pass : ℕ) (v : Log L G) → v.sends ≡ true → v.takes ≡ true → Learns (Relayed stands_for is_last belongs) pass v (λ items. Remains stands_for is_last v items)
  tells pass v a b items views h at =
      let sent = ((h.each pass v at).sends a).2 in
      let taken = ((h.each pass v at).takes b).2 in
      (sent ∙ h.in_order ∙ ap (λ l. l ++ map stands_for items) (sym taken), subst (NoneAfterLast is_last) (sym sent) h.one_end)

  -- a pass that knows the value knows what belongs
  pub belongs_known : (o : Option G) (s : G) (x : T) → o ≡ Some s → belongs s x → IfSome o (λ s. belongs s x)
  belongs_known o s x knows fits = subst (λ p. IfSome p (λ s. belongs s x)) (sym knows) fits

  pub known_belongs : (o : Option G) (s : G) (x : T) → o ≡ Some s → IfSome o (λ s. belongs s x) → belongs s x
  known_belongs o s x knows fits = subst (λ p. IfSome p (λ s. belongs s x)) knows fits

  -- where the last was received, all were
  all_taken : (sent taken rest : List L) → sent ≡ taken ++ rest → NoneAfterLast is_last sent → has_last is_last taken ≡ true → taken ≡ sent
  all_taken sent taken rest is one_end has = let empty : rest ≡ [] = none_more taken rest (subst (NoneAfterLast is_last) is one_end) has in
      sym (is ∙ ap (λ l. taken ++ l) empty ∙ append-nil taken)

  -- what both seats learn at the end, where the one received the last
  pub received : (v : Log L G) (items : List T) (sent taken : List L) → v.sent ≡ sent → v.taken ≡ taken → Remains stands_for is_last v items
      → has_last is_last taken ≡ true → taken ≡ sent
  received v items sent taken s t told has = all_taken sent taken (map stands_for items) (sym s ∙ told.0 ∙ ap (λ l. l ++ map stands_for items) t) (subst (NoneAfterLast is_last) s told.1) has
