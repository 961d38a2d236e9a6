-- What a part has heard of a round so far, and that it begins the next once it has heard all.
use Rattle.std.proofs.Common.{◌≡◌, ◌≢◌, ◌⊎◌, ◌↔◌, ℕ, ◌+◌, ◌<◌, true, List, [], ◌∷◌, ◌++◌, map, length, get_or, drop, append_assoc, append-nil, Option, inl, inr, ap, ◌∙◌, sym, subst, refl}
use Rattle.std.specs.List.{AllByRecursion}
use Rattle.std.specs.FinMap.{FinMap}
use Rattle.std.proofs.lemmas.List.{map-append}
use Rattle.base.specs.declared.key.Key.{Key}
use Rattle.base.specs.Order.{key_cmp}
use Rattle.base.specs.Rising.{IsRising, AreNew}
use Rattle.base.proofs.Rising.{all_append, all_weaker, rising_front, all_front, all_back}
use Rattle.trace.specs.declared.row.Row.{Row}
use Rattle.member.specs.declared.event_kind.EventKind.{EventKind}
use Rattle.member.specs.declared.event.Event.{Event}
use Rattle.member.specs.State.{State}
use Rattle.member.specs.StateOf.{pair_of}
use Rattle.member_laws.specs.Runs.{Cluster}
use Rattle.windows.specs.declared.part.Part.{Part}
use Rattle.windows.specs.Parts.{Window, with_arrivals}
use Rattle.windows.specs.Window.{is_own}
use Rattle.windows.specs.WorldOf.{world_of}
use Rattle.windows.proofs.Cuts.{joined_joined}
use Rattle.turns.proofs.After.{of_events}
use Rattle.lookahead_windows.specs.Starts.{IsUpTo}
use Rattle.lookahead_windows.specs.Messages.{BeginsRound, IsWindowOfRound, IsLeastAfter, IsMessage, IsOneOf, Message, sender_of, all_events, AreOfAllOthers, IsLeastOfAll}
use Rattle.lookahead_windows.proofs.WindowResult.{new_so_far, next_round, own_so_far}
use Rattle.lookahead_windows.specs.Basis.{Basis, IsBasis, plan_of}
use Rattle.parallel_run.specs.declared.window_message.WindowMessage.{WindowMessage}
use Rattle.parallel_run.specs.Peers.{AreOthers}
use Rattle.parallel_run.specs.Messages.{IsWord}
use Rattle.parallel_run.specs.Windows.{AfterWindow, Begins}
use Rattle.parallel_run.proofs.TellingInTurn.{next_to_come}
use Rattle.parallel_run.proofs.HearingMessages.{new_behind, events_more}

-- ---- lists

by_sender : (P : ℕ → Type 0) (ms : List Message) → AllByRecursion P (map sender_of ms) → AllByRecursion (λ (m : Message). P m.from) ms
by_sender P [] all = tt
by_sender P (m ∷ ms) all = (all.0, by_sender P ms all.1)

differ_by_sender : (ms : List Message) → IsRising (λ m n. m ≢ n) (map sender_of ms) → IsRising (λ (m n : Message). m.from ≢ n.from) ms
differ_by_sender [] up = tt
differ_by_sender (m ∷ ms) up = (by_sender (λ n. m.from ≢ n) ms up.0, differ_by_sender ms up.1)

one_by_sender : (ms : List Message) (n : ℕ) → IsOneOf (λ m. m) (map sender_of ms) n → IsOneOf sender_of ms n
one_by_sender [] n none = none
one_by_sender (m ∷ ms) n (inl same) = inl same
one_by_sender (m ∷ ms) n (inr more) = inr (one_by_sender ms n more)

pub to_pairs : (P : Key → Type 0) (es : List Event) → AllByRecursion (λ (e : Event). P e.key) es → AllByRecursion (λ (e : Key × EventKind). P e.0) (map pair_of es)
to_pairs P [] all = tt
to_pairs P (e ∷ es) all = (all.0, to_pairs P es all.1)

-- the least moment, with that of one message more
least_more : (own first next : Option ℕ) (ms : List Message) (m : Message) → IsLeastOfAll own ms first → ((t : ℕ) → (IsUpTo first t × IsUpTo m.least t) ↔ IsUpTo next t) → IsLeastOfAll own (ms ++ m ∷ []) next
least_more own first next ms m so_far lesser t = (
  λ both. (lesser t).0 ((so_far t).0 (both.0, all_front (λ (n : Message). IsUpTo n.least t) ms (m ∷ []) both.1), (all_back (λ (n : Message). IsUpTo n.least t) ms (m ∷ []) both.1).0),
  λ upto.
      let two = (lesser t).1 upto in
      let old = (so_far t).1 two.0 in
      (old.0, all_append (λ (n : Message). IsUpTo n.least t) ms (m ∷ []) old.1 (two.1, tt)),
)

-- the message that a peer sent is one of its part
word_here : (basis : Basis) (word : WindowMessage) (from to round : ℕ) → IsWord basis word → (word.from ≡ from) × (word.to ≡ to) × (word.round ≡ round)
    → IsMessage (plan_of basis) from to round (map pair_of word.events.items) word.least
word_here basis word from to round is place =
    subst (λ n. IsMessage (plan_of basis) from to n (map pair_of word.events.items) word.least) place.2
    (subst (λ n. IsMessage (plan_of basis) from n word.round (map pair_of word.events.items) word.least) place.1
    (subst (λ n. IsMessage (plan_of basis) n word.to word.round (map pair_of word.events.items) word.least) place.0 is))

-- ---- what is heard so far

module _ {Q : Type 0} (set : Q → FinMap key_cmp Event) (basis : Basis) (own round : ℕ) (told : Option ℕ) (numbers : List ℕ) where
  -- Of the others with these numbers all have been heard but those that are left: the part is as its window left it, with all
  -- that came, and this is the least moment of all that was sent.
  pub record HasHeard (left : List ℕ) (part : Part Q) (first : Option ℕ) : Type 0 where
    pub window : Window State EventKind Row
    pub named : window.part ≡ own
    pub runs : IsWindowOfRound (plan_of basis) round window
    pub after : IsLeastAfter window told
    pub messages : List Message
    pub each : AllByRecursion (λ (m : Message). IsMessage (plan_of basis) m.from own round m.events m.least) messages
    pub senders : map sender_of messages ++ left ≡ numbers
    pub come : world_of set part ≡ with_arrivals window.after (all_events messages)
    pub least : IsLeastOfAll told messages first

  pub heard_none : (part : Part Q) → AfterWindow set basis own round told part → HasHeard numbers part told
  heard_none part is = record {
    window = is.window;
    named = is.own;
    runs = is.runs;
    after = is.least_is;
    messages = [];
    each = tt;
    senders = refl;
    come = sym is.after;
    least = λ t. (λ both. both.0, λ upto. (upto, tt));
  }

  module _ (is : IsBasis basis) (others : AreOthers basis.deal.parts own numbers) where
    -- one other more is heard
    module _ (n : ℕ) (left : List ℕ) (part : Part Q) (first : Option ℕ) (heard : HasHeard (n ∷ left) part first) (events : List Event) (least : Option ℕ)
        (word : IsMessage (plan_of basis) n own round (map pair_of events) least) where
      abbrev message : Message
      message = record { from = n; events = map pair_of events; least = least }

      abbrev more : List Message
      more = heard.messages ++ message ∷ []

      each_more : AllByRecursion (λ (m : Message). IsMessage (plan_of basis) m.from own round m.events m.least) more
      each_more = all_append (λ (m : Message). IsMessage (plan_of basis) m.from own round m.events m.least) heard.messages (message ∷ []) heard.each (word, tt)

      senders_more : map sender_of more ++ left ≡ numbers
      senders_more =
          ap (λ ns. ns ++ left) (map-append sender_of heard.messages (message ∷ [])) ∙ append_assoc (map sender_of heard.messages) (n ∷ []) left ∙ heard.senders

      each_here : AllByRecursion (λ (m : Message). IsMessage (plan_of basis) m.from heard.window.part round m.events m.least) more
      each_here = subst (λ to. AllByRecursion (λ (m : Message). IsMessage (plan_of basis) m.from to round m.events m.least) more) (sym heard.named) each_more

      others_here : AllByRecursion (λ (m : Message). heard.window.part ≢ m.from) more
      others_here =
          by_sender (λ n. heard.window.part ≢ n) more
          (all_weaker (λ n. (n ≢ own) × (n < basis.deal.parts)) (λ n. heard.window.part ≢ n) (λ n other same. other.0 (sym same ∙ heard.named)) (map sender_of more)
          (all_front (λ n. (n ≢ own) × (n < basis.deal.parts)) (map sender_of more) left (subst (AllByRecursion (λ n. (n ≢ own) × (n < basis.deal.parts))) (sym senders_more) others.others)))

      differ_here : IsRising (λ (m n : Message). m.from ≢ n.from) more
      differ_here = differ_by_sender more (rising_front (λ m n. m ≢ n) (map sender_of more) left (subst (IsRising (λ m n. m ≢ n)) (sym senders_more) others.different))

      -- its events are new, and for members of the part
      new_next : AreNew (world_of set part).pending (map pair_of events)
      new_next =
          subst (λ (w : Cluster). AreNew w.pending (map pair_of events)) (sym heard.come)
          (new_behind (all_events heard.messages) (map pair_of events) heard.window.after.pending
          (subst (AreNew heard.window.after.pending) (events_more heard.messages message)
          (new_so_far (plan_of basis) round heard.window more is.plan heard.runs each_here others_here differ_here)))

      own_next : own < basis.deal.parts → AllByRecursion (λ (e : Event). is_own (world_of set part) e.key.to ≡ true) events
      own_next low =
          of_events (λ k. is_own (world_of set part) k.to ≡ true) events
          (subst (λ (w : Cluster). AllByRecursion (λ (e : Key × EventKind). is_own w e.0.to ≡ true) (map pair_of events)) (sym heard.come)
          (all_back (λ (e : Key × EventKind). is_own heard.window.after e.0.to ≡ true) (all_events heard.messages) (map pair_of events)
          (subst (AllByRecursion (λ (e : Key × EventKind). is_own heard.window.after e.0.to ≡ true)) (events_more heard.messages message)
          (own_so_far (plan_of basis) round heard.window more is.plan (subst (λ n. n < basis.deal.parts) (sym heard.named) low) heard.runs each_here))))

      heard_next : (after : Part Q) (next : Option ℕ) → world_of set after ≡ with_arrivals (world_of set part) (map pair_of events) → ((t : ℕ) → (IsUpTo first t × IsUpTo least t) ↔ IsUpTo next t)
          → HasHeard left after next
      heard_next after next came lesser = record {
        window = heard.window;
        named = heard.named;
        runs = heard.runs;
        after = heard.after;
        messages = more;
        each = each_more;
        senders = senders_more;
        come =
            came ∙ ap (λ (w : Cluster). with_arrivals w (map pair_of events)) heard.come ∙ joined_joined heard.window.after (all_events heard.messages) (map pair_of events)
            ∙ ap (with_arrivals heard.window.after) (sym (events_more heard.messages message));
        least = least_more told first next heard.messages message heard.least lesser;
      }

    -- the word of the next one that is heard
    module _ {A : Type 0} (number : A → ℕ) (peers : List A) (i : ℕ) (d : A) (so_far : map number peers ≡ numbers) (low : i < length peers) (part : Part Q) (first : Option ℕ)
        (heard : HasHeard (drop i numbers) part first) (word : WindowMessage) (told_it : IsWord basis word) (place : (word.from ≡ number (get_or peers i d)) × (word.to ≡ own) × (word.round ≡ round)) where
      abbrev n : ℕ
      n = number (get_or peers i d)

      abbrev left : List ℕ
      left = drop (i + 1) numbers

      here : HasHeard (n ∷ left) part first
      here = subst (λ ns. HasHeard ns part first) (next_to_come number peers numbers i d so_far low) heard

      as_message : IsMessage (plan_of basis) n own round (map pair_of word.events.items) word.least
      as_message = word_here basis word n own round told_it place

      pub word_new : AreNew (world_of set part).pending (map pair_of word.events.items)
      word_new = new_next n left part first here word.events.items word.least as_message

      pub word_own : own < basis.deal.parts → AllByRecursion (λ (e : Event). is_own (world_of set part) e.key.to ≡ true) word.events.items
      word_own = own_next n left part first here word.events.items word.least as_message

      pub word_heard : (after : Part Q) (next : Option ℕ) → world_of set after ≡ with_arrivals (world_of set part) (map pair_of word.events.items)
          → ((t : ℕ) → (IsUpTo first t × IsUpTo word.least t) ↔ IsUpTo next t) → HasHeard left after next
      word_heard = heard_next n left part first here word.events.items word.least as_message

    -- once all others are heard, the part begins the next round
    pub heard_all : own < basis.deal.parts → (part : Part Q) (first : Option ℕ) → HasHeard [] part first → Begins set basis own (round + 1) first part
    heard_all low part first heard =
        subst (λ (w : Cluster). BeginsRound (plan_of basis) own (round + 1) first w) (sym heard.come)
        (subst (λ n. BeginsRound (plan_of basis) n (round + 1) first (with_arrivals heard.window.after (all_events heard.messages))) heard.named
        (next_round (plan_of basis) round heard.window heard.messages told first is.plan (subst (λ n. n < basis.deal.parts) (sym heard.named) low) heard.runs of_all heard.after heard.least))
      where
        senders : map sender_of heard.messages ≡ numbers
        senders = sym (append-nil (map sender_of heard.messages)) ∙ heard.senders

        of_all : AreOfAllOthers (plan_of basis) heard.window.part round heard.messages
        of_all = record {
          each = subst (λ to. AllByRecursion (λ (m : Message). IsMessage (plan_of basis) m.from to round m.events m.least) heard.messages) (sym heard.named) heard.each;
          others =
              by_sender (λ n. (heard.window.part ≢ n) × (n < basis.deal.parts)) heard.messages
              (all_weaker (λ n. (n ≢ own) × (n < basis.deal.parts)) (λ n. (heard.window.part ≢ n) × (n < basis.deal.parts)) (λ n other. ((λ same. other.0 (sym same ∙ heard.named)), other.1)) (map sender_of heard.messages)
              (subst (AllByRecursion (λ n. (n ≢ own) × (n < basis.deal.parts))) (sym senders) others.others));
          different = differ_by_sender heard.messages (subst (IsRising (λ m n. m ≢ n)) (sym senders) others.different);
          complete = λ other low. by_number other (others.complete other low);
        }
          where
            by_number : (n : ℕ) → (own ≡ n) ⊎ IsOneOf (λ m. m) numbers n → (heard.window.part ≡ n) ⊎ IsOneOf sender_of heard.messages n
            by_number n (inl same) = inl (heard.named ∙ same)
            by_number n (inr one) = inr (one_by_sender heard.messages n (subst (λ ns. IsOneOf (λ m. m) ns n) (sym senders) one))
