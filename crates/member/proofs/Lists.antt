-- Updates applied and messages sent one after another.
use Rattle.std.proofs.Common.{◌≡◌, ℕ, ◌+◌, ◌<◌, List, [], ◌∷◌, ◌++◌, length, get_or, take, drop, map, refl, sym, ap, subst, ◌∙◌}
use Rattle.std.proofs.lemmas.List.{take_more, take-append-drop, map-append}
use Rattle.base.specs.declared.key.Key.{Key}
use Rattle.scenario.specs.Setup.{Setup}
use Rattle.incarnation.specs.declared.Update.{Update}
use Rattle.member.specs.declared.announce.Announce.{Announce}
use Rattle.member.specs.Effects.{Effect}
use Rattle.member.specs.Apply.{applied, all_applied}
use Rattle.member.specs.Send.{sent_to_each}
use Rattle.member.specs.CounterOverflow.{IsOverflowed}
use Rattle.member.proofs.CounterOverflow.{kept_all, kept_each}

-- the items up to the one at a place, with it
pub take_item : {A : Type 0} (xs : List A) (i : ℕ) (x : A) → i < length xs → x ≡ get_or xs i x → take (i + 1) xs ≡ take i xs ++ x ∷ []
take_item xs i x h is = take_more xs i x h ∙ ap (λ y. take i xs ++ y ∷ []) (sym is)

module _ (s : Setup) (telling : Announce) (k : Key) where
  all_append : (us vs : List Update) (o : Effect) → all_applied s telling k (us ++ vs) o ≡ all_applied s telling k vs (all_applied s telling k us o)
  unfolding all_applied
  all_append [] vs o = refl
  all_append (u ∷ us) vs o = all_append us vs (applied s telling k u o)

  one_more : (us : List Update) (u : Update) (o : Effect) → all_applied s telling k (us ++ u ∷ []) o ≡ applied s telling k u (all_applied s telling k us o)
  unfolding all_applied
  one_more us u o = all_append us (u ∷ []) o

  -- the next update is applied
  pub applied_next : (us : List Update) (i : ℕ) (u : Update) (o p q : Effect) → i < length us → u ≡ get_or us i u
      → p ≡ all_applied s telling k (take i us) o → q ≡ applied s telling k u p → q ≡ all_applied s telling k (take (i + 1) us) o
  applied_next us i u o p q h is so_far next =
      next ∙ ap (applied s telling k u) so_far ∙ sym (one_more (take i us) u o) ∙ ap (λ l. all_applied s telling k l o) (sym (take_item us i u h is))

  -- a counter that overflows with one of the updates overflows with all
  pub applied_overflow : (us : List Update) (i : ℕ) (u : Update) (o p : Effect) → i < length us → u ≡ get_or us i u
      → p ≡ all_applied s telling k (take i us) o → IsOverflowed (applied s telling k u p).state → IsOverflowed (all_applied s telling k us o).state
  applied_overflow us i u o p h is so_far overflow =
      let there : IsOverflowed (all_applied s telling k (take (i + 1) us) o).state = subst (λ (q : Effect). IsOverflowed q.state) (applied_next us i u o p _ h is so_far refl) overflow in
      subst (λ l. IsOverflowed (all_applied s telling k l o).state) (take-append-drop (i + 1) us)
      (subst (λ (q : Effect). IsOverflowed q.state) (sym (all_append (take (i + 1) us) (drop (i + 1) us) o)) (kept_all s telling k (drop (i + 1) us) _ there))

  module _ (f : Update → Update) where
    -- the next update is applied as it is taken
    pub turned_next : (us : List Update) (i : ℕ) (u : Update) (o p q : Effect) → i < length us → u ≡ get_or us i u
        → p ≡ all_applied s telling k (map f (take i us)) o → q ≡ applied s telling k (f u) p → q ≡ all_applied s telling k (map f (take (i + 1) us)) o
    turned_next us i u o p q h is so_far next =
        next ∙ ap (applied s telling k (f u)) so_far ∙ sym (one_more (map f (take i us)) (f u) o)
        ∙ ap (λ l. all_applied s telling k l o) (sym (map-append f (take i us) (u ∷ [])) ∙ ap (map f) (sym (take_item us i u h is)))

    -- a counter that overflows with one of them overflows with all
    pub turned_overflow : (us : List Update) (i : ℕ) (u : Update) (o p : Effect) → i < length us → u ≡ get_or us i u
        → p ≡ all_applied s telling k (map f (take i us)) o → IsOverflowed (applied s telling k (f u) p).state → IsOverflowed (all_applied s telling k (map f us) o).state
    turned_overflow us i u o p h is so_far overflow =
        let there : IsOverflowed (all_applied s telling k (map f (take (i + 1) us)) o).state = subst (λ (q : Effect). IsOverflowed q.state) (turned_next us i u o p _ h is so_far refl) overflow in
        subst (λ l. IsOverflowed (all_applied s telling k l o).state) (sym (map-append f (take (i + 1) us) (drop (i + 1) us)) ∙ ap (map f) (take-append-drop (i + 1) us))
        (subst (λ (q : Effect). IsOverflowed q.state) (sym (all_append (map f (take (i + 1) us)) (map f (drop (i + 1) us)) o)) (kept_all s telling k (map f (drop (i + 1) us)) _ there))

module _ (send : ℕ → Effect → Effect) where
  each_append : (hs gs : List ℕ) (o : Effect) → sent_to_each send (hs ++ gs) o ≡ sent_to_each send gs (sent_to_each send hs o)
  unfolding sent_to_each
  each_append [] gs o = refl
  each_append (h ∷ hs) gs o = each_append hs gs (send h o)

  each_one : (hs : List ℕ) (h : ℕ) (o : Effect) → sent_to_each send (hs ++ h ∷ []) o ≡ send h (sent_to_each send hs o)
  unfolding sent_to_each
  each_one hs h o = each_append hs (h ∷ []) o

  -- the next message is sent
  pub sent_next : (hs : List ℕ) (i : ℕ) (h : ℕ) (o p q : Effect) → i < length hs → h ≡ get_or hs i h
      → p ≡ sent_to_each send (take i hs) o → q ≡ send h p → q ≡ sent_to_each send (take (i + 1) hs) o
  sent_next hs i h o p q lt is so_far next =
      next ∙ ap (send h) so_far ∙ sym (each_one (take i hs) h o) ∙ ap (λ l. sent_to_each send l o) (sym (take_item hs i h lt is))

  -- a counter that overflows with one of the messages overflows with all
  pub sent_overflow : ((to : ℕ) (o : Effect) → IsOverflowed o.state → IsOverflowed (send to o).state) → (hs : List ℕ) (i : ℕ) (h : ℕ) (o p : Effect) → i < length hs → h ≡ get_or hs i h
      → p ≡ sent_to_each send (take i hs) o → IsOverflowed (send h p).state → IsOverflowed (sent_to_each send hs o).state
  sent_overflow kept hs i h o p lt is so_far overflow =
      let there : IsOverflowed (sent_to_each send (take (i + 1) hs) o).state = subst (λ (q : Effect). IsOverflowed q.state) (sent_next hs i h o p _ lt is so_far refl) overflow in
      subst (λ l. IsOverflowed (sent_to_each send l o).state) (take-append-drop (i + 1) hs)
      (subst (λ (q : Effect). IsOverflowed q.state) (sym (each_append (take (i + 1) hs) (drop (i + 1) hs) o)) (kept_each send kept (drop (i + 1) hs) _ there))
