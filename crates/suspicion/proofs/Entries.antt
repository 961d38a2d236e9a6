-- The entries of a tree of suspicions, as a finite map.
use Rattle.std.proofs.Common.{◌≡◌, ◌==◌, ℕ, Bool, true, false, cond, List, [], ◌∷◌, map, refl, sym, ap, ◌∙◌, Option, Some, None}
use Rattle.std.specs.Option.{option_map, option_map_or, option_and_then, unwrap_or}
use Rattle.std.specs.Ordering.{nat_cmp, eq_by_cmp}
use Rattle.std.specs.Cmp.{nat_cmp_total, eq_by_cmp_equiv}
use Rattle.std.specs.Map.{lookup}
use Rattle.std.proofs.lemmas.Map.Lookups.{exact_unsigned}
use Rattle.std.proofs.lemmas.Map.Views.{tells_apart}
use Rattle.std.specs.BTreeMap.{is_at}
use Rattle.std.specs.FinMap.{find, get, insert, remove, get-from_entries, get-insert, get-remove, same_map, nat_cmp-IsAntisymmetric}
use Rattle.suspicion.specs.declared.standing.Standing.{Standing}
use Rattle.suspicion.specs.Suspicions.{HeldSuspicion, HeldSuspicions, accused, accused_of, after_accusation, is_due, is_over, is_over_of, first_accuser_of}
use Rattle.suspicion.specs.SuspicionOf.{suspicion_of, held_of}

-- the entry of a subject
abbrev pub found : List (ℕ × Standing) → ℕ → Option Standing
found es q = lookup (is_at (nat_cmp q)) es

map-cond : (b : Bool) (s : Standing) (o : Option Standing) → cond b (Some (suspicion_of s)) (option_map suspicion_of o) ≡ option_map suspicion_of (cond b (Some s) o)
map-cond true s o = refl
map-cond false s o = refl

none-cond : (b : Bool) (o : Option Standing) → option_map suspicion_of (cond b None o) ≡ cond b None (option_map suspicion_of o)
none-cond true o = refl
none-cond false o = refl

find-map : (es : List (ℕ × Standing)) (q : ℕ) → find nat_cmp q (map (λ e. (e.0, suspicion_of e.1)) es) ≡ option_map suspicion_of (found es q)
find-map [] q = refl
find-map (e ∷ es) q =
    ap (λ o. cond (eq_by_cmp nat_cmp q e.0) (Some (suspicion_of e.1)) o) (find-map es q) ∙ map-cond (eq_by_cmp nat_cmp q e.0) e.1 (found es q)

-- what the map has at a subject
pub get-held_of : (es : List (ℕ × Standing)) (q : ℕ) → get (held_of es) q ≡ option_map suspicion_of (found es q)
get-held_of es q = get-from_entries nat_cmp_total (map (λ e. (e.0, suspicion_of e.1)) es) q ∙ find-map es q

turn : (k q : ℕ) → eq_by_cmp nat_cmp k q ≡ eq_by_cmp nat_cmp q k
turn k q = (eq_by_cmp_equiv nat_cmp_total).symm k q

-- an entry put into the tree is put into the map
pub held_of-insert : (old new : List (ℕ × Standing)) (k : ℕ) (s : Standing)
    → ((q : ℕ) → found new q ≡ cond (eq_by_cmp nat_cmp k q) (Some s) (found old q)) → held_of new ≡ insert (held_of old) k (suspicion_of s)
held_of-insert old new k s is =
    same_map nat_cmp_total nat_cmp-IsAntisymmetric _ _ (λ q.
    get-held_of new q ∙ ap (option_map suspicion_of) (is q) ∙ sym (map-cond (eq_by_cmp nat_cmp k q) s (found old q))
    ∙ ap (λ b. cond b (Some (suspicion_of s)) (option_map suspicion_of (found old q))) (turn k q)
    ∙ ap (cond (eq_by_cmp nat_cmp q k) (Some (suspicion_of s))) (sym (get-held_of old q)) ∙ sym (get-insert nat_cmp_total (held_of old) k (suspicion_of s) q))

-- and one taken out is taken out
pub held_of-remove : (old new : List (ℕ × Standing)) (k : ℕ)
    → ((q : ℕ) → found new q ≡ cond (eq_by_cmp nat_cmp k q) None (found old q)) → held_of new ≡ remove (held_of old) k
held_of-remove old new k is =
    same_map nat_cmp_total nat_cmp-IsAntisymmetric _ _ (λ q.
    get-held_of new q ∙ ap (option_map suspicion_of) (is q) ∙ none-cond (eq_by_cmp nat_cmp k q) (found old q)
    ∙ ap (λ b. cond b None (option_map suspicion_of (found old q))) (turn k q)
    ∙ ap (cond (eq_by_cmp nat_cmp q k) None) (sym (get-held_of old q)) ∙ sym (get-remove nat_cmp_total (held_of old) k q))

-- an accusation of a suspect
pub accused_of-found : (es : List (ℕ × Standing)) (q accuser generation : ℕ) (s : Standing) → Some s ≡ found es q
    → accused_of (held_of es) q accuser generation ≡ accused (suspicion_of s) accuser generation
accused_of-found es q accuser generation s here =
    ap (λ o. option_and_then (λ s. accused s accuser generation) o) (get-held_of es q ∙ ap (option_map suspicion_of) (sym here))

-- and of a member that nobody suspects
pub accused_of-none : (es : List (ℕ × Standing)) (q accuser generation : ℕ) → None ≡ found es q → accused_of (held_of es) q accuser generation ≡ None
accused_of-none es q accuser generation none =
    ap (λ o. option_and_then (λ s. accused s accuser generation) o) (get-held_of es q ∙ ap (option_map suspicion_of) (sym none))

same_there : (held : HeldSuspicions) (k q : ℕ) (s : HeldSuspicion) → get held k ≡ Some s → (b : Bool) → eq_by_cmp nat_cmp q k ≡ b → cond b (Some s) (get held q) ≡ get held q
same_there held k q s here true e = sym here ∙ ap (get held) (sym (tells_apart exact_unsigned q k e))
same_there held k q s here false e = refl

-- to put in again what is there changes nothing
insert_again : (held : HeldSuspicions) (k : ℕ) (s : HeldSuspicion) → get held k ≡ Some s → insert held k s ≡ held
insert_again held k s here =
    same_map nat_cmp_total nat_cmp-IsAntisymmetric _ _ (λ q. get-insert nat_cmp_total held k s q ∙ same_there held k q s here (eq_by_cmp nat_cmp q k) refl)

after_one : (held : HeldSuspicions) (k : ℕ) (s t : HeldSuspicion) (o : Option HeldSuspicion) → get held k ≡ Some s → t ≡ unwrap_or o s → insert held k t ≡ option_map_or (insert held k) o held
after_one held k s t None here is = ap (insert held k) is ∙ insert_again held k s here
after_one held k s t (Some u) here is = ap (insert held k) is

-- what is written in the tree where one accuses
pub after_accusation-found : (old new : List (ℕ × Standing)) (q accuser generation : ℕ) (s t : Standing) → Some s ≡ found old q
    → suspicion_of t ≡ unwrap_or (accused (suspicion_of s) accuser generation) (suspicion_of s)
    → ((r : ℕ) → found new r ≡ cond (eq_by_cmp nat_cmp q r) (Some t) (found old r))
    → held_of new ≡ after_accusation (held_of old) q accuser generation
after_accusation-found old new q accuser generation s t here is written =
    held_of-insert old new q t written
    ∙ after_one (held_of old) q (suspicion_of s) (suspicion_of t) (accused (suspicion_of s) accuser generation) (get-held_of old q ∙ ap (option_map suspicion_of) (sym here)) is
    ∙ ap (λ o. option_map_or (insert (held_of old) q) o (held_of old)) (sym (accused_of-found old q accuser generation s here))

pub after_accusation-none : (es : List (ℕ × Standing)) (q accuser generation : ℕ) → None ≡ found es q → held_of es ≡ after_accusation (held_of es) q accuser generation
after_accusation-none es q accuser generation none =
    ap (λ o. option_map_or (insert (held_of es) q) o (held_of es)) (sym (accused_of-none es q accuser generation none))

-- a suspect's timer and first accuser
pub is_due-found : (es : List (ℕ × Standing)) (q generation : ℕ) (o : Option Standing) → o ≡ found es q
    → is_due (held_of es) q generation ≡ option_map_or (λ s. s.timer == generation) (option_map suspicion_of o) false
is_due-found es q generation o here =
    ap (λ p. option_map_or (λ s. s.timer == generation) p false) (get-held_of es q ∙ ap (option_map suspicion_of) (sym here))

pub first_accuser_of-found : (es : List (ℕ × Standing)) (q : ℕ) (o : Option Standing) → o ≡ found es q → first_accuser_of (held_of es) q ≡ option_map (λ s. s.first) (option_map suspicion_of o)
first_accuser_of-found es q o here = ap (option_map (λ s. s.first)) (get-held_of es q ∙ ap (option_map suspicion_of) (sym here))

-- whether a suspect's time is over
pub is_over_of-found : (es : List (ℕ × Standing)) (q now : ℕ) (o : Option Standing) → o ≡ found es q
    → is_over_of (held_of es) q now ≡ option_map_or (λ s. is_over s now) (option_map suspicion_of o) false
is_over_of-found es q now o here =
    ap (λ p. option_map_or (λ s. is_over s now) p false) (get-held_of es q ∙ ap (option_map suspicion_of) (sym here))
