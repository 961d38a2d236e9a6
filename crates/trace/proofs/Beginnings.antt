-- What is appended piece by piece: beginnings of one text, and of one text after another.
use Rattle.std.proofs.Common.{◌≡◌, ℕ, List, [], ◌++◌, Some, None, refl, sym, ap, ◌∙◌, append_assoc, append-nil, subst}
use Rattle.std.specs.Prelude.{Option}
use Rattle.std.specs.Io.KnownBytes.{Appends, Keeps}
use Rattle.trace.specs.Sinks.{AppendsBeginning}

-- what stays appended nothing
pub Appends-none : (a b : Option (List ℕ)) → Keeps a b → Appends a b []
Appends-none None b kept = tt
Appends-none (Some x) None kept = absurd kept
Appends-none (Some x) (Some y) kept = kept ∙ sym (append-nil x)

-- a call that appends nothing changes no known byte
pub Keeps-same : (a : Option (List ℕ)) → Keeps a a
Keeps-same None = tt
Keeps-same (Some x) = refl

-- one text, and then another
pub Appends-then : (a b c : Option (List ℕ)) (first second : List ℕ) → Appends a b first → Appends b c second → Appends a c (first ++ second)
Appends-then None b c first second p q = tt
Appends-then (Some x) None c first second p q = absurd p
Appends-then (Some x) (Some y) None first second p q = absurd q
Appends-then (Some x) (Some y) (Some z) first second p q = q ∙ ap (λ l. l ++ second) p ∙ append_assoc x first second

-- one text, and then nothing, as by a flush
pub Appends-kept : (a b c : Option (List ℕ)) (text : List ℕ) → Appends a b text → Keeps b c → Appends a c text
Appends-kept None b c text p q = tt
Appends-kept (Some x) None c text p q = absurd p
Appends-kept (Some x) (Some y) None text p q = absurd q
Appends-kept (Some x) (Some y) (Some z) text p q = q ∙ p

-- nothing is a beginning of any text
pub beginning-none : (a b : Option (List ℕ)) (text : List ℕ) → Keeps a b → AppendsBeginning a b text
beginning-none a b text kept = record { front = []; rest = text; whole = refl; appends = Appends-none a b kept }

-- the whole text is a beginning of it
pub beginning-whole : (a b : Option (List ℕ)) (text : List ℕ) → Appends a b text → AppendsBeginning a b text
beginning-whole a b text p = record { front = text; rest = []; whole = append-nil text; appends = p }

-- a beginning of the first text is one of both
pub beginning-first : (a b : Option (List ℕ)) (first second : List ℕ) → AppendsBeginning a b first → AppendsBeginning a b (first ++ second)
beginning-first a b first second p =
    record { front = p.front; rest = p.rest ++ second; whole = sym (append_assoc p.front p.rest second) ∙ ap (λ l. l ++ second) p.whole; appends = p.appends }

-- the whole first text, and then a beginning of the second
pub beginning-then : (a b c : Option (List ℕ)) (first second : List ℕ) → Appends a b first → AppendsBeginning b c second → AppendsBeginning a c (first ++ second)
beginning-then a b c first second p q =
    record {
      front = first ++ q.front;
      rest = q.rest;
      whole = append_assoc first q.front q.rest ∙ ap (λ l. first ++ l) q.whole;
      appends = Appends-then a b c first q.front p q.appends;
    }

-- a beginning, and then nothing, as by a flush
pub beginning-kept : (a b c : Option (List ℕ)) (text : List ℕ) → AppendsBeginning a b text → Keeps b c → AppendsBeginning a c text
beginning-kept a b c text p q =
    record { front = p.front; rest = p.rest; whole = p.whole; appends = Appends-kept a b c p.front p.appends q }

-- the same of an equal text
pub beginning-of : (a b : Option (List ℕ)) (text same : List ℕ) → text ≡ same → AppendsBeginning a b text → AppendsBeginning a b same
beginning-of a b text same e p = subst (AppendsBeginning a b) e p
