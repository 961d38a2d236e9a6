-- A suspicion as the tuple of its parts.
use Rattle.std.specs.Prelude.{ℕ, List, refl}
use Rattle.std.specs.Coded.{Coded, code_by, coded×, coded_ℕ, coded_list}
use Rattle.suspicion.specs.declared.terms.Terms.{Terms}
use Rattle.suspicion.specs.Suspicions.{HeldSuspicion}

abbrev pub suspicion_code : Coded Terms → Coded HeldSuspicion
suspicion_code terms_code =
    code_by (Terms × (ℕ × (ℕ × (ℕ × (List ℕ × ℕ)))))
    (coded× terms_code (coded× coded_ℕ (coded× coded_ℕ (coded× coded_ℕ (coded× (coded_list coded_ℕ) coded_ℕ)))))
    (λ s. (s.terms, (s.members, (s.since, (s.first, (s.further, s.timer))))))
    (λ p. record { terms = p.0; members = p.1.0; since = p.1.1.0; first = p.1.1.1.0; further = p.1.1.1.1.0; timer = p.1.1.1.1.1 })
    (λ _. refl)
