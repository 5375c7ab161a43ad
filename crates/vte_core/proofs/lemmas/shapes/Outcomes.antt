-- Events that are reported first pass unchanged through what follows: by the definition of `report`, body by body.
use Rattle.vte_core.proofs.Common.{ap, append_assoc, arith, Event, List, Option, Outcome, refl, report, rules, with_bodies, ℕ, [], ◌++◌, ◌∷◌, ◌≡◌}

-- Two lists of events, reported one after the other, are reported as one.
pub report-append : (events others : List Event) (outcome : Outcome)
    → report (events ++ others) outcome ≡ report events (report others outcome)
report-append events others outcome =
    ap (λ (all : List Event). record { reported = all; to_close = outcome.to_close })
    (append_assoc events others outcome.reported)

-- What the first part reports first, the stream reports first.
pub with_bodies-report : (limit : Option ℕ) (events : List Event) (part : Outcome) (bodies : List (List ℕ))
    → with_bodies limit (report events part) bodies ≡ report events (with_bodies limit part bodies)
with_bodies-report limit events part [] = refl
with_bodies-report limit events part (body ∷ bodies) = search (rules, arith, append_assoc, report-append)
