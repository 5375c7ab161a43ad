-- The events of the stream are those of its parts (`events_of_parts`), and the text of joined events is joined.
use Rattle.event_log.proofs.Common.{ap, flat_map, flat_map-append, List, refl, sym, ℕ, [], ◌++◌, ◌∙◌, ◌∷◌, ◌≡◌}
use Rattle.event_log.proofs.laws.text_of_parts.Goals as goal
use Rattle.event_log.specs.Plain.{plain_text, plain_text_of}
use Rattle.vte_core.specs.Event.{Event}
use Rattle.vte_core.specs.Stream.{events}

texts-joined : (events_of : List ℕ → List Event) (parts : List (List ℕ))
    → flat_map (λ part. plain_text (events_of part)) parts ≡ plain_text (flat_map events_of parts)
texts-joined events_of [] = refl
texts-joined events_of (part ∷ parts) =
    ap (λ text. plain_text (events_of part) ++ text) (texts-joined events_of parts)
    ∙ sym (flat_map-append plain_text_of (events_of part) (flat_map events_of parts))

pub returns : goal.returns
returns c = λ limit stream cuts are_cuts.
    texts-joined (events limit) _ ∙ ap plain_text (c.events_of_parts.ensures.parts limit stream cuts are_cuts)
