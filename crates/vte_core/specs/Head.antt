-- The head of a control sequence or a device control string: the bytes 20..3F (ECMA-48, section
-- 5.4).
use Rattle.std.specs.List.{filter, list_all}
use Rattle.std.specs.Prelude.{Bool, if◌then◌else◌, List, not, ℕ, [], ◌++◌, ◌||◌, ◌∷◌}
use Rattle.vte_core.specs.Class.{class_of, is_head_byte, is_intermediate, is_marker, is_parameter_byte}
use Rattle.vte_core.specs.CutBefore.{cut_before}
use Rattle.vte_core.specs.Event.{Event}
use Rattle.vte_core.specs.Intermediates.{are_too_many, kept_intermediates}
use Rattle.vte_core.specs.Parameters.{groups_of, has_too_many_numbers}

-- A head: an optional private marker, then parameter bytes, then the rest, which should be
-- intermediates.
pub record Head : Type 0 where
  pub marker : List ℕ
  pub parameter_text : List ℕ
  pub tail : List ℕ

-- The head after its marker.
abbrev pub head_after : List ℕ → List ℕ → Head
head_after marker bytes =
    let cut = cut_before (λ b. not (is_parameter_byte (class_of b))) bytes in
    record { marker = marker; parameter_text = cut.before; tail = cut.rest }

-- Only the first byte can be the marker.
unfoldable pub head_of : List ℕ → Head
head_of [] = head_after [] []
head_of (b ∷ bytes) =
    if is_marker (class_of b) then head_after (b ∷ []) bytes else head_after [] (b ∷ bytes)

-- Only intermediates follow the parameters.
unfoldable pub is_well_shaped : Head → Bool
is_well_shaped head = list_all (λ b. is_intermediate (class_of b)) head.tail

-- A dispatch reports the marker as the first intermediate.
abbrev pub reported_intermediates : Head → List ℕ
reported_intermediates head = head.marker ++ head.tail

-- The event of a well-shaped head: groups, intermediates, whether there were too many of either,
-- final byte.
unfoldable pub sequence_event : (List (List ℕ) → List ℕ → Bool → ℕ → Event) → Head → ℕ → Event
sequence_event event head final =
    event (groups_of head.parameter_text) (kept_intermediates (reported_intermediates head))
    (are_too_many (reported_intermediates head) || has_too_many_numbers head.parameter_text) final

-- The bytes 20..3F.
abbrev pub head_bytes : List ℕ → List ℕ
head_bytes bytes = filter (λ b. is_head_byte (class_of b)) bytes
