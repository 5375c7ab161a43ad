-- From inside the character the byte goes on with it, completes it, or breaks it: then the call goes on with the byte
-- from between characters.
use Rattle.vte_core.proofs.Common.{arith, ChunkCall, HasReadWithLimit, IsAtPosition, List, Machine, OpenCharacter, refl, Text, ℕ, ◌≡◌}
use Rattle.vte_core.proofs.lemmas.positions.CallEnds.{starts-inside}
use Rattle.vte_core.proofs.lemmas.positions.Characters.{completes-all, completes-malformed, completes-well_formed, goes_on-more, goes_on-nowhere}
use Rattle.vte_core.proofs.parser.machine.Machine.read_continuing_byte.Goals as goal
use Rattle.vte_core.specs.private.Prelude.{Completes}

from_start : {V B : Type 0} {call : ChunkCall V} {old new : V} {j : ℕ} {opened : OpenCharacter}
    {before next : Machine B} → before.state ≡ Text opened → Completes call old new 0 j opened next
    → (stream : List ℕ) → HasReadWithLimit call.limit before stream → IsAtPosition call old new stream j next
from_start in_state completes stream has_read =
    completes.is_at_position _ stream _ in_state (starts-inside has_read)

pub returns-in-Truncated-clause-is_at_position : goal.returns-in-Truncated-clause-is_at_position
returns-in-Truncated-clause-is_at_position g c =
    from_start c.requires.in_state
    (completes-all
    (goes_on-more {next = c.args.self.now} (goes_on-nowhere c.args.self.now c.requires.some_open)
    c.in-Truncated.ensures (omega (arith, c.requires.one_byte)) c.byte_at-byte.ensures.value)
    refl (omega (arith, c.requires.one_byte)))

pub returns-in-WellFormed-clause-is_at_position : goal.returns-in-WellFormed-clause-is_at_position
returns-in-WellFormed-clause-is_at_position g c =
    from_start c.requires.in_state
    (completes-well_formed (goes_on-nowhere c.args.self.now c.requires.some_open) c.in-WellFormed.ensures refl
    c.report_character.ensures.value (omega (arith, c.requires.one_byte)) c.byte_at-byte.ensures.value refl)

pub returns-in-Malformed-clause-is_at_position : goal.returns-in-Malformed-clause-is_at_position
returns-in-Malformed-clause-is_at_position g c = λ stream has_read.
    c.read_breaking_byte.ensures.advances.is_at_position _ stream
    (from_start c.requires.in_state
    (completes-malformed (goes_on-nowhere c.args.self.now c.requires.some_open) c.in-Malformed.ensures refl
    refl (omega (arith, c.requires.one_byte)) c.byte_at-byte.ensures.value)
    stream has_read)
