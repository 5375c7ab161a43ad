-- From the start of the call the byte leads to its end, unless memory is refused for it.
use Rattle.vte_core.proofs.Common.{Advances, arith, ChunkCall, Err, IfErr, IfOk, IsSettled, length, looks_of, Machine, Ok, Result, ℕ, ◌≡◌}
use Rattle.vte_core.proofs.lemmas.positions.CallEnds.{call_ends-with_all, starts-at}
use Rattle.vte_core.proofs.lemmas.positions.SettledStates.{settled-nothing, settled-outside, settled-same_state}
use Rattle.vte_core.proofs.parser.machine.Machine.drive_single_byte.Goals as goal
use Rattle.vte_core.specs.declared.parser.refused.Refused.{Refused}
use Rattle.vte_core.specs.declared.reader.Reader.{Reader}
use Rattle.vte_core.specs.private.Prelude.{caller_looks, IsRefusedAt, per_byte, read_count, ReadsCall, ReadsWithin}

-- If no character is open, a stretch of one byte is the call.
reads_call-one : {V B outside : Type 0} {call : ChunkCall V} {old new : V} {before next : Machine B}
    (old_reader new_reader : Reader) (result : Result ℕ Refused) → length call.bytes ≡ 1 → IsSettled before.state
    → Advances outside call old new 0 (read_count result) before next
    → IfOk result
    (λ read. ReadsWithin (per_byte 5) (caller_looks 0) call.bytes 0 read before next old_reader new_reader)
    → IfErr result (λ refused. IsRefusedAt call new 0 refused.read before next old_reader new_reader)
    → ReadsCall call old new result before next (looks_of old_reader) (looks_of new_reader)
reads_call-one old_reader new_reader (Ok read) one_byte settled advances reads_within refuses =
    let spends = reads_within.spends in
    record {
      reads = call_ends-with_all
          (omega (arith, one_byte, spends.within, reads_within.reads_some (omega (arith, one_byte))))
          (λ stream has_read. advances.is_at_position _ stream (starts-at settled has_read));
      refuses = tt;
      costs = record {
        looks_at_most = omega (arith, one_byte, spends.looks_at_most, spends.within);
        looks_at_most_if_ok = omega (arith, spends.looks_at_most);
        looks_at_least = omega (arith, spends.looks_at_least);
        keeps_memory = spends.keeps_memory;
      };
    }
reads_call-one old_reader new_reader (Err refused) one_byte settled advances reads_within refuses = record {
  reads = tt;
  refuses = record {
    before_end = omega (arith, one_byte, refuses.stays);
    is_at_position = λ stream has_read. advances.is_at_position _ stream (starts-at settled has_read);
    may_go_on = refuses.may_go_on;
    refused = refuses.refused;
  };
  costs = record {
    looks_at_most = omega (arith, one_byte, refuses.looks_at_most);
    looks_at_most_if_ok = tt;
    looks_at_least = omega (arith, refuses.stays, refuses.looks_at_least);
    keeps_memory = refuses.keeps_memory;
  };
}

-- A text in which no character is open.
pub returns-then-is_empty : goal.returns-then-is_empty
returns-then-is_empty g c =
    let read = c.read_single_byte_of_text.ensures in
    reads_call-one c.args.reader.now c.read_single_byte_of_text.new.reader (Ok c.read_single_byte_of_text.result)
    c.requires.one_byte
    (settled-same_state c.in-Text.is (settled-nothing c.in-Text.opened (c.is_empty.ensures.0 c.if-is_empty.true)))
    read.advances read.reads_within tt

-- The head of a control sequence.
pub returns-in-ControlSequence : goal.returns-in-ControlSequence
returns-in-ControlSequence g c =
    let read = c.read_parameter_byte.ensures in
    reads_call-one c.args.reader.now c.read_parameter_byte.new.reader (Ok c.read_parameter_byte.result)
    c.requires.one_byte (settled-same_state c.in-ControlSequence.is tt) read.advances read.reads_within tt

-- Any other state.
pub returns : goal.returns
returns g c =
    let read = c.read_single_byte_of_sequence.ensures in
    reads_call-one c.args.reader.now c.read_single_byte_of_sequence.new.reader c.read_single_byte_of_sequence.result
    c.requires.one_byte (settled-outside _ c.in_default.not-Text) read.advances read.reads_within read.refuses
