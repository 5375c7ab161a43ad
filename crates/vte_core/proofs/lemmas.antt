-- docs/PROOFS.md leads from the headline down, and this list from bytes up to calls: a line uses only those above it.

-- From a byte to its class, and from bytes to UTF-8 and to runs of text.
pub mod bytes
-- From a text or head to what it gives, by its definition alone, and to what is reported where a character breaks.
pub mod shapes
-- From a text to its division, which is std's too.
pub mod dividing
-- From the parser's fields to its place (`is_at-by`, `is_at-in`), and how a byte changes them.
pub mod fields
-- From a byte at a place to its events and the next place: `PlaceLeads` by cases, `steps` for all bytes.
pub mod places
-- From a text or body to a stream (`after-leads`), what follows a broken character, and what is reported before a
-- position of a call (`goes_on_from`).
pub mod streams
-- From one position of a call to the next (`advances-then`). The answers of `parser/` use it.
pub mod positions
-- From the states of the automaton to what they say of a block of text. The answers of `reader/` use it.
pub mod automaton_states
