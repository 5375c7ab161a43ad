-- What the proof of the parser uses between the grammar and the code, in reading order.

-- What bytes do after a place of a stream, by the definitions.
pub mod Place
-- What the fields hold: of a command and of groups; of a character, numbers and a head; and the
-- place that they say.
pub mod Store
pub mod FlatGroups
pub mod OpenCharacter
pub mod CollectedHead
pub mod AtPlace
-- What a byte does to the performer and to the parser.
pub mod Takes
-- How far a call has come; what each function requires, reads and costs.
pub mod Progress
pub mod Costs
-- Several bytes: data and runs of text, and what a search passes.
pub mod Runs
pub mod Scans
pub mod Automaton
-- Calls that return a run; parsers as plain data.
pub mod ToRun
pub mod SavedLayout
-- The words that contracts share.
pub mod Prelude
