-- The automaton that reads printed text: what each of its states says of all bytes so far (`Scanned`), and of the last
-- three (`Windows`).

pub mod Scanned
pub mod Windows
