-- The module that proofs share. The other folders have the answers, and are named after the code.

-- What answers cite.
pub mod lemmas
