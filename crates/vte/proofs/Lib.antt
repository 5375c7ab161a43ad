-- The modules that proofs share. The other folders have the answers, and are named after the code.

-- Words from std and specs/.
pub mod Common
-- What answers cite.
pub mod lemmas
