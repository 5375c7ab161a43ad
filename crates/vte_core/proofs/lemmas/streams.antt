-- From a text or a body to a whole stream: laws of streams.

-- What a stream leaves open, for any limit.
pub mod AnyLimit
-- From a byte to bytes, and from the place after a stream to that after more of it.
pub mod After
pub mod StreamSteps
-- Parts of a stream, which begins again at each ESC.
pub mod Parts
-- What is open at the end began at the last ESC, or is a few bytes of a character.
pub mod OpenLaws
-- From places to what is reported before a position of a call (`goes_on_from`).
pub mod EarlyStops
-- From groups of parameters to their text, and back. The answers of `params/` use it.
pub mod ParameterTexts
