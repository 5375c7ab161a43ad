-- The events of a stream, which is cut at each ESC.
use Rattle.std.specs.Prelude.{drop, if◌then◌else◌, length, List, None, Option, Some, ℕ, [], ◌++◌, ◌==◌, ◌∷◌, ◌≡◌, ◌≢◌}
use Rattle.vte_core.specs.Body.{body_outcome}
use Rattle.vte_core.specs.Event.{Event, Print}
use Rattle.vte_core.specs.Outcome.{events_before_escape, open_bytes, Outcome, report}
use Rattle.vte_core.specs.Text.{text_outcome}

-- ESC, at which a stream is cut.
abbrev pub escape : ℕ
escape = 0x1b

-- The text before the first ESC, and the body after each ESC.
pub record Cut : Type 0 where
  pub text : List ℕ
  pub bodies : List (List ℕ)

-- The cut at each ESC, which is in neither the text nor a body.
abbrev pub cut_at_escape : List ℕ → Cut
cut_at_escape [] = record { text = []; bodies = [] }
cut_at_escape (b ∷ stream) =
    let rest = cut_at_escape stream in
    if b == escape then record { text = []; bodies = rest.text ∷ rest.bodies }
    else record { text = b ∷ rest.text; bodies = rest.bodies }

-- The outcomes in order: the ESC of each body closes what the part before it left open.
abbrev pub with_bodies : Option ℕ → Outcome → List (List ℕ) → Outcome
with_bodies limit part [] = part
with_bodies limit part (body ∷ bodies) =
    report (events_before_escape part) (with_bodies limit (body_outcome limit body) bodies)

-- The limit of `Parser::new`.
abbrev pub default_limit : Option ℕ
default_limit = Some 1024

-- The outcome of a stream: that of the text before its first ESC, then those of the bodies. `limit`
-- is how many data bytes of an operating system command are kept, if there is a limit.
unfoldable pub outcome : Option ℕ → List ℕ → Outcome
outcome limit stream =
    let cut = cut_at_escape stream in
    with_bodies limit (text_outcome cut.text) cut.bodies

-- The events of a stream: those of the text before its first ESC, then those of each body. An ESC
-- closes what is open before it. The end of the stream closes nothing.
unfoldable pub events : Option ℕ → List ℕ → List Event
events limit stream = (outcome limit stream).reported

-- The events that more bytes add to those of the stream, which stay as they are
-- (`laws::events_grow`).
abbrev pub added : Option ℕ → List ℕ → List ℕ → List Event
added limit stream more = drop (length (events limit stream)) (events limit (stream ++ more))

-- Nothing is open at the end of the stream: more bytes give what they give on their own.
abbrev pub IsClosed : Option ℕ → List ℕ → Type 0
IsClosed limit stream = (more : List ℕ) → added limit stream more ≡ events limit more

-- A character or a sequence is open there: a `0` isn't printed, or not alone. It serves as a probe,
-- because it belongs to whatever is open, or ends it.
abbrev pub IsOpen : Option ℕ → List ℕ → Type 0
IsOpen limit stream = added limit stream (0x30 ∷ []) ≢ Print 0x30 ∷ []

-- The bytes of an open character at the end of the stream. They are in text, so no limit
-- affects them.
unfoldable pub open_character : List ℕ → List ℕ
open_character stream = open_bytes (outcome None stream).to_close
