-- Parts of a call's bytes: data, what is ignored, printed ASCII, and runs of text.
use Rattle.std.specs.Prelude.{Bool, drop, false, List, map, slice_index, take, ℕ, ◌-◌, ◌<◌, ◌≡◌, ◌≤◌}
use Rattle.std.specs.Str.{chars, IsUtf8}
use Rattle.vte_core.specs.Class.{class_of, ends_sequence, IsDeviceData}
use Rattle.vte_core.specs.Event.{after, Event}
use Rattle.vte_core.specs.RunText.{IsRunText, run_event}
use Rattle.vte_core.specs.Utf8.{from_to, Range}

-- `holds` is true of each byte from `from` up to `to`.
abbrev pub Each : (ℕ → Type 0) → List ℕ → ℕ → ℕ → Type 0
Each holds bytes from to = (k : ℕ) → from ≤ k → k < to → holds (slice_index bytes k)

-- ---- the data of a device control string, and the bytes of an ignored string

-- From `from` up to `to` each byte is put.
abbrev pub ArePut : List ℕ → ℕ → ℕ → Type 0
ArePut = Each IsDeviceData

-- Any byte other than CAN, SUB and ESC.
abbrev pub IsIgnored : ℕ → Type 0
IsIgnored b = ends_sequence (class_of b) ≡ false

-- From `from` up to `to` each byte is ignored.
abbrev pub AreIgnored : List ℕ → ℕ → ℕ → Type 0
AreIgnored = Each IsIgnored

-- ---- text that is printed: bytes of ASCII, and characters

-- The ASCII characters that are printed, which include DEL.
abbrev pub printed_ascii : Range
printed_ascii = from_to 0x20 0x7f

-- The byte is one of them.
abbrev pub IsPrintedAscii : ℕ → Type 0
IsPrintedAscii b = (printed_ascii.first ≤ b) × (b ≤ printed_ascii.last)

-- From `from` up to `to` each byte is printed.
abbrev pub ArePrintedAscii : List ℕ → ℕ → ℕ → Type 0
ArePrintedAscii = Each IsPrintedAscii

-- The bytes are characters, and none of these is a control except, with `layout`, HT, LF and CR.
pub record IsUtf8Run (layout : Bool) (bytes : List ℕ) : Type 0 where
  pub utf8 : IsUtf8 bytes
  pub plain : IsRunText layout bytes

-- The bytes from `from` up to `to` are a run.
abbrev pub IsRun : Bool → List ℕ → ℕ → ℕ → Type 0
IsRun layout bytes from to = IsUtf8Run layout (take (to - from) (drop from bytes))

-- The performer has received the characters from `from` up to `to`, which are a run.
pub record PrintsRun {V : Type 0} (layout : Bool) (step : V → Event → V) (old new : V)
    (bytes : List ℕ) (from to : ℕ) : Type 0 where
  pub run : IsRun layout bytes from to
  pub printed : new
      ≡ after step old (map (run_event layout) (chars (take (to - from) (drop from bytes))))
