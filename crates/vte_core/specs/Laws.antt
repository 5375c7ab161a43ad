-- Laws of the definitions, which functions of `laws` state as contracts.
use Rattle.std.specs.Char.{encode_utf8, IsScalar}
use Rattle.std.specs.Prelude.{All, false, length, List, map, None, Option, Some, true, ℕ, [], ◌++◌, ◌+◌, ◌<◌, ◌∷◌, ◌≡◌, ◌≢◌, ◌≤◌, ◌⊎◌}
use Rattle.std.specs.Str.{chars}
use Rattle.vte_core.specs.declared.parser.open.Open.TheVariants.{Character, Nothing}
use Rattle.vte_core.specs.Event.{CsiDispatch, Print, replacement}
use Rattle.vte_core.specs.EventBounds.{IsBounded}
use Rattle.vte_core.specs.LongParser.{open_command_size}
use Rattle.vte_core.specs.Open.{open_at_end}
use Rattle.vte_core.specs.Parameters.{AreGroups, count_of, shown}
use Rattle.vte_core.specs.Stream.{added, escape, events, open_character}
use Rattle.vte_core.specs.Text.{character_event}
use Rattle.vte_core.specs.Utf8.{is_well_formed, scalar_of}

-- Groups that a sequence can have: there is at least one number.
pub record AreParameters (groups : List (List ℕ)) : Type 0 where
  pub some : 0 < count_of groups
  pub groups_are : AreGroups groups

-- If the text of the groups is sent as ESC, `[`, text, `m`, the one event is a dispatch of the same
-- groups.
abbrev pub DispatchesShown : Option ℕ → List (List ℕ) → Type 0
DispatchesShown limit groups =
    events limit (0x1b ∷ 0x5b ∷ (shown groups ++ 0x6d ∷ [])) ≡ CsiDispatch groups [] false 0x6d ∷ []

-- The events of a prefix are a prefix of the events.
abbrev pub Grows : Option ℕ → Type 0
Grows limit =
    (stream more : List ℕ)
    → events limit (stream ++ more) ≡ events limit stream ++ added limit stream more

-- After the byte, whatever came before it, the rest of the stream gives the events of a stream of
-- its own.
abbrev pub ResyncsAfter : Option ℕ → ℕ → Type 0
ResyncsAfter limit byte = (stream more : List ℕ) →
    events limit (stream ++ byte ∷ more) ≡ events limit (stream ++ byte ∷ []) ++ events limit more

-- Resynchronisation: a stream begins again after CAN and SUB, and at each ESC.
pub record Resyncs (limit : Option ℕ) : Type 0 where
  pub cancel : ResyncsAfter limit 0x18
  pub substitute : ResyncsAfter limit 0x1a
  pub escape : (stream more : List ℕ) →
      events limit (stream ++ escape ∷ more)
      ≡ events limit (stream ++ escape ∷ []) ++ events limit (escape ∷ more)

-- If a character is open after a byte, the byte added no event, or U+FFFD for another character
-- that it broke.
abbrev pub OpensSilently : Option ℕ → Type 0
OpensSilently limit = (stream : List ℕ) (byte : ℕ) → (open_character (stream ++ byte ∷ []) ≡ [])
    ⊎ ((added limit stream (byte ∷ []) ≡ [])
    ⊎ (added limit stream (byte ∷ []) ≡ Print replacement ∷ []))

-- The bytes are the standard library's encoding of their character.
pub record IsEncoding (bytes : List ℕ) : Type 0 where
  pub is_character : IsScalar (scalar_of bytes)
  pub same : encode_utf8 (scalar_of bytes) ≡ bytes

-- The encoding of c is well formed, and c is its character.
pub record IsDecoded (c : ℕ) : Type 0 where
  pub well_formed : is_well_formed (encode_utf8 c) ≡ true
  pub same : scalar_of (encode_utf8 c) ≡ c

-- Each of the sequences is a whole character.
abbrev pub AreWellFormed : List (List ℕ) → Type 0
AreWellFormed sequences = All (λ bytes. is_well_formed bytes ≡ true) sequences

-- A text of the standard library without ESC gives one event per character.
abbrev pub GivesCharacters : Option ℕ → List ℕ → Type 0
GivesCharacters limit text =
    All (λ b. b ≢ escape) text → events limit text ≡ map character_event (chars text)

-- A command that bytes dispatch, or leave open, has no more data than was open before them and they
-- can add.
pub record CountsData (stream bytes : List ℕ) : Type 0 where
  pub reported : All (IsBounded (Some (open_command_size stream + length bytes)))
      (added None stream bytes)
  pub left : open_command_size (stream ++ bytes) ≤ open_command_size stream + length bytes

-- The stream ends with the bytes of its open character, which are at most three.
pub record EndsInCharacter (stream : List ℕ) : Type 0 where
  pub prefix : List ℕ
  pub joins : prefix ++ open_character stream ≡ stream
  pub at_most : length (open_character stream) ≤ 3

-- What is open at the end of a stream began at the last ESC, or is at most three bytes of a
-- character.
pub record OpensLate : Type 0 where
  -- What comes before an ESC has no effect on what is open later.
  pub after_escape : (stream more : List ℕ)
      → open_at_end (stream ++ escape ∷ more) ≡ open_at_end (escape ∷ more)
  -- Without an ESC nothing is open, or a character.
  pub without_escape : (text : List ℕ) → All (λ b. b ≢ escape) text
      → (open_at_end text ≡ Nothing) ⊎ (open_at_end text ≡ Character)
  pub character : (stream : List ℕ) → EndsInCharacter stream
