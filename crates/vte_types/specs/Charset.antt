-- The characters that a character set shows.
use Rattle.std.specs.Prelude.{List, unwrap_or, ℕ, [], ◌∷◌}
use Rattle.vte_types.specs.declared.charset.StandardCharset.{StandardCharset}
use Rattle.vte_types.specs.declared.charset.StandardCharset.TheVariants.{Ascii, SpecialCharacterAndLineDrawing}
use Rattle.vte_types.specs.Words.{entry_of, Row}

-- DEC Special Graphics: each character, and the one shown for it.
abbrev pub line_drawing : List (Row ℕ)
line_drawing =
    (0x5f, 0x20) ∷  -- _
    (0x60, 0x25c6) ∷  -- `
    (0x61, 0x2592) ∷  -- a
    (0x62, 0x2409) ∷  -- b
    (0x63, 0x240c) ∷  -- c
    (0x64, 0x240d) ∷  -- d
    (0x65, 0x240a) ∷  -- e
    (0x66, 0xb0) ∷  -- f
    (0x67, 0xb1) ∷  -- g
    (0x68, 0x2424) ∷  -- h
    (0x69, 0x240b) ∷  -- i
    (0x6a, 0x2518) ∷  -- j
    (0x6b, 0x2510) ∷  -- k
    (0x6c, 0x250c) ∷  -- l
    (0x6d, 0x2514) ∷  -- m
    (0x6e, 0x253c) ∷  -- n
    (0x6f, 0x23ba) ∷  -- o
    (0x70, 0x23bb) ∷  -- p
    (0x71, 0x2500) ∷  -- q
    (0x72, 0x23bc) ∷  -- r
    (0x73, 0x23bd) ∷  -- s
    (0x74, 0x251c) ∷  -- t
    (0x75, 0x2524) ∷  -- u
    (0x76, 0x2534) ∷  -- v
    (0x77, 0x252c) ∷  -- w
    (0x78, 0x2502) ∷  -- x
    (0x79, 0x2264) ∷  -- y
    (0x7a, 0x2265) ∷  -- z
    (0x7b, 0x3c0) ∷  -- {
    (0x7c, 0x2260) ∷  -- |
    (0x7d, 0xa3) ∷  -- }
    (0x7e, 0xb7) ∷  -- ~
    []

-- The character that a set shows for c. A character without a row is unchanged.
abbrev pub shown_character : StandardCharset → ℕ → ℕ
shown_character Ascii c = c
shown_character SpecialCharacterAndLineDrawing c = unwrap_or (entry_of line_drawing c) c
