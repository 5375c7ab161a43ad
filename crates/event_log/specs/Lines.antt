-- The line of each event.
use Rattle.std.specs.Fmt.{decimal}
use Rattle.std.specs.List.{flat_map}
use Rattle.std.specs.Prelude.{Bool, codes, if◌then◌else◌, length, List, max, nat_lt, suc, zero, ℕ, [], ◌%◌, ◌++◌, ◌+◌, ◌/◌, ◌∷◌}
use Rattle.vte_core.specs.Event.{CsiDispatch, EscDispatch, Event, Execute, Hook, OscDispatch, Print, Put, Unhook}
use Rattle.vte_core.specs.Parameters.{shown}

-- A lowercase hex digit.
unfoldable pub hex_digit : ℕ → ℕ
hex_digit d = if nat_lt d 10 then 0x30 + d else 0x57 + d

-- A byte as two hex digits.
unfoldable pub hex_byte : ℕ → List ℕ
hex_byte b = hex_digit (b / 16) ∷ hex_digit (b % 16) ∷ []

-- The number of hex digits of a number below 2 ^ 24.
unfoldable pub hex_length : ℕ → ℕ
hex_length n =
    if nat_lt n 0x10 then 1
    else if nat_lt n 0x100 then 2
    else if nat_lt n 0x1000 then 3
    else if nat_lt n 0x10000 then 4
    else if nat_lt n 0x100000 then 5
    else 6

-- The last `count` hex digits of a number.
unfoldable pub hex_digits : ℕ → ℕ → List ℕ
hex_digits zero n = []
hex_digits (suc count) n = hex_digits count (n / 16) ++ hex_digit (n % 16) ∷ []

-- The number of a character in hex, padded to at least this many digits.
unfoldable pub hex_character : ℕ → ℕ → List ℕ
hex_character least c = hex_digits (max least (hex_length c)) c

-- A flag of an event, as Rust writes it.
abbrev pub true_or_false : Bool → List ℕ
true_or_false b = if b then codes "true" else codes "false"

-- What separates the fields of a line.
abbrev pub blank : List ℕ
blank = codes " "

-- What ends a line.
abbrev pub line_feed : List ℕ
line_feed = 0x0a ∷ []

-- A blank, and bytes as hex digits, or `-` for none.
unfoldable pub hex_field : List ℕ → List ℕ
hex_field [] = codes " -"
hex_field (b ∷ bytes) = blank ++ flat_map hex_byte (b ∷ bytes)

-- A blank, and true or false.
unfoldable pub flag_field : Bool → List ℕ
flag_field b = blank ++ true_or_false b

-- The fields of a control sequence or device control string: parameters, intermediates, `ignore`,
-- and the final byte.
unfoldable pub sequence_fields : List (List ℕ) → List ℕ → Bool → ℕ → List ℕ
sequence_fields groups intermediates ignore final =
    codes " [" ++ shown groups ++ codes "]" ++ hex_field intermediates ++ flag_field ignore ++ blank
    ++ hex_character 2 final

-- The number of pieces, and each piece as a field.
unfoldable pub pieces_fields : List (List ℕ) → List ℕ
pieces_fields pieces = blank ++ decimal (length pieces) ++ flat_map hex_field pieces

-- The line of an event: its name and arguments, separated by blanks, and LF.
unfoldable pub line_of : Event → List ℕ
line_of (Print c) = codes "print " ++ hex_character 4 c ++ line_feed
line_of (Execute byte) = codes "execute " ++ hex_byte byte ++ line_feed
line_of (Hook groups intermediates ignore final) =
    codes "hook" ++ sequence_fields groups intermediates ignore final ++ line_feed
line_of (Put byte) = codes "put " ++ hex_byte byte ++ line_feed
line_of Unhook = codes "unhook" ++ line_feed
line_of (OscDispatch pieces bell) =
    codes "osc" ++ flag_field bell ++ pieces_fields pieces ++ line_feed
line_of (CsiDispatch groups intermediates ignore final) =
    codes "csi" ++ sequence_fields groups intermediates ignore final ++ line_feed
line_of (EscDispatch intermediates ignore byte) =
    codes "esc" ++ hex_field intermediates ++ flag_field ignore ++ blank
    ++ hex_byte byte ++ line_feed

-- One line per event, in order.
abbrev pub lines_of : List Event → List ℕ
lines_of events = flat_map line_of events
