-- Examples worked out by hand: streams and all their events. The prover compares them with the
-- definitions, not with code.
use Rattle.std.specs.List.{repeat}
use Rattle.std.specs.Prelude.{codes, false, List, map, Option, replicate, true, ℕ, [], ◌++◌, ◌∷◌, ◌≡◌}
use Rattle.vte_core.specs.declared.parser.open.Open.{Open}
use Rattle.vte_core.specs.declared.parser.open.Open.TheVariants.{Character, ControlSequence, DeviceControl, EscapeSequence, IgnoredString, Nothing, SystemCommand}
use Rattle.vte_core.specs.EarlyStop.{reported_before, resumed_stream}
use Rattle.vte_core.specs.Event.{CsiDispatch, EscDispatch, Event, Execute, Hook, OscDispatch, Print, Put, Unhook}
use Rattle.vte_core.specs.Open.{open_at_end}
use Rattle.vte_core.specs.Outcome.{CommandToClose, ToClose}
use Rattle.vte_core.specs.OutsideRuns.{ReportsOutsideRuns}
use Rattle.vte_core.specs.Parts.{parts_of}
use Rattle.vte_core.specs.Stream.{events, outcome}

-- A stream and its events.
pub record Example : Type 0 where
  pub stream : List ℕ
  pub reported : List Event

abbrev pub gives : List ℕ → List Event → Example
gives stream reported = record { stream = stream; reported = reported }

-- Each example has exactly its events, with a buffer of this size.
abbrev pub HaveEvents : Option ℕ → List Example → Type 0
HaveEvents limit examples =
    map (λ example. events limit example.stream) examples
    ≡ map (λ example. example.reported) examples

abbrev pub text_examples : List Example
text_examples =
    gives [] []
    ∷ gives (codes "\u{7f}" ++ 0x80 ∷ 0xa0 ∷ []) (Print 0x7f ∷ Execute 0x80 ∷ Print 0xfffd ∷ [])
    ∷ gives (codes "\u{18}\u{1a}") (Execute 0x18 ∷ Execute 0x1a ∷ [])
    -- Characters of two, one and four bytes.
    ∷ gives (0xc4 ∷ 0xb8 ∷ codes "a" ++ 0xf0 ∷ 0x9f ∷ 0x8e ∷ 0x89 ∷ [])
    (Print 0x138 ∷ Print 0x61 ∷ Print 0x1f389 ∷ [])
    -- U+0085 is a control character.
    ∷ gives (0xc2 ∷ 0x85 ∷ []) (Execute 0x85 ∷ [])
    -- A character without its last bytes stays open, and is replaced once anything else follows.
    ∷ gives (0xe4 ∷ 0xbf ∷ []) []
    ∷ gives (codes "a" ++ 0xef ∷ 0xbc ∷ codes "b") (Print 0x61 ∷ Print 0xfffd ∷ Print 0x62 ∷ [])
    ∷ gives (0xe4 ∷ 0x18 ∷ []) (Print 0xfffd ∷ Execute 0x18 ∷ [])
    ∷ gives (0xe4 ∷ 0xbf ∷ 0x99 ∷ 0xb5 ∷ []) (Print 0x4fd9 ∷ Print 0xfffd ∷ [])
    -- Half of a surrogate pair, a number above U+10FFFF, an overlong form.
    ∷ gives (0xed ∷ 0xa0 ∷ 0x80 ∷ []) (Print 0xfffd ∷ Print 0xfffd ∷ Execute 0x80 ∷ [])
    ∷ gives (0xf4 ∷ 0x90 ∷ []) (Print 0xfffd ∷ Execute 0x90 ∷ [])
    ∷ gives (0xc0 ∷ 0xaf ∷ []) (Print 0xfffd ∷ Print 0xfffd ∷ [])
    ∷ []

abbrev pub escape_examples : List Example
escape_examples =
    gives (codes "a\u{1b}(B\n")
    (Print 0x61 ∷ EscDispatch (codes "(") false 0x42 ∷ Execute 0x0a ∷ [])
    -- At most two intermediates.
    ∷ gives (codes "\u{1b}()*B") (EscDispatch (codes "()") true 0x42 ∷ [])
    ∷ gives (codes "\u{1b}(\nB") (Execute 0x0a ∷ EscDispatch (codes "(") false 0x42 ∷ [])
    ∷ gives (codes "\u{1b}\u{1b}c") (EscDispatch [] false 0x63 ∷ [])
    ∷ gives (codes "\u{1b}\u{7f}c") (EscDispatch [] false 0x63 ∷ [])
    ∷ gives (codes "\u{1b}\u{18}a") (Execute 0x18 ∷ Print 0x61 ∷ [])
    -- ESC breaks an open character.
    ∷ gives (0xd8 ∷ codes "\u{1b}012")
    (Print 0xfffd ∷ EscDispatch [] false 0x30 ∷ Print 0x31 ∷ Print 0x32 ∷ [])
    ∷ gives (0xf0 ∷ 0x9f ∷ 0x8e ∷ codes "\u{1b}c") (Print 0xfffd ∷ EscDispatch [] false 0x63 ∷ [])
    ∷ []

abbrev pub control_sequence_examples : List Example
control_sequence_examples =
    gives (codes "\u{1b}[38:2:255:0:255;1m")
    (CsiDispatch ((38 ∷ 2 ∷ 255 ∷ 0 ∷ 255 ∷ []) ∷ (1 ∷ []) ∷ []) [] false 0x6d ∷ [])
    ∷ gives (codes "\u{1b}[3;1\u{1b}[?1049h")
    (CsiDispatch ((1049 ∷ []) ∷ []) (codes "?") false 0x68 ∷ [])
    ∷ gives (codes "\u{1b}[;4m") (CsiDispatch ((0 ∷ []) ∷ (4 ∷ []) ∷ []) [] false 0x6d ∷ [])
    -- A number is at most 65,535.
    ∷ gives (codes "\u{1b}[65535;65536m")
    (CsiDispatch ((65535 ∷ []) ∷ (65535 ∷ []) ∷ []) [] false 0x6d ∷ [])
    ∷ gives (codes "\u{1b}[9223372036854775808m")
    (CsiDispatch ((65535 ∷ []) ∷ []) [] false 0x6d ∷ [])
    -- 32 numbers, then 33.
    ∷ gives (codes "\u{1b}[" ++ repeat 31 (codes "1;") ++ codes "p")
    (CsiDispatch (repeat 31 ((1 ∷ []) ∷ []) ++ (0 ∷ []) ∷ []) [] false 0x70 ∷ [])
    ∷ gives (codes "\u{1b}[" ++ repeat 32 (codes "1;") ++ codes "p")
    (CsiDispatch (repeat 32 ((1 ∷ []) ∷ [])) [] true 0x70 ∷ [])
    -- A private marker counts as an intermediate.
    ∷ gives (codes "\u{1b}[?$#p") (CsiDispatch ((0 ∷ []) ∷ []) (codes "?$") true 0x70 ∷ [])
    -- Ill-shaped heads.
    ∷ gives (codes "\u{1b}[1?ma") (Print 0x61 ∷ [])
    ∷ gives (codes "\u{1b}[1$2pa") (Print 0x61 ∷ [])
    ∷ gives (codes "\u{1b}[1?\u{1a}m") (Execute 0x1a ∷ Print 0x6d ∷ [])
    -- Plain controls are executed where they are; 7F and 80..FF are dropped.
    ∷ gives (codes "\u{1b}[1\n\u{7f}" ++ 0x80 ∷ codes "2m")
    (Execute 0x0a ∷ CsiDispatch ((12 ∷ []) ∷ []) [] false 0x6d ∷ [])
    ∷ gives (codes "\u{1b}[1\u{18}m") (Execute 0x18 ∷ Print 0x6d ∷ [])
    ∷ gives (codes "\u{1b}[1") []
    ∷ []

abbrev pub device_control_examples : List Example
device_control_examples =
    gives (codes "\u{1b}P0;1|17/ab" ++ 0x9c ∷ [])
    (Hook ((0 ∷ []) ∷ (1 ∷ []) ∷ []) [] false 0x7c ∷ map Put (codes "17/ab") ++ Unhook ∷ [])
    -- Plain controls, 7F and 9C in the head are dropped.
    ∷ gives (codes "\u{1b}P1" ++ 0x9c ∷ codes "\n\u{7f}2qa" ++ 0x9c ∷ [])
    (Hook ((12 ∷ []) ∷ []) [] false 0x71 ∷ Put 0x61 ∷ Unhook ∷ [])
    -- Plain controls are put, 7F and 80 are dropped.
    ∷ gives (codes "\u{1b}Pq\n\u{7}\0\u{1f}" ++ 0x9c ∷ [])
    (Hook ((0 ∷ []) ∷ []) [] false 0x71 ∷ Put 0x0a ∷ Put 0x07 ∷ Put 0x00 ∷ Put 0x1f ∷ Unhook ∷ [])
    ∷ gives (codes "\u{1b}Pqa\u{7f}" ++ 0x80 ∷ codes "b" ++ 0x9c ∷ [])
    (Hook ((0 ∷ []) ∷ []) [] false 0x71 ∷ Put 0x61 ∷ Put 0x62 ∷ Unhook ∷ [])
    -- CAN and ESC end the data.
    ∷ gives (codes "\u{1b}P1qa\u{18}")
    (Hook ((1 ∷ []) ∷ []) [] false 0x71 ∷ Put 0x61 ∷ Unhook ∷ Execute 0x18 ∷ [])
    ∷ gives (codes "\u{1b}P=1sZZZ\u{1b}+\\")
    (Hook ((1 ∷ []) ∷ []) (codes "=") false 0x73 ∷ map Put (codes "ZZZ") ++ Unhook
    ∷ EscDispatch (codes "+") false 0x5c ∷ [])
    ∷ gives (codes "\u{1b}Pqa") (Hook ((0 ∷ []) ∷ []) [] false 0x71 ∷ Put 0x61 ∷ [])
    -- After an ill-shaped head everything is dropped up to CAN.
    ∷ gives (codes "\u{1b}P1?qx" ++ 0x9c ∷ codes "\u{18}a") (Execute 0x18 ∷ Print 0x61 ∷ [])
    ∷ []

-- With a buffer of 1,024 bytes, and with no limit.
abbrev pub system_command_examples : List Example
system_command_examples =
    gives (codes "\u{1b}]2;jw\u{1b}\\")
    (OscDispatch (codes "2" ∷ codes "jw" ∷ []) false ∷ EscDispatch [] false 0x5c ∷ [])
    ∷ gives (codes "\u{1b}]2;a\u{18}b")
    (OscDispatch (codes "2" ∷ codes "a" ∷ []) false ∷ Execute 0x18 ∷ Print 0x62 ∷ [])
    ∷ gives (codes "\u{1b}]\u{7}") (OscDispatch ([] ∷ []) true ∷ [])
    ∷ gives (codes "\u{1b}]2;a") []
    -- Plain controls are dropped, 7F and 80..FF are kept.
    ∷ gives (codes "\u{1b}]a\0b\u{7f}" ++ 0x9c ∷ codes "\u{7}")
    (OscDispatch ((codes "ab\u{7f}" ++ 0x9c ∷ []) ∷ []) true ∷ [])
    -- At most 16 pieces.
    ∷ gives (codes "\u{1b}]" ++ repeat 33 (codes ";") ++ codes "\u{1b}")
    (OscDispatch (repeat 16 ([] ∷ [])) false ∷ [])
    -- Data after them is dropped.
    ∷ gives (codes "\u{1b}]" ++ repeat 16 (codes "a;") ++ codes ";b\u{7}")
    (OscDispatch (repeat 16 (codes "a" ∷ [])) true ∷ [])
    ∷ []

abbrev pub letters : ℕ → List ℕ
letters n = replicate n 0x61

-- With a buffer of 1,024 bytes: commands around its size.
abbrev pub full_buffer_examples : List Example
full_buffer_examples =
    gives (codes "\u{1b}]" ++ letters 1024 ++ codes "\u{7}")
    (OscDispatch (letters 1024 ∷ []) true ∷ [])
    ∷ gives (codes "\u{1b}]" ++ letters 1025 ++ codes "\u{7}")
    (OscDispatch (letters 1024 ∷ []) true ∷ [])
    ∷ gives (codes "\u{1b}]" ++ letters 1023 ++ codes ";b\u{7}")
    (OscDispatch (letters 1023 ∷ codes "b" ∷ []) true ∷ [])
    ∷ gives (codes "\u{1b}]" ++ letters 1023 ++ codes ";bc\u{7}")
    (OscDispatch (letters 1023 ∷ codes "b" ∷ []) true ∷ [])
    -- After the last byte no piece begins, but what is dropped of separators isn't data.
    ∷ gives (codes "\u{1b}]" ++ letters 1024 ++ codes ";;\u{7}")
    (OscDispatch (letters 1024 ∷ []) true ∷ [])
    ∷ gives (codes "\u{1b}]" ++ letters 1024 ++ codes ";;b\u{7}")
    (OscDispatch (letters 1024 ∷ []) true ∷ [])
    ∷ gives (codes "\u{1b}];" ++ letters 1024 ++ codes "\u{7}")
    (OscDispatch ([] ∷ letters 1024 ∷ []) true ∷ [])
    ∷ []

-- With a buffer of 5 bytes.
abbrev pub buffer_of_five_examples : List Example
buffer_of_five_examples =
    gives (codes "\u{1b}]2;s" ++ 0xe6 ∷ 0x9c ∷ 0xab ∷ codes "\u{1b}\\")
    (OscDispatch (codes "2" ∷ (codes "s" ++ 0xe6 ∷ 0x9c ∷ 0xab ∷ []) ∷ []) false
    ∷ EscDispatch [] false 0x5c ∷ [])
    ∷ []

-- With a buffer of 2 bytes: `;` takes no room, but is dropped once the buffer is full.
abbrev pub buffer_of_two_examples : List Example
buffer_of_two_examples =
    gives (codes "\u{1b}]ab;c\u{7}") (OscDispatch (codes "ab" ∷ []) true ∷ [])
    ∷ gives (codes "\u{1b}]a;bc;d\u{7}") (OscDispatch (codes "a" ∷ codes "b" ∷ []) true ∷ [])
    ∷ []

-- A stream that ends in an open command, and what is left to close.
pub record CommandExample : Type 0 where
  pub stream : List ℕ
  pub to_close : ToClose

-- A command that has lost no data.
abbrev pub keeps : List ℕ → List (List ℕ) → CommandExample
keeps items pieces = record {
  stream = codes "\u{1b}]" ++ items;
  to_close = CommandToClose pieces false;
}

-- A command that has lost data.
abbrev pub loses : List ℕ → List (List ℕ) → CommandExample
loses items pieces = record {
  stream = codes "\u{1b}]" ++ items;
  to_close = CommandToClose pieces true;
}

-- Each stream leaves exactly its command to close, with a buffer of this size.
abbrev pub LeaveCommands : Option ℕ → List CommandExample → Type 0
LeaveCommands limit examples =
    map (λ example. (outcome limit example.stream).to_close) examples
    ≡ map (λ example. example.to_close) examples

-- With a buffer of 2 bytes: open commands, and whether they lost data. A `;` that is dropped isn't
-- data.
abbrev pub open_command_examples : List CommandExample
open_command_examples =
    keeps [] ([] ∷ [])
    ∷ keeps (codes "ab;;") (codes "ab" ∷ [])
    ∷ loses (codes "abc") (codes "ab" ∷ [])
    ∷ loses (codes "ab;c") (codes "ab" ∷ [])
    ∷ loses (codes "a;bc") (codes "a" ∷ codes "b" ∷ [])
    -- 16 pieces, and data after them.
    ∷ keeps (repeat 15 (codes ";") ++ codes "a;;") (repeat 15 ([] ∷ []) ++ codes "a" ∷ [])
    ∷ loses (repeat 15 (codes ";") ++ codes "a;;b") (repeat 15 ([] ∷ []) ++ codes "a" ∷ [])
    ∷ []

-- With a buffer of 0 bytes.
abbrev pub empty_buffer_examples : List Example
empty_buffer_examples =
    gives (codes "\u{1b}]52;" ++ repeat 132 (codes "a") ++ codes "\u{7}")
    (OscDispatch ([] ∷ []) true ∷ [])
    ∷ gives (codes "\u{1b}];;a;b\u{7}") (OscDispatch ([] ∷ []) true ∷ [])
    ∷ []

abbrev pub ignored_string_examples : List Example
ignored_string_examples =
    -- Neither BEL nor 9C ends the string.
    gives (codes "\u{1b}Xa\u{7}" ++ 0x9c ∷ codes "\u{1a}b") (Execute 0x1a ∷ Print 0x62 ∷ [])
    -- ESC ends one, and begins the next.
    ∷ gives (codes "\u{1b}^a\u{1b}_b\u{18}c") (Execute 0x18 ∷ Print 0x63 ∷ [])
    ∷ []

-- A position of a call: the stream that was read before it, its bytes, what is reported before the
-- position, and the stream from which the parser continues after a stop there.
pub record StopExample : Type 0 where
  pub stream : List ℕ
  pub bytes : List ℕ
  pub position : ℕ
  pub reported : List Event
  pub resumed : List ℕ

-- Each position has exactly its events before it, and its stream from which the parser continues.
abbrev pub AreStops : Option ℕ → List StopExample → Type 0
AreStops limit examples =
    (map (λ at. reported_before limit at.stream at.bytes at.position) examples
    ≡ map (λ at. at.reported) examples)
    × (map (λ at. resumed_stream at.stream at.bytes at.position) examples
    ≡ map (λ at. at.resumed) examples)

abbrev pub stop_examples : List StopExample
stop_examples =
    -- `a` breaks the open character, for which U+FFFD is reported before it.
    record {
      stream = [];
      bytes = 0xe4 ∷ 0xbf ∷ codes "a";
      position = 2;
      reported = Print 0xfffd ∷ [];
      resumed = [];
    }
    -- An earlier call began the character: it is completed, or broken at once.
    ∷ record {
      stream = 0xe4 ∷ [];
      bytes = 0xbf ∷ 0x99 ∷ codes "a";
      position = 2;
      reported = Print 0x4fd9 ∷ [];
      resumed = 0xe4 ∷ 0xbf ∷ 0x99 ∷ [];
    }
    ∷ record {
      stream = 0xe4 ∷ [];
      bytes = codes "a";
      position = 0;
      reported = Print 0xfffd ∷ [];
      resumed = [];
    }
    -- Inside a sequence no character is open.
    ∷ record {
      stream = codes "a\u{1b}";
      bytes = codes "[1m";
      position = 1;
      reported = [];
      resumed = codes "a\u{1b}[";
    }
    ∷ []

-- A stream, and what is open at its end.
pub record OpenExample : Type 0 where
  pub stream : List ℕ
  pub kind : Open

abbrev pub ends_in : Open → List ℕ → OpenExample
ends_in kind stream = record { stream = stream; kind = kind }

-- Each stream leaves open what its example says.
abbrev pub LeaveOpen : List OpenExample → Type 0
LeaveOpen examples =
    map (λ example. open_at_end example.stream) examples ≡ map (λ example. example.kind) examples

abbrev pub text_end_examples : List OpenExample
text_end_examples =
    ends_in Nothing []
    ∷ ends_in Nothing (codes "a\n")
    -- After one, two and three bytes of a character.
    ∷ ends_in Character (codes "a" ++ 0xc3 ∷ [])
    ∷ ends_in Character (0xe4 ∷ 0xbf ∷ [])
    ∷ ends_in Character (0xf0 ∷ 0x9f ∷ 0x8e ∷ [])
    ∷ ends_in Nothing (0xf0 ∷ 0x9f ∷ 0x8e ∷ 0x89 ∷ [])
    -- A byte that breaks one, and begins another or none.
    ∷ ends_in Character (0xe4 ∷ 0xe4 ∷ [])
    ∷ ends_in Nothing (0xe4 ∷ codes "a")
    ∷ ends_in Nothing (0xe4 ∷ 0x18 ∷ [])
    ∷ ends_in Nothing (0xc0 ∷ [])
    ∷ []

abbrev pub sequence_end_examples : List OpenExample
sequence_end_examples =
    -- Which kind it is isn't known before the key.
    ends_in EscapeSequence (0xe4 ∷ codes "\u{1b}")
    ∷ ends_in EscapeSequence (codes "\u{1b}\n\u{7f}" ++ 0xe4 ∷ [])
    ∷ ends_in Nothing (codes "\u{1b}\u{18}")
    ∷ ends_in EscapeSequence (codes "\u{1b}(")
    ∷ ends_in EscapeSequence (codes "\u{1b}(\n)")
    ∷ ends_in Nothing (codes "\u{1b}(B")
    ∷ ends_in Nothing (codes "\u{1b}(\u{1a}")
    ∷ ends_in Character (codes "\u{1b}c" ++ 0xe4 ∷ [])
    -- A head of any shape, up to its final byte.
    ∷ ends_in ControlSequence (codes "\u{1b}[")
    ∷ ends_in ControlSequence (codes "\u{1b}[1\n$")
    ∷ ends_in ControlSequence (codes "\u{1b}[1?")
    ∷ ends_in Nothing (codes "\u{1b}[1?m")
    ∷ ends_in Nothing (codes "\u{1b}[1m")
    ∷ ends_in Nothing (codes "\u{1b}[1\u{18}")
    ∷ ends_in EscapeSequence (codes "\u{1b}[1\u{1b}")
    ∷ []

abbrev pub string_end_examples : List OpenExample
string_end_examples =
    -- 9C ends no head.
    ends_in DeviceControl (codes "\u{1b}P")
    ∷ ends_in DeviceControl (codes "\u{1b}P1?" ++ 0x9c ∷ [])
    ∷ ends_in Nothing (codes "\u{1b}P1\u{18}")
    ∷ ends_in DeviceControl (codes "\u{1b}P1q")
    ∷ ends_in DeviceControl (codes "\u{1b}P1qa\u{7}")
    ∷ ends_in Nothing (codes "\u{1b}P1qa" ++ 0x9c ∷ [])
    ∷ ends_in Nothing (codes "\u{1b}P1qa\u{1a}")
    ∷ ends_in EscapeSequence (codes "\u{1b}P1qa\u{1b}")
    ∷ ends_in Nothing (codes "\u{1b}P1qa\u{1b}\\")
    -- After the final byte of an ill-shaped head the string means nothing.
    ∷ ends_in IgnoredString (codes "\u{1b}P1?q" ++ 0x9c ∷ [])
    ∷ ends_in Nothing (codes "\u{1b}P1?q\u{18}")
    -- BEL ends a command, 9C doesn't.
    ∷ ends_in SystemCommand (codes "\u{1b}]")
    ∷ ends_in SystemCommand (codes "\u{1b}]0;a" ++ 0x9c ∷ 0xe4 ∷ [])
    ∷ ends_in Nothing (codes "\u{1b}]0;a\u{7}")
    ∷ ends_in Nothing (codes "\u{1b}]0;a\u{1a}")
    ∷ ends_in EscapeSequence (codes "\u{1b}]0;a\u{1b}")
    -- Neither ends an ignored string.
    ∷ ends_in IgnoredString (codes "\u{1b}X")
    ∷ ends_in IgnoredString (codes "\u{1b}^a\u{7}")
    ∷ ends_in IgnoredString (codes "\u{1b}_a" ++ 0x9c ∷ 0xe4 ∷ [])
    ∷ ends_in Nothing (codes "\u{1b}_a\u{18}")
    ∷ ends_in EscapeSequence (codes "\u{1b}_a\u{1b}")
    ∷ []

-- A call that returns runs completes the open character, and doesn't report the next one.
abbrev pub LeavesTextToRun : Option ℕ → Type 0
LeavesTextToRun limit =
    ReportsOutsideRuns limit (0xe4 ∷ []) (0xbf ∷ 0x99 ∷ 0xe6 ∷ 0x97 ∷ 0xa5 ∷ []) 5 → ⊥

-- A stream, a size, and the parts of this size, each with its events.
pub record PartsExample : Type 0 where
  pub stream : List ℕ
  pub size : ℕ
  pub parts : List Example

abbrev pub divides : List ℕ → ℕ → List Example → PartsExample
divides stream size parts = record { stream = stream; size = size; parts = parts }

-- Each stream has exactly its parts, and each part exactly its events.
abbrev pub AreDivided : Option ℕ → List PartsExample → Type 0
AreDivided limit examples =
    map (λ it. map (λ part. gives part (events limit part)) (parts_of it.size it.stream)) examples
    ≡ map (λ it. it.parts) examples

abbrev pub parts_examples : List PartsExample
parts_examples =
    divides [] 1 []
    ∷ divides (codes "ab") 1 (gives (codes "ab") (Print 0x61 ∷ Print 0x62 ∷ []) ∷ [])
    -- The ESC at the end of the first part breaks its open character.
    ∷ divides (codes "a" ++ 0xc3 ∷ codes "\u{1b}[1mb") 1
    (gives (codes "a" ++ 0xc3 ∷ codes "\u{1b}") (Print 0x61 ∷ Print 0xfffd ∷ [])
    ∷ gives (codes "\u{1b}[1mb") (CsiDispatch ((1 ∷ []) ∷ []) [] false 0x6d ∷ Print 0x62 ∷ [])
    ∷ [])
    -- It dispatches a command, and unhooks a string.
    ∷ divides (codes "\u{1b}]0;t\u{1b}\\") 2
    (gives (codes "\u{1b}]0;t\u{1b}") (OscDispatch (codes "0" ∷ codes "t" ∷ []) false ∷ [])
    ∷ gives (codes "\u{1b}\\") (EscDispatch [] false 0x5c ∷ [])
    ∷ [])
    ∷ divides (codes "\u{1b}Pqd\u{1b}\\") 4
    (gives (codes "\u{1b}Pqd\u{1b}") (Hook ((0 ∷ []) ∷ []) [] false 0x71 ∷ Put 0x64 ∷ Unhook ∷ [])
    ∷ gives (codes "\u{1b}\\") (EscDispatch [] false 0x5c ∷ [])
    ∷ [])
    -- A sequence that is cut short gives nothing.
    ∷ divides (codes "\u{1b}[1\u{1b}c") 0
    (gives (codes "\u{1b}[1\u{1b}") [] ∷ gives (codes "\u{1b}c") (EscDispatch [] false 0x63 ∷ [])
    ∷ [])
    -- The first ESC is too near to the start, and the last is the end.
    ∷ divides (codes "a\u{1b}b\u{1b}") 2
    (gives (codes "a\u{1b}b\u{1b}") (Print 0x61 ∷ EscDispatch [] false 0x62 ∷ [])
    ∷ gives (codes "\u{1b}") []
    ∷ [])
    ∷ []
