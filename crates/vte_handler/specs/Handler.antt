-- The value of a handler after a list of calls, and what a run of text is. `vte_core`, which has no
-- calls and isn't used here, says the same of events and of runs.
use Rattle.std.specs.List.{All}
use Rattle.std.specs.Prelude.{Bool, false, List, nat_le, nat_lt, ℕ, [], ◌&&◌, ◌||◌, ◌∷◌, ◌≡◌}
use Rattle.std.specs.Str.{chars}
use Rattle.vte_handler.specs.Call.{Call}

-- Each call makes a step, in order.
abbrev pub after : {V : Type 0} → (V → Call → V) → V → List Call → V
after step value [] = value
after step value (call ∷ calls) = after step (step value call) calls

-- C0 and C1: U+0000..U+001F and U+0080..U+009F.
abbrev pub is_control_character : ℕ → Bool
is_control_character c = nat_lt c 0x20 || (nat_le 0x80 c && nat_lt c 0xa0)

-- Every character of a text is one to show.
abbrev pub AreShown : List ℕ → Type 0
AreShown text = All (λ c. is_control_character c ≡ false) (chars text)
