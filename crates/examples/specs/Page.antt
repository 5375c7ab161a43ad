-- The value of a page: whether the terminal should ring.
use Rattle.std.specs.Prelude.{Bool, true}
use Rattle.vte.specs.Call.{Bell, Call}

-- Only a bell sets it, and no call resets it.
abbrev pub rung_after : Bool → Call → Bool
rung_after rung Bell = true
rung_after rung call = rung
