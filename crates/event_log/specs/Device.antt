-- What is known of the bytes of a device, before and after a call.
use Rattle.std.specs.Prelude.{Bool, if◌then◌else◌, is_some, List, None, Option, Some, ℕ, ⊤, ◌≡◌}
use Rattle.event_log.specs.declared.device.Device.{Device}

-- If the bytes are known before and after, they are the same.
abbrev pub KeepsWhereKnown : Option (List ℕ) → Option (List ℕ) → Type 0
KeepsWhereKnown (Some before) (Some after) = after ≡ before
KeepsWhereKnown _ _ = ⊤

-- The reader or writer inside a device.
abbrev pub device_inner : {D : Type 0} → Device D → D
device_inner device = device.inner

-- A device has failed once it keeps an error.
abbrev pub device_failed : {D : Type 0} → Device D → Bool
device_failed device = is_some device.error

-- What is known of the bytes inside, as long as the device hasn't failed.
abbrev pub known_if_working : Bool → Option (List ℕ) → Option (List ℕ)
known_if_working failed known = if failed then None else known
