-- What the arguments ask for.
use Rattle.std.specs.Prelude.{bytes_eq, codes, if◌then◌else◌, List, None, Option, Some, ℕ, [], ◌||◌, ◌∷◌}
use Rattle.vtlog.specs.declared.Mode.{Mode}
use Rattle.vtlog.specs.declared.Mode.TheVariants.{Lines, Text}
use Rattle.vtlog.specs.declared.TheConstants.{HELP, VERSION}

-- The help or the version, if the only argument asks for it.
abbrev pub page_of : List (List ℕ) → Option (List ℕ)
page_of [] = None
page_of (word ∷ []) =
    if bytes_eq word (codes "-h") || bytes_eq word (codes "--help") then Some HELP.now
    else if bytes_eq word (codes "--version") then Some VERSION.now else None
page_of (word ∷ next ∷ words) = None

-- The mode that the arguments choose.
abbrev pub chosen_mode : List (List ℕ) → Option Mode
chosen_mode [] = Some Lines
chosen_mode (word ∷ []) = if bytes_eq word (codes "text") then Some Text else None
chosen_mode (word ∷ next ∷ words) = None
