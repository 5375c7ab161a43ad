-- The keywords of cursor icons (CSS, property `cursor`).
use Rattle.std.specs.Prelude.{codes, List, Option, ℕ, [], ◌∷◌}
use Rattle.vte_types.specs.declared.cursor_icon.CursorIcon.{CursorIcon}
use Rattle.vte_types.specs.declared.cursor_icon.CursorIcon.TheVariants.{Alias, AllScroll, Cell, ColResize, ContextMenu, Copy, Crosshair, Default, EResize, EwResize, Grab, Grabbing, Help, Move, NeResize, NeswResize, NoDrop, NotAllowed, NResize, NsResize, NwResize, NwseResize, Pointer, Progress, RowResize, SeResize, SResize, SwResize, Text, VerticalText, Wait, WResize, ZoomIn, ZoomOut}
use Rattle.vte_types.specs.Words.{entry_of_word}

-- Each keyword, and its icon.
abbrev pub icons : List (List ℕ × CursorIcon)
icons =
    (codes "default", Default) ∷
    (codes "context-menu", ContextMenu) ∷
    (codes "help", Help) ∷
    (codes "pointer", Pointer) ∷
    (codes "progress", Progress) ∷
    (codes "wait", Wait) ∷
    (codes "cell", Cell) ∷
    (codes "crosshair", Crosshair) ∷
    (codes "text", Text) ∷
    (codes "vertical-text", VerticalText) ∷
    (codes "alias", Alias) ∷
    (codes "copy", Copy) ∷
    (codes "move", Move) ∷
    (codes "no-drop", NoDrop) ∷
    (codes "not-allowed", NotAllowed) ∷
    (codes "grab", Grab) ∷
    (codes "grabbing", Grabbing) ∷
    (codes "e-resize", EResize) ∷
    (codes "n-resize", NResize) ∷
    (codes "ne-resize", NeResize) ∷
    (codes "nw-resize", NwResize) ∷
    (codes "s-resize", SResize) ∷
    (codes "se-resize", SeResize) ∷
    (codes "sw-resize", SwResize) ∷
    (codes "w-resize", WResize) ∷
    (codes "ew-resize", EwResize) ∷
    (codes "ns-resize", NsResize) ∷
    (codes "nesw-resize", NeswResize) ∷
    (codes "nwse-resize", NwseResize) ∷
    (codes "col-resize", ColResize) ∷
    (codes "row-resize", RowResize) ∷
    (codes "all-scroll", AllScroll) ∷
    (codes "zoom-in", ZoomIn) ∷
    (codes "zoom-out", ZoomOut) ∷
    []

-- The result of `from_str`.
abbrev pub icon_of : List ℕ → Option CursorIcon
icon_of text = entry_of_word icons text
