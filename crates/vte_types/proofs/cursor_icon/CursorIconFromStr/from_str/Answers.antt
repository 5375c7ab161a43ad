-- The icon that was found is returned, and an error if there is none.
use Rattle.std.proofs.Common.{ap, ◌∙◌}
use Rattle.std.specs.Option.{ok_or}
use Rattle.vte_types.proofs.cursor_icon.CursorIconFromStr.from_str.Goals as goal

pub returns : goal.returns
returns c = c.ok_or.ensures.value ∙ ap (λ icon. ok_or icon tt) c.find_icon.ensures
