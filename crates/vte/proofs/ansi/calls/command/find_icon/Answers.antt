-- The text that is looked up is the name itself.
use Rattle.std.specs.Result.{result_ok}
use Rattle.vte.proofs.ansi.calls.command.find_icon.Goals as goal
use Rattle.vte.proofs.Common.{ap, None, ok_or, Option, refl, rules, Some, ◌∙◌, ◌≡◌}
use Rattle.vte_types.specs.CursorIcon.{icon_of}

-- `ok_or` keeps what was found, whatever the error.
ok_or-found : {A E : Type 0} (found : Option A) (error : E) → result_ok (ok_or found error) ≡ found
ok_or-found None error = refl
ok_or-found (Some value) error = refl

pub returns : goal.returns
returns c =
    let same_name : c.in_ok-text_in.field-0.now ≡ c.args.name.now = search rules in
    c.ok.ensures.value ∙ ap result_ok c.from_str.ensures ∙ ok_or-found _ _ ∙ ap icon_of same_name
