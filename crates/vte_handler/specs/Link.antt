-- The texts of a link.
use Rattle.std.specs.Prelude.{List, Option, option_map, ℕ}
use Rattle.vte_handler.specs.declared.hyperlink.Hyperlink.{Hyperlink}

-- The end of a link is no link, so each has a URI.
pub record Link : Type 0 where
  pub id : Option (List ℕ)
  pub uri : List ℕ

-- A link counts as its texts.
abbrev pub link_of : Hyperlink → Link
link_of link = record { id = option_map (λ text. text.now) link.id; uri = link.uri.now }
