-- What a stream leaves open is the same for any limit: by the definitions, part by part, only what is kept of a command
-- depends on the size of the store.
use Rattle.vte_core.proofs.Common.{arith, body_outcome, body_rest, Bool, cases_Bool, class_of, CommandToClose, cut_at_escape, from_first, inl, inr, is_cancel, is_key, List, None, open_bytes, open_character, Option, Outcome, outcome, refl, rules, sequence_kind, sequence_outcome, SequenceKind, system_command_outcome, text_outcome, ToClose, with_bodies, ℕ, [], ◌∷◌, ◌≡◌}
use Rattle.vte_core.specs.Open.{open_at_end, open_of}

-- A view of what is open that is the same whatever is kept of a command.
module _ {A : Type 0} (view : ToClose → A)
    (same : (pieces others : List (List ℕ)) (lost other : Bool)
    → view (CommandToClose pieces lost) ≡ view (CommandToClose others other)) where
  view-shape : (limit : Option ℕ) (kind : SequenceKind) (key : ℕ) (bytes : List ℕ)
      → view (sequence_outcome limit kind key bytes).to_close ≡ view (sequence_outcome None kind key bytes).to_close
  unfolding system_command_outcome
  view-shape limit kind key bytes = search (rules, arith)

  view-rest : (limit : Option ℕ) (rest : List ℕ)
      → view (body_rest limit rest).to_close ≡ view (body_rest None rest).to_close
  view-rest limit [] = refl
  view-rest limit (key ∷ bytes) =
      elim (cases_Bool (is_cancel (class_of key))) [
        | inl cancels ↦ rw cancels refl
        | inr other ↦ rw other (view-shape limit (sequence_kind key) key bytes)
      ]

  view-body : (limit : Option ℕ) (body : List ℕ)
      → view (body_outcome limit body).to_close ≡ view (body_outcome None body).to_close
  unfolding body_outcome
  view-body limit body = view-rest limit (from_first (λ b. is_key (class_of b)) body)

  view-bodies : (limit : Option ℕ) (part other : Outcome) (bodies : List (List ℕ))
      → view part.to_close ≡ view other.to_close
      → view (with_bodies limit part bodies).to_close ≡ view (with_bodies None other bodies).to_close
  view-bodies limit part other [] agree = agree
  view-bodies limit part other (body ∷ bodies) agree =
      view-bodies limit (body_outcome limit body) (body_outcome None body) bodies (view-body limit body)

  view-any : (limit : Option ℕ) (stream : List ℕ)
      → view (outcome limit stream).to_close ≡ view (outcome None stream).to_close
  unfolding outcome
  view-any limit stream =
      let cut = cut_at_escape stream in
      view-bodies limit (text_outcome cut.text) (text_outcome cut.text) cut.bodies refl

-- Which bytes of a character are open is the same.
pub open_bytes-any : (limit : Option ℕ) (stream : List ℕ)
    → open_bytes (outcome limit stream).to_close ≡ open_character stream
unfolding open_character
open_bytes-any limit stream = view-any open_bytes (λ _ _ _ _. refl) limit stream

-- What is kept of a command has no effect on which kind is open.
pub open_at_end-any : (limit : Option ℕ) (stream : List ℕ)
    → open_of (outcome limit stream).to_close ≡ open_at_end stream
unfolding open_at_end
open_at_end-any limit stream = view-any open_of (λ _ _ _ _. refl) limit stream
