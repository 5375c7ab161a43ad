-- What is open at the end of a stream: nothing before the last ESC has a say in it, and an open character is the last
-- bytes of the stream. By the definitions, part by part.
use Rattle.vte_core.proofs.Common.{All, ap, append-nil, append_assoc, arith, body_outcome, body_rest, Bool, cases_Bool, class_of, concat, control_sequence_outcome, cut_at_escape, device_control_after_head, device_control_outcome, device_data_outcome, ends_device_data, ends_head, ends_system_command, eqb-true, escape, escape_outcome, EscapeSequence, from_first, inl, inr, is_cancel, is_key, length, List, None, open_at, open_bytes, open_character, Option, Outcome, outcome, Place, refl, rules, segments, segments_outcome, sequence_kind, sequence_outcome, SequenceKind, subst, sym, system_command_outcome, system_command_rest, text_outcome, with_bodies, ℕ, [], ◌++◌, ◌∙◌, ◌∷◌, ◌≡◌, ◌≢◌, ◌≤◌, ◌⊎◌}
use Rattle.vte_core.proofs.lemmas.bytes.Utf8.{truncated-long}
use Rattle.vte_core.proofs.lemmas.dividing.Division.{all_divided}
use Rattle.vte_core.proofs.lemmas.dividing.Utf8Agrees.{cut-text}
use Rattle.vte_core.proofs.lemmas.fields.PlaceOfState.{IsReachable}
use Rattle.vte_core.proofs.lemmas.streams.After.{after-open_character}
use Rattle.vte_core.proofs.lemmas.streams.StreamSteps.{leads_to}
use Rattle.vte_core.specs.Class.{ends_escape}
use Rattle.vte_core.specs.ControlSequence.{control_sequence_rest}
use Rattle.vte_core.specs.declared.parser.open.Open.TheVariants as kind
use Rattle.vte_core.specs.DeviceControl.{device_control_rest, device_data_rest}
use Rattle.vte_core.specs.Escape.{escape_rest}
use Rattle.vte_core.specs.IgnoredString.{ignored_string_outcome, ignored_string_rest}
use Rattle.vte_core.specs.Laws.{OpensLate}
use Rattle.vte_core.specs.Open.{open_at_end, open_of}
use Rattle.vte_core.specs.SequenceKind.{ControlSequence, DeviceControl, IgnoredString, SystemCommand}

-- ---- some bytes are the last of others (`Ends`)

-- `last` ends `whole`, after these bytes.
record Ends (whole last : List ℕ) : Type 0 where
  pub prefix : List ℕ
  pub joins : prefix ++ last ≡ whole

ends-all : (text : List ℕ) → Ends text text
ends-all text = record { prefix = []; joins = refl }

ends-nothing : (text : List ℕ) → Ends text []
ends-nothing text = record { prefix = text; joins = append-nil text }

ends-after : (before : List ℕ) {whole last : List ℕ} → Ends whole last → Ends (before ++ whole) last
ends-after before {last} ends = record {
  prefix = before ++ ends.prefix;
  joins = append_assoc before ends.prefix last ∙ ap (λ u. before ++ u) ends.joins;
}

-- ---- the open character of each part is its last bytes

-- The outcome of these bytes leaves a character open with which they end, or none.
abbrev EndsOpen : List ℕ → Outcome → Type 0
EndsOpen bytes o = Ends bytes (open_bytes o.to_close)

ends-segments : (parts : List (List ℕ)) → EndsOpen (concat parts) (segments_outcome parts)
ends-segments [] = ends-all []
ends-segments (part ∷ []) = search (rules, arith, append-nil, ends-all, ends-nothing)
ends-segments (part ∷ next ∷ parts) = ends-after part (ends-segments (next ∷ parts))

ends-text : (text : List ℕ) → EndsOpen text (text_outcome text)
unfolding text_outcome
ends-text text =
    subst (λ u. EndsOpen u (segments_outcome (segments text))) (all_divided text) (ends-segments (segments text))

-- What the grammar cuts off: the first byte that passes and all that follow. Nothing is open before they come.
ends-cut : (passes : ℕ → Bool) (rest : List ℕ → Outcome) (bytes : List ℕ) → open_bytes (rest []).to_close ≡ []
    → ((end : ℕ) (text : List ℕ) → EndsOpen (end ∷ text) (rest (end ∷ text)))
    → EndsOpen bytes (rest (from_first passes bytes))
ends-cut passes rest [] nothing_open ends_on = record { prefix = []; joins = nothing_open }
ends-cut passes rest (b ∷ bytes) nothing_open ends_on = elim (cases_Bool (passes b)) [
  | inl asks ↦ rw asks (ends_on b bytes)
  | inr not ↦ rw not (ends-after (b ∷ []) (ends-cut passes rest bytes nothing_open ends_on))
]

-- A text follows the end.
ends-text_after : (end : ℕ) (text : List ℕ) → EndsOpen (end ∷ text) (text_outcome text)
ends-text_after end text = ends-after (end ∷ []) (ends-text text)

ends-escape : (bytes : List ℕ) → EndsOpen bytes (escape_outcome bytes)
unfolding escape_outcome
ends-escape bytes = ends-cut (λ b. ends_escape (class_of b)) (escape_rest _) bytes refl ends-text_after

ends-control : (bytes : List ℕ) → EndsOpen bytes (control_sequence_outcome bytes)
unfolding control_sequence_outcome
ends-control bytes = ends-cut (λ b. ends_head (class_of b)) (control_sequence_rest _) bytes refl ends-text_after

ends-ignored : (bytes : List ℕ) → EndsOpen bytes (ignored_string_outcome bytes)
unfolding ignored_string_outcome
ends-ignored bytes = ends-cut (λ b. is_cancel (class_of b)) ignored_string_rest bytes refl ends-text_after

ends-data : (bytes : List ℕ) → EndsOpen bytes (device_data_outcome bytes)
unfolding device_data_outcome
ends-data bytes = ends-cut ends_device_data device_data_rest bytes refl ends-text_after

ends-after_head : (head : List ℕ) (end : ℕ) (bytes : List ℕ)
    → EndsOpen bytes (device_control_after_head head end bytes)
unfolding device_control_after_head
ends-after_head head end bytes = search (rules, arith, ends-text, ends-data, ends-ignored)

ends-device : (bytes : List ℕ) → EndsOpen bytes (device_control_outcome bytes)
unfolding device_control_outcome
ends-device bytes =
    ends-cut (λ b. ends_head (class_of b)) (device_control_rest _) bytes refl
    (λ end rest. ends-after (end ∷ []) (ends-after_head _ end rest))

ends-command : (limit : Option ℕ) (bytes : List ℕ) → EndsOpen bytes (system_command_outcome limit bytes)
unfolding system_command_outcome
ends-command limit bytes = ends-cut ends_system_command (system_command_rest _ _) bytes refl ends-text_after

-- So it is of each kind of sequence, and of a body.
ends-sequence : (limit : Option ℕ) (kind : SequenceKind) (key : ℕ) (bytes : List ℕ)
    → EndsOpen (key ∷ bytes) (sequence_outcome limit kind key bytes)
ends-sequence limit ControlSequence key bytes = ends-after (key ∷ []) (ends-control bytes)
ends-sequence limit DeviceControl key bytes = ends-after (key ∷ []) (ends-device bytes)
ends-sequence limit SystemCommand key bytes = ends-after (key ∷ []) (ends-command limit bytes)
ends-sequence limit IgnoredString key bytes = ends-after (key ∷ []) (ends-ignored bytes)
ends-sequence limit EscapeSequence key bytes = ends-escape (key ∷ bytes)

ends-body_rest : (limit : Option ℕ) (key : ℕ) (bytes : List ℕ)
    → EndsOpen (key ∷ bytes) (body_rest limit (key ∷ bytes))
ends-body_rest limit key bytes = elim (cases_Bool (is_cancel (class_of key))) [
  | inl cancels ↦ rw cancels (ends-text_after key bytes)
  | inr other ↦ rw other (ends-sequence limit (sequence_kind key) key bytes)
]

ends-body : (limit : Option ℕ) (body : List ℕ) → EndsOpen body (body_outcome limit body)
unfolding body_outcome
ends-body limit body = ends-cut (λ b. is_key (class_of b)) (body_rest limit) body refl (ends-body_rest limit)

-- ---- so it is of a stream, whose parts are joined by ESC

-- What follows the first text of a stream: each body after its ESC.
abbrev joined_bodies : List (List ℕ) → List ℕ
joined_bodies [] = []
joined_bodies (body ∷ bodies) = escape ∷ body ++ joined_bodies bodies

-- The cut loses no byte.
cut-joined : (stream : List ℕ) → (cut_at_escape stream).text ++ joined_bodies (cut_at_escape stream).bodies ≡ stream
cut-joined [] = refl
cut-joined (b ∷ stream) = search (rules, arith, (cut-joined stream), eqb-true)

-- Only the last part can leave a character open.
ends-bodies : (limit : Option ℕ) (text : List ℕ) (part : Outcome) (bodies : List (List ℕ)) → EndsOpen text part
    → EndsOpen (text ++ joined_bodies bodies) (with_bodies limit part bodies)
ends-bodies limit text part [] ends_open = rw (append-nil text) ends_open
ends-bodies limit text part (body ∷ bodies) ends_open =
    ends-after text (ends-after (escape ∷ [])
    (ends-bodies limit body (body_outcome limit body) bodies (ends-body limit body)))

ends-stream : (limit : Option ℕ) (stream : List ℕ) → EndsOpen stream (outcome limit stream)
unfolding outcome
ends-stream limit stream =
    let cut = cut_at_escape stream in
    subst (λ u. EndsOpen u (with_bodies limit (text_outcome cut.text) cut.bodies)) (cut-joined stream)
    (ends-bodies limit cut.text (text_outcome cut.text) cut.bodies (ends-text cut.text))

-- ---- nothing before an ESC matters

-- What comes before an ESC has no effect on the bodies after it.
cut-append : (stream more : List ℕ)
    → cut_at_escape (stream ++ escape ∷ more)
    ≡ record {
      text = (cut_at_escape stream).text;
      bodies = (cut_at_escape stream).bodies ++ (cut_at_escape more).text ∷ (cut_at_escape more).bodies;
    }
cut-append [] more = refl
cut-append (b ∷ stream) more = search (rules, arith, (cut-append stream more))

-- What comes before a body has no effect on what is left to close.
to_close-last : (limit : Option ℕ) (part : Outcome) (before : List (List ℕ)) (body : List ℕ) (bodies : List (List ℕ))
    → (with_bodies limit part (before ++ body ∷ bodies)).to_close
    ≡ (with_bodies limit (body_outcome limit body) bodies).to_close
to_close-last limit part [] body bodies = refl
to_close-last limit part (first ∷ before) body bodies =
    to_close-last limit (body_outcome limit first) before body bodies

opens-escape : (stream more : List ℕ) → open_at_end (stream ++ escape ∷ more) ≡ open_at_end (escape ∷ more)
unfolding open_at_end outcome
opens-escape stream more = search (rules, arith, cut-append, to_close-last)

-- ---- without an ESC nothing is open, or a character

kind-segments : (parts : List (List ℕ))
    → (open_of (segments_outcome parts).to_close ≡ kind.Nothing)
    ⊎ (open_of (segments_outcome parts).to_close ≡ kind.Character)
kind-segments [] = inl refl
kind-segments (part ∷ []) = search (rules, arith)
kind-segments (part ∷ next ∷ parts) = kind-segments (next ∷ parts)

opens-text : (text : List ℕ) → All (λ b. b ≢ escape) text
    → (open_at_end text ≡ kind.Nothing) ⊎ (open_at_end text ≡ kind.Character)
unfolding open_at_end outcome text_outcome
opens-text text no_escapes =
    let cut : cut_at_escape text ≡ record { text = text; bodies = [] } =
    ap cut_at_escape (sym (append-nil text)) ∙ cut-text text [] no_escapes
    ∙ ap (λ u. record { text = u; bodies = [] }) (append-nil text) in
    rw cut (kind-segments (segments text))

-- ---- an open character has at most three bytes, and the law

-- A truncated sequence has at most three bytes.
open_at-at_most : (place : Place) → IsReachable place → length (open_at place) ≤ 3
open_at-at_most place is_reachable = search (rules, arith, truncated-long)

open_character-at_most : (stream : List ℕ) → length (open_character stream) ≤ 3
open_character-at_most stream =
    let leads = leads_to {limit = None} {stream = stream} in
    rw (after-open_character leads.is_after leads.is_reachable) (open_at-at_most leads.place leads.is_reachable)

pub opens_late : OpensLate
unfolding open_character
opens_late = record {
  after_escape = opens-escape;
  without_escape = opens-text;
  character = λ stream.
      let ends = ends-stream None stream in
      record { prefix = ends.prefix; joins = ends.joins; at_most = open_character-at_most stream };
}
