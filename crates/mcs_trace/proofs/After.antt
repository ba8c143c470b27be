-- Messages at the ends of lines.
use Rattle.std.proofs.Common.{◌≡◌, ℕ, ◌+◌, List, [], ◌∷◌, ◌++◌, length, drop, sym, ap, subst, ◌∙◌, arith, append_assoc, length-append}
use Rattle.std.specs.Fmt.{decimal}
use Rattle.std.proofs.lemmas.List.{append_cancel_right}
use Rattle.std.proofs.lemmas.List.Concat.{flat_map-cons}
use Rattle.std.proofs.Math.Seq.{drop-append_seam}
use Rattle.mcs_types.specs.Views.{Content}
use Rattle.mcs_types.specs.declared.entry.Entry.TheVariants.{ReplyRecv}
use Rattle.mcs_packing.specs.declared.entries.Sending.{Sending}
use Rattle.mcs_packing.specs.declared.entries.Sending.TheVariants as sends
use Rattle.mcs_packing.specs.Entries.{sending}
use Rattle.mcs_text.specs.declared.key.Key.{Key}
use Rattle.mcs_text.specs.declared.key.Key.TheVariants as k
use Rattle.mcs_text.specs.declared.token.Entrant.{Entrant}
use Rattle.mcs_text.specs.declared.token.Token.TheVariants.{Number, Name, Key as Fixed}
use Rattle.mcs_text.specs.Spelling.{then_text, line_text}
use Rattle.mcs_text.specs.Table.{step_by, step_text}
use Rattle.mcs_trace.specs.Reading.{IsAfter, front_text, message_text, sending_key}

-- a line that is a front and a message
is_after : (line front : List ℕ) (label : ℕ) (words : List ℕ) → line ≡ front ++ message_text label words → IsAfter line (length front) label words
is_after line front label words is =
    (omega (arith, ap length is, length-append front (message_text label words)), ap (drop (length front)) is ∙ drop-append_seam front (message_text label words))

-- a line of an address and other numbers
whole : (from : Entrant) (key : Key) (address label : ℕ) (words line : List ℕ)
    → line_text (Number from.core.0) (Name from.thread ∷ Fixed key ∷ []) (address ∷ label ∷ words) ≡ line ++ 10 ∷ []
    → line ≡ front_text from key address ++ message_text label words
unfolding line_text
whole from key address label words line e =
    let N : ℕ → List ℕ = λ n. then_text (decimal n) in
    append_cancel_right line (front_text from key address ++ message_text label words) (10 ∷ [])
    (sym e ∙ rw (flat_map-cons N address (label ∷ words)) (simp append_assoc))

-- the message of a step that sends
pub after-sent : (from : Entrant) (form : Sending) (address : ℕ) (m : Content) (line : List ℕ) (front : ℕ)
    → step_text (step_by from (sending form address m)) ≡ line ++ 10 ∷ [] → front ≡ length (front_text from (sending_key form) address) → IsAfter line front m.label m.words
after-sent from sends.Send address m line front e is =
    subst (λ n. IsAfter line n m.label m.words) (sym is) (is_after line (front_text from k.Send address) m.label m.words (whole from k.Send address m.label m.words line e))
after-sent from sends.NbSend address m line front e is =
    subst (λ n. IsAfter line n m.label m.words) (sym is) (is_after line (front_text from k.NbSend address) m.label m.words (whole from k.NbSend address m.label m.words line e))
after-sent from sends.Call address m line front e is =
    subst (λ n. IsAfter line n m.label m.words) (sym is) (is_after line (front_text from k.Call address) m.label m.words (whole from k.Call address m.label m.words line e))

-- the message of a step that replies and receives
pub after-replied : (from : Entrant) (cap reply : ℕ) (m : Content) (line : List ℕ) (front : ℕ)
    → step_text (step_by from (ReplyRecv cap reply m)) ≡ line ++ 10 ∷ [] → front ≡ length (front_text from k.ReplyRecv cap) + 1 + length (decimal reply) → IsAfter line front m.label m.words
after-replied from cap reply m line front e is =
    let N : ℕ → List ℕ = λ n. then_text (decimal n) in
    let first : List ℕ = front_text from k.ReplyRecv cap in
    let long : length (first ++ N reply) ≡ front = length-append first (N reply) ∙ omega (arith, is) in
    let is_whole : line ≡ (first ++ N reply) ++ message_text m.label m.words =
    whole from k.ReplyRecv cap reply (m.label ∷ m.words) line e ∙ ap (λ (l : List ℕ). first ++ l) (flat_map-cons N reply (m.label ∷ m.words))
    ∙ sym (append_assoc first (N reply) (message_text m.label m.words)) in
    subst (λ n. IsAfter line n m.label m.words) long (is_after line (first ++ N reply) m.label m.words is_whole)
