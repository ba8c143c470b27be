-- A message that is received as it is sent.
use Rattle.std.specs.Prelude.{◌≡◌, ◌<◌, ◌+◌, ◌++◌, ◌∷◌, Bool, true, false, List, Option, Some, None, length}
use Rattle.std.proofs.Common.{refl, ap, sym, ◌∙◌, arith}
use Rattle.std.proofs.lemmas.Bool.{eq-eqb}
use Rattle.mcs_types.specs.Views.{Content}
use Rattle.mcs_types.specs.declared.id.Badge.{Badge}
use Rattle.mcs_types.specs.declared.id.ObjId.{ObjId}
use Rattle.mcs_types.specs.declared.id.Kind.TheVariants as kind
use Rattle.mcs_types.specs.declared.record.Letter.{Letter}
use Rattle.mcs_types.specs.declared.record.Mail.TheVariants.{Message}
use Rattle.mcs_types.specs.declared.record.Rec.{Rec}
use Rattle.mcs_types.specs.declared.record.Rec.TheVariants.{Sent, Took}
use Rattle.mcs_types.specs.declared.record.SendMode.{SendMode}
use Rattle.mcs_types.specs.Ids.{same}
use Rattle.mcs_types.proofs.Ids.{same-self, same-equal}
use Rattle.mcs_book.specs.Logs.{Log}
use Rattle.mcs_book.specs.History.{Book, log_of}
use Rattle.mcs_book.specs.Growing.{growing_open, unless_number}
use Rattle.mcs_book.specs.Messages.{letter, open_of, next_message}
use Rattle.mcs_book.specs.Sound.{Allowed, Sound, HasNoneOpen}
use Rattle.mcs_book.proofs.Messages.MessageLaws.{open_of-letter}
use Rattle.mcs_book.proofs.Messages.OpenLaws.{open_of-growing}
use Rattle.mcs_book.proofs.Messages.SendersOpen.{open_of-is}
use Rattle.mcs_objects.specs.Places.{kept_at}
use Rattle.mcs_state.specs.Tables.{HAND, Tables, IsKept, LettersAgree}
use Rattle.mcs_state.specs.Following.{Mails}
use Rattle.mcs_state.proofs.Following.{sent-follows}
use Rattle.mcs_state.proofs.ThreadLaws.{threads-follow}
use Rattle.mcs_state.proofs.LetterLaws.{stays}
use Rattle.mcs_state.proofs.ContextLaws.{contexts-follow}
use Rattle.mcs_state.proofs.QueueLaws.{queues-follow}
use Rattle.mcs_state.proofs.ReplyLaws.{replies-follow}
use Rattle.mcs_state.proofs.NotificationLaws.{notifications-follow}
use Rattle.mcs_state.proofs.SlotLaws.{slots-follow}

-- who has no open message has none that grows
none-grows : (R : Log) (x : ObjId) → Sound R → HasNoneOpen R x → growing_open R x ≡ None
none-grows R x sound none = sym (open_of-growing R x sound) ∙ go (open_of R x) refl
  where
    go : (o : Option Letter) → open_of R x ≡ o → o ≡ None
    go None is = refl
    go (Some s) is = absurd (none s.endpoint s.number (open_of-is R x s is))

-- how the tables are after a message of x that p takes at once
pub record Hands (badge : Badge) (message : Content) (p : ObjId) (old new : Tables) : Type 0 where
  pub threads : Mails p (Message badge message) old.threads new.threads
  pub letters : new.letters ≡ old.letters
  pub contexts : new.contexts ≡ old.contexts
  pub queues : new.queues ≡ old.queues
  pub replies : new.replies ≡ old.replies
  pub notifications : new.notifications ≡ old.notifications
  pub slots : new.slots ≡ old.slots
  pub sent : new.sent ≡ old.sent + 1

module _ (R : Log) (x e : ObjId) (mode : SendMode) (badge : Badge) (message : Content) (sound : Sound R) (ok : Allowed R (Sent x e mode badge message)) where
  -- the letter
  abbrev it : Letter
  it = record { number = next_message R; sender = x; endpoint = e; mode = mode; badge = badge; message = message }

  -- the log, once it is sent
  abbrev told : Log
  told = Sent x e mode badge message ∷ R

  grown : growing_open told x ≡ Some it
  grown = rw (same-self x) refl

  -- its number names it
  named : letter told (next_message R) ≡ Some it
  named = open_of-letter told x it (open_of-growing told x (ok, sound) ∙ grown)

  -- once it is taken, each thread has the open message that it had
  stay : (p : ObjId) (L : List (Option Letter)) → LettersAgree L R → LettersAgree L (Took (next_message R) p ∷ told)
  stay p L a t = go (same x t) refl
    where
      go : (b : Bool) → same x t ≡ b → kept_at kind.Thread L t ≡ unless_number (next_message R) (growing_open told t)
      go true h =
          let own : growing_open told t ≡ Some it = ap (growing_open told) (sym (same-equal x t h)) ∙ grown in
          let gone : unless_number (next_message R) (Some it) ≡ None = rw (eq-eqb (next_message R) (next_message R) refl) refl in
          a t ∙ ap (growing_open R) (sym (same-equal x t h)) ∙ none-grows R x sound ok.3 ∙ sym gone ∙ ap (unless_number (next_message R)) (sym own)
      go false h =
          let others : growing_open told t ≡ growing_open R t = rw h refl in
          let kept = stays told x t it (ok, sound) grown (λ is. let no : true ≡ false = sym (same-self x) ∙ ap (λ z. same x z) (sym is) ∙ h in absurd cc) in
          a t ∙ sym others ∙ sym kept

-- the state after both records
pub hands : (T T' : Tables) (hand hand' : Log) (book book' : Book) (x e : ObjId) (mode : SendMode) (badge : Badge) (message : Content) (p : ObjId)
    → book' ≡ book → hand' ≡ Took (next_message (hand ++ log_of book)) p ∷ Sent x e mode badge message ∷ hand → length hand + 1 < HAND
    → Allowed (hand ++ log_of book) (Sent x e mode badge message)
    → Allowed (Sent x e mode badge message ∷ (hand ++ log_of book)) (Took (next_message (hand ++ log_of book)) p)
    → Hands badge message p T T'
    → IsKept T (length book.lines) hand (hand ++ log_of book) → IsKept T' (length book'.lines) hand' (hand' ++ log_of book')
hands T T' hand hand' book book' x e mode badge message p same noted room ok taken h a =
    let R : Log = hand ++ log_of book in
    let one : Rec = Sent x e mode badge message in
    let two : Rec = Took (next_message R) p in
    let S : Log = one ∷ R in
    let sound : Sound S = (ok, a.sound) in
    rw (same, noted) (record {
      few = omega (arith, room);
      sound = (taken, sound);
      threads = threads-follow two S T.threads T'.threads sound taken (it R x e mode badge message a.sound ok, (named R x e mode badge message a.sound ok, h.threads)) (threads-follow one R T.threads T.threads a.sound ok refl a.threads);
      letters = rw h.letters (stay R x e mode badge message a.sound ok p T.letters a.letters);
      contexts = contexts-follow two S T.contexts T'.contexts sound taken h.contexts (contexts-follow one R T.contexts T.contexts a.sound ok refl a.contexts);
      queues = queues-follow two S T.queues T'.queues sound taken h.queues (queues-follow one R T.queues T.queues a.sound ok refl a.queues);
      replies = replies-follow two S T.replies T'.replies sound taken h.replies (replies-follow one R T.replies T.replies a.sound ok refl a.replies);
      notifications = notifications-follow two S T.notifications T'.notifications sound taken h.notifications (notifications-follow one R T.notifications T.notifications a.sound ok refl a.notifications);
      slots = slots-follow two S T.slots T'.slots sound taken h.slots (slots-follow one R T.slots T.slots a.sound ok refl a.slots);
      sent = sent-follows two (T.sent + 1) T'.sent (length book.lines) (one ∷ hand) S h.sent (sent-follows one T.sent (T.sent + 1) (length book.lines) hand R refl a.sent);
    })
