-- The senders of an endpoint that restart, one after another: what each leaves of the queue, and
-- what is left to be recorded.
use Rattle.std.specs.Prelude.{ℕ, ◌≡◌, ◌≢◌, ◌<◌, Bool, true, false, cond, List, [], ◌∷◌, Option, Some, None, filter, length}
use Rattle.std.specs.Option.{IfSome}
use Rattle.std.proofs.Common.{refl, ap, sym, ◌∙◌, inl, inr, subst, arith}
use Rattle.mcs_types.specs.declared.id.ObjId.{ObjId}
use Rattle.mcs_types.specs.declared.record.Letter.{Letter}
use Rattle.mcs_types.specs.declared.record.Mode.{Mode}
use Rattle.mcs_types.specs.declared.record.Mode.TheVariants.{Restart}
use Rattle.mcs_types.specs.declared.record.Queue.{Queue}
use Rattle.mcs_types.specs.declared.record.Queue.TheVariants.{Senders}
use Rattle.mcs_types.specs.declared.record.Rec.TheVariants as rec
use Rattle.mcs_types.specs.Chains.{head_of}
use Rattle.mcs_book.specs.Logs.{Log, onto}
use Rattle.mcs_book.specs.Cancelling.{drop_message, leave, cancel, cancel_all}
use Rattle.mcs_book.specs.Growing.{growing_open, growing_queue, threads_in, without}
use Rattle.mcs_book.specs.Messages.{open_of}
use Rattle.mcs_book.specs.Pieces.{Piece, ◌then◌, nothing, say}
use Rattle.mcs_book.specs.Placing.{has_badge}
use Rattle.mcs_book.specs.Queues.{queue_of, is_ahead, queued_in, first_in}
use Rattle.mcs_book.specs.Sound.{Sound}
use Rattle.mcs_book.proofs.Firm.Cancel.{line-in, in-line}
use Rattle.mcs_book.proofs.Messages.OpenLaws.{open_of-growing}
use Rattle.mcs_book.proofs.Queues.QueueLaws.{ahead-irreflexive, line-sorted, queued_in-growing}
use Rattle.mcs_book.proofs.Queues.Sorted.{In, Distinct, Sorted, ahead-in}
use Rattle.mcs_book.proofs.SoundLogs.Keeping.{then-next}
use Rattle.mcs_book.proofs.SoundLogs.KeptLaws.{set-other}
use Rattle.mcs_state.specs.Doing.{Makes, HasRoomFor}
use Rattle.mcs_state.specs.Nexts.{next_among, next_in, next_of}
use Rattle.mcs_state.specs.Now.{Now, so_far, adds_all}
use Rattle.mcs_state.proofs.Doing.{so_far-made, makes-then, room-first, room-next}
use Rattle.mcs_state.proofs.LetterLaws.{stays}
use Rattle.mcs_cancel.specs.Badging.{restarts_one, restarts_with}
use Rattle.mcs_cancel.proofs.Followers.{from_on, removed, Followed, followed, from-first, threads-without}

-- the senders of e from one on
abbrev pub senders_from : Log → ObjId → Option ObjId → List ObjId
senders_from R e at = from_on at (queued_in R (Senders e))

-- those of a list whose message has this badge
abbrev pub badged : Log → ℕ → List ObjId → List ObjId
badged R badge xs = filter (λ x. has_badge badge (open_of R x)) xs

-- those of them restart
abbrev pub restarts_from : Log → ObjId → ℕ → Option ObjId → Piece
restarts_from R e badge at = cancel_all (badged R badge (senders_from R e at)) Restart

-- between two turns: the next one is in the queue, and once those from it on restart, all do that
-- were to
pub record IsUnderWay (e : ObjId) (badge : ℕ) (at : Option ObjId) (old now : Now) : Type 0 where
  pub sound : Sound (so_far now)
  pub stands : IfSome at (λ x. queue_of (so_far now) x ≡ Some (Senders e))
  pub room : HasRoomFor (restarts_from (so_far now) e badge at) now
  pub made : adds_all (restarts_from (so_far now) e badge at (so_far now)) now ≡ adds_all (restarts_with (so_far old) e badge (so_far old)) old

-- after x, who was among the senders of e, was cancelled: it left the queue, and others are as they
-- were
pub record IsWithout (x e : ObjId) (R S : Log) : Type 0 where
  pub line : growing_queue S (Senders e) ≡ without x (growing_queue R (Senders e))
  pub letters : (y : ObjId) → y ≢ x → growing_open S y ≡ growing_open R y
  pub queues : (y : ObjId) → y ≢ x → queue_of S y ≡ queue_of R y

-- a sender leaves its queue, and its message is dropped
sender-left : (R : Log) (x e : ObjId) → Sound R → IsWithout x e R (onto (leave R x (Some (Senders e)) R) R)
unfolding ◌then◌
sender-left R x e sound = go (open_of R x) refl
  where
    go : (o : Option Letter) → open_of R x ≡ o → IsWithout x e R (onto ((drop_message o then say (rec.Parts x (Senders e))) R) R)
    go None is = record { line = refl; letters = λ y ne. refl; queues = λ y ne. set-other y x None (queue_of R y) ne }
    go (Some s) is = record { line = refl; letters = λ y ne. stays R x y s sound (sym (open_of-growing R x sound) ∙ is) ne; queues = λ y ne. set-other y x None (queue_of R y) ne }

-- a sender is cancelled
sender-cancelled : (R : Log) (x e : ObjId) (mode : Mode) → Sound R → queue_of R x ≡ Some (Senders e) → IsWithout x e R (onto (cancel x mode R) R)
unfolding cancel
sender-cancelled R x e mode sound at =
    let h : IsWithout x e R (onto (leave R x (queue_of R x) R) R) = subst (λ q. IsWithout x e R (onto (leave R x q R) R)) (sym at) (sender-left R x e sound) in
    then-next (IsWithout x e R) (leave R x (queue_of R x)) (say (rec.Turns x mode)) R (record { line = h.line; letters = h.letters; queues = h.queues })

-- each is once in a queue
pub line-distinct : (R : Log) (q : Queue) → Sound R → Distinct (queued_in R q)
line-distinct R q sound = subst (λ xs. Distinct xs) (sym (queued_in-growing R q sound)) (go (threads_in (growing_queue R q)) (line-sorted R q sound))
  where
    go : (xs : List ObjId) → Sorted (is_ahead R) xs → Distinct xs
    go [] h = tt
    go (x ∷ xs) h = (λ i. ahead-irreflexive R x (ahead-in (is_ahead R) x xs x h.0 i), go xs h.1)

-- the queue loses the one that was cancelled
line-removed : (R S : Log) (x e : ObjId) → Sound R → Sound S → IsWithout x e R S → queued_in S (Senders e) ≡ removed x (queued_in R (Senders e))
line-removed R S x e sound sound' h =
    queued_in-growing S (Senders e) sound' ∙ ap (λ vs. threads_in vs) h.line ∙ threads-without x (growing_queue R (Senders e)) ∙ sym (ap (λ xs. removed x xs) (queued_in-growing R (Senders e) sound))

-- those whose messages are what they were have the badge that they had
badged-same : (R S : Log) (badge : ℕ) (xs : List ObjId) → ((y : ObjId) → In y xs → open_of S y ≡ open_of R y) → badged S badge xs ≡ badged R badge xs
badged-same R S badge [] h = refl
badged-same R S badge (x ∷ xs) h =
    ap (λ o. cond (has_badge badge o) (x ∷ badged S badge xs) (badged S badge xs)) (h x (inl refl))
    ∙ ap (λ ys. cond (has_badge badge (open_of R x)) (x ∷ ys) ys) (badged-same R S badge xs (λ y i. h y (inr i)))

-- the next of a thread that is in a queue
next-among : (R : Log) (x : ObjId) (q : Queue) → queue_of R x ≡ Some q → next_of R x ≡ next_among x (queued_in R q)
unfolding next_of
next-among R x q at = ap (λ o. next_in R o x) at

-- the first of a list is one of it
first-of : (P : ObjId → Type 0) (xs : List ObjId) → ((y : ObjId) → In y xs → P y) → IfSome (head_of xs) P
first-of P [] h = tt
first-of P (x ∷ xs) h = h x (inl refl)

-- at the beginning
pub begun : (e : ObjId) (badge : ℕ) (at : Option ObjId) (n : Now) → Sound (so_far n) → at ≡ first_in (so_far n) (Senders e) → HasRoomFor (restarts_with (so_far n) e badge) n → IsUnderWay e badge at n n
unfolding first_in
begun e badge at n sound is room =
    let R : Log = so_far n in
    let all : senders_from R e at ≡ queued_in R (Senders e) = ap (λ o. senders_from R e o) is ∙ from-first (queued_in R (Senders e)) in
    record {
      sound = sound;
      stands = subst (λ o. IfSome o (λ x. queue_of R x ≡ Some (Senders e))) (sym is) (first-of (λ x. queue_of R x ≡ Some (Senders e)) (queued_in R (Senders e)) (λ y i. in-line R (Senders e) y i));
      room = subst (λ xs. HasRoomFor (cancel_all (badged R badge xs) Restart) n) (sym all) room;
      made = ap (λ xs. adds_all (cancel_all (badged R badge xs) Restart R) n) all;
    }

-- what a turn keeps, and that fewer are left after it
pub record Turn (e : ObjId) (badge : ℕ) (at next : Option ObjId) (old now new : Now) : Type 0 where
  pub under_way : IsUnderWay e badge next old new
  pub less : length (senders_from (so_far new) e next) < length (senders_from (so_far now) e at)

-- a turn at x: what is left after it is what follows x
module _ (e : ObjId) (badge : ℕ) (at : Option ObjId) (x : ObjId) (old now : Now) (h : IsUnderWay e badge at old now) (some : at ≡ Some x) where
  abbrev pub R : Log
  R = so_far now

  pub stands : queue_of R x ≡ Some (Senders e)
  stands = subst (λ o. IfSome o (λ y. queue_of (so_far now) y ≡ Some (Senders e))) some h.stands

  f : Followed x (queued_in R (Senders e))
  f = followed x (queued_in R (Senders e)) (line-in R (Senders e) x h.sound stands) (line-distinct R (Senders e) h.sound)

  from-x : senders_from R e at ≡ x ∷ f.rest
  from-x = ap (λ o. senders_from R e o) some ∙ f.from

  stood : (y : ObjId) → In y f.rest → queue_of R y ≡ Some (Senders e)
  stood y i = in-line R (Senders e) y (f.among y i)

  -- those who restart from x on: it alone may not
  badged-from : (b : Bool) → has_badge badge (open_of R x) ≡ b → badged R badge (senders_from R e at) ≡ cond b (x ∷ badged R badge f.rest) (badged R badge f.rest)
  badged-from b its = ap (λ xs. badged R badge xs) from-x ∙ ap (λ c. cond c (x ∷ badged R badge f.rest) (badged R badge f.rest)) its

  room-all : has_badge badge (open_of R x) ≡ true → HasRoomFor (cancel x Restart then cancel_all (badged R badge f.rest) Restart) now
  room-all its = subst (λ xs. HasRoomFor (cancel_all xs Restart) now) (badged-from true its) h.room

  pub room-one : HasRoomFor (restarts_one badge x) now
  room-one = go (has_badge badge (open_of R x)) refl
    where
      go : (b : Bool) → has_badge badge (open_of R x) ≡ b → HasRoomFor (λ S. cond b (cancel x Restart) nothing S) now
      go true its = room-first (cancel x Restart) (cancel_all (badged R badge f.rest) Restart) now (room-all its)
      go false other = let room = h.room in omega (arith, room)

  module _ (next : Option ObjId) (is : next ≡ next_of (so_far now) x) where
    next-is : next ≡ head_of f.rest
    next-is = is ∙ next-among R x (Senders e) stands ∙ f.next

    rest-stays : senders_from R e next ≡ f.rest
    rest-stays = ap (λ o. senders_from R e o) next-is ∙ f.stays

    -- x stays, whose message has another badge
    passed : has_badge badge (open_of R x) ≡ false → Turn e badge at next old now now
    passed other =
        let same : badged R badge (senders_from R e next) ≡ badged R badge (senders_from R e at) = ap (λ xs. badged R badge xs) rest-stays ∙ sym (badged-from false other) in
        record {
          under_way = record {
            sound = h.sound;
            stands = subst (λ o. IfSome o (λ y. queue_of R y ≡ Some (Senders e))) (sym next-is) (first-of (λ y. queue_of R y ≡ Some (Senders e)) f.rest stood);
            room = subst (λ xs. HasRoomFor (cancel_all xs Restart) now) (sym same) h.room;
            made = ap (λ xs. adds_all (cancel_all xs Restart R) now) same ∙ h.made;
          };
          less = let all = ap length from-x in let rest = ap length rest-stays in omega (arith, all, rest);
        }

    -- x restarts, whose message has the badge
    module _ (its : has_badge badge (open_of R x) ≡ true) (new : Now) (makes : Makes (cancel x Restart) now new) (sound : Sound (so_far new)) where
      abbrev pub S : Log
      S = so_far new

      without-x : IsWithout x e R S
      without-x = subst (λ L. IsWithout x e R L) (sym (so_far-made (cancel x Restart) now new makes)) (sender-cancelled R x e Restart h.sound stands)

      rest-left : senders_from S e next ≡ f.rest
      rest-left = ap (λ o. senders_from S e o) next-is ∙ ap (λ xs. from_on (head_of f.rest) xs) (line-removed R S x e h.sound sound without-x) ∙ f.leaves

      -- x does not follow itself
      others : (y : ObjId) → In y f.rest → y ≢ x
      others y i it = f.apart (subst (λ z. In z f.rest) it i)

      open-kept : (y : ObjId) → In y f.rest → open_of S y ≡ open_of R y
      open-kept y i = open_of-growing S y sound ∙ without-x.letters y (others y i) ∙ sym (open_of-growing R y h.sound)

      badged-left : badged S badge (senders_from S e next) ≡ badged R badge f.rest
      badged-left = ap (λ xs. badged S badge xs) rest-left ∙ badged-same R S badge f.rest open-kept

      restarted : Turn e badge at next old now new
      restarted = record {
        under_way = record {
          sound = sound;
          stands = subst (λ o. IfSome o (λ y. queue_of S y ≡ Some (Senders e))) (sym next-is) (first-of (λ y. queue_of S y ≡ Some (Senders e)) f.rest (λ y i. without-x.queues y (others y i) ∙ stood y i));
          room = subst (λ xs. HasRoomFor (cancel_all xs Restart) new) (sym badged-left) (room-next (cancel x Restart) (cancel_all (badged R badge f.rest) Restart) now new makes (room-all its));
          made = ap (λ xs. adds_all (cancel_all xs Restart S) new) badged-left
              ∙ makes-then (cancel x Restart) (cancel_all (badged R badge f.rest) Restart) now new _ makes refl
              ∙ sym (ap (λ xs. adds_all (cancel_all xs Restart R) now) (badged-from true its)) ∙ h.made;
        };
        less = let all = ap length from-x in let rest = ap length rest-left in omega (arith, all, rest);
      }

    pub turned : (new : Now) → Makes (restarts_one badge x) now new → Sound (so_far new) → Turn e badge at next old now new
    turned new made sound = go (has_badge badge (open_of R x)) refl made
      where
        go : (b : Bool) → has_badge badge (open_of R x) ≡ b → Makes (λ S. cond b (cancel x Restart) nothing S) now new → Turn e badge at next old now new
        go true its makes = restarted its new makes sound
        go false other made = subst (Turn e badge at next old now) (sym made) (passed other)
