-- A line that is read as a step is the line of that step.
use Rattle.std.proofs.Common.{◌≡◌, ℕ, List, [], ◌∷◌, ◌++◌, Option, Some, Result, Ok, map, refl, ap, sym, subst, ◌∙◌, decimal}
use Rattle.std.specs.Prelude.{bytes_eq}
use Rattle.mcs_types.specs.Views.{Content}
use Rattle.mcs_types.specs.declared.cap.Place.{Place}
use Rattle.mcs_types.specs.declared.entry.Entry.{Entry}
use Rattle.mcs_types.specs.declared.entry.Entry.TheVariants.{Send, NbSend, Call, Recv, NbRecv, Wait, NbWait, ReplyRecv, Signal, SetPriority, Suspend, Resume, BindNtfn, UnbindNtfn, BindCtx, UnbindCtx, CancelBadged, DeleteCap, MakeEndpoint, MakeNotification, MakeReply, MakeContext, NbSendRecv, NbSendWait}
use Rattle.mcs_types.specs.declared.entry.Step.{Step}
use Rattle.mcs_types.specs.declared.id.Prio.{Prio}
use Rattle.mcs_text.specs.declared.fault.LineFault.{LineFault}
use Rattle.mcs_text.specs.declared.key.Key.{Key}
use Rattle.mcs_text.specs.declared.key.Key.TheVariants as k
use Rattle.mcs_text.specs.Keys.{key_text, boot_keys, entry_keys, boot_key, entry_key}
use Rattle.mcs_text.specs.Spelling.{name_text, rights_text}
use Rattle.mcs_text.specs.RightsReading.{rights_at}
use Rattle.mcs_text.specs.Table.{entry_form, form_line}
use Rattle.mcs_text.specs.Reading.{◌>>=◌, words_of, number_at, name_at, end_at, below, made, content, kept_after, sent_at, replied_at, exchanged_at, pair_at, priority_at, address_at, place_at, place_of, copy_at, mint_at, move_at, last_place_at, make_of, make_at, entry_of, entry_at, step_of, word_limit}
use Rattle.mcs_book.proofs.Messages.MessageLaws.{find-passes}
use Rattle.mcs_text.specs.LineLaws.{step_with, IsWrittenAgain}
use Rattle.mcs_text.proofs.RoundTrip.{form_text-words}
use Rattle.mcs_text.proofs.FormWords.{form_rest}
use Rattle.mcs_text.proofs.EntryLines.{step_line-words}
use Rattle.mcs_text.proofs.WordsWritten.{same-bytes, same-words, reads, passes, ok-same, number-below, name-made, at-end, message-written, rights-written, place-written}

-- ---- keys

entry_key-text : (w : List ℕ) (key : Key) → entry_key w ≡ Some key → key_text key ≡ w
unfolding entry_key
entry_key-text w key h = same-bytes (key_text key) w (find-passes (λ x. bytes_eq (key_text x) w) entry_keys key h)

boot_key-text : (w : List ℕ) (key : Key) → boot_key w ≡ Some key → key_text key ≡ w
unfolding boot_key
boot_key-text w key h = same-bytes (key_text key) w (find-passes (λ x. bytes_eq (key_text x) w) boot_keys key h)

-- ---- the fields of entries

sent-written : (ws : List (List ℕ)) (r : ℕ × Content) → sent_at ws ≡ Ok r → ws ≡ map decimal (r.0 ∷ r.1.label ∷ r.1.words)
unfolding sent_at
sent-written ws r h =
    let cap = reads (number_at ws) _ r h in
    let label = reads (number_at cap.first.1) _ r cap.rest in
    let words = reads (kept_after (Some []) label.first.1) _ r label.rest in
    let a = reads (below word_limit cap.first.0) _ r words.rest in
    let m = reads (content label.first.0 words.first) _ r a.rest in
    let same : Path (ℕ × Content) (a.first, m.first) r = ok-same _ _ m.rest in
    number-below word_limit ws cap.first a.first cap.is a.is
    ∙ ap (λ (l : List (List ℕ)). decimal a.first ∷ l) (message-written cap.first.1 label.first words.first m.first label.is words.is m.is)
    ∙ ap (λ (q : ℕ × Content). map decimal (q.0 ∷ q.1.label ∷ q.1.words)) same

replied-written : (ws : List (List ℕ)) (r : ℕ × ℕ × Content) → replied_at ws ≡ Ok r → ws ≡ map decimal (r.0 ∷ r.1 ∷ r.2.label ∷ r.2.words)
unfolding replied_at
replied-written ws r h =
    let cap = reads (number_at ws) _ r h in
    let reply = reads (number_at cap.first.1) _ r cap.rest in
    let label = reads (number_at reply.first.1) _ r reply.rest in
    let words = reads (kept_after (Some []) label.first.1) _ r label.rest in
    let a = reads (below word_limit cap.first.0) _ r words.rest in
    let b = reads (below word_limit reply.first.0) _ r a.rest in
    let m = reads (content label.first.0 words.first) _ r b.rest in
    let same : Path (ℕ × ℕ × Content) (a.first, b.first, m.first) r = ok-same _ _ m.rest in
    number-below word_limit ws cap.first a.first cap.is a.is
    ∙ ap (λ (l : List (List ℕ)). decimal a.first ∷ l) (number-below word_limit cap.first.1 reply.first b.first reply.is b.is)
    ∙ ap (λ (l : List (List ℕ)). decimal a.first ∷ decimal b.first ∷ l) (message-written reply.first.1 label.first words.first m.first label.is words.is m.is)
    ∙ ap (λ (q : ℕ × ℕ × Content). map decimal (q.0 ∷ q.1 ∷ q.2.label ∷ q.2.words)) same

exchanged-written : (ws : List (List ℕ)) (r : ℕ × ℕ × ℕ × Content) → exchanged_at ws ≡ Ok r → ws ≡ map decimal (r.0 ∷ r.1 ∷ r.2 ∷ r.3.label ∷ r.3.words)
unfolding exchanged_at
exchanged-written ws r h =
    let cap = reads (number_at ws) _ r h in
    let from = reads (number_at cap.first.1) _ r cap.rest in
    let reply = reads (number_at from.first.1) _ r from.rest in
    let label = reads (number_at reply.first.1) _ r reply.rest in
    let words = reads (kept_after (Some []) label.first.1) _ r label.rest in
    let a = reads (below word_limit cap.first.0) _ r words.rest in
    let b = reads (below word_limit from.first.0) _ r a.rest in
    let c = reads (below word_limit reply.first.0) _ r b.rest in
    let m = reads (content label.first.0 words.first) _ r c.rest in
    let same : Path (ℕ × ℕ × ℕ × Content) (a.first, b.first, c.first, m.first) r = ok-same _ _ m.rest in
    number-below word_limit ws cap.first a.first cap.is a.is
    ∙ ap (λ (l : List (List ℕ)). decimal a.first ∷ l) (number-below word_limit cap.first.1 from.first b.first from.is b.is)
    ∙ ap (λ (l : List (List ℕ)). decimal a.first ∷ decimal b.first ∷ l) (number-below word_limit from.first.1 reply.first c.first reply.is c.is)
    ∙ ap (λ (l : List (List ℕ)). decimal a.first ∷ decimal b.first ∷ decimal c.first ∷ l) (message-written reply.first.1 label.first words.first m.first label.is words.is m.is)
    ∙ ap (λ (q : ℕ × ℕ × ℕ × Content). map decimal (q.0 ∷ q.1 ∷ q.2 ∷ q.3.label ∷ q.3.words)) same

pair-written : (ws : List (List ℕ)) (r : ℕ × ℕ) → pair_at ws ≡ Ok r → ws ≡ map decimal (r.0 ∷ r.1 ∷ [])
unfolding pair_at
pair-written ws r h =
    let x = reads (number_at ws) _ r h in
    let y = reads (number_at x.first.1) _ r x.rest in
    let z = passes (end_at y.first.1) _ r y.rest in
    let a = reads (below word_limit x.first.0) _ r z.rest in
    let b = reads (below word_limit y.first.0) _ r a.rest in
    let same : Path (ℕ × ℕ) (a.first, b.first) r = ok-same _ _ b.rest in
    number-below word_limit ws x.first a.first x.is a.is
    ∙ ap (λ (l : List (List ℕ)). decimal a.first ∷ l) (number-below word_limit x.first.1 y.first b.first y.is b.is)
    ∙ ap (λ (l : List (List ℕ)). decimal a.first ∷ decimal b.first ∷ l) (at-end y.first.1 z.first z.is)
    ∙ ap (λ (q : ℕ × ℕ). map decimal (q.0 ∷ q.1 ∷ [])) same

priority-written : (ws : List (List ℕ)) (r : ℕ × ℕ × Prio) → priority_at ws ≡ Ok r → ws ≡ map decimal (r.0 ∷ r.1 ∷ r.2.0 ∷ [])
unfolding priority_at
priority-written ws r h =
    let x = reads (number_at ws) _ r h in
    let y = reads (number_at x.first.1) _ r x.rest in
    let z = reads (number_at y.first.1) _ r y.rest in
    let e = passes (end_at z.first.1) _ r z.rest in
    let a = reads (below word_limit x.first.0) _ r e.rest in
    let b = reads (below word_limit y.first.0) _ r a.rest in
    let p = reads (below 256 z.first.0) _ r b.rest in
    let same : Path (ℕ × ℕ × Prio) (a.first, b.first, record { 0 = p.first }) r = ok-same _ _ p.rest in
    number-below word_limit ws x.first a.first x.is a.is
    ∙ ap (λ (l : List (List ℕ)). decimal a.first ∷ l) (number-below word_limit x.first.1 y.first b.first y.is b.is)
    ∙ ap (λ (l : List (List ℕ)). decimal a.first ∷ decimal b.first ∷ l) (number-below 256 y.first.1 z.first p.first z.is p.is)
    ∙ ap (λ (l : List (List ℕ)). decimal a.first ∷ decimal b.first ∷ decimal p.first ∷ l) (at-end z.first.1 e.first e.is)
    ∙ ap (λ (q : ℕ × ℕ × Prio). map decimal (q.0 ∷ q.1 ∷ q.2.0 ∷ [])) same

address-written : (ws : List (List ℕ)) (r : ℕ) → address_at ws ≡ Ok r → ws ≡ map decimal (r ∷ [])
unfolding address_at
address-written ws r h =
    let x = reads (number_at ws) _ r h in
    let e = passes (end_at x.first.1) _ r x.rest in
    number-below word_limit ws x.first r x.is e.rest ∙ ap (λ (l : List (List ℕ)). decimal r ∷ l) (at-end x.first.1 e.first e.is)

-- the words of a place
abbrev pub place_words : Place → List (List ℕ) → List (List ℕ)
place_words p ws = decimal p.index ∷ decimal p.depth ∷ ws

last_place-written : (ws : List (List ℕ)) (p : Place) → last_place_at ws ≡ Ok p → ws ≡ place_words p []
unfolding last_place_at
last_place-written ws p h =
    let x = reads (place_at ws) _ p h in
    let e = passes (end_at x.first.1) _ p x.rest in
    place-written ws x.first p x.is e.rest ∙ ap (place_words p) (at-end x.first.1 e.first e.is)

-- ---- entries

-- the words of an entry after the thread that asks
abbrev IsEntry : Step → Entry → List (List ℕ) → Type 0
IsEntry s e ws = form_rest (entry_form s e) ≡ name_text s.thread ∷ ws

-- what is read of the words after a key
fields-entry : {A : Type 0} (s : Step) (key : Key) (w : List ℕ) (ws : List (List ℕ)) (r : Result A LineFault) (make : A → Entry) (fields : A → List (List ℕ)) (e : Entry)
    → ((x : A) → IsEntry s (make x) (key_text key ∷ fields x)) → ((x : A) → r ≡ Ok x → ws ≡ fields x) → key_text key ≡ w → (r >>= λ x. Ok (make x)) ≡ Ok e → IsEntry s e (w ∷ ws)
fields-entry s key w ws r make fields e forms written is h =
    let x = reads r _ e h in
    ap (λ (z : Entry). form_rest (entry_form s z)) (sym (ok-same _ _ x.rest))
    ∙ forms x.first
    ∙ ap (λ (v : List ℕ). name_text s.thread ∷ v ∷ fields x.first) is
    ∙ ap (λ (l : List (List ℕ)). name_text s.thread ∷ w ∷ l) (sym (written x.first x.is))

copy-entry : (s : Step) (w : List ℕ) (ws : List (List ℕ)) (e : Entry) → key_text k.Copy ≡ w → copy_at ws ≡ Ok e → IsEntry s e (w ∷ ws)
unfolding copy_at
copy-entry s w ws e is h =
    let x = reads (place_at ws) _ e h in
    let y = reads (place_at x.first.1) _ e x.rest in
    let r = reads (rights_at y.first.1) _ e y.rest in
    let z = passes (end_at r.first.1) _ e r.rest in
    let p = reads (place_of x.first.0) _ e z.rest in
    let d = reads (place_of y.first.0) _ e p.rest in
    ap (λ (v : Entry). form_rest (entry_form s v)) (sym (ok-same _ _ d.rest))
    ∙ ap (λ (v : List ℕ). name_text s.thread ∷ v ∷ place_words p.first (place_words d.first (rights_text r.first.0 ∷ []))) is
    ∙ ap (λ (l : List (List ℕ)). name_text s.thread ∷ w ∷ l) (sym (
    place-written ws x.first p.first x.is p.is
    ∙ ap (place_words p.first) (place-written x.first.1 y.first d.first y.is d.is
    ∙ ap (place_words d.first) (rights-written y.first.1 r.first r.is ∙ ap (λ (l : List (List ℕ)). rights_text r.first.0 ∷ l) (at-end r.first.1 z.first z.is)))))

mint-entry : (s : Step) (w : List ℕ) (ws : List (List ℕ)) (e : Entry) → key_text k.Mint ≡ w → mint_at ws ≡ Ok e → IsEntry s e (w ∷ ws)
unfolding mint_at
mint-entry s w ws e is h =
    let x = reads (place_at ws) _ e h in
    let y = reads (place_at x.first.1) _ e x.rest in
    let r = reads (rights_at y.first.1) _ e y.rest in
    let n = reads (number_at r.first.1) _ e r.rest in
    let z = passes (end_at n.first.1) _ e n.rest in
    let p = reads (place_of x.first.0) _ e z.rest in
    let d = reads (place_of y.first.0) _ e p.rest in
    let b = reads (below word_limit n.first.0) _ e d.rest in
    ap (λ (v : Entry). form_rest (entry_form s v)) (sym (ok-same _ _ b.rest))
    ∙ ap (λ (v : List ℕ). name_text s.thread ∷ v ∷ place_words p.first (place_words d.first (rights_text r.first.0 ∷ decimal b.first ∷ []))) is
    ∙ ap (λ (l : List (List ℕ)). name_text s.thread ∷ w ∷ l) (sym (
    place-written ws x.first p.first x.is p.is
    ∙ ap (place_words p.first) (place-written x.first.1 y.first d.first y.is d.is
    ∙ ap (place_words d.first) (rights-written y.first.1 r.first r.is
    ∙ ap (λ (l : List (List ℕ)). rights_text r.first.0 ∷ l) (number-below word_limit r.first.1 n.first b.first n.is b.is
    ∙ ap (λ (l : List (List ℕ)). decimal b.first ∷ l) (at-end n.first.1 z.first z.is))))))

move-entry : (s : Step) (w : List ℕ) (ws : List (List ℕ)) (e : Entry) → key_text k.Move ≡ w → move_at ws ≡ Ok e → IsEntry s e (w ∷ ws)
unfolding move_at
move-entry s w ws e is h =
    let x = reads (place_at ws) _ e h in
    let y = reads (place_at x.first.1) _ e x.rest in
    let z = passes (end_at y.first.1) _ e y.rest in
    let p = reads (place_of x.first.0) _ e z.rest in
    let d = reads (place_of y.first.0) _ e p.rest in
    ap (λ (v : Entry). form_rest (entry_form s v)) (sym (ok-same _ _ d.rest))
    ∙ ap (λ (v : List ℕ). name_text s.thread ∷ v ∷ place_words p.first (place_words d.first [])) is
    ∙ ap (λ (l : List (List ℕ)). name_text s.thread ∷ w ∷ l) (sym (
    place-written ws x.first p.first x.is p.is
    ∙ ap (place_words p.first) (place-written x.first.1 y.first d.first y.is d.is
    ∙ ap (place_words d.first) (at-end y.first.1 z.first z.is))))

made-entry : (s : Step) (key : Key) (make : Place → Entry) (w v : List ℕ) (ws : List (List ℕ)) (e : Entry)
    → ((p : Place) → IsEntry s (make p) (key_text k.Make ∷ key_text key ∷ place_words p [])) → key_text k.Make ≡ w → key_text key ≡ v → (last_place_at ws >>= λ p. Ok (make p)) ≡ Ok e → IsEntry s e (w ∷ v ∷ ws)
made-entry s key make w v ws e forms is kind h =
    let x = reads (last_place_at ws) _ e h in
    ap (λ (z : Entry). form_rest (entry_form s z)) (sym (ok-same _ _ x.rest))
    ∙ forms x.first
    ∙ ap (λ (u : List ℕ). name_text s.thread ∷ u ∷ key_text key ∷ place_words x.first []) is
    ∙ ap (λ (u : List ℕ). name_text s.thread ∷ w ∷ u ∷ place_words x.first []) kind
    ∙ ap (λ (l : List (List ℕ)). name_text s.thread ∷ w ∷ v ∷ l) (sym (last_place-written ws x.first x.is))

make-entry : (s : Step) (w : List ℕ) (ws : List (List ℕ)) (e : Entry) → key_text k.Make ≡ w → make_at ws ≡ Ok e → IsEntry s e (w ∷ ws)
unfolding make_at
make-entry s w [] e is h = absurd (cc)
make-entry s w (v ∷ ws) e is h = go (boot_key v) refl h
  where
    go : (o : Option Key) → boot_key v ≡ o → make_of o ws ≡ Ok e → IsEntry s e (w ∷ v ∷ ws)
    go (Some k.Endpoint) b r = made-entry s k.Endpoint MakeEndpoint w v ws e (λ p. refl) is (boot_key-text v k.Endpoint b) r
    go (Some k.Notification) b r = made-entry s k.Notification MakeNotification w v ws e (λ p. refl) is (boot_key-text v k.Notification b) r
    go (Some k.Reply) b r = made-entry s k.Reply MakeReply w v ws e (λ p. refl) is (boot_key-text v k.Reply b) r
    go (Some k.Context) b r = made-entry s k.Context MakeContext w v ws e (λ p. refl) is (boot_key-text v k.Context b) r
    go o b r = absurd (cc)

sent-entry : (s : Step) (key : Key) (make : ℕ → Content → Entry) (w : List ℕ) (ws : List (List ℕ)) (e : Entry)
    → ((a : ℕ) (m : Content) → IsEntry s (make a m) (key_text key ∷ map decimal (a ∷ m.label ∷ m.words))) → key_text key ≡ w → (sent_at ws >>= λ x. Ok (make x.0 x.1)) ≡ Ok e → IsEntry s e (w ∷ ws)
sent-entry s key make w ws e forms is h = fields-entry s key w ws (sent_at ws) (λ x. make x.0 x.1) (λ x. map decimal (x.0 ∷ x.1.label ∷ x.1.words)) e (λ x. forms x.0 x.1) (sent-written ws) is h

pair-entry : (s : Step) (key : Key) (make : ℕ → ℕ → Entry) (w : List ℕ) (ws : List (List ℕ)) (e : Entry)
    → ((a b : ℕ) → IsEntry s (make a b) (key_text key ∷ map decimal (a ∷ b ∷ []))) → key_text key ≡ w → (pair_at ws >>= λ x. Ok (make x.0 x.1)) ≡ Ok e → IsEntry s e (w ∷ ws)
pair-entry s key make w ws e forms is h = fields-entry s key w ws (pair_at ws) (λ x. make x.0 x.1) (λ x. map decimal (x.0 ∷ x.1 ∷ [])) e (λ x. forms x.0 x.1) (pair-written ws) is h

address-entry : (s : Step) (key : Key) (make : ℕ → Entry) (w : List ℕ) (ws : List (List ℕ)) (e : Entry)
    → ((a : ℕ) → IsEntry s (make a) (key_text key ∷ map decimal (a ∷ []))) → key_text key ≡ w → (address_at ws >>= λ a. Ok (make a)) ≡ Ok e → IsEntry s e (w ∷ ws)
address-entry s key make w ws e forms is h = fields-entry s key w ws (address_at ws) make (λ a. map decimal (a ∷ [])) e forms (address-written ws) is h

-- an entry's words are those that it was read of
entry-written : (s : Step) (w : List ℕ) (ws : List (List ℕ)) (e : Entry) (o : Option Key) → entry_key w ≡ o → entry_of o ws ≡ Ok e → IsEntry s e (w ∷ ws)
entry-written s w ws e (Some k.Send) b r = sent-entry s k.Send Send w ws e (λ a m. refl) (entry_key-text w k.Send b) r
entry-written s w ws e (Some k.NbSend) b r = sent-entry s k.NbSend NbSend w ws e (λ a m. refl) (entry_key-text w k.NbSend b) r
entry-written s w ws e (Some k.Call) b r = sent-entry s k.Call Call w ws e (λ a m. refl) (entry_key-text w k.Call b) r
entry-written s w ws e (Some k.Recv) b r = pair-entry s k.Recv Recv w ws e (λ a c. refl) (entry_key-text w k.Recv b) r
entry-written s w ws e (Some k.NbRecv) b r = pair-entry s k.NbRecv NbRecv w ws e (λ a c. refl) (entry_key-text w k.NbRecv b) r
entry-written s w ws e (Some k.Wait) b r = address-entry s k.Wait Wait w ws e (λ a. refl) (entry_key-text w k.Wait b) r
entry-written s w ws e (Some k.NbWait) b r = address-entry s k.NbWait NbWait w ws e (λ a. refl) (entry_key-text w k.NbWait b) r
entry-written s w ws e (Some k.ReplyRecv) b r =
    fields-entry s k.ReplyRecv w ws (replied_at ws) (λ x. ReplyRecv x.0 x.1 x.2) (λ x. map decimal (x.0 ∷ x.1 ∷ x.2.label ∷ x.2.words)) e (λ x. refl) (replied-written ws) (entry_key-text w k.ReplyRecv b) r
entry-written s w ws e (Some k.Signal) b r = address-entry s k.Signal Signal w ws e (λ a. refl) (entry_key-text w k.Signal b) r
entry-written s w ws e (Some k.SetPrio) b r =
    fields-entry s k.SetPrio w ws (priority_at ws) (λ x. SetPriority x.0 x.1 x.2) (λ x. map decimal (x.0 ∷ x.1 ∷ x.2.0 ∷ [])) e (λ x. refl) (priority-written ws) (entry_key-text w k.SetPrio b) r
entry-written s w ws e (Some k.Suspend) b r = address-entry s k.Suspend Suspend w ws e (λ a. refl) (entry_key-text w k.Suspend b) r
entry-written s w ws e (Some k.Resume) b r = address-entry s k.Resume Resume w ws e (λ a. refl) (entry_key-text w k.Resume b) r
entry-written s w ws e (Some k.BindNtfn) b r = pair-entry s k.BindNtfn BindNtfn w ws e (λ a c. refl) (entry_key-text w k.BindNtfn b) r
entry-written s w ws e (Some k.UnbindNtfn) b r = address-entry s k.UnbindNtfn UnbindNtfn w ws e (λ a. refl) (entry_key-text w k.UnbindNtfn b) r
entry-written s w ws e (Some k.Bind) b r = pair-entry s k.Bind BindCtx w ws e (λ a c. refl) (entry_key-text w k.Bind b) r
entry-written s w ws e (Some k.Unbind) b r = address-entry s k.Unbind UnbindCtx w ws e (λ a. refl) (entry_key-text w k.Unbind b) r
entry-written s w ws e (Some k.Cancel) b r = address-entry s k.Cancel CancelBadged w ws e (λ a. refl) (entry_key-text w k.Cancel b) r
entry-written s w ws e (Some k.Copy) b r = copy-entry s w ws e (entry_key-text w k.Copy b) r
entry-written s w ws e (Some k.Mint) b r = mint-entry s w ws e (entry_key-text w k.Mint b) r
entry-written s w ws e (Some k.Move) b r = move-entry s w ws e (entry_key-text w k.Move b) r
entry-written s w ws e (Some k.Delete) b r =
    fields-entry s k.Delete w ws (last_place_at ws) DeleteCap (λ p. place_words p []) e (λ p. refl) (last_place-written ws) (entry_key-text w k.Delete b) r
entry-written s w ws e (Some k.Make) b r = make-entry s w ws e (entry_key-text w k.Make b) r
entry-written s w ws e (Some k.NbSendRecv) b r =
    fields-entry s k.NbSendRecv w ws (exchanged_at ws) (λ x. NbSendRecv x.0 x.1 x.2 x.3) (λ x. map decimal (x.0 ∷ x.1 ∷ x.2 ∷ x.3.label ∷ x.3.words)) e (λ x. refl) (exchanged-written ws) (entry_key-text w k.NbSendRecv b) r
entry-written s w ws e (Some k.NbSendWait) b r =
    fields-entry s k.NbSendWait w ws (replied_at ws) (λ x. NbSendWait x.0 x.1 x.2) (λ x. map decimal (x.0 ∷ x.1 ∷ x.2.label ∷ x.2.words)) e (λ x. refl) (replied-written ws) (entry_key-text w k.NbSendWait b) r
entry-written s w ws e o b r = absurd (cc)

entry_at-written : (s : Step) (ws : List (List ℕ)) (e : Entry) → entry_at ws ≡ Ok e → IsEntry s e ws
unfolding entry_at
entry_at-written s [] e h = absurd (cc)
entry_at-written s (w ∷ ws) e h = entry-written s w ws e (entry_key w) refl h

-- ---- steps

pub step-written : (cores threads : ℕ) (line : List ℕ) (s : Step) → step_of cores threads line ≡ Ok s → IsWrittenAgain line s
unfolding step_of
step-written cores threads line s h =
    let core = reads (number_at (words_of line)) _ s h in
    let thread = reads (name_at 116 core.first.1) _ s core.rest in
    let entry = reads (entry_at thread.first.1) _ s thread.rest in
    let c = reads (below cores core.first.0) _ s entry.rest in
    let serial = reads (made threads thread.first.0) _ s c.rest in
    let own : Step = step_with c.first serial.first entry.first in
    let same : Path Step own s = ok-same _ _ serial.rest in
    let words : words_of line ≡ words_of (form_line (entry_form own entry.first)) =
    number-below cores (words_of line) core.first c.first core.is c.is
    ∙ ap (λ (l : List (List ℕ)). decimal c.first ∷ l) (name-made 116 threads core.first.1 thread.first serial.first thread.is serial.is ∙ sym (entry_at-written own thread.first.1 entry.first entry.is))
    ∙ sym (step_line-words own entry.first) in
    let P : Step → Type 0 = λ z. IsWrittenAgain line z in
    subst P same (form_text-words (entry_form own entry.first) ∙ ap (λ (l : List ℕ). l ++ 10 ∷ []) (sym (same-words line (form_line (entry_form own entry.first)) words)))
