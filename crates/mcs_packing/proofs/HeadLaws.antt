-- What is added to an arena leaves earlier heads as they were.
use Rattle.std.proofs.Common.{◌≡◌, ℕ, zero, suc, Some, None, slice_get, ◌+◌, List, [], ◌∷◌, ◌++◌, length, refl, ap, arith, length-append}
use Rattle.mcs_packing.specs.declared.heads.Head.{Head}
use Rattle.mcs_packing.specs.declared.entries.PackedEntry.{PackedEntry}
use Rattle.mcs_packing.specs.declared.entries.PackedEntry.TheVariants.{Sends, ReplyRecv, NbSendRecv, NbSendWait, Pair, Address, AtPlace, SetPriority, CopyCap, MintCap, MoveCap}
use Rattle.mcs_packing.specs.declared.heads.AnswerForm.{AnswerForm}
use Rattle.mcs_packing.specs.declared.heads.AnswerForm.TheVariants.{Done, Got, Heard, Empty, Waits, Refused}
use Rattle.mcs_packing.specs.Packing.{GrowsBy}
use Rattle.mcs_packing.specs.Entries.{EntryFits, entry_of}
use Rattle.mcs_packing.specs.Heads.{answer_of, entered_of, all_entered, AnswerFits, HeadFits, AllHeadsFit}
use Rattle.mcs_packing.proofs.AddressLaws.{address_of-grows, AddressFits-grows}
use Rattle.mcs_packing.proofs.Packings.{word_at-grows, content_at-grows, IsMessageAt-grows, IsBadgedAt-grows}

-- an entry
pub entry_of-grows : (e : PackedEntry) (ws more : List ℕ) → EntryFits e ws → entry_of e (ws ++ more) ≡ entry_of e ws
entry_of-grows (Sends form len at cap) ws more h = rw (content_at-grows ws more at len h.0, address_of-grows cap ws more h.1) refl
entry_of-grows (ReplyRecv len at cap reply) ws more h =
    rw (content_at-grows ws more at len h.0, address_of-grows cap ws more h.1, address_of-grows reply ws more h.2) refl
entry_of-grows (NbSendRecv len at cap source) ws more h =
    rw (content_at-grows ws more at len h.0.message, word_at-grows ws more (at + 1 + len) h.0.badge, address_of-grows cap ws more h.1, address_of-grows source ws more h.2) refl
entry_of-grows (NbSendWait len at cap source) ws more h =
    rw (content_at-grows ws more at len h.0, address_of-grows cap ws more h.1, address_of-grows source ws more h.2) refl
entry_of-grows (Pair form first second) ws more h = rw (address_of-grows first ws more h.0, address_of-grows second ws more h.1) refl
entry_of-grows (Address form address) ws more h = rw (address_of-grows address ws more h) refl
entry_of-grows (AtPlace form depth index) ws more h = rw (address_of-grows index ws more h) refl
entry_of-grows (SetPriority priority thread authority) ws more h = rw (address_of-grows thread ws more h.0, address_of-grows authority ws more h.1) refl
entry_of-grows (CopyCap source_depth dest_depth rights source dest) ws more h =
    rw (address_of-grows source ws more h.0, address_of-grows dest ws more h.1) refl
entry_of-grows (MintCap source_depth dest_depth rights at source dest) ws more h =
    rw (word_at-grows ws more at h.0, address_of-grows source ws more h.1, address_of-grows dest ws more h.2) refl
entry_of-grows (MoveCap source_depth dest_depth source dest) ws more h = rw (address_of-grows source ws more h.0, address_of-grows dest ws more h.1) refl

pub EntryFits-grows : (e : PackedEntry) (ws more : List ℕ) → EntryFits e ws → EntryFits e (ws ++ more)
EntryFits-grows (Sends form len at cap) ws more h = (IsMessageAt-grows ws more at len h.0, AddressFits-grows cap ws more h.1)
EntryFits-grows (ReplyRecv len at cap reply) ws more h =
    (IsMessageAt-grows ws more at len h.0, AddressFits-grows cap ws more h.1, AddressFits-grows reply ws more h.2)
EntryFits-grows (NbSendRecv len at cap source) ws more h =
    (IsBadgedAt-grows ws more at len h.0, AddressFits-grows cap ws more h.1, AddressFits-grows source ws more h.2)
EntryFits-grows (NbSendWait len at cap source) ws more h =
    (IsMessageAt-grows ws more at len h.0, AddressFits-grows cap ws more h.1, AddressFits-grows source ws more h.2)
EntryFits-grows (Pair form first second) ws more h = (AddressFits-grows first ws more h.0, AddressFits-grows second ws more h.1)
EntryFits-grows (Address form address) ws more h = AddressFits-grows address ws more h
EntryFits-grows (AtPlace form depth index) ws more h = AddressFits-grows index ws more h
EntryFits-grows (SetPriority priority thread authority) ws more h = (AddressFits-grows thread ws more h.0, AddressFits-grows authority ws more h.1)
EntryFits-grows (CopyCap source_depth dest_depth rights source dest) ws more h = (AddressFits-grows source ws more h.0, AddressFits-grows dest ws more h.1)
EntryFits-grows (MintCap source_depth dest_depth rights at source dest) ws more h =
    (omega (arith, h.0, length-append ws more), AddressFits-grows source ws more h.1, AddressFits-grows dest ws more h.2)
EntryFits-grows (MoveCap source_depth dest_depth source dest) ws more h = (AddressFits-grows source ws more h.0, AddressFits-grows dest ws more h.1)

-- an answer
pub answer_of-grows : (a : AnswerForm) (at : ℕ) (ws more : List ℕ) → AnswerFits a at ws → answer_of a at (ws ++ more) ≡ answer_of a at ws
answer_of-grows Done at ws more h = refl
answer_of-grows (Got len) at ws more h =
    rw (content_at-grows ws more at len h.message, word_at-grows ws more (at + 1 + len) h.badge) refl
answer_of-grows Heard at ws more h = rw (word_at-grows ws more at h) refl
answer_of-grows Empty at ws more h = refl
answer_of-grows Waits at ws more h = refl
answer_of-grows (Refused _) at ws more h = refl

pub AnswerFits-grows : (a : AnswerForm) (at : ℕ) (ws more : List ℕ) → AnswerFits a at ws → AnswerFits a at (ws ++ more)
AnswerFits-grows Done at ws more h = h
AnswerFits-grows (Got len) at ws more h = IsBadgedAt-grows ws more at len h
AnswerFits-grows Heard at ws more h = omega (arith, h, length-append ws more)
AnswerFits-grows Empty at ws more h = h
AnswerFits-grows Waits at ws more h = h
AnswerFits-grows (Refused _) at ws more h = h

-- heads
pub all_entered-grows : (hs : List Head) (ws vs : List ℕ) → GrowsBy ws vs → AllHeadsFit hs ws → all_entered hs vs ≡ all_entered hs ws
all_entered-grows [] ws vs w f = refl
all_entered-grows (h ∷ hs) ws vs w f =
    rw (all_entered-grows hs ws vs w f.1, w.is, entry_of-grows h.entry ws w.more f.0.entry, answer_of-grows h.answer h.answer_at ws w.more f.0.answer) refl

pub AllHeadsFit-grows : (hs : List Head) (ws vs : List ℕ) → GrowsBy ws vs → AllHeadsFit hs ws → AllHeadsFit hs vs
AllHeadsFit-grows [] ws vs w f = f
AllHeadsFit-grows (h ∷ hs) ws vs w f =
    (record { entry = rw w.is (EntryFits-grows h.entry ws w.more f.0.entry); answer = rw w.is (AnswerFits-grows h.answer h.answer_at ws w.more f.0.answer) }, AllHeadsFit-grows hs ws vs w f.1)

pub all_entered-push : (hs : List Head) (h : Head) (ws : List ℕ) → all_entered (hs ++ h ∷ []) ws ≡ all_entered hs ws ++ entered_of h ws ∷ []
all_entered-push [] h ws = refl
all_entered-push (j ∷ hs) h ws = ap (λ l. entered_of j ws ∷ l) (all_entered-push hs h ws)

pub AllHeadsFit-push : (hs : List Head) (h : Head) (ws : List ℕ) → AllHeadsFit hs ws → HeadFits h ws → AllHeadsFit (hs ++ h ∷ []) ws
AllHeadsFit-push [] h ws f g = (g, f)
AllHeadsFit-push (j ∷ hs) h ws f g = (f.0, AllHeadsFit-push hs h ws f.1 g)

-- one of the heads
pub slice_get-heads : (hs : List Head) (ws : List ℕ) (i : ℕ) (h : Head) → slice_get hs i ≡ Some h → slice_get (all_entered hs ws) i ≡ Some (entered_of h ws)
slice_get-heads [] ws i h at = absurd cc
slice_get-heads (j ∷ hs) ws zero h at = let it : j ≡ h = cc in ap (λ k. Some (entered_of k ws)) it
slice_get-heads (j ∷ hs) ws (suc i) h at = slice_get-heads hs ws i h at

pub slice_get-heads_none : (hs : List Head) (ws : List ℕ) (i : ℕ) → slice_get hs i ≡ None → slice_get (all_entered hs ws) i ≡ None
slice_get-heads_none [] ws i at = refl
slice_get-heads_none (j ∷ hs) ws zero at = absurd cc
slice_get-heads_none (j ∷ hs) ws (suc i) at = slice_get-heads_none hs ws i at

pub HeadFits-at : (hs : List Head) (ws : List ℕ) (i : ℕ) (h : Head) → slice_get hs i ≡ Some h → AllHeadsFit hs ws → HeadFits h ws
HeadFits-at [] ws i h at f = absurd cc
HeadFits-at (j ∷ hs) ws zero h at f = let it : j ≡ h = cc in rw (← it) f.0
HeadFits-at (j ∷ hs) ws (suc i) h at f = HeadFits-at hs ws i h at f.1

pub length-heads : (hs : List Head) (ws : List ℕ) → length (all_entered hs ws) ≡ length hs
length-heads [] ws = refl
length-heads (h ∷ hs) ws = ap (λ n. suc n) (length-heads hs ws)
