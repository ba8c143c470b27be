-- Each step in range is that of the entry which encodes it.
use Rattle.std.proofs.Common.{◌≡◌, ◌<◌, ◌≤◌, ◌-◌, ◌^◌, ◌&&◌, ℕ, Bool, true, Option, Some, Ok, Err, List, [], ◌∷◌, ◌++◌, length, take, nat_lt, nat_le, if◌then◌else◌, refl, sym, ap, ◌∙◌, arith}
use Rattle.std.specs.Prelude.{replicate}
use Rattle.std.specs.List.{All}
use Rattle.std.proofs.Math.Seq.{take-append_seam}
use Rattle.std.proofs.lemmas.Bool.Decides.{nat_tests}
use Rattle.std.proofs.lemmas.List.{length-append, length-replicate}
use Rattle.std.proofs.lemmas.List.Elements.{All-append, All-cons, All-nil, All-replicate}
use Rattle.mcs_types.specs.Limits.{core_limit, label_bits, object_limit, word_limit}
use Rattle.mcs_types.specs.Ranges.{InRange, IsMessage, IsPlace, IsWord}
use Rattle.mcs_types.specs.Views.{Content}
use Rattle.mcs_types.specs.declared.cap.Place.{Place}
use Rattle.mcs_types.specs.declared.entry.Entry.{Entry}
use Rattle.mcs_types.specs.declared.entry.Entry.TheVariants as entry
use Rattle.mcs_types.specs.declared.entry.Step.{Step}
use Rattle.mcs_types.specs.declared.id.Badge.{Badge}
use Rattle.mcs_types.specs.declared.id.Kind.{Kind}
use Rattle.mcs_types.specs.declared.id.Prio.{Prio}
use Rattle.mcs_packing.specs.declared.entries.Sending.{Sending}
use Rattle.mcs_packing.specs.declared.entries.Sending.TheVariants as sends
use Rattle.mcs_packing.specs.declared.entries.OverPair.{OverPair}
use Rattle.mcs_packing.specs.declared.entries.OverPair.TheVariants as pair
use Rattle.mcs_packing.specs.declared.entries.OverAddress.{OverAddress}
use Rattle.mcs_packing.specs.declared.entries.OverAddress.TheVariants as one
use Rattle.mcs_packing.specs.declared.entries.OverPlace.{OverPlace}
use Rattle.mcs_packing.specs.declared.entries.OverPlace.TheVariants as place
use Rattle.mcs_packing.specs.Entries.{sending, over_pair, over_address, over_place}
use Rattle.mcs_c.specs.declared.entries.EntryFault.TheVariants.{Form, Range}
use Rattle.mcs_c.specs.declared.entries.McsEntry.{McsEntry}
use Rattle.mcs_c.specs.declared.entries.Shape.{Shape}
use Rattle.mcs_c.specs.declared.entries.Shape.TheVariants as shape
use Rattle.mcs_c.specs.declared.entries.TheConstants.{ENTRY_WORDS}
use Rattle.mcs_c.specs.Encoding.{IsEncodable, IsHeld, encoded, key_of, numbers_said, of_message, padded, with_place}
use Rattle.mcs_c.specs.Entering.{entrant_of, entry_of, entry_said, fits_entrant, fits_message, least, ranged, replied, shape_of, step_said, step_with}

-- tests that hold
lt_true : (a b : ℕ) → a < b → nat_lt a b ≡ true
lt_true a b h = grind (arith, nat_tests)

le_true : (a b : ℕ) → a ≤ b → nat_le a b ≡ true
le_true a b h = grind (arith, nat_tests)

both : (a b : Bool) → a ≡ true → b ≡ true → (a && b) ≡ true
both a b h k = rw (h, k) refl

-- the value of a choice whose test holds
chosen : {A : Type 0} (b : Bool) (x y : A) → b ≡ true → (if b then x else y) ≡ x
chosen b x y h = rw h refl

-- what a shape says of the numbers of an entry with this key: the entry, and they fit into a struct
record IsRead (key : ℕ) (ns : List ℕ) (e : Entry) : Type 0 where
  form : Shape
  of_key : shape_of key ≡ Some form
  small : key < 2 ^ 32
  few : length ns ≤ ENTRY_WORDS
  words : All IsWord ns
  says : entry_said form ns ≡ Ok e

-- lists of words
words_0 : All IsWord []
words_0 = All-nil IsWord

words_more : (n : ℕ) (ns : List ℕ) → IsWord n → All IsWord ns → All IsWord (n ∷ ns)
words_more n ns h k = All-cons IsWord n ns h k

byte_is_word : (n : ℕ) → n < 256 → IsWord n
byte_is_word n h = omega arith

-- a place, before other numbers
words_place : (at : Place) (ns : List ℕ) → IsPlace at → All IsWord ns → All IsWord (with_place at ns)
words_place at ns h k = words_more at.index (at.depth ∷ ns) h.0 (words_more at.depth ns (byte_is_word at.depth h.1) k)

-- a message
words_message : (m : Content) → IsMessage m → All IsWord (of_message m)
words_message m h = let few = h.label in words_more m.label m.words (omega arith) h.words

-- one address
read_address : (form : OverAddress) (key a : ℕ) → shape_of key ≡ Some (shape.Address form) → key < 2 ^ 32 → IsWord a → IsRead key (a ∷ []) (over_address form a)
read_address form key a is small h = record {
  form = shape.Address form;
  of_key = is;
  small = small;
  few = omega arith;
  words = words_more a [] h words_0;
  says = refl;
}

-- two addresses
read_pair : (form : OverPair) (key a b : ℕ) → shape_of key ≡ Some (shape.Pair form) → key < 2 ^ 32 → IsWord a × IsWord b → IsRead key (a ∷ b ∷ []) (over_pair form a b)
read_pair form key a b is small h = record {
  form = shape.Pair form;
  of_key = is;
  small = small;
  few = omega arith;
  words = words_more a (b ∷ []) h.0 (words_more b [] h.1 words_0);
  says = refl;
}

-- one place
read_place : (form : OverPlace) (key : ℕ) (at : Place) → shape_of key ≡ Some (shape.AtPlace form) → key < 2 ^ 32 → IsPlace at → IsRead key (with_place at []) (over_place form at)
read_place form key at is small h = record {
  form = shape.AtPlace form;
  of_key = is;
  small = small;
  few = omega arith;
  words = words_place at [] h words_0;
  says = chosen (nat_lt at.depth 256) (Ok (over_place form at)) (Err Range) (lt_true at.depth 256 h.1);
}

-- the tests of places, of rights and of a message
depths : (from to : Place) → IsPlace from → IsPlace to → (nat_lt from.depth 256 && nat_lt to.depth 256) ≡ true
depths from to h k = both (nat_lt from.depth 256) (nat_lt to.depth 256) (lt_true from.depth 256 h.1) (lt_true to.depth 256 k.1)

with_rights : (from to : Place) (rights : ℕ) → IsPlace from → IsPlace to → rights < 16 → ((nat_lt from.depth 256 && nat_lt to.depth 256) && nat_lt rights 16) ≡ true
with_rights from to rights h k l = both (nat_lt from.depth 256 && nat_lt to.depth 256) (nat_lt rights 16) (depths from to h k) (lt_true rights 16 l)

fits : (m : Content) → IsMessage m → fits_message m.label m.words ≡ true
fits m h = both (nat_lt m.label (2 ^ label_bits)) (nat_le (length m.words) word_limit) (lt_true m.label (2 ^ label_bits) h.label) (le_true (length m.words) word_limit h.few)

-- what numbers say that end in a message, of which so many come at least
says_message : (n : ℕ) (ns : List ℕ) (m : Content) (e : Entry) → n ≤ length ns → IsMessage m → least n ns (ranged (fits_message m.label m.words) e) ≡ Ok e
says_message n ns m e h k = chosen (nat_le n (length ns)) (ranged (fits_message m.label m.words) e) (Err Form) (le_true n (length ns) h) ∙ chosen (fits_message m.label m.words) (Ok e) (Err Range) (fits m k)

-- an address and a message
read_sends : (form : Sending) (key a : ℕ) (m : Content) → shape_of key ≡ Some (shape.Sends form) → key < 2 ^ 32 → IsWord a × IsMessage m → IsRead key (a ∷ of_message m) (sending form a m)
read_sends form key a m is small h = let few = h.1.few in record {
  form = shape.Sends form;
  of_key = is;
  small = small;
  few = omega arith;
  words = words_more a (of_message m) h.0 (words_message m h.1);
  says = says_message 2 (a ∷ of_message m) m (sending form a m) (omega arith) h.1;
}

-- two addresses and a message
read_replied : (form : Shape) (made : ℕ → ℕ → Content → Entry) (key a b : ℕ) (m : Content) → ((ns : List ℕ) → entry_said form ns ≡ replied made ns) → shape_of key ≡ Some form → key < 2 ^ 32 → IsWord a × IsWord b × IsMessage m → IsRead key (a ∷ b ∷ of_message m) (made a b m)
read_replied form made key a b m same is small h = let few = h.2.few in record {
  form = form;
  of_key = is;
  small = small;
  few = omega arith;
  words = words_more a (b ∷ of_message m) h.0 (words_more b (of_message m) h.1 (words_message m h.2));
  says = same (a ∷ b ∷ of_message m) ∙ says_message 3 (a ∷ b ∷ of_message m) m (made a b m) (omega arith) h.2;
}

-- three addresses and a message
read_exchanged : (key a b c : ℕ) (m : Content) → shape_of key ≡ Some shape.NbSendRecv → key < 2 ^ 32 → IsWord a × IsWord b × IsWord c × IsMessage m → IsRead key (a ∷ b ∷ c ∷ of_message m) (entry.NbSendRecv a b c m)
read_exchanged key a b c m is small h = let few = h.3.few in record {
  form = shape.NbSendRecv;
  of_key = is;
  small = small;
  few = omega arith;
  words = words_more a (b ∷ c ∷ of_message m) h.0 (words_more b (c ∷ of_message m) h.1 (words_more c (of_message m) h.2 (words_message m h.3)));
  says = says_message 4 (a ∷ b ∷ c ∷ of_message m) m (entry.NbSendRecv a b c m) (omega arith) h.3;
}

-- two addresses and a priority
read_priority : (key a b : ℕ) (p : Prio) → shape_of key ≡ Some shape.SetPriority → key < 2 ^ 32 → IsWord a × IsWord b × (p.0 < 256) → IsRead key (a ∷ b ∷ p.0 ∷ []) (entry.SetPriority a b p)
read_priority key a b p is small h = record {
  form = shape.SetPriority;
  of_key = is;
  small = small;
  few = omega arith;
  words = words_more a (b ∷ p.0 ∷ []) h.0 (words_more b (p.0 ∷ []) h.1 (words_more p.0 [] (byte_is_word p.0 h.2) words_0));
  says = chosen (nat_lt p.0 256) (Ok (entry.SetPriority a b p)) (Err Range) (lt_true p.0 256 h.2);
}

-- two places
read_moved : (key : ℕ) (from to : Place) → shape_of key ≡ Some shape.MoveCap → key < 2 ^ 32 → IsPlace from × IsPlace to → IsRead key (with_place from (with_place to [])) (entry.MoveCap from to)
read_moved key from to is small h = record {
  form = shape.MoveCap;
  of_key = is;
  small = small;
  few = omega arith;
  words = words_place from (with_place to []) h.0 (words_place to [] h.1 words_0);
  says = chosen (nat_lt from.depth 256 && nat_lt to.depth 256) (Ok (entry.MoveCap from to)) (Err Range) (depths from to h.0 h.1);
}

-- two places and rights
read_copied : (key : ℕ) (from to : Place) (rights : ℕ) → shape_of key ≡ Some shape.CopyCap → key < 2 ^ 32 → IsPlace from × IsPlace to × (rights < 16) → IsRead key (with_place from (with_place to (rights ∷ []))) (entry.CopyCap from to rights)
read_copied key from to rights is small h = let low = h.2 in record {
  form = shape.CopyCap;
  of_key = is;
  small = small;
  few = omega arith;
  words = words_place from (with_place to (rights ∷ [])) h.0 (words_place to (rights ∷ []) h.1 (words_more rights [] (omega arith) words_0));
  says = chosen ((nat_lt from.depth 256 && nat_lt to.depth 256) && nat_lt rights 16) (Ok (entry.CopyCap from to rights)) (Err Range) (with_rights from to rights h.0 h.1 h.2);
}

-- two places, rights and a badge
read_minted : (key : ℕ) (from to : Place) (rights : ℕ) (badge : Badge) → shape_of key ≡ Some shape.MintCap → key < 2 ^ 32 → IsPlace from × IsPlace to × (rights < 16) × IsWord badge.0 → IsRead key (with_place from (with_place to (rights ∷ badge.0 ∷ []))) (entry.MintCap from to rights badge)
read_minted key from to rights badge is small h = let low = h.2 in record {
  form = shape.MintCap;
  of_key = is;
  small = small;
  few = omega arith;
  words = words_place from (with_place to (rights ∷ badge.0 ∷ [])) h.0 (words_place to (rights ∷ badge.0 ∷ []) h.1 (words_more rights (badge.0 ∷ []) (omega arith) (words_more badge.0 [] h.3 words_0)));
  says = chosen ((nat_lt from.depth 256 && nat_lt to.depth 256) && nat_lt rights 16) (Ok (entry.MintCap from to rights badge)) (Err Range) (with_rights from to rights h.0 h.1 h.2);
}

-- each entry is read from its numbers: a case for each, and none for others
reads : (e : Entry) → InRange e → IsRead (key_of e) (numbers_said e) e
unfolding shape_of
reads (entry.Send a m) h = read_sends sends.Send 1 a m refl (omega arith) h
reads (entry.NbSend a m) h = read_sends sends.NbSend 2 a m refl (omega arith) h
reads (entry.Call a m) h = read_sends sends.Call 3 a m refl (omega arith) h
reads (entry.Recv a r) h = read_pair pair.Recv 4 a r refl (omega arith) h
reads (entry.NbRecv a r) h = read_pair pair.NbRecv 5 a r refl (omega arith) h
reads (entry.Wait a) h = read_address one.Wait 6 a refl (omega arith) h
reads (entry.NbWait a) h = read_address one.NbWait 7 a refl (omega arith) h
reads (entry.ReplyRecv a r m) h = read_replied shape.ReplyRecv entry.ReplyRecv 8 a r m (λ ns. refl) refl (omega arith) h
reads (entry.Signal a) h = read_address one.Signal 9 a refl (omega arith) h
reads (entry.SetPriority x authority p) h = read_priority 10 x authority p refl (omega arith) h
reads (entry.Suspend x) h = read_address one.Suspend 11 x refl (omega arith) h
reads (entry.Resume x) h = read_address one.Resume 12 x refl (omega arith) h
reads (entry.BindNtfn x n) h = read_pair pair.BindNtfn 13 x n refl (omega arith) h
reads (entry.UnbindNtfn x) h = read_address one.UnbindNtfn 14 x refl (omega arith) h
reads (entry.BindCtx s x) h = read_pair pair.BindCtx 15 s x refl (omega arith) h
reads (entry.UnbindCtx s) h = read_address one.UnbindCtx 16 s refl (omega arith) h
reads (entry.CancelBadged a) h = read_address one.CancelBadged 17 a refl (omega arith) h
reads (entry.CopyCap from to rights) h = read_copied 18 from to rights refl (omega arith) h
reads (entry.MintCap from to rights badge) h = read_minted 19 from to rights badge refl (omega arith) h
reads (entry.MoveCap from to) h = read_moved 20 from to refl (omega arith) h
reads (entry.DeleteCap at) h = read_place place.DeleteCap 21 at refl (omega arith) h
reads (entry.MakeEndpoint at) h = read_place place.MakeEndpoint 22 at refl (omega arith) h
reads (entry.MakeNotification at) h = read_place place.MakeNotification 23 at refl (omega arith) h
reads (entry.MakeReply at) h = read_place place.MakeReply 24 at refl (omega arith) h
reads (entry.MakeContext at) h = read_place place.MakeContext 25 at refl (omega arith) h
reads (entry.NbSendRecv a source r m) h = read_exchanged 26 a source r m refl (omega arith) h
reads (entry.NbSendWait a source m) h = read_replied shape.NbSendWait entry.NbSendWait 27 a source m (λ ns. refl) refl (omega arith) h

-- numbers and zeros are as many words as a struct has
padded_many : (ns : List ℕ) → length ns ≤ ENTRY_WORDS → length (padded ns) ≡ ENTRY_WORDS
padded_many ns few = rw (length-append ns (replicate (ENTRY_WORDS - length ns) 0), length-replicate {A = ℕ} (ENTRY_WORDS - length ns) 0) (omega arith)

-- a list is no longer than it is with more behind it
no_longer : (xs ys : List ℕ) → length xs ≤ length (xs ++ ys)
no_longer xs ys = rw (length-append xs ys) (omega arith)

-- a struct holds the entry that encodes a step
pub held : (s : Step) → IsEncodable s → IsHeld (encoded s)
held s h =
    let ns = numbers_said s.entry in
    let r = reads s.entry h.entry in
    let on_core = h.core in
    let most = h.most in
    let few = r.few in
    record {
      core = omega arith;
      thread = omega arith;
      key = r.small;
      count = omega arith;
      many = padded_many ns r.few;
      words = All-append IsWord ns (replicate (ENTRY_WORDS - length ns) 0) r.words (All-replicate IsWord (ENTRY_WORDS - length ns) 0 (omega arith));
    }

-- the entry of numbers, whatever is in the words that do not count
from_padded : (form : Shape) (e : McsEntry) (ns zs : List ℕ) (x : Entry) → e.count ≡ length ns → e.words ≡ ns ++ zs → entry_said form ns ≡ Ok x → entry_of (Some form) e ≡ Ok x
from_padded form e ns zs x count words says =
    chosen (nat_le e.count (length e.words)) (entry_said form (take e.count e.words)) (Err Form) (le_true e.count (length e.words) (rw (count, words) (no_longer ns zs)))
    ∙ (rw (count, words) (ap (λ (l : List ℕ). entry_said form l) (take-append_seam ns zs)) ∙ says)

-- the entry that encodes a step gives the step
pub said : (s : Step) → IsEncodable s → step_said (encoded s) ≡ Ok s
unfolding step_said
said s h =
    let ns = numbers_said s.entry in
    let r = reads s.entry h.entry in
    let enters : fits_entrant (encoded s) ≡ true =
    both (nat_lt s.core.0 core_limit) (nat_le 1 s.thread.serial && nat_le s.thread.serial object_limit) (lt_true s.core.0 core_limit h.core)
    (both (nat_le 1 s.thread.serial) (nat_le s.thread.serial object_limit) (le_true 1 s.thread.serial h.least) (le_true s.thread.serial object_limit h.most)) in
    let is : entry_of (shape_of (key_of s.entry)) (encoded s) ≡ Ok s.entry =
    ap (λ (f : Option Shape). entry_of f (encoded s)) r.of_key ∙ from_padded r.form (encoded s) ns (replicate (ENTRY_WORDS - length ns) 0) s.entry refl refl r.says in
    chosen (fits_entrant (encoded s)) (step_with (entrant_of (encoded s)) (entry_of (shape_of (key_of s.entry)) (encoded s))) (Err Range) enters
    ∙ (ap (step_with (entrant_of (encoded s))) is
    ∙ ap (λ (k : Kind). Ok (record { core = s.core; thread = record { kind = k; serial = s.thread.serial }; entry = s.entry })) (sym h.kind))
