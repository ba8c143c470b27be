-- States with equal rows are alike.
use Rattle.std.specs.Prelude.{ℕ, Bool, true, false, zero, suc, ◌+◌, ◌-◌, ◌≡◌, ◌<◌, ◌≤◌, List, [], ◌∷◌, ◌++◌, Option, Some, None, length, option_map, slice_get}
use Rattle.std.proofs.Common.{refl, ap, sym, ◌∙◌, subst, arith}
use Rattle.mcs_types.specs.declared.id.ObjId.{ObjId}
use Rattle.mcs_types.specs.declared.id.Kind.{Kind}
use Rattle.mcs_types.specs.declared.id.Kind.TheVariants as kind
use Rattle.mcs_types.specs.declared.record.Queue.TheVariants.{Senders, Receivers, Waiters}
use Rattle.mcs_book.specs.Boots.{Boot, IsFaultless}
use Rattle.mcs_book.specs.Logs.{Log, counted}
use Rattle.mcs_book.specs.Objects.{is_alive, form_of, makes_kind, was_made}
use Rattle.mcs_book.specs.Queues.{queued_in}
use Rattle.mcs_book.specs.Chains.{chain_of}
use Rattle.mcs_book.specs.Contexts.{holder_of, home_of}
use Rattle.mcs_book.specs.History.{log_of}
use Rattle.mcs_book.specs.Lookup.{radix_kept}
use Rattle.mcs_book.specs.Messages.{open_of}
use Rattle.mcs_book.specs.Replies.{owed_by}
use Rattle.mcs_book.specs.Slots.{slot, count_of}
use Rattle.mcs_book.specs.Sound.{Sound}
use Rattle.mcs_book.proofs.Objects.MadeLaws.{made-serial}
use Rattle.mcs_book.proofs.SoundLogs.SoundBooks.{legal-sound}
use Rattle.mcs_state.specs.Questions.{word_of}
use Rattle.mcs_state.specs.Saying.{row_said}
use Rattle.mcs_state.specs.Tables.{core_said}
use Rattle.mcs_turns.specs.declared.position.Pick.{Pick}
use Rattle.mcs_turns.specs.Due.{choices}
use Rattle.mcs_turns.specs.Turns.{User, RunState, ArePicks, AreInRange}
use Rattle.mcs_users.specs.Users.{change_slots}
use Rattle.mcs_turns.proofs.Choices.{length-choices}
use Rattle.mcs_turns.proofs.RunLaws.{run-legal, run-long}
use Rattle.mcs_types.specs.declared.record.Letter.{Letter}
use Rattle.mcs_explore_equivalence.specs.ButNumbers.{unnumbered}
use Rattle.mcs_explore_equivalence.specs.Answers.{IsMade, AnswerAlike, AnswerButNumbers}
use Rattle.mcs_explore_equivalence.specs.Likeness.{AlikeBy}
use Rattle.mcs_explore_equivalence.proofs.Answering.{answers-alike, answers-exact}
use Rattle.mcs_explore_equivalence.proofs.Asked.{answer-all}
use Rattle.mcs_explore_equivalence.specs.Runs.{IsReached, AreClose, AreAlike}
use Rattle.mcs_explore_equivalence.proofs.Alikes.{picks-there}
use Rattle.mcs_explore_rows.specs.Numbers.{one, flag_number, option_numbers, list_numbers, below, id_numbers, cap_numbers, row_numbers, letter_numbers}
use Rattle.mcs_explore_rows.specs.Rows.{cnode_numbers, cnode_rows, head_numbers, sent_kept, object_at, core_numbers, kind_numbers, object_numbers, count_numbers, rows_of_kind, object_rows, position_numbers, pick_numbers, HaveSameRows, rows_of, slots_numbers}
use Rattle.mcs_explore_rows.proofs.Slots.{SameSlots, runs-slots}
use Rattle.mcs_explore_rows.proofs.Telling.{parted, Tells, one-decoded, flag-decoded, option-decoded, list-decoded, below-decoded, row-decoded, id-decoded, cap-decoded, thread-decoded, letter-decoded}

-- a message as a key has it: without its number, where the numbers of messages are not
-- distinguished
abbrev letter_kept : Bool → Letter → Letter
letter_kept true s = s
letter_kept false s = unnumbered s

letters-as : (numbered : Bool) (o : Option Letter) → option_numbers (letter_numbers numbered) o ≡ option_numbers (letter_numbers true) (option_map (letter_kept numbered) o)
letters-as true None = refl
letters-as false None = refl
letters-as true (Some s) = refl
letters-as false (Some s) = refl

-- whole rows determine what they encode, with nothing after them
alone : {A E : Type 0} (f : A → List E) → Tells f → (a b : A) → f a ≡ f b → a ≡ b
alone f t a b h = (t a b [] [] (ap (λ l. l ++ []) h)).0

-- two that are one after the other
two-decoded : {A B : Type 0} (f : A → List ℕ) (g : B → List ℕ) → Tells f → Tells g → (a b : A) (c d : B) → f a ++ g c ≡ f b ++ g d → (a ≡ b) × (c ≡ d)
two-decoded f g t u a b c d h = let p = t a b (g c) (g d) h in (p.0, alone g u c d p.1)

core-decoded : Tells core_numbers
core-decoded a b x y h = let p = parted _ _ _ _ h in (ap (λ n. record { 0 = n }) p.0, p.1)

position-decoded : Tells position_numbers
position-decoded a b x y h =
    let nexts = parted a.next b.next _ _ h in
    let firsts = parted a.saved.a b.saved.a _ _ nexts.1 in
    let seconds = parted a.saved.b b.saved.b _ _ firsts.1 in
    let thirds = parted a.saved.c b.saved.c _ _ seconds.1 in
    let fourths = parted a.saved.d b.saved.d _ _ thirds.1 in
    let waits = option-decoded one one-decoded a.waited b.waited x y fourths.1 in
    (λ i. record { next = nexts.0 i; waited = waits.0 i; saved = record { a = firsts.0 i; b = seconds.0 i; c = thirds.0 i; d = fourths.0 i } }, waits.1)

pick-decoded : Tells pick_numbers
pick-decoded a b x y h =
    let users = parted _ _ _ _ h in
    let numbers = parted _ _ _ _ users.1 in
    (ap (λ n. record { user = n; number = a.number }) users.0 ∙ ap (λ n. record { user = b.user; number = n }) numbers.0, numbers.1)

-- lists of one length with equal elements are equal
same-places : {A : Type 0} (xs ys : List A) → length xs ≡ length ys → ((i : ℕ) → i < length xs → slice_get xs i ≡ slice_get ys i) → xs ≡ ys
same-places [] [] e h = refl
same-places [] (y ∷ ys) e h = absurd (omega (arith, e))
same-places (x ∷ xs) [] e h = absurd (omega (arith, e))
same-places (x ∷ xs) (y ∷ ys) e h =
    let first : Some x ≡ Some y = h zero (omega arith) in
    let is : x ≡ y = cc in
    let shorter : length xs ≡ length ys = omega (arith, e) in
    ap (λ z. z ∷ xs) is ∙ ap (λ zs. y ∷ zs) (same-places xs ys shorter (λ i k. h (suc i) (omega (arith, k))))

-- the rows of all objects of a kind determine those of each
kind-rows : (changing numbered : Bool) (R S : Log) (k : Kind) → counted (makes_kind k) R ≡ counted (makes_kind k) S → (x y : List (List ℕ)) → rows_of_kind changing numbered R k ++ x ≡ rows_of_kind changing numbered S k ++ y
    → ((i : ℕ) → i < counted (makes_kind k) R → object_numbers changing numbered R (object_at k i) ≡ object_numbers changing numbered S (object_at k i)) × (x ≡ y)
kind-rows changing numbered R S k e x y h =
    below-decoded (λ r. r ∷ []) row-decoded (λ i. object_numbers changing numbered R (object_at k i)) (λ i. object_numbers changing numbered S (object_at k i)) (counted (makes_kind k) R) x y
    (h ∙ ap (λ n. below (λ i. object_numbers changing numbered S (object_at k i) ∷ []) n ++ y) (sym e))

-- the rows of slots determine each of them
slots-decoded : (R S : Log) (c : ObjId) (n : ℕ) → slots_numbers R c n ≡ slots_numbers S c n → (i : ℕ) → i < n → slot R c i ≡ slot S c i
unfolding slots_numbers
slots-decoded R S c n h = (below-decoded (option_numbers cap_numbers) (option-decoded cap_numbers cap-decoded) (slot R c) (slot S c) n [] [] (ap (λ l. l ++ []) h)).0

-- two logs with as many objects, whose whole rows are equal
record SameRows (numbered : Bool) (R S : Log) : Type 0 where
  pub counts : (k : Kind) → counted (makes_kind k) R ≡ counted (makes_kind k) S
  pub sent : sent_kept numbered R ≡ sent_kept numbered S
  pub rows : (k : Kind) (i : ℕ) → i < counted (makes_kind k) R → object_numbers true numbered R (object_at k i) ≡ object_numbers true numbered S (object_at k i)

-- objects have the same heads where slots stay
same-head : (R S : Log) → SameSlots R S → (o : ObjId) → head_numbers true R o ≡ head_numbers true S o
same-head R S same o = ap (λ b. flag_number b ∷ count_of R o ∷ []) (same.there o) ∙ ap (λ n. flag_number (is_alive S o) ∷ n ∷ []) (same.held o)

-- so whole rows are equal where those are that leave heads out
whole-row : (changing numbered : Bool) (R S : Log) → (changing ≡ false → SameSlots R S) → (o : ObjId)
    → object_numbers changing numbered R o ≡ object_numbers changing numbered S o → object_numbers true numbered R o ≡ object_numbers true numbered S o
whole-row true numbered R S fixed o h = h
whole-row false numbered R S fixed o h =
    ap (λ l. l ++ kind_numbers numbered R o.kind o) (same-head R S (fixed refl) o) ∙ ap (λ l. head_numbers true S o ++ l) h

-- slots that stay are the same numbers
same-below : (f g : ℕ → List ℕ) → ((i : ℕ) → f i ≡ g i) → (n : ℕ) → below f n ≡ below g n
same-below f g h zero = refl
same-below f g h (suc n) = ap (λ l. l ++ f n) (same-below f g h n) ∙ ap (λ l. below g n ++ l) (h n)

same-slots : (R S : Log) → SameSlots R S → (c : ObjId) (n : ℕ) → slots_numbers R c n ≡ slots_numbers S c n
unfolding slots_numbers
same-slots R S same c n = same-below (λ i. option_numbers cap_numbers (slot R c i)) (λ i. option_numbers cap_numbers (slot S c i)) (λ i. ap (option_numbers cap_numbers) (same.slots c i)) n

-- and so are CNodes
same-cnode : (R S : Log) → SameSlots R S → (c : ObjId) → cnode_numbers R c ≡ cnode_numbers S c
same-cnode R S same c = ap (λ f. one (radix_kept f) ++ slots_numbers R c 256) (same.forms c) ∙ ap (λ l. one (radix_kept (form_of S c)) ++ l) (same-slots R S same c 256)

-- what holds of each kind
each-kind : (P : Kind → Type 0) → P kind.CNode → P kind.Thread → P kind.Endpoint → P kind.Notification → P kind.Reply → P kind.Context → (k : Kind) → P k
each-kind P a b c d e f kind.CNode = a
each-kind P a b c d e f kind.Thread = b
each-kind P a b c d e f kind.Endpoint = c
each-kind P a b c d e f kind.Notification = d
each-kind P a b c d e f kind.Reply = e
each-kind P a b c d e f kind.Context = f

-- the CNodes have the same rows, by these rows or since no slot changes, and so have the other
-- objects
record SameCNodes (numbered : Bool) (R S : Log) (x y : List (List ℕ)) : Type 0 where
  pub rows : (i : ℕ) → i < counted (makes_kind kind.CNode) R → object_numbers true numbered R (object_at kind.CNode i) ≡ object_numbers true numbered S (object_at kind.CNode i)
  pub others : x ≡ y

same-cnodes : (changing numbered : Bool) (R S : Log) → (changing ≡ false → SameSlots R S) → counted (makes_kind kind.CNode) R ≡ counted (makes_kind kind.CNode) S
    → (x y : List (List ℕ)) → cnode_rows changing numbered R ++ x ≡ cnode_rows changing numbered S ++ y → SameCNodes numbered R S x y
same-cnodes true numbered R S fixed counts x y h = let both = kind-rows true numbered R S kind.CNode counts x y h in record { rows = both.0; others = both.1 }
same-cnodes false numbered R S fixed counts x y h = record {
  rows = λ i low. whole-row false numbered R S fixed (object_at kind.CNode i) (same-cnode R S (fixed refl) (object_at kind.CNode i));
  others = h;
}

same-rows : (changing numbered : Bool) (R S : Log) → (changing ≡ false → SameSlots R S) → count_numbers numbered R ≡ count_numbers numbered S
    → object_rows changing numbered R ≡ object_rows changing numbered S → SameRows numbered R S
same-rows changing numbered R S fixed counts rows =
    let sent = parted _ _ _ _ counts in
    let cnodes = parted _ _ _ _ sent.1 in
    let threads = parted _ _ _ _ cnodes.1 in
    let endpoints = parted _ _ _ _ threads.1 in
    let notifications = parted _ _ _ _ endpoints.1 in
    let replies = parted _ _ _ _ notifications.1 in
    let contexts = parted _ _ _ _ replies.1 in
    let a = same-cnodes changing numbered R S fixed cnodes.0 _ _ rows in
    let b = kind-rows changing numbered R S kind.Thread threads.0 _ _ a.others in
    let c = kind-rows changing numbered R S kind.Endpoint endpoints.0 _ _ b.1 in
    let d = kind-rows changing numbered R S kind.Notification notifications.0 _ _ c.1 in
    let e = kind-rows changing numbered R S kind.Reply replies.0 _ _ d.1 in
    let f = kind-rows changing numbered R S kind.Context contexts.0 [] [] (ap (λ l. l ++ []) e.1) in
    let whole = whole-row changing numbered R S fixed in
    record {
      counts = each-kind (λ k. counted (makes_kind k) R ≡ counted (makes_kind k) S) cnodes.0 threads.0 endpoints.0 notifications.0 replies.0 contexts.0;
      sent = sent.0;
      rows = each-kind (λ k. (i : ℕ) → i < counted (makes_kind k) R → object_numbers true numbered R (object_at k i) ≡ object_numbers true numbered S (object_at k i)) a.rows
          (λ i low. whole (object_at kind.Thread i) (b.0 i low)) (λ i low. whole (object_at kind.Endpoint i) (c.0 i low)) (λ i low. whole (object_at kind.Notification i) (d.0 i low))
          (λ i low. whole (object_at kind.Reply i) (e.0 i low)) (λ i low. whole (object_at kind.Context i) (f.0 i low));
    }

-- what the row of an object has besides what there is of its kind
record SameObject (numbered : Bool) (R S : Log) (o : ObjId) : Type 0 where
  pub there : is_alive R o ≡ is_alive S o
  pub held : count_of R o ≡ count_of S o
  pub rest : kind_numbers numbered R o.kind o ≡ kind_numbers numbered S o.kind o

same-object : (numbered : Bool) (R S : Log) → Sound R → SameRows numbered R S → (o : ObjId) → was_made R o ≡ true → SameObject numbered R S o
same-object numbered R S sound same o made =
    let at : object_at o.kind (o.serial - 1) ≡ o = ap (λ n. record { kind = o.kind; serial = n }) (back (made-serial R o sound made).0) in
    let is : object_numbers true numbered R o ≡ object_numbers true numbered S o = subst (λ x. object_numbers true numbered R x ≡ object_numbers true numbered S x) at (same.rows o.kind (o.serial - 1) (low (made-serial R o sound made))) in
    let flags = parted _ _ _ _ is in
    let counts = parted _ _ _ _ flags.1 in
    record { there = flag-decoded (is_alive R o) (is_alive S o) flags.0; held = counts.0; rest = counts.1 }
  where
    back : 1 ≤ o.serial → o.serial - 1 + 1 ≡ o.serial
    back h = omega (arith, h)

    low : (1 ≤ o.serial) × (o.serial ≤ counted (makes_kind o.kind) R) → o.serial - 1 < counted (makes_kind o.kind) R
    low h = omega (arith, h.0, h.1)

module _ (numbered : Bool) (R S : Log) (sound : Sound R) (same : SameRows numbered R S) where
  rest : (k : Kind) (o : ObjId) → IsMade R k o → kind_numbers numbered R k o ≡ kind_numbers numbered S k o
  rest k o is = subst (λ j. kind_numbers numbered R j o ≡ kind_numbers numbered S j o) is.0 (same-object numbered R S sound same o is.1).rest

  thread : (t : ObjId) → IsMade R kind.Thread t → (row_said R t ≡ row_said S t) × (option_map (letter_kept numbered) (open_of R t) ≡ option_map (letter_kept numbered) (open_of S t))
  thread t is = two-decoded (option_numbers row_numbers) (option_numbers (letter_numbers true)) (option-decoded row_numbers thread-decoded) (option-decoded (letter_numbers true) letter-decoded) _ _ _ _
      (ap (λ l. option_numbers row_numbers (row_said R t) ++ l) (sym (letters-as numbered (open_of R t))) ∙ rest kind.Thread t is ∙ ap (λ l. option_numbers row_numbers (row_said S t) ++ l) (letters-as numbered (open_of S t)))

  endpoint : (e : ObjId) → IsMade R kind.Endpoint e → (queued_in R (Senders e) ≡ queued_in S (Senders e)) × (queued_in R (Receivers e) ≡ queued_in S (Receivers e))
  endpoint e is = two-decoded (list_numbers id_numbers) (list_numbers id_numbers) (list-decoded id_numbers id-decoded) (list-decoded id_numbers id-decoded) _ _ _ _ (rest kind.Endpoint e is)

  notification : (n : ObjId) → IsMade R kind.Notification n → (queued_in R (Waiters n) ≡ queued_in S (Waiters n)) × (word_of R n ≡ word_of S n)
  notification n is = two-decoded (list_numbers id_numbers) (option_numbers one) (list-decoded id_numbers id-decoded) (option-decoded one one-decoded) _ _ _ _ (rest kind.Notification n is)

  -- a context
  record SameContext (s : ObjId) : Type 0 where
    pub core : core_said R s ≡ core_said S s
    pub holder : holder_of R s ≡ holder_of S s
    pub home : home_of R s ≡ home_of S s
    pub chain : chain_of R s ≡ chain_of S s

  context : (s : ObjId) → IsMade R kind.Context s → SameContext s
  context s is =
      let cores = option-decoded core_numbers core-decoded (core_said R s) (core_said S s) _ _ (rest kind.Context s is) in
      let holders = option-decoded id_numbers id-decoded (holder_of R s) (holder_of S s) _ _ cores.1 in
      let others = two-decoded (option_numbers id_numbers) (list_numbers id_numbers) (option-decoded id_numbers id-decoded) (list-decoded id_numbers id-decoded) (home_of R s) (home_of S s) (chain_of R s) (chain_of S s) holders.1 in
      record { core = cores.0; holder = holders.0; home = others.0; chain = others.1 }

  cnode : (c : ObjId) → IsMade R kind.CNode c → (radix_kept (form_of R c) ≡ radix_kept (form_of S c)) × ((i : ℕ) → i < 256 → slot R c i ≡ slot S c i)
  cnode c is =
      let radix = parted _ _ _ _ (rest kind.CNode c is) in
      (radix.0, slots-decoded R S c 256 radix.1)

  -- without its number a message is the same
  numberless : (o : Option Letter) → option_map unnumbered (option_map (letter_kept numbered) o) ≡ option_map unnumbered o
  numberless None = refl
  numberless (Some s) = ap (λ z. Some z) (go numbered)
    where
      go : (b : Bool) → unnumbered (letter_kept b s) ≡ unnumbered s
      go true = refl
      go false = refl

  answer : AnswerButNumbers R S
  answer = record {
    counts = same.counts;
    there = λ o is. (same-object numbered R S sound same o is).there;
    held = λ o is. (same-object numbered R S sound same o is).held;
    rows = λ t is. (thread t is).0;
    letters = λ t is. sym (numberless (open_of R t)) ∙ ap (λ o. option_map unnumbered o) (thread t is).1 ∙ numberless (open_of S t);
    senders = λ e is. (endpoint e is).0;
    receivers = λ e is. (endpoint e is).1;
    waiters = λ n is. (notification n is).0;
    words = λ n is. (notification n is).1;
    owed = λ r is. alone (option_numbers id_numbers) (option-decoded id_numbers id-decoded) (owed_by R r) (owed_by S r) (rest kind.Reply r is);
    cores = λ s is. (context s is).core;
    holders = λ s is. (context s is).holder;
    homes = λ s is. (context s is).home;
    chains = λ s is. (context s is).chain;
    radices = λ c is. (cnode c is).0;
    slots = λ c i is low. (cnode c is).1 i low;
  }

-- where numbers are distinguished they are the same too
answer-exact : (R S : Log) → Sound R → SameRows true R S → AnswerAlike R S
answer-exact R S sound same = record {
  counts = but.counts;
  sent = same.sent;
  there = but.there;
  held = but.held;
  rows = but.rows;
  letters = λ t is. sym (whole (open_of R t)) ∙ (thread true R S sound same t is).1 ∙ whole (open_of S t);
  senders = but.senders;
  receivers = but.receivers;
  waiters = but.waiters;
  words = but.words;
  owed = but.owed;
  cores = but.cores;
  holders = but.holders;
  homes = but.homes;
  chains = but.chains;
  radices = but.radices;
  slots = but.slots;
}
  where
    but : AnswerButNumbers R S
    but = answer true R S sound same

    whole : (o : Option Letter) → option_map (letter_kept true) o ≡ o
    whole None = refl
    whole (Some s) = refl

-- logs with equal rows are alike
logs-by : (numbered : Bool) (R S : Log) → Sound R → Sound S → SameRows numbered R S → AlikeBy numbered R S
logs-by true R S left right same = answers-exact R S left right (answer-exact R S left same)
logs-by false R S left right same = answers-alike R S left right (answer-all R S left right (answer false R S left same))

-- lists of one length that agree in each place are equal
same-decoded : {A : Type 0} (f : A → List ℕ) → Tells f → (xs ys : List A) (n : ℕ) → length xs ≡ n → length ys ≡ n
    → ((i : ℕ) → i < n → option_numbers f (slice_get xs i) ≡ option_numbers f (slice_get ys i)) → xs ≡ ys
same-decoded f t xs ys n left right is =
    same-places xs ys (left ∙ sym right) (λ i k. alone (option_numbers f) (option-decoded f t) (slice_get xs i) (slice_get ys i) (is i (subst (λ m. i < m) left k)))

-- the parts of equal rows
record SameParts (numbered : Bool) (users : List User) (g h : RunState) (ks js : List (List Pick)) : Type 0 where
  pub counts : count_numbers numbered (log_of g.book) ≡ count_numbers numbered (log_of h.book)
  pub places : (i : ℕ) → i < length users → option_numbers position_numbers (slice_get g.places i) ≡ option_numbers position_numbers (slice_get h.places i)
  pub choices : (i : ℕ) → i < g.book.boot.cores
      → option_numbers (list_numbers pick_numbers) (slice_get (choices ks g.stale) i) ≡ option_numbers (list_numbers pick_numbers) (slice_get (choices js h.stale) i)
  pub objects : object_rows (change_slots users) numbered (log_of g.book) ≡ object_rows (change_slots users) numbered (log_of h.book)

same-parts : (numbered : Bool) (users : List User) (g h : RunState) (ks js : List (List Pick)) → g.book.boot.cores ≡ h.book.boot.cores → rows_of numbered users g ks ≡ rows_of numbered users h js → SameParts numbered users g h ks js
same-parts numbered users g h ks js cores rows =
    let counts = parted _ _ _ _ rows in
    let places = below-decoded (λ r. r ∷ []) row-decoded (λ i. option_numbers position_numbers (slice_get g.places i)) (λ i. option_numbers position_numbers (slice_get h.places i)) (length users) _ _ counts.1 in
    let entered = below-decoded (λ r. r ∷ []) row-decoded (λ i. option_numbers (list_numbers pick_numbers) (slice_get (choices ks g.stale) i)) (λ i. option_numbers (list_numbers pick_numbers) (slice_get (choices js h.stale) i))
    g.book.boot.cores _ (object_rows (change_slots users) numbered (log_of h.book))
    (places.1 ∙ ap (λ n. below (λ i. option_numbers (list_numbers pick_numbers) (slice_get (choices js h.stale) i) ∷ []) n ++ object_rows (change_slots users) numbered (log_of h.book)) (sym cores)) in
    record { counts = counts.0; places = places.0; choices = entered.0; objects = entered.1 }

-- two runs of one boot and users that have equal rows are alike
module _ (numbered : Bool) (users : List User) (boot : Boot) (whole : IsFaultless boot) (range : AreInRange users) (g h : RunState) (left : IsReached users boot g) (right : IsReached users boot h) (rows : HaveSameRows numbered users g h) where
  parts : (ks js : List (List Pick)) → ArePicks users g ks → ArePicks users h js → SameParts numbered users g h ks js
  parts ks js are bre =
      let long = run-long users boot left.turns g left.run in
      let wide = run-long users boot right.turns h right.run in
      same-parts numbered users g h ks js (ap (λ (b : Boot). b.cores) (long.kept ∙ sym wide.kept)) ((rows.so ks are).so js bre)

  some : SameParts numbered users g h rows.picks (rows.so rows.picks rows.are).picks
  some = let other = rows.so rows.picks rows.are in parts rows.picks other.picks rows.are other.are

  close : AreClose numbered users boot g h
  close =
      let long = run-long users boot left.turns g left.run in
      let wide = run-long users boot right.turns h right.run in
      let one_sound : Sound (log_of g.book) = legal-sound g.book (run-legal users boot whole range left.turns g left.run) in
      let other_sound : Sound (log_of h.book) = legal-sound h.book (run-legal users boot whole range right.turns h right.run) in
      let fixed : change_slots users ≡ false → SameSlots (log_of g.book) (log_of h.book) = λ none. runs-slots users boot none left.turns right.turns g h left.run right.run in
      let same = same-rows (change_slots users) numbered (log_of g.book) (log_of h.book) fixed some.counts some.objects in
      record {
        left = left;
        right = right;
        logs = logs-by numbered (log_of g.book) (log_of h.book) one_sound other_sound same;
        places = same-decoded position_numbers position-decoded g.places h.places (length users) long.places wide.places some.places;
      }

  same-choices : (ks : List (List Pick)) → ArePicks users g ks → choices ks g.stale ≡ choices ks h.stale
  same-choices ks are =
      let long = run-long users boot left.turns g left.run in
      let wide = run-long users boot right.turns h right.run in
      let both = parts ks ks are (picks-there numbered users boot g h close ks are) in
      same-decoded (list_numbers pick_numbers) (list-decoded pick_numbers pick-decoded) (choices ks g.stale) (choices ks h.stale) boot.cores (length-choices ks g.stale ∙ long.stale) (length-choices ks h.stale ∙ wide.stale)
      (λ i low. both.choices i (subst (λ (b : Boot). i < b.cores) (sym long.kept) low))

pub rows-alike : (numbered : Bool) (users : List User) (boot : Boot) → IsFaultless boot → AreInRange users → (g h : RunState) → IsReached users boot g → IsReached users boot h → HaveSameRows numbered users g h → AreAlike numbered users boot g h
rows-alike numbered users boot whole range g h left right rows = record {
  close = close numbered users boot whole range g h left right rows;
  choices = same-choices numbered users boot whole range g h left right rows;
}
