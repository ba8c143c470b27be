-- What noting an answer says of all answers.
use Rattle.std.specs.Prelude.{ℕ, zero, suc, ◌≡◌, ◌++◌, ◌⊎◌, ◌+◌, ◌≤◌, drop, unwrap_or, map, set, List, [], ◌∷◌, Option, Some, None, Result, Ok, Err, length, slice_get}
use Rattle.std.specs.Result.{OnOk}
use Rattle.std.proofs.Common.{refl, ap, sym, ◌∙◌, subst, inl, inr, append_assoc}
use Rattle.std.proofs.lemmas.List.{drop_all}
use Rattle.mcs_types.specs.declared.entry.Answer.{Answer}
use Rattle.mcs_types.specs.declared.entry.Answer.TheVariants as answer
use Rattle.mcs_types.specs.declared.entry.Entry.{Entry}
use Rattle.mcs_book.specs.History.{Book, Line, line_of_number}
use Rattle.mcs_turns.specs.declared.position.Position.{Position}
use Rattle.mcs_turns.specs.declared.position.Pick.{Pick}
use Rattle.mcs_turns.specs.Turns.{User, RunState}
use Rattle.mcs_explore_walk.specs.declared.walk.Turn.{Turn}
use Rattle.mcs_explore_orders.specs.Shown.{Made}
use Rattle.mcs_types.specs.declared.record.Rec.{Rec}
use Rattle.mcs_lab_check.proofs.Finding.{from-there}
use Rattle.mcs_explore_report.specs.declared.answers.Witness.{Witness}
use Rattle.mcs_turns.specs.declared.reached.Reached.{Reached}
use Rattle.mcs_turns.specs.Mail.{brought, got_with, listed, reached_from, reaching}
use Rattle.mcs_explore_report.specs.Answers.{AreAnswersOf, AreMailOf, AreNotedMail, IsAmong, IsAnswerOf, IsChangedAt, IsEntry, IsMailed, IsNoted, IsNotedFor, IsNotedIn, IsNotedMail, IsNotedOf, IsNotedTurn, Tables, mailed_to, no_answers, table_of}
use Rattle.mcs_explore_search.proofs.Places.{at-last, at-old, at-split, some-same}
use Rattle.mcs_explore_report.proofs.Lists.{from-on, same-or-not, set-other, set-same}

-- what was changed in a place
module _ {A : Type 0} (Change : A → A → Type 0) (i : ℕ) (old new : List A) where
  pub change-back : IsChangedAt Change i old new → (j : ℕ) (y : A) → slice_get new j ≡ Some y
      → (x : A) × ((slice_get old j ≡ Some x) × (((j ≡ i) × Change x y) ⊎ ((j ≡ i → ⊥) × (y ≡ x))))
  change-back (inl same) j y at =
      let was : slice_get old j ≡ Some y = ap (λ xs. slice_get xs j) (sym same.1) ∙ at in
      (y, (was, inr (λ e. absurd (no (sym same.0 ∙ ap (λ n. slice_get old n) (sym e) ∙ was)), refl)))
    where
      no : None ≡ Some y → ⊥
      no e = absurd cc
  change-back (inr c) j y at = go (same-or-not j i)
    where
      there : slice_get (set old i c.after) j ≡ Some y
      there = ap (λ xs. slice_get xs j) (sym c.changed) ∙ at

      go : (j ≡ i) ⊎ (j ≡ i → ⊥) → (x : A) × ((slice_get old j ≡ Some x) × (((j ≡ i) × Change x y) ⊎ ((j ≡ i → ⊥) × (y ≡ x))))
      go (inl e) =
          let is : c.after ≡ y = some-same c.after y (sym (set-same old i c.before c.after c.at) ∙ ap (λ n. slice_get (set old i c.after) n) (sym e) ∙ there) in
          (c.before, (ap (λ n. slice_get old n) e ∙ c.at, inl (e, subst (λ z. Change c.before z) is c.change)))
      go (inr ne) = (y, (sym (set-other old i j c.after ne) ∙ there, inr (ne, refl)))

  pub change-there : IsChangedAt Change i old new → (j : ℕ) (x : A) → slice_get old j ≡ Some x → (y : A) × (slice_get new j ≡ Some y)
  change-there (inl same) j x at = (x, ap (λ xs. slice_get xs j) same.1 ∙ at)
  change-there (inr c) j x at = go (same-or-not j i)
    where
      go : (j ≡ i) ⊎ (j ≡ i → ⊥) → (y : A) × (slice_get new j ≡ Some y)
      go (inl e) = (c.after, ap (λ xs. slice_get xs j) c.changed ∙ ap (λ n. slice_get (set old i c.after) n) e ∙ set-same old i c.before c.after c.at)
      go (inr ne) = (x, ap (λ xs. slice_get xs j) c.changed ∙ set-other old i j c.after ne ∙ at)

-- what a call changed, if it did
pub changed-at : {A E : Type 0} (r : Result (Unit {0}) E) (Change : A → A → Type 0) (i : ℕ) (old : List A) (before after : A) → slice_get old i ≡ Some before → OnOk r (Change before after) → OnOk r (IsChangedAt Change i old (set old i after))
changed-at (Ok x) Change i old before after at change = inr (record { before = before; after = after; at = at; change = change; changed = refl })
changed-at (Err e) Change i old before after at change = change

-- the table of an entry
pub table-in : (tables : Tables) (a b : ℕ) (witnesses : List Witness) → table_of tables a b ≡ Some witnesses → (ts : List (List Witness)) × ((slice_get tables a ≡ Some ts) × (slice_get ts b ≡ Some witnesses))
table-in tables a b witnesses at = go (slice_get tables a) refl at
  where
    go : (o : Option (List (List Witness))) → slice_get tables a ≡ o → slice_get (unwrap_or o []) b ≡ Some witnesses → (ts : List (List Witness)) × ((slice_get tables a ≡ Some ts) × (slice_get ts b ≡ Some witnesses))
    go None e it = absurd cc
    go (Some ts) e it = (ts, (e, it))

pub table-at : (tables : Tables) (a b : ℕ) (ts : List (List Witness)) (witnesses : List Witness) → slice_get tables a ≡ Some ts → slice_get ts b ≡ Some witnesses → table_of tables a b ≡ Some witnesses
table-at tables a b ts witnesses e at = ap (λ (o : Option (List (List Witness))). slice_get (unwrap_or o []) b) e ∙ at

among-more : (witnesses more : List Witness) (x : Answer) → IsAmong witnesses x → IsAmong (witnesses ++ more) x
among-more witnesses more x m = record { place = m.place; one = m.one; at = at-old witnesses more m.place m.one m.at; same = m.same }

-- a table in which an answer was noted
noted-keeps : (t : Witness) (witnesses after : List Witness) → IsNoted t witnesses after → (x : Answer) → IsAmong witnesses x → IsAmong after x
noted-keeps t witnesses after (inl same) x m = subst (λ ts. IsAmong ts x) (sym same.1) m
noted-keeps t witnesses after (inr new) x m = subst (λ ts. IsAmong ts x) (sym new.added) (among-more witnesses (t ∷ []) x m)

noted-has : (t : Witness) (witnesses after : List Witness) → IsNoted t witnesses after → IsAmong after t.answer
noted-has t witnesses after (inl same) = subst (λ ts. IsAmong ts t.answer) (sym same.1) same.0
noted-has t witnesses after (inr new) = subst (λ ts. IsAmong ts t.answer) (sym new.added) (record { place = length witnesses; one = t; at = at-last witnesses t; same = refl })

noted-old : (t : Witness) (witnesses after : List Witness) → IsNoted t witnesses after → (i : ℕ) (x : Witness) → slice_get after i ≡ Some x → (slice_get witnesses i ≡ Some x) ⊎ (x ≡ t)
noted-old t witnesses after (inl same) i x at = inl (ap (λ ts. slice_get ts i) (sym same.1) ∙ at)
noted-old t witnesses after (inr new) i x at = go (at-split witnesses t i x (ap (λ ts. slice_get ts i) (sym new.added) ∙ at))
  where
    go : (slice_get witnesses i ≡ Some x) ⊎ ((i ≡ length witnesses) × (x ≡ t)) → (slice_get witnesses i ≡ Some x) ⊎ (x ≡ t)
    go (inl h) = inl h
    go (inr e) = inr e.1

-- what the table of an entry was before an answer was noted: that of this entry, or the same
pub record WasTable (user number : ℕ) (t : Witness) (old : Tables) (a b : ℕ) (after : List Witness) : Type 0 where
  pub before : List Witness
  pub at : table_of old a b ≡ Some before
  pub is : ((a ≡ user) × (b ≡ number) × IsNoted t before after) ⊎ (((a ≡ user) × (b ≡ number) → ⊥) × (after ≡ before))

module _ (user number : ℕ) (t : Witness) (old new : Tables) (noted : IsNotedOf user number t old new) where
  pub table-was : (a b : ℕ) (after : List Witness) → table_of new a b ≡ Some after → WasTable user number t old a b after
  table-was a b after at = outer (change-back (IsNotedIn number t) user old new noted a in_new.0 in_new.1.0)
    where
      in_new : (ts : List (List Witness)) × ((slice_get new a ≡ Some ts) × (slice_get ts b ≡ Some after))
      in_new = table-in new a b after at

      outer : (xs : List (List Witness)) × ((slice_get old a ≡ Some xs) × (((a ≡ user) × IsNotedIn number t xs in_new.0) ⊎ ((a ≡ user → ⊥) × (in_new.0 ≡ xs)))) → WasTable user number t old a b after
      outer (xs, (was, inr other)) = record {
        before = after;
        at = table-at old a b xs after was (ap (λ ts. slice_get ts b) (sym other.1) ∙ in_new.1.1);
        is = inr (λ e. other.0 e.0, refl);
      }
      outer (xs, (was, inl mine)) = inner (change-back (IsNoted t) number xs in_new.0 mine.1 b after in_new.1.1)
        where
          inner : (x : List Witness) × ((slice_get xs b ≡ Some x) × (((b ≡ number) × IsNoted t x after) ⊎ ((b ≡ number → ⊥) × (after ≡ x)))) → WasTable user number t old a b after
          inner (x, (there, inl is)) = record { before = x; at = table-at old a b xs x was there; is = inl (mine.0, is.0, is.1) }
          inner (x, (there, inr is)) = record { before = x; at = table-at old a b xs x was there; is = inr (λ e. is.0 e.1, is.1) }

  table-stays : (a b : ℕ) (before : List Witness) → table_of old a b ≡ Some before → (after : List Witness) × (table_of new a b ≡ Some after)
  table-stays a b before at =
      let o = table-in old a b before at in
      let ts = change-there (IsNotedIn number t) user old new noted a o.0 o.1.0 in
      go o.0 o.1.0 o.1.1 (change-back (IsNotedIn number t) user old new noted a ts.0 ts.1) ts.1
    where
      go : (xs : List (List Witness)) → slice_get old a ≡ Some xs → slice_get xs b ≡ Some before
          → {ys : List (List Witness)} → (zs : List (List Witness)) × ((slice_get old a ≡ Some zs) × (((a ≡ user) × IsNotedIn number t zs ys) ⊎ ((a ≡ user → ⊥) × (ys ≡ zs)))) → slice_get new a ≡ Some ys → (after : List Witness) × (table_of new a b ≡ Some after)
      go xs was there {ys} (zs, (same, inl mine)) now =
          let is : xs ≡ zs = some-same xs zs (sym was ∙ same) in
          let y = change-there (IsNoted t) number zs ys mine.1 b before (ap (λ ts. slice_get ts b) (sym is) ∙ there) in
          (y.0, table-at new a b ys y.0 now y.1)
      go xs was there {ys} (zs, (same, inr other)) now =
          let is : ys ≡ xs = other.1 ∙ some-same zs xs (sym same ∙ was) in
          (before, table-at new a b ys before now (ap (λ ts. slice_get ts b) is ∙ there))

  -- what was among the answers of an entry still is, and the answer is among those of its own
  pub among-stays : (a b : ℕ) (after : List Witness) (x : Answer) → table_of new a b ≡ Some after → ((witnesses : List Witness) → table_of old a b ≡ Some witnesses → IsAmong witnesses x) → IsAmong after x
  among-stays a b after x at was = let w = table-was a b after at in go w.before w.at w.is
    where
      go : (before : List Witness) → table_of old a b ≡ Some before → ((a ≡ user) × (b ≡ number) × IsNoted t before after) ⊎ (((a ≡ user) × (b ≡ number) → ⊥) × (after ≡ before)) → IsAmong after x
      go before there (inl mine) = noted-keeps t before after mine.2 x (was before there)
      go before there (inr other) = subst (λ ts. IsAmong ts x) (sym other.1) (was before there)

  pub among-noted : (after : List Witness) → table_of new user number ≡ Some after → IsAmong after t.answer
  among-noted after at = let w = table-was user number after at in go w.before w.is
    where
      go : (before : List Witness) → ((user ≡ user) × (number ≡ number) × IsNoted t before after) ⊎ (((user ≡ user) × (number ≡ number) → ⊥) × (after ≡ before)) → IsAmong after t.answer
      go before (inl mine) = noted-has t before after mine.2
      go before (inr other) = absurd (other.0 (refl, refl))

  pub entries-stay : (users : List User) → ((a b : ℕ) → IsEntry users a b → (witnesses : List Witness) × (table_of old a b ≡ Some witnesses)) → (a b : ℕ) → IsEntry users a b → (witnesses : List Witness) × (table_of new a b ≡ Some witnesses)
  entries-stay users were a b e = let w = were a b e in table-stays a b w.0 w.1

  pub each-noted : (users : List User) (turns : List Made) → IsAnswerOf users turns user number t
      → ((a b : ℕ) (witnesses : List Witness) (i : ℕ) (x : Witness) → table_of old a b ≡ Some witnesses → slice_get witnesses i ≡ Some x → IsAnswerOf users turns a b x)
      → (a b : ℕ) (witnesses : List Witness) (i : ℕ) (x : Witness) → table_of new a b ≡ Some witnesses → slice_get witnesses i ≡ Some x → IsAnswerOf users turns a b x
  each-noted users turns is each a b witnesses i x at there = let w = table-was a b witnesses at in go w.before w.at w.is
    where
      go : (before : List Witness) → table_of old a b ≡ Some before → ((a ≡ user) × (b ≡ number) × IsNoted t before witnesses) ⊎ (((a ≡ user) × (b ≡ number) → ⊥) × (witnesses ≡ before)) → IsAnswerOf users turns a b x
      go before was (inr other) = each a b before i x was (ap (λ ts. slice_get ts i) (sym other.1) ∙ there)
      go before was (inl mine) = side (noted-old t before witnesses mine.2 i x there)
        where
          side : (slice_get before i ≡ Some x) ⊎ (x ≡ t) → IsAnswerOf users turns a b x
          side (inl h) = each a b before i x was h
          side (inr e) = subst (λ n. IsAnswerOf users turns n b x) (sym mine.0) (subst (λ n. IsAnswerOf users turns user n x) (sym mine.1) (subst (λ (y : Witness). IsAnswerOf users turns user number y) (sym e) is))

answer-more : (users : List User) (turns more : List Made) (a b : ℕ) (x : Witness) → IsAnswerOf users turns a b x → IsAnswerOf users (turns ++ more) a b x
answer-more users turns more a b x is = record { index = is.index; made = is.made; at = at-old turns more is.index is.made is.at; place = is.place; turn = is.turn; is = is.is }

-- a turn that was answered with Waits
pub waits-more : (users : List User) (turns : List Made) (tables : Tables) (m : Made) → m.answer ≡ answer.Waits → AreAnswersOf users turns tables → AreAnswersOf users (turns ++ m ∷ []) tables
waits-more users turns tables m waits are = record {
  entries = are.entries;
  each = λ a b witnesses i x at there. answer-more users turns (m ∷ []) a b x (are.each a b witnesses i x at there);
  all = λ j n witnesses at not there. all j n witnesses not there (at-split turns m j n at);
}
  where
    all : (j : ℕ) (n : Made) (witnesses : List Witness) → (n.answer ≡ answer.Waits → ⊥) → table_of tables n.turn.pick.user n.turn.pick.number ≡ Some witnesses → (slice_get turns j ≡ Some n) ⊎ ((j ≡ length turns) × (n ≡ m)) → IsAmong witnesses n.answer
    all j n witnesses not there (inl h) = are.all j n witnesses h not there
    all j n witnesses not there (inr e) = absurd (not (ap (λ (x : Made). x.answer) e.1 ∙ waits))

-- a turn whose answer was noted
pub own-more : (users : List User) (turns : List Made) (old new : Tables) (m : Made) (t : Witness) → t ≡ record { answer = m.answer; place = m.place; turn = m.turn } → IsNotedOf m.turn.pick.user m.turn.pick.number t old new
    → AreAnswersOf users turns old → AreAnswersOf users (turns ++ m ∷ []) new
own-more users turns old new m t is noted are = record {
  entries = entries-stay m.turn.pick.user m.turn.pick.number t old new noted users are.entries;
  each = each-noted m.turn.pick.user m.turn.pick.number t old new noted users (turns ++ m ∷ []) mine (λ a b witnesses i x at there. answer-more users turns (m ∷ []) a b x (are.each a b witnesses i x at there));
  all = λ j n witnesses at not there. all j n witnesses not there (at-split turns m j n at);
}
  where
    mine : IsAnswerOf users (turns ++ m ∷ []) m.turn.pick.user m.turn.pick.number t
    mine = record {
      index = length turns;
      made = m;
      at = at-last turns m;
      place = ap (λ (x : Witness). x.place) (sym is);
      turn = ap (λ (x : Witness). x.turn) (sym is);
      is = inl (record { user = refl; number = refl; answer = ap (λ (x : Witness). x.answer) (sym is) });
    }

    all : (j : ℕ) (n : Made) (witnesses : List Witness) → (n.answer ≡ answer.Waits → ⊥) → table_of new n.turn.pick.user n.turn.pick.number ≡ Some witnesses → (slice_get turns j ≡ Some n) ⊎ ((j ≡ length turns) × (n ≡ m)) → IsAmong witnesses n.answer
    all j n witnesses not there (inl h) = among-stays m.turn.pick.user m.turn.pick.number t old new noted n.turn.pick.user n.turn.pick.number witnesses n.answer there (λ ts at. are.all j n ts h not at)
    all j n witnesses not there (inr e) =
        let here : table_of new m.turn.pick.user m.turn.pick.number ≡ Some witnesses = ap (λ (x : Made). table_of new x.turn.pick.user x.turn.pick.number) (sym e.1) ∙ there in
        let has = among-noted m.turn.pick.user m.turn.pick.number t old new noted witnesses here in
        subst (λ x. IsAmong witnesses x) (ap (λ (x : Witness). x.answer) is ∙ ap (λ (x : Made). x.answer) (sym e.1)) has

-- an answer that is that of a turn was noted
pub answer-noted : (users : List User) (turns : List Made) (old new : Tables) (user number : ℕ) (t : Witness) → IsAnswerOf users turns user number t → IsNotedOf user number t old new → AreAnswersOf users turns old → AreAnswersOf users turns new
answer-noted users turns old new user number t is noted are = record {
  entries = entries-stay user number t old new noted users are.entries;
  each = each-noted user number t old new noted users turns is are.each;
  all = λ j n witnesses at not there. among-stays user number t old new noted n.turn.pick.user n.turn.pick.number witnesses n.answer there (λ ts was. are.all j n ts at not was);
}

-- before the first turn
pub no-turns : (users : List User) → AreAnswersOf users [] (no_answers users)
no-turns users = record {
  entries = λ a b e. ([], entry users a b e);
  each = λ a b witnesses i x at there. absurd (none-witnessed users a b witnesses i x at there);
  all = λ j m witnesses at. absurd cc;
}
  where
    at-map : {A B : Type 0} (f : A → B) (xs : List A) (i : ℕ) (x : A) → slice_get xs i ≡ Some x → slice_get (map f xs) i ≡ Some (f x)
    at-map f [] i x h = absurd cc
    at-map f (y ∷ xs) zero x h = ap (λ z. Some (f z)) (some-same y x h)
    at-map f (y ∷ xs) (suc i) x h = at-map f xs i x h

    entry : (users : List User) (a b : ℕ) → IsEntry users a b → table_of (no_answers users) a b ≡ Some []
    entry users a b e = table-at (no_answers users) a b (map (λ (x : Entry). []) e.one.entries) [] (at-map (λ (u : User). map (λ (x : Entry). []) u.entries) users a e.one e.is_user) (at-map (λ (x : Entry). []) e.one.entries b e.entry e.is_entry)

    map-in : {A B : Type 0} (f : A → B) (xs : List A) (i : ℕ) (y : B) → slice_get (map f xs) i ≡ Some y → (x : A) × (y ≡ f x)
    map-in f [] i y h = absurd cc
    map-in f (x ∷ xs) zero y h = (x, some-same y (f x) (sym h))
    map-in f (x ∷ xs) (suc i) y h = map-in f xs i y h

    none-witnessed : (users : List User) (a b : ℕ) (witnesses : List Witness) (i : ℕ) (x : Witness) → table_of (no_answers users) a b ≡ Some witnesses → slice_get witnesses i ≡ Some x → ⊥
    none-witnessed users a b witnesses i x at there =
        let ts = table-in (no_answers users) a b witnesses at in
        let u = map-in (λ (u : User). map (λ (e : Entry). []) u.entries) users a ts.0 ts.1.0 in
        let empty = map-in (λ (e : Entry). []) u.0.entries b witnesses (ap (λ xs. slice_get xs b) (sym u.1) ∙ ts.1.1) in
        no (ap (λ xs. slice_get xs i) (sym empty.1) ∙ there)
      where
        no : slice_get [] i ≡ Some x → ⊥
        no e = absurd cc

-- what was noted of a turn itself
pub turn-noted : (users : List User) (turns : List Made) (old new : Tables) (m : Made) → IsNotedTurn (record { answer = m.answer; place = m.place; turn = m.turn }) old new → AreAnswersOf users turns old → AreAnswersOf users (turns ++ m ∷ []) new
turn-noted users turns old new m (inl waits) are = subst (λ (ts : Tables). AreAnswersOf users (turns ++ m ∷ []) ts) (sym waits.1) (waits-more users turns old m waits.0 are)
turn-noted users turns old new m (inr noted) are = own-more users turns old new m (record { answer = m.answer; place = m.place; turn = m.turn }) refl noted are

-- what is among the answers of an entry still is
abbrev pub Grows : Tables → Tables → Type 0
Grows old new = (a b : ℕ) (after : List Witness) (x : Answer) → table_of new a b ≡ Some after → ((witnesses : List Witness) → table_of old a b ≡ Some witnesses → IsAmong witnesses x) → IsAmong after x

same-grows : (old new : Tables) → new ≡ old → Grows old new
same-grows old new same = λ a b after x at was. was after (ap (λ (ts : Tables). table_of ts a b) (sym same) ∙ at)

pub grows-on : (old mid new : Tables) → Grows old mid → Grows mid new → Grows old new
grows-on old mid new first then = λ a b after x at was. then a b after x at (λ witnesses there. first a b witnesses x there was)

pub noted-grows : (user number : ℕ) (t : Witness) (old new : Tables) → IsNotedOf user number t old new → Grows old new
noted-grows user number t old new noted = λ a b after x at was. among-stays user number t old new noted a b after x at was

pub turn-grows : (t : Witness) (old new : Tables) → IsNotedTurn t old new → Grows old new
turn-grows t old new (inl waits) = same-grows old new waits.1
turn-grows t old new (inr noted) = noted-grows t.turn.pick.user t.turn.pick.number t old new noted

pub for-grows : (o : Option Pick) (t : Witness) (old new : Tables) → IsNotedFor o t old new → Grows old new
for-grows None t old new same = same-grows old new same
for-grows (Some e) t old new noted = noted-grows e.user e.number t old new noted

for-has : (o : Option Pick) (user number : ℕ) (t : Witness) (old new : Tables) (witnesses : List Witness) → o ≡ Some (record { user = user; number = number }) → IsNotedFor o t old new → table_of new user number ≡ Some witnesses → IsAmong witnesses t.answer
for-has o user number t old new witnesses is noted there = among-noted user number t old new (subst (λ (p : Option Pick). IsNotedFor p t old new) is noted) witnesses there

-- what a turn delivered to an entry that waited was noted
module _ (users : List User) (from : List Position) (place : ℕ) (t : Turn) where
  pub mail-grows : (rs : List Reached) (old new : Tables) → AreNotedMail users from place t rs old new → Grows old new
  mail-grows [] old new same = same-grows old new same
  mail-grows (r ∷ rs) old new (mid, (one, rest)) = grows-on old mid new (for-grows (mailed_to users from t r) (record { answer = r.answer; place = place; turn = t }) old mid one) (mail-grows rs mid new rest)

  mail-has : (rs : List Reached) (i : ℕ) (r : Reached) (user number : ℕ) (witnesses : List Witness) (old new : Tables) → slice_get rs i ≡ Some r → mailed_to users from t r ≡ Some (record { user = user; number = number }) → AreNotedMail users from place t rs old new
      → table_of new user number ≡ Some witnesses → IsAmong witnesses r.answer
  mail-has [] i r user number witnesses old new at to noted there = absurd cc
  mail-has (x ∷ rs) zero r user number witnesses old new at to (mid, (one, rest)) there =
      let same : x ≡ r = some-same x r at in
      let here : IsNotedFor (mailed_to users from t r) (record { answer = r.answer; place = place; turn = t }) old mid = subst (λ (y : Reached). IsNotedMail users from place t y old mid) same one in
      mail-grows rs mid new rest user number witnesses r.answer there (λ ts was. for-has (mailed_to users from t r) user number (record { answer = r.answer; place = place; turn = t }) old mid ts to here was)
  mail-has (x ∷ rs) (suc i) r user number witnesses old new at to (mid, (one, rest)) there = mail-has rs i r user number witnesses mid new at to rest there

-- all that one more turn delivered is there, and all that was there is
pub mail-more : (users : List User) (turns : List Made) (m : Made) (old mid new : Tables) → IsNotedTurn (record { answer = m.answer; place = m.place; turn = m.turn }) old mid → AreNotedMail users m.from m.place m.turn (brought m.run_state.book) mid new
    → AreMailOf users turns old → AreMailOf users (turns ++ m ∷ []) new
mail-more users turns m old mid new own noted are = λ j n user number a witnesses at mail there. go j n user number a witnesses mail there (at-split turns m j n at)
  where
    grows : Grows old new
    grows = grows-on old mid new (turn-grows (record { answer = m.answer; place = m.place; turn = m.turn }) old mid own) (mail-grows users m.from m.place m.turn (brought m.run_state.book) mid new noted)

    mine : (user number : ℕ) (a : Answer) (witnesses : List Witness) → IsMailed users m.from m.run_state user number m.turn a → table_of new user number ≡ Some witnesses → IsAmong witnesses a
    mine user number a witnesses mail there =
        subst (λ x. IsAmong witnesses x) mail.answer (mail-has users m.from m.place m.turn (brought m.run_state.book) mail.index mail.reached user number witnesses mid new mail.at mail.to noted there)

    go : (j : ℕ) (n : Made) (user number : ℕ) (a : Answer) (witnesses : List Witness) → IsMailed users n.from n.run_state user number n.turn a → table_of new user number ≡ Some witnesses → (slice_get turns j ≡ Some n) ⊎ ((j ≡ length turns) × (n ≡ m)) → IsAmong witnesses a
    go j n user number a witnesses mail there (inl h) = grows user number witnesses a there (λ ts was. are j n user number a ts h mail was)
    go j n user number a witnesses mail there (inr e) = mine user number a witnesses (subst (λ (x : Made). IsMailed users x.from x.run_state user number x.turn a) e.1 mail) there

pub no-mail : (users : List User) (tables : Tables) → AreMailOf users [] tables
no-mail users tables = λ j m user number a witnesses at. absurd cc

-- and each answer that was noted so came by it
module _ (users : List User) (turns : List Made) (j : ℕ) (m : Made) (at : slice_get turns j ≡ Some m) where
  one-noted : (r : Reached) (i : ℕ) (old new : Tables) → slice_get (brought m.run_state.book) i ≡ Some r → IsNotedMail users m.from m.place m.turn r old new → AreAnswersOf users turns old → AreAnswersOf users turns new
  one-noted r i old new there noted are = go (mailed_to users m.from m.turn r) refl noted
    where
      t : Witness
      t = record { answer = r.answer; place = m.place; turn = m.turn }

      go : (o : Option Pick) → mailed_to users m.from m.turn r ≡ o → IsNotedFor o t old new → AreAnswersOf users turns new
      go None none same = subst (λ (ts : Tables). AreAnswersOf users turns ts) (sym same) are
      go (Some e) to new_one =
          let mail : IsMailed users m.from m.run_state e.user e.number m.turn r.answer = record { index = i; reached = r; at = there; to = to; answer = refl } in
          answer-noted users turns old new e.user e.number t (record { index = j; made = m; at = at; place = refl; turn = refl; is = inr mail }) new_one are

  pub mail-noted : (rs : List Reached) (old new : Tables) → ((i : ℕ) (r : Reached) → slice_get rs i ≡ Some r → (k : ℕ) × (slice_get (brought m.run_state.book) k ≡ Some r)) → AreNotedMail users m.from m.place m.turn rs old new
      → AreAnswersOf users turns old → AreAnswersOf users turns new
  mail-noted [] old new among same are = subst (λ (ts : Tables). AreAnswersOf users turns ts) (sym same) are
  mail-noted (r ∷ rs) old new among (mid, (one, rest)) are =
      let here = among zero r refl in
      mail-noted rs mid new (λ i x there. among (suc i) x there) rest (one-noted r here.0 old mid here.1 one are)

-- what reaches threads by a record more
pub reached-on : (got then : Option Answer) (i : ℕ) (rs : List Rec) (r : Rec) (before after all : List Reached) (o : Option Reached) → slice_get rs i ≡ Some r → then ≡ got_with got r → o ≡ reaching then r → after ≡ before ++ listed o
    → before ++ reached_from got (drop i rs) ≡ all → after ++ reached_from then (drop (i + 1) rs) ≡ all
reached-on got then i rs r before after all o at is_then is_o more so_far =
    ap (λ (xs : List Reached). xs ++ reached_from then (drop (i + 1) rs)) (more ∙ ap (λ (p : Option Reached). before ++ listed p) is_o)
    ∙ append_assoc before (listed (reaching then r)) (reached_from then (drop (i + 1) rs))
    ∙ ap (λ (a : Option Answer). before ++ (listed (reaching a r) ++ reached_from a (drop (i + 1) rs))) is_then
    ∙ ap (λ (xs : List Rec). before ++ reached_from got xs) (sym (from-there i rs r at))
    ∙ so_far

-- the tables of one user more
pub user-more : (lists : List User) (i : ℕ) (u : User) (old new : Tables) (t : List (List Witness)) → slice_get lists i ≡ Some u → t ≡ map (λ (e : Entry). []) u.entries → no_answers lists ≡ old ++ no_answers (drop i lists) → new ≡ old ++ t ∷ []
    → no_answers lists ≡ new ++ no_answers (drop (i + 1) lists)
user-more lists i u old new t at is so_far more =
    so_far ∙ ap (λ (us : List User). old ++ no_answers us) (from-on lists i u at) ∙ ap (λ x. old ++ x ∷ no_answers (drop (i + 1) lists)) (sym is) ∙ sym (append_assoc old (t ∷ []) (no_answers (drop (i + 1) lists))) ∙ ap (λ (xs : Tables). xs ++ no_answers (drop (i + 1) lists)) (sym more)

-- the mail that is left to note, one less
pub mail-on : (users : List User) (from : List Position) (place : ℕ) (t : Turn) (rs : List Reached) (i : ℕ) (r : Reached) (old mid : Tables) → slice_get rs i ≡ Some r → IsNotedMail users from place t r old mid → (new : Tables) → AreNotedMail users from place t (drop (i + 1) rs) mid new
    → AreNotedMail users from place t (drop i rs) old new
mail-on users from place t rs i r old mid at one new rest = subst (λ (xs : List Reached). AreNotedMail users from place t xs old new) (sym (from-on rs i r at)) (mid, (one, rest))

-- nothing is left to note
pub all-noted : (users : List User) (from : List Position) (place : ℕ) (t : Turn) (rs : List Reached) (i : ℕ) (old mid : Tables) → length rs ≤ i
    → ((new : Tables) → AreNotedMail users from place t (drop i rs) mid new → AreNotedMail users from place t rs old new) → AreNotedMail users from place t rs old mid
all-noted users from place t rs i old mid long noted =
    noted mid (subst (λ (xs : List Reached). AreNotedMail users from place t xs mid mid) (sym (drop_all i rs long)) refl)
