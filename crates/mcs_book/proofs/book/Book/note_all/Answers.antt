use Rattle.std.proofs.Common.{◌≡◌, ◌∙◌, ℕ, List, ◌<◌, drop, ◌+◌, ◌++◌, ◌∷◌, [], length, take, reverse, sym, ap, arith}
use Rattle.std.proofs.Math.ListN.{get_or}
use Rattle.std.proofs.lemmas.List.{drop-set-lt, get_or-drop, drop-drop, reverse-append}
use Rattle.std.proofs.lemmas.Grind.{take_at_read}
use Rattle.mcs_types.specs.declared.record.Rec.{Rec}
use Rattle.mcs_book.proofs.book.Book.note_all.Goals as goal

-- what is left of two lists is the same
rest_at : {X : Type 0} (i : ℕ) (xs ys : List X) (d : X) → drop i xs ≡ drop i ys → get_or xs i d ≡ get_or ys i d
rest_at i xs ys d h =
    let zero_more : i + 0 ≡ i = omega arith in
    ap (λ n. get_or xs n d) (sym zero_more) ∙ sym (get_or-drop i xs 0 d) ∙ ap (λ l. get_or l 0 d) h ∙ get_or-drop i ys 0 d ∙ ap (λ n. get_or ys n d) zero_more

rest_after : {X : Type 0} (i : ℕ) (xs ys : List X) → drop i xs ≡ drop i ys → drop (i + 1) xs ≡ drop (i + 1) ys
rest_after i xs ys h = sym (drop-drop 1 i xs) ∙ ap (drop 1) h ∙ drop-drop 1 i ys

-- the newest first, with one more
one_more : (xs more old : List Rec) (x : Rec) → more ≡ xs ++ x ∷ [] → x ∷ (reverse xs ++ old) ≡ reverse more ++ old
one_more xs more old x is = sym (ap (λ l. reverse l ++ old) is ∙ ap (λ l. l ++ old) (reverse-append xs (x ∷ [])))

pub loop-fact-preserved : goal.loop-fact-preserved
loop-fact-preserved c =
    let before = c.loop-fact.invariant in
    let i = c.loop-fact.fact-index in
    let xs = c.loop-fact.records in
    let d = c.fact-item.result in
    let recs = c.args.records.now in
    let inside : i < length recs = omega (arith, c.loop-fact-test.true, c.loop-fact.auto.records) in
    let at : get_or xs i d ≡ get_or recs i d = rest_at i xs recs d before.rest in
    let next = (take_at_read recs i c.fact-item.result inside).1 in
    let note = c.note in
    record {
      hand = note.ensures.hand ∙ ap (λ (x : Rec). x ∷ c.loop-fact.self.hand) (c.replace.ensures.value ∙ at) ∙ ap (λ l. get_or recs i d ∷ l) before.hand ∙ one_more (take i recs) (take (i + 1) recs) c.args.self.now.hand (get_or recs i d) next;
      rest = drop-set-lt (i + 1) xs i c.replace.new.dest (omega arith) ∙ rest_after i xs recs before.rest;
      book = note.ensures.book ∙ before.book;
      room = omega (arith, note.ensures.room, before.room);
    }
