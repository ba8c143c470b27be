-- How operations are put together.
use Rattle.std.specs.Prelude.{◌≡◌, ◌+◌, ◌++◌, List, [], ◌∷◌, length, Ok, Err}
use Rattle.std.proofs.Common.{refl, ap, sym, ◌∙◌, subst, arith}
use Rattle.std.proofs.lemmas.List.{length-append}
use Rattle.mcs_types.specs.declared.id.ObjId.{ObjId}
use Rattle.mcs_types.specs.declared.id.CoreId.{CoreId}
use Rattle.mcs_types.specs.declared.record.Rec.{Rec}
use Rattle.mcs_types.specs.declared.entry.Answer.{Answer}
use Rattle.mcs_types.specs.declared.entry.Answer.TheVariants.{Refused}
use Rattle.mcs_types.specs.declared.entry.Entry.{Entry}
use Rattle.mcs_types.specs.declared.entry.Refusal.{Refusal}
use Rattle.mcs_book.specs.Logs.{Log, onto}
use Rattle.mcs_book.specs.History.{log_of}
use Rattle.mcs_book.specs.Pieces.{Piece, Act, Outcome, ◌then◌, before}
use Rattle.mcs_book.specs.Table.{row, wakes}
use Rattle.mcs_book.specs.Threads.{mode_of}
use Rattle.mcs_book.proofs.SoundLogs.Keeping.{onto-append}
use Rattle.mcs_book.proofs.Books.TableLaws.{does-refused, does-acts}
use Rattle.mcs_state.specs.Now.{Now, so_far, adds_all}
use Rattle.mcs_state.specs.Doing.{Gives, Holds, Makes, HasRoomFor, Acts, FitsAct, Does, Fits}
use Rattle.mcs_state.proofs.Opening.{onto-top}

-- all records after several more
pub so_far-adds : (made : List Rec) (n : Now) → so_far (adds_all made n) ≡ onto made (so_far n)
so_far-adds made n = sym (onto-top made n.hand (log_of n.book))

pub so_far-made : (p : Piece) (n m : Now) → Makes p n m → so_far m ≡ onto (p (so_far n)) (so_far n)
so_far-made p n m is = ap so_far is ∙ so_far-adds (p (so_far n)) n

-- several more, and then others
pub adds-both : (made more : List Rec) (n : Now) → adds_all more (adds_all made n) ≡ adds_all (made ++ more) n
adds-both made more n = ap (λ (h : Log). record n { hand = h }) (sym (onto-append made more n.hand))

-- a piece, and then another that sees its records too
pub makes-then : (p q : Piece) (n m l : Now) → Makes p n m → Makes q m l → Makes (p then q) n l
unfolding ◌then◌
makes-then p q n m l is h =
    h ∙ ap (λ x. adds_all (q (so_far x)) x) is ∙ adds-both (p (so_far n)) (q (so_far (adds_all (p (so_far n)) n))) n
    ∙ ap (λ R. adds_all (p (so_far n) ++ q R) n) (so_far-adds (p (so_far n)) n)

-- a piece, and then an act that sees its records too
pub after : (p : Piece) (act : Act) (n m l : Now) (answer : Answer) → Makes p n m → Acts act m answer l → Acts (before p act) n answer l
unfolding before
after p act n m l answer is g = record {
  records = g.records ∙ ap (λ x. adds_all (act (so_far x)).records x) is ∙ adds-both (p (so_far n)) (act (so_far (adds_all (p (so_far n)) n))).records n
      ∙ ap (λ R. adds_all (p (so_far n) ++ (act R).records) n) (so_far-adds (p (so_far n)) n);
  answer = g.answer ∙ ap (λ R. (act R).answer) (so_far-made p n m is);
}

-- an entry that is refused does nothing
pub refused : (n : Now) (core : CoreId) (t : ObjId) (entry : Entry) (why : Refusal) → row (so_far n) core t entry ≡ Err why → Does n core t entry (Refused why) n
refused n core t entry why e = subst (λ (o : Outcome). Gives o n (Refused why) n) (sym (does-refused (so_far n) core t entry why e)) (record { records = refl; answer = refl })

-- any other wakes its thread, and then does its act
pub acted : (n m l : Now) (core : CoreId) (t : ObjId) (entry : Entry) (act : Act) (answer : Answer) → row (so_far n) core t entry ≡ Ok act → Makes (wakes (mode_of (so_far n) t) t) n m → Acts act m answer l → Does n core t entry answer l
acted n m l core t entry act answer e is g = subst (λ (o : Outcome). Gives o n answer l) (sym (does-acts (so_far n) core t entry act e)) (after (wakes (mode_of (so_far n) t) t) act n m l answer is g)

-- room for the records of one piece after another is room for each
onto-length : (made : List Rec) (R : Log) → length (onto made R) ≡ length made + length R
onto-length [] R = omega arith
onto-length (r ∷ made) R = let e = onto-length made (r ∷ R) in omega (arith, e)

-- room for more records is room for the first of them, and then for the others
pub holds-first : (made more : List Rec) (n : Now) → Holds (made ++ more) n → Holds made n
holds-first made more n room = let e = length-append made more in omega (arith, e, room)

pub holds-rest : (made more : List Rec) (n : Now) → Holds (made ++ more) n → Holds more (adds_all made n)
holds-rest made more n room = let e = length-append made more in let f = onto-length made n.hand in omega (arith, e, f, room)

pub room-first : (p q : Piece) (n : Now) → HasRoomFor (p then q) n → HasRoomFor p n
unfolding ◌then◌
room-first p q n room = holds-first (p (so_far n)) (q (onto (p (so_far n)) (so_far n))) n room

pub room-next : (p q : Piece) (n m : Now) → Makes p n m → HasRoomFor (p then q) n → HasRoomFor q m
unfolding ◌then◌
room-next p q n m is room = subst (λ (x : Now). HasRoomFor q x) (sym is) (subst (λ R. Holds (q R) (adds_all (p (so_far n)) n)) (sym (so_far-adds (p (so_far n)) n)) (holds-rest (p (so_far n)) (q (onto (p (so_far n)) (so_far n))) n room))

pub room-before : (p : Piece) (act : Act) (n : Now) → FitsAct (before p act) n → HasRoomFor p n
unfolding before
room-before p act n room = holds-first (p (so_far n)) (act (onto (p (so_far n)) (so_far n))).records n room

pub room-then : (p : Piece) (act : Act) (n m : Now) → Makes p n m → FitsAct (before p act) n → FitsAct act m
unfolding before
room-then p act n m is room = subst (λ (x : Now). FitsAct act x) (sym is) (subst (λ R. Holds (act R).records (adds_all (p (so_far n)) n)) (sym (so_far-adds (p (so_far n)) n)) (holds-rest (p (so_far n)) (act (onto (p (so_far n)) (so_far n))).records n room))

-- room for an entry's records is room for waking, and then for its act
pub room-wakes : (n : Now) (core : CoreId) (t : ObjId) (entry : Entry) (act : Act) → row (so_far n) core t entry ≡ Ok act → Fits n core t entry → HasRoomFor (wakes (mode_of (so_far n) t) t) n
room-wakes n core t entry act e room = room-before (wakes (mode_of (so_far n) t) t) act n (subst (λ (o : Outcome). Holds o.records n) (does-acts (so_far n) core t entry act e) room)

pub room-acts : (n m : Now) (core : CoreId) (t : ObjId) (entry : Entry) (act : Act) → row (so_far n) core t entry ≡ Ok act → Makes (wakes (mode_of (so_far n) t) t) n m → Fits n core t entry → FitsAct act m
room-acts n m core t entry act e is room = room-then (wakes (mode_of (so_far n) t) t) act n m is (subst (λ (o : Outcome). Holds o.records n) (does-acts (so_far n) core t entry act e) room)

-- an act that wakes its thread itself
pub did : (n l : Now) (core : CoreId) (t : ObjId) (entry : Entry) (act : Act) (answer : Answer) → row (so_far n) core t entry ≡ Ok act → Acts (before (wakes (mode_of (so_far n) t) t) act) n answer l → Does n core t entry answer l
did n l core t entry act answer e g = subst (λ (o : Outcome). Gives o n answer l) (sym (does-acts (so_far n) core t entry act e)) g

pub room-did : (n : Now) (core : CoreId) (t : ObjId) (entry : Entry) (act : Act) → row (so_far n) core t entry ≡ Ok act → Fits n core t entry → FitsAct (before (wakes (mode_of (so_far n) t) t) act) n
room-did n core t entry act e room = subst (λ (o : Outcome). Holds o.records n) (does-acts (so_far n) core t entry act e) room
