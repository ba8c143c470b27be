-- A line added to a packed book.
use Rattle.std.proofs.Common.{◌≡◌, ◌∙◌, ◌≤◌, ◌<◌, ◌+◌, ◌^◌, ℕ, Vec, vec_len, vec_capacity, List, [], ◌∷◌, ◌++◌, length, drop, reverse, slice_index_or, slice_set, ap, append-nil, arith}
use Rattle.std.proofs.Math.Seq.{get_or-append_seam, set-append_seam}
use Rattle.std.proofs.lemmas.List.{drop-append-le, reverse-append, reverse-reverse}
use Rattle.mcs_types.specs.declared.record.Rec.{Rec}
use Rattle.mcs_types.specs.declared.entry.Step.{Step}
use Rattle.mcs_types.specs.declared.entry.Answer.{Answer}
use Rattle.mcs_packing.specs.declared.heads.Head.{Head}
use Rattle.mcs_packing.specs.declared.entries.PackedEntry.{PackedEntry}
use Rattle.mcs_packing.specs.declared.heads.PackedAnswer.{PackedAnswer}
use Rattle.mcs_packing.specs.declared.packed.Packed.{Packed}
use Rattle.mcs_packing.specs.declared.arena.Arena.{Arena}
use Rattle.mcs_packing.specs.Packing.{GrowsBy, HasMessageRoom, HasRoom, records_of}
use Rattle.mcs_packing.specs.Entries.{EntryFits, entry_of}
use Rattle.mcs_packing.specs.Heads.{Entered, AllHeadsFit, AnswerFits, HeadFits, answer_of, entered_of, all_entered}
use Rattle.mcs_book.specs.Pages.{EndsRise, EndsWithin, HasSpace, cut, line_head}
use Rattle.mcs_packing.proofs.HeadLaws.{AnswerFits-grows, answer_of-grows, all_entered-grows, all_entered-push}
use Rattle.mcs_book.proofs.Books.Cuts.{cut-beyond, cut-close}

-- the entry of a step
abbrev pub entered_with : Step → Answer → ℕ → Entered
entered_with s told end = record { step = s; answer = told; end = end }

-- a head stands for its step and its answer, also where the answer was packed before the entry
pub entered_of-of : (s : Step) (told : Answer) (e : PackedEntry) (a : PackedAnswer) (end : ℕ) (ws vs : List ℕ) → GrowsBy ws vs
    → answer_of a.form a.at ws ≡ told → AnswerFits a.form a.at ws → entry_of e vs ≡ s.entry → entered_of (line_head s e a end) vs ≡ entered_with s told end
entered_of-of s told e a end ws vs w answer fits entry =
    let a3 : answer_of a.form a.at vs ≡ told = ap (answer_of a.form a.at) w.is ∙ answer_of-grows a.form a.at ws w.more fits ∙ answer in
    ap (λ x. record { step = record { core = s.core; thread = s.thread; entry = x }; answer = answer_of a.form a.at vs; end = end }) entry ∙ ap (λ x. record { step = s; answer = x; end = end }) a3

pub HeadFits-of : (s : Step) (e : PackedEntry) (a : PackedAnswer) (end : ℕ) (ws vs : List ℕ) → GrowsBy ws vs → AnswerFits a.form a.at ws → EntryFits e vs → HeadFits (line_head s e a end) vs
HeadFits-of s e a end ws vs w answer fits = record { entry = fits; answer = rw w.is (AnswerFits-grows a.form a.at ws w.more answer) }

-- the heads with that of a line, whose entry was set after it was pushed
pub heads-set : (hs gs : List Head) (p q : Head) (s : Step) (blank e : PackedEntry) (a : PackedAnswer) (end last : ℕ)
    → gs ≡ hs ++ p ∷ [] → p ≡ line_head s blank a end → last ≡ length hs → q ≡ slice_index_or gs last q
    → slice_set gs last (record q { entry = e }) ≡ hs ++ line_head s e a end ∷ []
heads-set hs gs p q s blank e a end last pushed is at read =
    let found : slice_index_or gs last q ≡ p = rw (pushed, at) (get_or-append_seam hs p [] q) in
    let head : q ≡ line_head s blank a end = read ∙ found ∙ is in
    ap (λ (h : Head). slice_set gs last (record h { entry = e })) head ∙ rw (pushed, at) (set-append_seam hs p [] (line_head s e a end))

-- the heads, with one more
pub heads-of : (hs : List Head) (h : Head) (k : Entered) (ws vs : List ℕ) → GrowsBy ws vs → AllHeadsFit hs ws → entered_of h vs ≡ k
    → all_entered (hs ++ h ∷ []) vs ≡ all_entered hs ws ++ k ∷ []
heads-of hs h k ws vs w fits is = all_entered-push hs h vs ∙ ap (λ l. l ++ entered_of h vs ∷ []) (all_entered-grows hs ws vs w fits) ∙ ap (λ x. all_entered hs ws ++ x ∷ []) is

-- the lines, with one more, of the records after the last end
pub lines-closed : (hs : List Head) (h : Head) (k : Entered) (ws vs : List ℕ) (ps : List Packed) (rs os : List Rec) (n : ℕ)
    → all_entered (hs ++ h ∷ []) vs ≡ all_entered hs ws ++ k ∷ []
    → records_of ps vs os ≡ records_of ps ws rs
    → n ≤ length (records_of ps ws rs) → EndsRise 0 (all_entered hs ws) n → k.end ≡ length (records_of ps ws rs)
    → cut 0 (all_entered (hs ++ h ∷ []) vs) (records_of ps vs os) ≡ cut 0 (all_entered hs ws) (records_of ps ws rs) ++ (record { step = k.step; answer = k.answer; records = drop n (records_of ps ws rs) }) ∷ []
lines-closed hs h k ws vs ps rs os n heads records le rise end =
    ap (λ l. cut 0 l (records_of ps vs os)) heads ∙ ap (cut 0 (all_entered hs ws ++ k ∷ [])) records ∙ cut-close (all_entered hs ws) (records_of ps ws rs) k n le rise end

-- the lines, with one more record after the last end
pub lines-noted : (hs : List Head) (ws vs : List ℕ) (qs ps : List Packed) (rs os : List Rec) (new : List Rec) (n : ℕ)
    → GrowsBy ws vs → AllHeadsFit hs ws → records_of ps vs os ≡ records_of qs ws rs ++ new
    → n ≤ length (records_of qs ws rs) → EndsRise 0 (all_entered hs ws) n
    → cut 0 (all_entered hs vs) (records_of ps vs os) ≡ cut 0 (all_entered hs ws) (records_of qs ws rs)
lines-noted hs ws vs qs ps rs os new n w fits records le rise =
    let within : n ≤ 0 + length (records_of qs ws rs) = omega (arith, le) in
    ap (λ l. cut 0 l (records_of ps vs os)) (all_entered-grows hs ws vs w fits) ∙ ap (cut 0 (all_entered hs ws)) records ∙ cut-beyond 0 (all_entered hs ws) (records_of qs ws rs) new n within rise

-- there is room for fewer
pub HasRoom-fewer : (a : Arena) (n m : ℕ) → m ≤ n → HasRoom a n → HasRoom a m
HasRoom-fewer a n m le h = record { words = omega (arith, h.words, le); named = omega (arith, h.named, le); wide = omega (arith, h.wide, le); named_wide = omega (arith, h.named_wide, le) }

-- where there is room for records the lists have as much space
pub HasSpace-of : {Z : Type 0} (hs : Vec Head Z) (ps : Vec Packed Z) (a : Arena) (n m : ℕ) → n ≤ m → HasRoom a m → vec_len hs + n ≤ vec_capacity hs → vec_len ps + n ≤ vec_capacity ps → vec_len ps + n < 2 ^ 32 → HasSpace hs ps a n
HasSpace-of hs ps a n m le h heads packed named = record {
  heads = heads;
  packed = packed;
  words = omega (arith, h.words, le);
  wide = omega (arith, h.wide, le);
  named = named;
  named_words = omega (arith, h.named, le);
  named_wide = omega (arith, h.named_wide, le);
}

-- where there is room for records there is room for the head
pub HasRoom-head : (a : Arena) (n : ℕ) → HasRoom a n → HasMessageRoom a 2
HasRoom-head a n h = record { words = omega (arith, h.words); named = omega (arith, h.named) }

-- where the ends rise, over lists that are the same
pub EndsWithin-of : (hs ks : List Head) (ws vs : List ℕ) (ps qs : List Packed) (end : ℕ) → hs ≡ ks → ws ≡ vs → ps ≡ qs
    → EndsRise 0 (all_entered ks vs) end → end ≤ length qs → EndsWithin (all_entered hs ws) (length ps)
EndsWithin-of hs ks ws vs ps qs end h w p rise le = record { end = end; rise = rw (h, w) rise; within = rw p le }

-- the records of the open line, the newest first, with one more
pub hand-noted : (n : ℕ) (rs new : List Rec) (r : Rec) → new ≡ rs ++ r ∷ [] → n ≤ length rs → reverse (drop n new) ≡ r ∷ reverse (drop n rs)
hand-noted n rs new r is le = ap (λ l. reverse (drop n l)) is ∙ ap reverse (drop-append-le n rs (r ∷ []) le) ∙ reverse-append (drop n rs) (r ∷ [])

-- records that were noted in order
pub hand-appended : (now old new recs : List Rec) → new ≡ reverse now ++ old → old ≡ [] → now ≡ recs → reverse new ≡ recs
hand-appended now old new recs is none same = ap reverse (is ∙ ap (λ l. reverse now ++ l) none ∙ append-nil (reverse now)) ∙ reverse-reverse now ∙ same
