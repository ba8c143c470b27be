-- How long queues of threads are: no longer than the list of threads, also two lines together.
use Rattle.std.specs.Prelude.{ℕ, suc, ◌+◌, ◌≤◌, Bool, true, false, cond, ◌≡◌, List, [], ◌∷◌, ◌++◌, Option, Some, None, refl, length, filter}
use Rattle.std.proofs.Common.{sym, ◌∙◌, arith}
use Rattle.std.proofs.lemmas.List.{length-append}
use Rattle.mcs_types.specs.declared.id.ObjId.{ObjId}
use Rattle.mcs_types.specs.declared.record.Queue.{Queue}
use Rattle.mcs_types.specs.declared.record.Queue.TheVariants.{Senders, Receivers, Waiters}
use Rattle.mcs_book.specs.Logs.{Log}
use Rattle.mcs_book.specs.Threads.{threads}
use Rattle.mcs_book.specs.Queues.{queue_of, is_queue, stands_in, is_ahead, insert_by, sort_by, queued_in}
use Rattle.mcs_book.specs.Placing.{senders_with, has_badge}
use Rattle.mcs_book.specs.Messages.{open_of}

-- some of a list
pub filter-short : (p : ObjId → Bool) (xs : List ObjId) → length (filter p xs) ≤ length xs
filter-short p [] = omega arith
filter-short p (x ∷ xs) = go (p x) (filter-short p xs)
  where
    go : (b : Bool) → length (filter p xs) ≤ length xs → length (cond b (x ∷ filter p xs) (filter p xs)) ≤ suc (length xs)
    go true le = omega (arith, le)
    go false le = omega (arith, le)

-- some of a list, and others of it
pub filters-short : (p q : ObjId → Bool) → ((x : ObjId) → p x ≡ true → q x ≡ false) → (xs : List ObjId) → length (filter p xs) + length (filter q xs) ≤ length xs
filters-short p q apart [] = omega arith
filters-short p q apart (x ∷ xs) = go (p x) refl (q x) refl (filters-short p q apart xs)
  where
    go : (b : Bool) → p x ≡ b → (c : Bool) → q x ≡ c → length (filter p xs) + length (filter q xs) ≤ length xs
        → length (cond b (x ∷ filter p xs) (filter p xs)) + length (cond c (x ∷ filter q xs) (filter q xs)) ≤ suc (length xs)
    go true e true f le = let no : true ≡ false = sym f ∙ apart x e in absurd cc
    go true e false f le = omega (arith, le)
    go false e true f le = omega (arith, le)
    go false e false f le = omega (arith, le)

-- a list with one more, in its place
length-insert : (ahead : ObjId → ObjId → Bool) (t : ObjId) (us : List ObjId) → length (insert_by ahead t us) ≡ length us + 1
length-insert ahead t [] = refl
length-insert ahead t (u ∷ us) = go (ahead t u) (length-insert ahead t us)
  where
    go : (b : Bool) → length (insert_by ahead t us) ≡ length us + 1 → length (cond b (t ∷ u ∷ us) (u ∷ insert_by ahead t us)) ≡ suc (length us) + 1
    go true e = omega arith
    go false e = omega (arith, e)

-- a list in order
length-sort : (ahead : ObjId → ObjId → Bool) (ts : List ObjId) → length (sort_by ahead ts) ≡ length ts
length-sort ahead [] = refl
length-sort ahead (t ∷ ts) = let e : length (sort_by ahead ts) ≡ length ts = length-sort ahead ts in let f : length (insert_by ahead t (sort_by ahead ts)) ≡ length (sort_by ahead ts) + 1 = length-insert ahead t (sort_by ahead ts) in omega (arith, e, f)

-- a line has no more threads than there are
pub line-short : (R : Log) (q : Queue) → length (queued_in R q) ≤ length (threads R)
line-short R q =
    let e : length (queued_in R q) ≡ length (filter (stands_in R q) (threads R)) = length-sort (is_ahead R) (filter (stands_in R q) (threads R)) in
    let le : length (filter (stands_in R q) (threads R)) ≤ length (threads R) = filter-short (stands_in R q) (threads R) in
    omega (arith, e, le)

-- no thread is in two queues
apart : (o : Option Queue) (e : ObjId) → is_queue o (Senders e) ≡ true → is_queue o (Receivers e) ≡ false
apart None e h = refl
apart (Some (Senders a)) e h = refl
apart (Some (Receivers a)) e h = absurd cc
apart (Some (Waiters a)) e h = refl

-- nor have both lines of an endpoint together
pub lines-short : (R : Log) (e : ObjId) → length (queued_in R (Senders e) ++ queued_in R (Receivers e)) ≤ length (threads R)
lines-short R e =
    let both : length (queued_in R (Senders e) ++ queued_in R (Receivers e)) ≡ length (queued_in R (Senders e)) + length (queued_in R (Receivers e)) = length-append (queued_in R (Senders e)) (queued_in R (Receivers e)) in
    let f : length (queued_in R (Senders e)) ≡ length (filter (stands_in R (Senders e)) (threads R)) = length-sort (is_ahead R) (filter (stands_in R (Senders e)) (threads R)) in
    let g : length (queued_in R (Receivers e)) ≡ length (filter (stands_in R (Receivers e)) (threads R)) = length-sort (is_ahead R) (filter (stands_in R (Receivers e)) (threads R)) in
    let le : length (filter (stands_in R (Senders e)) (threads R)) + length (filter (stands_in R (Receivers e)) (threads R)) ≤ length (threads R) = filters-short (stands_in R (Senders e)) (stands_in R (Receivers e)) (λ x. apart (queue_of R x) e) (threads R) in
    omega (arith, both, f, g, le)

-- nor have the senders of one badge
pub badged-short : (R : Log) (e : ObjId) (badge : ℕ) → length (senders_with R e badge) ≤ length (threads R)
badged-short R e badge =
    let some : length (senders_with R e badge) ≤ length (queued_in R (Senders e)) = filter-short (λ x. has_badge badge (open_of R x)) (queued_in R (Senders e)) in
    let le : length (queued_in R (Senders e)) ≤ length (threads R) = line-short R (Senders e) in
    omega (arith, some, le)
