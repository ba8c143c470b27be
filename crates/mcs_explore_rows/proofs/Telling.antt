-- The numbers of a value distinguish it from all others, whatever numbers follow them.
use Rattle.std.specs.Prelude.{ℕ, zero, suc, ◌≡◌, ◌<◌, ◌⊎◌, nat_lt, Bool, true, false, List, [], ◌∷◌, ◌++◌, Some, None}
use Rattle.std.proofs.Common.{refl, ap, sym, ◌∙◌, arith, inl, inr}
use Rattle.std.proofs.lemmas.Bool.{eq-eqb}
use Rattle.std.proofs.lemmas.Grind.{common_steps}
use Rattle.std.proofs.lemmas.List.{append_assoc}
use Rattle.mcs_types.specs.declared.id.Kind.{Kind}
use Rattle.mcs_types.specs.declared.record.Mode.{Mode}
use Rattle.mcs_types.specs.declared.record.Mode.TheVariants as mode
use Rattle.mcs_types.specs.declared.record.Queue.TheVariants.{Senders, Receivers, Waiters}
use Rattle.mcs_types.specs.declared.record.SendMode.{SendMode}
use Rattle.mcs_types.specs.declared.record.SendMode.TheVariants as send_mode
use Rattle.mcs_types.specs.Ids.{kind_number}
use Rattle.mcs_types.proofs.Ids.{same_kind-equal}
use Rattle.mcs_threads.specs.declared.row.Block.TheVariants.{Queued, OnReply}
use Rattle.mcs_threads.specs.declared.row.ThreadRow.{ThreadRow}
use Rattle.mcs_explore_rows.specs.Numbers.{one, flag_number, option_numbers, each_numbers, list_numbers, below, id_numbers, cap_numbers, mode_number, send_number, queue_numbers, block_numbers, row_numbers, letter_numbers}

-- what follows equal elements is equal, and so are they
pub parted : {E : Type 0} (m n : E) (x y : List E) → m ∷ x ≡ n ∷ y → (m ≡ n) × (x ≡ y)
parted m n x y h = (cc, cc)

module _ {A E : Type 0} where
  abbrev pub Tells : (A → List E) → Type 0
  Tells f = (a b : A) (x y : List E) → f a ++ x ≡ f b ++ y → (a ≡ b) × (x ≡ y)

pub one-decoded : Tells one
one-decoded a b x y h = parted a b x y h

pub row-decoded : {E : Type 0} → Tells (λ (r : List E). r ∷ [])
row-decoded a b x y h = parted a b x y h

pub flag-decoded : (a b : Bool) → flag_number a ≡ flag_number b → a ≡ b
flag-decoded false false h = refl
flag-decoded true true h = refl
flag-decoded false true h = absurd cc
flag-decoded true false h = absurd cc

pub option-decoded : {A : Type 0} (f : A → List ℕ) → Tells f → Tells (option_numbers f)
option-decoded f t None None x y h = (refl, (parted 0 0 x y h).1)
option-decoded f t None (Some b) x y h = absurd cc
option-decoded f t (Some a) None x y h = absurd cc
option-decoded f t (Some a) (Some b) x y h = let p = t a b x y (parted 1 1 _ _ h).1 in (ap (λ z. Some z) p.0, p.1)

-- a list begins with its first one
list-first : {A : Type 0} (f : A → List ℕ) (a : A) (us : List A) (x : List ℕ) → list_numbers f (a ∷ us) ++ x ≡ 1 ∷ (f a ++ (list_numbers f us ++ x))
list-first f a us x = ap (λ l. 1 ∷ (l ++ x)) (append_assoc (f a) (each_numbers f us) (0 ∷ [])) ∙ ap (λ l. 1 ∷ l) (append_assoc (f a) (list_numbers f us) x)

pub list-decoded : {A : Type 0} (f : A → List ℕ) → Tells f → Tells (list_numbers f)
list-decoded f t [] [] x y h = (refl, (parted 0 0 x y h).1)
list-decoded f t [] (b ∷ vs) x y h = let no = parted 0 1 _ _ (h ∙ list-first f b vs y) in absurd cc
list-decoded f t (a ∷ us) [] x y h = let no = parted 1 0 _ _ (sym (list-first f a us x) ∙ h) in absurd cc
list-decoded f t (a ∷ us) (b ∷ vs) x y h =
    let p = t a b _ _ (parted 1 1 _ _ (sym (list-first f a us x) ∙ h ∙ list-first f b vs y)).1 in
    let q = list-decoded f t us vs x y p.1 in
    (ap (λ z. z ∷ us) p.0 ∙ ap (λ l. b ∷ l) q.0, q.1)

-- the rows of the numbers below n determine each of them
pub below-decoded : {A E : Type 0} (f : A → List E) → Tells f → (a b : ℕ → A) (n : ℕ) (x y : List E) → below (λ i. f (a i)) n ++ x ≡ below (λ i. f (b i)) n ++ y → ((i : ℕ) → i < n → a i ≡ b i) × (x ≡ y)
below-decoded f t a b zero x y h = (λ i k. absurd (omega (arith, k)), h)
below-decoded f t a b (suc n) x y h =
    let p = below-decoded f t a b n (f (a n) ++ x) (f (b n) ++ y) (sym (append_assoc (below (λ i. f (a i)) n) (f (a n)) x) ∙ h ∙ append_assoc (below (λ i. f (b i)) n) (f (b n)) y) in
    let q = t (a n) (b n) x y p.1 in
    (λ i k. go i (split i k) p.0 q.0, q.1)
  where
    split : (i : ℕ) → i < suc n → (i < n) ⊎ (i ≡ n)
    split i k = by (nat_lt i n) refl
      where
        by : (c : Bool) → nat_lt i n ≡ c → (i < n) ⊎ (i ≡ n)
        by true e = inl (grind (arith, common_steps, e))
        by false e = inr (grind (arith, common_steps, e, k))

    go : (i : ℕ) → (i < n) ⊎ (i ≡ n) → ((j : ℕ) → j < n → a j ≡ b j) → a n ≡ b n → a i ≡ b i
    go i (inl k) before last = before i k
    go i (inr e) before last = ap a e ∙ last ∙ ap b (sym e)

pub kind-decoded : (k l : Kind) → kind_number k ≡ kind_number l → k ≡ l
kind-decoded k l h = same_kind-equal k l (eq-eqb (kind_number k) (kind_number l) h)

pub id-decoded : Tells id_numbers
id-decoded a b x y h =
    let p = parted _ _ _ _ h in
    let q = parted _ _ _ _ p.1 in
    (ap (λ k. record { kind = k; serial = a.serial }) (kind-decoded a.kind b.kind p.0) ∙ ap (λ n. record { kind = b.kind; serial = n }) q.0, q.1)

pub cap-decoded : Tells cap_numbers
cap-decoded a b x y h =
    let kinds = parted _ _ _ _ h in
    let serials = parted _ _ _ _ kinds.1 in
    let rights = parted _ _ _ _ serials.1 in
    let badges = parted _ _ _ _ rights.1 in
    let bits = parted _ _ _ _ badges.1 in
    let values = parted _ _ _ _ bits.1 in
    (rw (kind-decoded a.obj.kind b.obj.kind kinds.0, serials.0, rights.0, badges.0, bits.0, values.0) refl, values.1)

pub mode-decoded : (m n : Mode) → mode_number m ≡ mode_number n → m ≡ n
mode-decoded mode.Running mode.Running h = refl
mode-decoded mode.Running mode.Restart h = absurd cc
mode-decoded mode.Running mode.Inactive h = absurd cc
mode-decoded mode.Restart mode.Running h = absurd cc
mode-decoded mode.Restart mode.Restart h = refl
mode-decoded mode.Restart mode.Inactive h = absurd cc
mode-decoded mode.Inactive mode.Running h = absurd cc
mode-decoded mode.Inactive mode.Restart h = absurd cc
mode-decoded mode.Inactive mode.Inactive h = refl

pub send-decoded : (m n : SendMode) → send_number m ≡ send_number n → m ≡ n
send-decoded send_mode.Plain send_mode.Plain h = refl
send-decoded send_mode.Plain send_mode.Call h = absurd cc
send-decoded send_mode.Plain send_mode.Mute h = absurd cc
send-decoded send_mode.Plain send_mode.Give h = absurd cc
send-decoded send_mode.Call send_mode.Plain h = absurd cc
send-decoded send_mode.Call send_mode.Call h = refl
send-decoded send_mode.Call send_mode.Mute h = absurd cc
send-decoded send_mode.Call send_mode.Give h = absurd cc
send-decoded send_mode.Mute send_mode.Plain h = absurd cc
send-decoded send_mode.Mute send_mode.Call h = absurd cc
send-decoded send_mode.Mute send_mode.Mute h = refl
send-decoded send_mode.Mute send_mode.Give h = absurd cc
send-decoded send_mode.Give send_mode.Plain h = absurd cc
send-decoded send_mode.Give send_mode.Call h = absurd cc
send-decoded send_mode.Give send_mode.Mute h = absurd cc
send-decoded send_mode.Give send_mode.Give h = refl

pub queue-decoded : Tells queue_numbers
queue-decoded (Senders a) (Senders b) x y h = let p = id-decoded a b x y (parted 0 0 _ _ h).1 in (ap (λ o. Senders o) p.0, p.1)
queue-decoded (Receivers a) (Receivers b) x y h = let p = id-decoded a b x y (parted 1 1 _ _ h).1 in (ap (λ o. Receivers o) p.0, p.1)
queue-decoded (Waiters a) (Waiters b) x y h = let p = id-decoded a b x y (parted 2 2 _ _ h).1 in (ap (λ o. Waiters o) p.0, p.1)
queue-decoded (Senders a) (Receivers b) x y h = absurd cc
queue-decoded (Senders a) (Waiters b) x y h = absurd cc
queue-decoded (Receivers a) (Senders b) x y h = absurd cc
queue-decoded (Receivers a) (Waiters b) x y h = absurd cc
queue-decoded (Waiters a) (Senders b) x y h = absurd cc
queue-decoded (Waiters a) (Receivers b) x y h = absurd cc

pub block-decoded : Tells block_numbers
block-decoded (Queued q r) (Queued k s) x y h =
    let p = queue-decoded q k _ _ (sym (append_assoc (queue_numbers q) (option_numbers id_numbers r) x) ∙ (parted 0 0 _ _ h).1 ∙ append_assoc (queue_numbers k) (option_numbers id_numbers s) y) in
    let w = option-decoded id_numbers id-decoded r s x y p.1 in
    (ap (λ z. Queued z r) p.0 ∙ ap (λ z. Queued k z) w.0, w.1)
block-decoded (OnReply a) (OnReply b) x y h = let p = id-decoded a b x y (parted 1 1 _ _ h).1 in (ap (λ o. OnReply o) p.0, p.1)
block-decoded (Queued q r) (OnReply b) x y h = absurd cc
block-decoded (OnReply a) (Queued k s) x y h = absurd cc

pub thread-decoded : Tells row_numbers
thread-decoded a b x y h =
    let maxima = parted _ _ _ _ h in
    let prios = parted _ _ _ _ maxima.1 in
    let modes = parted _ _ _ _ prios.1 in
    let roots = cap-decoded a.root b.root _ _ modes.1 in
    let blocks = option-decoded block_numbers block-decoded a.block b.block _ _ (sym (apart a x) ∙ roots.1 ∙ apart b y) in
    let notes = option-decoded id_numbers id-decoded a.notification b.notification x y blocks.1 in
    (rw (maxima.0, prios.0, mode-decoded a.mode b.mode modes.0, roots.0, blocks.0, notes.0) refl, notes.1)
  where
    apart : (r : ThreadRow) (z : List ℕ) → (option_numbers block_numbers r.block ++ option_numbers id_numbers r.notification) ++ z ≡ option_numbers block_numbers r.block ++ (option_numbers id_numbers r.notification ++ z)
    apart r z = append_assoc (option_numbers block_numbers r.block) (option_numbers id_numbers r.notification) z

pub letter-decoded : Tells (letter_numbers true)
letter-decoded a b x y h =
    let numbers = parted _ _ _ _ h in
    let modes = parted _ _ _ _ numbers.1 in
    let badges = parted _ _ _ _ modes.1 in
    let labels = parted _ _ _ _ badges.1 in
    let senders = id-decoded a.sender b.sender _ _ labels.1 in
    let endpoints = id-decoded a.endpoint b.endpoint _ _ senders.1 in
    let words = list-decoded one one-decoded a.message.words b.message.words x y endpoints.1 in
    (rw (numbers.0, send-decoded a.mode b.mode modes.0, badges.0, labels.0, senders.0, endpoints.0, words.0) refl, words.1)
