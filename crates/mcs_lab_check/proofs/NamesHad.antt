-- Numbers of objects, and what is said of a table of names.
use Rattle.std.proofs.Common.{◌≡◌, ℕ, ◌≤◌, ◌==◌, Bool, true, false, cond, List, [], ◌∷◌, ◌++◌, Option, Some, None, refl, sym, ap, ◌∙◌, arith}
use Rattle.mcs_types.specs.declared.id.Kind.{Kind}
use Rattle.mcs_types.specs.declared.id.Kind.TheVariants.{CNode, Thread, Endpoint, Notification, Reply, Context}
use Rattle.mcs_types.specs.declared.id.ObjId.{ObjId}
use Rattle.mcs_types.specs.Ids.{kind_number, same}
use Rattle.std.specs.Prelude.{map, option_map}
use Rattle.std.specs.Global.{Vec}
use Rattle.std.specs.Map.{lookup}
use Rattle.mcs_lab_check.specs.Naming.{Naming, name_after, name_of}
use Rattle.mcs_lab_check.specs.NamesHad.{key_of, name_in, named_now}

kind_few : (k : Kind) → kind_number k ≤ 7
kind_few CNode = omega arith
kind_few Thread = omega arith
kind_few Endpoint = omega arith
kind_few Notification = omega arith
kind_few Reply = omega arith
kind_few Context = omega arith

-- objects have one number exactly where they are the same
pub keys-same : (a b : ObjId) → (key_of a == key_of b) ≡ same a b
keys-same a b = let p = kind_few a.kind in let q = kind_few b.kind in grind (arith, p, q)

-- the name after one name more is given
after-more : (last : Option (List ℕ)) (gs : List Naming) (g : Naming) (o : ObjId) → name_after last (gs ++ g ∷ []) o ≡ cond (same g.object o) (Some g.name) (name_after last gs o)
after-more last [] g o = refl
after-more last (h ∷ gs) g o = after-more (cond (same h.object o) (Some h.name) last) gs g o

pub name-more : (gs : List Naming) (g : Naming) (o : ObjId) → name_of (gs ++ g ∷ []) o ≡ named_now g.object g.name (name_of gs o) o
name-more gs g o = after-more None gs g o

-- a table seen by its names
abbrev pub seen : List (ℕ × Vec ℕ) → List (ℕ × List ℕ)
seen es = map (λ (e : ℕ × Vec ℕ). (e.0, e.1.items)) es

-- what is found is seen so
seen-found : (test : ℕ → Bool) (es : List (ℕ × Vec ℕ)) → lookup test (seen es) ≡ option_map (λ (v : Vec ℕ). v.items) (lookup test es)
seen-found test [] = refl
seen-found test (e ∷ es) = go (test e.0) (seen-found test es)
  where
    go : (b : Bool) → lookup test (seen es) ≡ option_map (λ (v : Vec ℕ). v.items) (lookup test es)
        → cond b (Some e.1.items) (lookup test (seen es)) ≡ option_map (λ (v : Vec ℕ). v.items) (cond b (Some e.1) (lookup test es))
    go true h = refl
    go false h = h

-- the name of an object is what is found under its number
pub found-seen : (es : List (ℕ × Vec ℕ)) (o : ObjId) (key : ℕ) → key ≡ key_of o → name_in (seen es) o ≡ option_map (λ (v : Vec ℕ). v.items) (lookup (λ n. key == n) es)
found-seen es o key is = seen-found (λ n. key_of o == n) es ∙ ap (λ (k : ℕ). option_map (λ (v : Vec ℕ). v.items) (lookup (λ n. k == n) es)) (sym is)

-- an object has the name that is found under its number, or none
pub name-found : (es : List (ℕ × Vec ℕ)) (o : ObjId) (key : ℕ) (v : Vec ℕ) → key ≡ key_of o → Some v ≡ lookup (λ n. key == n) es → Some v.items ≡ name_in (seen es) o
name-found es o key v is found = ap (λ (f : Option (Vec ℕ)). option_map (λ (w : Vec ℕ). w.items) f) found ∙ sym (found-seen es o key is)

pub none-found : (es : List (ℕ × Vec ℕ)) (o : ObjId) (key : ℕ) → key ≡ key_of o → None ≡ lookup (λ n. key == n) es → None ≡ name_in (seen es) o
none-found es o key is found = ap (λ (f : Option (Vec ℕ)). option_map (λ (w : Vec ℕ). w.items) f) found ∙ sym (found-seen es o key is)

-- one name is put under the number of an object
pub put-seen : (old new : List (ℕ × Vec ℕ)) (o : ObjId) (key : ℕ) (v : Vec ℕ) → key ≡ key_of o
    → ((q : ℕ) → lookup (λ n. q == n) new ≡ cond (key == q) (Some v) (lookup (λ n. q == n) old))
    → (x : ObjId) → name_in (seen new) x ≡ named_now o v.items (name_in (seen old) x) x
put-seen old new o key v is puts x =
    found-seen new x (key_of x) refl
    ∙ ap (λ (f : Option (Vec ℕ)). option_map (λ (w : Vec ℕ). w.items) f) (puts (key_of x) ∙ ap (λ (b : Bool). cond b (Some v) (lookup (λ n. key_of x == n) old)) (ap (λ (k : ℕ). k == key_of x) is ∙ keys-same o x))
    ∙ go (same o x) (found-seen old x (key_of x) refl)
  where
    go : (b : Bool) → name_in (seen old) x ≡ option_map (λ (w : Vec ℕ). w.items) (lookup (λ n. key_of x == n) old)
        → option_map (λ (w : Vec ℕ). w.items) (cond b (Some v) (lookup (λ n. key_of x == n) old)) ≡ cond b (Some v.items) (name_in (seen old) x)
    go true h = refl
    go false h = sym h

-- a table that has the name of each object has it after one more is given
pub kept-more : (before now : List (ℕ × List ℕ)) (gs after : List Naming) (o : ObjId) (word : List ℕ) → after ≡ gs ++ record { object = o; name = word } ∷ []
    → ((x : ObjId) → name_in before x ≡ name_of gs x) → ((x : ObjId) → name_in now x ≡ named_now o word (name_in before x) x)
    → (x : ObjId) → name_in now x ≡ name_of after x
kept-more before now gs after o word more had put x =
    put x ∙ ap (λ (n : Option (List ℕ)). named_now o word n x) (had x) ∙ sym (name-more gs (record { object = o; name = word }) x) ∙ ap (λ (l : List Naming). name_of l x) (sym more)
