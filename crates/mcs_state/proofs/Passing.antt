-- Contexts that pass to threads, and that go home: what is recorded.
use Rattle.std.specs.Prelude.{◌≡◌, Bool, true, false, cond, ◌&&◌, [], ◌∷◌, Option, Some, None}
use Rattle.std.proofs.Common.{refl}
use Rattle.mcs_types.specs.declared.id.ObjId.{ObjId}
use Rattle.mcs_types.specs.declared.record.Rec.TheVariants as rec
use Rattle.mcs_types.specs.Ids.{is_just}
use Rattle.mcs_book.specs.Logs.{Log}
use Rattle.mcs_book.specs.Contexts.{context_of, home_of}
use Rattle.mcs_book.specs.Chains.{is_unlent}
use Rattle.mcs_book.specs.Receiving.{if_at_home, go_home}
use Rattle.mcs_book.specs.Taking.{give_back}

-- there is none to give back
pub back-none : (R : Log) (x : ObjId) → give_back None x R ≡ []
unfolding give_back
back-none R x = refl

-- the thread holds one
pub back-held : (R : Log) (s x c : ObjId) → context_of R x ≡ Some c → give_back (Some s) x R ≡ []
unfolding give_back
back-held R s x c holds = rw holds refl

-- it returns
pub back-gives : (R : Log) (s x : ObjId) → context_of R x ≡ None → give_back (Some s) x R ≡ rec.Holds s (Some x) ∷ []
unfolding give_back
back-gives R s x none = rw none refl

-- no context goes home
pub home-stays : (R : Log) (t : ObjId) (n : Option ObjId) → if_at_home R n (context_of R t) ≡ None → go_home t n R ≡ []
unfolding go_home
home-stays R t n none = rw none refl

-- this one does
pub home-gone : (R : Log) (t s : ObjId) (n : Option ObjId) → if_at_home R n (context_of R t) ≡ Some s → go_home t n R ≡ rec.Holds s None ∷ []
unfolding go_home
home-gone R t s n is = rw is refl

-- the context that goes home is the one that is held
pub home-own : (R : Log) (n o : Option ObjId) (s : ObjId) → if_at_home R n o ≡ Some s → o ≡ Some s
home-own R None o s h = absurd cc
home-own R (Some n) None s h = absurd cc
home-own R (Some n) (Some c) s h = go (is_just (home_of R c) n && is_unlent R c) h
  where
    go : (b : Bool) → cond b (Some c) None ≡ Some s → Some c ≡ Some s
    go true k = k
    go false k = absurd cc
