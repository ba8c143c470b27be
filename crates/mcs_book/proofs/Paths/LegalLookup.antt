-- In every legal book each CNode on the way has an index of some bits, so lookup is the path.
use Rattle.std.specs.Prelude.{◌≤◌, Bool, true, false, cond, ◌||◌, ◌≡◌, Option, Some, None, List, [], ◌∷◌, refl, unwrap_or, option_and_then}
use Rattle.std.proofs.Common.{sym, ◌∙◌, ap}
use Rattle.mcs_types.specs.declared.id.ObjId.{ObjId}
use Rattle.mcs_types.specs.declared.id.Kind.TheVariants as kind
use Rattle.mcs_types.specs.declared.cap.Cap.{Cap}
use Rattle.mcs_types.specs.declared.record.Rec.TheVariants as rec
use Rattle.mcs_types.specs.Ids.{same, same_kind}
use Rattle.mcs_book.specs.Logs.{Log, given}
use Rattle.mcs_book.specs.Objects.{was_made, form_of}
use Rattle.mcs_book.specs.Slots.{slot}
use Rattle.mcs_book.specs.Threads.{root_kept, root_of}
use Rattle.mcs_book.specs.Lookup.{space_of, Reached, cnode_cap, radix_kept}
use Rattle.mcs_book.specs.Paths.{IsComplete}
use Rattle.mcs_book.specs.Boots.{boot_log}
use Rattle.mcs_book.specs.History.{Book, log_of, IsLegal}
use Rattle.mcs_book.specs.Each.{Each}
use Rattle.mcs_types.proofs.Ids.{same-equal, same_kind-equal}
use Rattle.mcs_book.proofs.Queues.NoneBeside.{made-more}
use Rattle.mcs_book.proofs.SoundLogs.Safety.{Safe, safe-held}
use Rattle.mcs_book.proofs.Queues.Standings.{safe-boot, safe-past}
use Rattle.mcs_book.proofs.Paths.PathSteps.{Path}
use Rattle.mcs_book.proofs.Paths.PathRefusals.{complete-one}
use Rattle.mcs_book.proofs.Paths.LookupLaws.{RootHasBits}

-- a CNode that was made has an index of some bits
safe-cnode : (R : Log) (o : ObjId) → Each Safe R → o.kind ≡ kind.CNode → was_made R o ≡ true → 1 ≤ radix_kept (form_of R o)
safe-cnode [] o h k made = absurd cc
safe-cnode (rec.Made m form ∷ R) o h k made = go (same o m) refl made (safe-cnode R o h.1 k)
  where
    go : (b : Bool) → same o m ≡ b → (b || was_made R o) ≡ true → (was_made R o ≡ true → 1 ≤ radix_kept (form_of R o)) → 1 ≤ radix_kept (unwrap_or (given b (Some form)) (form_of R o))
    go true e there later = h.0.0 (ap (λ (z : ObjId). z.kind) (sym (same-equal o m e)) ∙ k)
    go false e there later = later there
safe-cnode (_ ∷ R) o h k made = safe-cnode R o h.1 k made

-- a root is a CNode that was made
safe-root : (R : Log) (t : ObjId) (root : Cap) → Each Safe R → root_of R t ≡ Some root → (root.obj.kind ≡ kind.CNode) × (was_made R root.obj ≡ true)
safe-root [] t root h is = absurd cc
safe-root (rec.Made m form ∷ R) t root h is = go (same t m) is (safe-root R t root h.1)
  where
    go : (b : Bool) → option_and_then root_kept (unwrap_or (given b (Some form)) (form_of R t)) ≡ Some root → (root_of R t ≡ Some root → (root.obj.kind ≡ kind.CNode) × (was_made R root.obj ≡ true))
        → (root.obj.kind ≡ kind.CNode) × ((same root.obj m || was_made R root.obj) ≡ true)
    go true e later = let p : (root.obj.kind ≡ kind.CNode) × (was_made R root.obj ≡ true) = h.0.1 root e in (p.0, made-more (same root.obj m) _ p.1)
    go false e later = let p : (root.obj.kind ≡ kind.CNode) × (was_made R root.obj ≡ true) = later e in (p.0, made-more (same root.obj m) _ p.1)
safe-root (_ ∷ R) t root h is = safe-root R t root h.1 is

-- a capability to a CNode that a slot holds
cnode-held : (o : Option Cap) (next : Cap) → cnode_cap o ≡ Some next → (o ≡ Some next) × (next.obj.kind ≡ kind.CNode)
cnode-held None next h = absurd cc
cnode-held (Some k) next h = go (same_kind k.obj.kind kind.CNode) refl h
  where
    go : (b : Bool) → same_kind k.obj.kind kind.CNode ≡ b → cond b (Some k) None ≡ Some next → (Some k ≡ Some next) × (next.obj.kind ≡ kind.CNode)
    go true e is = let it : k ≡ next = cc in (is, ap (λ (z : Cap). z.obj.kind) (sym it) ∙ same_kind-equal k.obj.kind kind.CNode e)
    go false e is = absurd cc

-- so each CNode on the way from a root has an index of some bits
safe-bits : (R : Log) (t : ObjId) → Each Safe R → RootHasBits R t
safe-bits R t h root is =
    let p : (root.obj.kind ≡ kind.CNode) × (was_made R root.obj ≡ true) = safe-root R t root h is in
    record {
      here = safe-cnode R root.obj h p.0 p.1;
      within = λ c i next e. let (held, k) = cnode-held (slot R c i) next e in safe-cnode R next.obj h k (safe-held R c i next h held);
    }

-- so in every legal book
pub legal-bits : (b : Book) (t : ObjId) → IsLegal b → RootHasBits (log_of b) t
legal-bits b t legal = safe-bits (log_of b) t (safe-past (boot_log b.boot.lines) b.lines legal.lines (safe-boot b.boot.cores b.boot.lines legal.boot.lines))

-- the law: at most one complete path from a thread's root spells the bits
pub legal-one_path : (b : Book) (t : ObjId) (root : Cap) (bits : List Bool) (p q : Path) (at to : Reached) → IsLegal b → root_of (log_of b) t ≡ Some root
    → IsComplete (space_of (log_of b)) root bits p at → IsComplete (space_of (log_of b)) root bits q to → (p ≡ q) × (at ≡ to)
legal-one_path b t root bits p q at to legal is = complete-one (space_of (log_of b)) p q root bits at to (legal-bits b t legal root is)
