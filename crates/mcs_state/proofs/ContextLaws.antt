-- The contexts follow a record.
use Rattle.std.specs.Prelude.{◌≡◌, ◌≢◌, ◌&&◌, ◌||◌, not, Bool, true, false, cond, ◌∷◌, Option, Some, None, IsSome, is_some, is_none, unwrap_or, option_and_then}
use Rattle.std.specs.Option.{IfSome}
use Rattle.std.proofs.Common.{refl, ap, sym, ◌∙◌}
use Rattle.mcs_types.specs.declared.id.ObjId.{ObjId}
use Rattle.mcs_types.specs.declared.id.CoreId.{CoreId}
use Rattle.mcs_types.specs.declared.id.Kind.{Kind}
use Rattle.mcs_types.specs.declared.id.Kind.TheVariants as kind
use Rattle.mcs_types.specs.declared.record.Form.{Form}
use Rattle.mcs_types.specs.declared.record.Form.TheVariants as form
use Rattle.mcs_types.specs.declared.record.Rec.{Rec}
use Rattle.mcs_types.specs.declared.record.Rec.TheVariants as rec
use Rattle.mcs_types.specs.Ids.{same, same_kind, value_after}
use Rattle.mcs_types.proofs.Ids.{same-equal}
use Rattle.mcs_book.specs.Logs.{Log, given}
use Rattle.mcs_book.specs.Objects.{form_of, was_made, was_closed}
use Rattle.mcs_book.specs.Contexts.{holder_of, context_of, home_of}
use Rattle.mcs_book.specs.Sound.{Sound, Allowed, IsThere, IsFormOf}
use Rattle.mcs_book.proofs.Objects.MadeLaws.{alive-made}
use Rattle.mcs_book.proofs.Threads.HoldingLaws.{context_of-holder, holder-context_of}
use Rattle.mcs_book.proofs.SoundLogs.KeptLaws.{held-there, home-there}
use Rattle.mcs_objects.specs.Store.{Shape, one_more}
use Rattle.mcs_contexts.specs.Holding.{Holding, counts, core_in, holder_in, home_in, context_in, IsOneToOne}
use Rattle.mcs_state.specs.Tables.{core_kept, core_said, ContextsAgree}
use Rattle.mcs_state.specs.Following.{ContextsFollow, ContextsFollowClosed, AddsContext, ClosesContext, GivesContext, HomesContext}
use Rattle.mcs_state.proofs.CountLaws.{never-made, shape-made, shape-beside, shape-closed, shape-unclosed}
use Rattle.mcs_state.proofs.ThereLaws.{said-closed, released}
use Rattle.mcs_state.proofs.Saying.{formless, form-fits, unclosed}

-- the core that the log says of what it has made after one more was made
core-made : (R : Log) (o s : ObjId) (f : Form) → Sound R → was_made R o ≡ false → cond (same s o) (core_kept f) (core_said R s) ≡ core_said (rec.Made o f ∷ R) s
core-made R o s f sound never = go (same s o) refl
  where
    go : (b : Bool) → same s o ≡ b → cond b (core_kept f) (core_said R s) ≡ cond ((b || was_made R s) && not (was_closed R s)) (option_and_then core_kept (unwrap_or (given b (Some f)) (form_of R s))) None
    go false e = refl
    go true e = sym (ap (λ c. cond (true && not c) (core_kept f) None) (unclosed R s sound (ap (was_made R) (same-equal s o e) ∙ never)))

-- what was never made has no core
core-none : (R : Log) (s : ObjId) → was_made R s ≡ false → core_said R s ≡ None
core-none R s never = ap (λ b. cond (b && not (was_closed R s)) (option_and_then core_kept (form_of R s)) None) never

-- the form of a core is of a context alone
of-context : (k : Kind) (core : CoreId) → IsFormOf k (form.OnCore core) → same_kind k kind.Context ≡ true
of-context kind.Context core h = refl
of-context kind.CNode core h = absurd h
of-context kind.Thread core h = absurd h
of-context kind.Endpoint core h = absurd h
of-context kind.Notification core h = absurd h
of-context kind.Reply core h = absurd h

-- another form is of no context
no-context : (k : Kind) (f : Form) → IsFormOf k f → core_kept f ≡ None → same_kind k kind.Context ≡ false
no-context kind.Context (form.OnCore core) h e = absurd cc
no-context kind.Context form.Plain h e = absurd h
no-context kind.Context (form.Slots radix) h e = absurd h
no-context kind.Context (form.Runner maximum root) h e = absurd h
no-context kind.CNode f h e = refl
no-context kind.Thread f h e = refl
no-context kind.Endpoint f h e = refl
no-context kind.Notification f h e = refl
no-context kind.Reply f h e = refl

-- an object that is no context was made
beside : (R : Log) (v w : Holding) (o : ObjId) (f : Form) → Sound R → Allowed R (rec.Made o f) → w ≡ v → core_kept f ≡ None → ContextsAgree v R → ContextsAgree w (rec.Made o f ∷ R)
beside R v w o f sound ok is none a = rw is (record {
  shape = a.shape ∙ shape-beside R o f kind.Context sound ok (no-context o.kind f ok.1 none);
  cores = λ s. absent s (same s o) refl ∙ core-made R o s f sound (never-made R o f sound ok);
  holders = a.holders;
  homes = a.homes;
})
  where
    absent : (s : ObjId) (b : Bool) → same s o ≡ b → core_in v s ≡ cond b (core_kept f) (core_said R s)
    absent s false e = a.cores s
    absent s true e = a.cores s ∙ core-none R s (ap (was_made R) (same-equal s o e) ∙ never-made R o f sound ok) ∙ sym none

-- a context was made
added : (R : Log) (v w : Holding) (o : ObjId) (core : CoreId) → Sound R → Allowed R (rec.Made o (form.OnCore core)) → AddsContext o core v w → ContextsAgree v R → ContextsAgree w (rec.Made o (form.OnCore core) ∷ R)
added R v w o core sound ok h a = record {
  shape = h.counts ∙ ap one_more a.shape ∙ shape-made R o (form.OnCore core) kind.Context sound ok (of-context o.kind core ok.1);
  cores = λ s. h.cores s ∙ ap (λ c. cond (same s o) (Some core) c) (a.cores s) ∙ core-made R o s (form.OnCore core) sound (never-made R o (form.OnCore core) sound ok);
  holders = λ s. h.holders s ∙ a.holders s;
  homes = λ s. h.homes s ∙ a.homes s;
}

-- a context was closed
closed : (R : Log) (v w : Holding) (o : ObjId) → Sound R → Allowed R (rec.Closed o) → o.kind ≡ kind.Context → ClosesContext o v w → ContextsAgree v R → ContextsAgree w (rec.Closed o ∷ R)
closed R v w o sound ok is h a = record {
  shape = shape-closed R o kind.Context (counts v) (counts w) sound ok (ap (λ k. same_kind k kind.Context) is) h.counts a.shape;
  cores = λ s. h.cores s ∙ ap (λ c. value_after s o None c) (a.cores s) ∙ said-closed R o s _;
  holders = λ s. h.holders s ∙ a.holders s;
  homes = λ s. h.homes s ∙ a.homes s;
}

-- what is no context has no core
coreless : (R : Log) (v : Holding) (s : ObjId) → ContextsAgree v R → same_kind s.kind kind.Context ≡ false → core_in v s ≡ None
coreless R v s a other = rw (ap (λ (x : Shape). same_kind s.kind x.kind) a.shape ∙ other) refl

-- an object that is no context was closed
unclosed-context : (R : Log) (v w : Holding) (o : ObjId) → Sound R → Allowed R (rec.Closed o) → same_kind o.kind kind.Context ≡ false → w ≡ v → ContextsAgree v R → ContextsAgree w (rec.Closed o ∷ R)
unclosed-context R v w o sound ok other is a = rw is (record {
  shape = a.shape ∙ shape-unclosed R o kind.Context sound ok other;
  cores = λ s. absent s (same s o) refl ∙ said-closed R o s _;
  holders = a.holders;
  homes = a.homes;
})
  where
    absent : (s : ObjId) (b : Bool) → same s o ≡ b → core_in v s ≡ cond b None (core_said R s)
    absent s false e = a.cores s
    absent s true e = ap (λ x. core_in v x) (same-equal s o e) ∙ coreless R v o a other

ended : (R : Log) (v w : Holding) (o : ObjId) → Sound R → Allowed R (rec.Closed o) → ContextsFollowClosed o.kind o v w → ContextsAgree v R → ContextsAgree w (rec.Closed o ∷ R)
ended R v w o sound ok h a = go o.kind refl h
  where
    go : (k : Kind) → o.kind ≡ k → ContextsFollowClosed k o v w → ContextsAgree w (rec.Closed o ∷ R)
    go kind.Context e h = closed R v w o sound ok e h a
    go kind.CNode e h = unclosed-context R v w o sound ok (ap (λ k. same_kind k kind.Context) e) h a
    go kind.Thread e h = unclosed-context R v w o sound ok (ap (λ k. same_kind k kind.Context) e) h a
    go kind.Endpoint e h = unclosed-context R v w o sound ok (ap (λ k. same_kind k kind.Context) e) h a
    go kind.Notification e h = unclosed-context R v w o sound ok (ap (λ k. same_kind k kind.Context) e) h a
    go kind.Reply e h = unclosed-context R v w o sound ok (ap (λ k. same_kind k kind.Context) e) h a

-- a context was given or taken
given-to : (R : Log) (v w : Holding) (o : ObjId) (t : Option ObjId) → GivesContext o t v w → ContextsAgree v R → ContextsAgree w (rec.Holds o t ∷ R)
given-to R v w o t h a = record { shape = h.counts ∙ a.shape; cores = λ s. h.cores s ∙ a.cores s; holders = λ s. h.holders s ∙ go s (same s o) (a.holders s); homes = λ s. h.homes s ∙ a.homes s }
  where
    go : (s : ObjId) (b : Bool) → holder_in v s ≡ holder_of R s → cond b t (holder_in v s) ≡ unwrap_or (given b t) (holder_of R s)
    go s true h = refl
    go s false h = h

-- a context was homed, or is homed nowhere any more
homed-to : (R : Log) (v w : Holding) (o : ObjId) (n : Option ObjId) → HomesContext o n v w → ContextsAgree v R → ContextsAgree w (rec.Homed o n ∷ R)
homed-to R v w o n h a = record { shape = h.counts ∙ a.shape; cores = λ s. h.cores s ∙ a.cores s; holders = λ s. h.holders s ∙ a.holders s; homes = λ s. h.homes s ∙ go s (same s o) (a.homes s) }
  where
    go : (s : ObjId) (b : Bool) → home_in v s ≡ home_of R s → cond b n (home_in v s) ≡ unwrap_or (given b n) (home_of R s)
    go s true h = refl
    go s false h = h

-- after any record
pub contexts-follow : (r : Rec) (R : Log) (v w : Holding) → Sound R → Allowed R r → ContextsFollow r v w → ContextsAgree v R → ContextsAgree w (r ∷ R)
contexts-follow (rec.Made o (form.OnCore core)) R v w sound ok h a = added R v w o core sound ok h a
contexts-follow (rec.Made o form.Plain) R v w sound ok h a = beside R v w o form.Plain sound ok h refl a
contexts-follow (rec.Made o (form.Slots radix)) R v w sound ok h a = beside R v w o (form.Slots radix) sound ok h refl a
contexts-follow (rec.Made o (form.Runner maximum root)) R v w sound ok h a = beside R v w o (form.Runner maximum root) sound ok h refl a
contexts-follow (rec.Closed o) R v w sound ok h a = ended R v w o sound ok h a
contexts-follow (rec.Holds s t) R v w sound ok h a = given-to R v w s t h a
contexts-follow (rec.Homed s n) R v w sound ok h a = homed-to R v w s n h a
contexts-follow _ R v w sound ok h a = rw h (record { shape = a.shape; cores = a.cores; holders = a.holders; homes = a.homes })

-- a context that is there is in the table
core-form : (k : Kind) (f : Form) → k ≡ kind.Context → IsFormOf k f → IsSome (core_kept f)
core-form kind.Context (form.OnCore core) e h = refl
core-form kind.Context form.Plain e h = absurd h
core-form kind.Context (form.Slots radix) e h = absurd h
core-form kind.Context (form.Runner maximum root) e h = absurd h
core-form kind.CNode f e h = absurd cc
core-form kind.Thread f e h = absurd cc
core-form kind.Endpoint f e h = absurd cc
core-form kind.Notification f e h = absurd cc
core-form kind.Reply f e h = absurd cc

pub core-there : (R : Log) (s : ObjId) → Sound R → IsThere R kind.Context s → IsSome (core_said R s)
core-there R s sound there = rw there.1 (go (form_of R s) refl)
  where
    go : (o : Option Form) → form_of R s ≡ o → IsSome (option_and_then core_kept o)
    go None e = let no : true ≡ false = sym (alive-made R s there.1) ∙ formless R s e in absurd cc
    go (Some f) e = core-form s.kind f there.0 (form-fits R s f sound e)

-- what is given or taken is in the table, and who gets it holds none
pub given-made : (R : Log) (v : Holding) (s : ObjId) (t : Option ObjId) → Sound R → ContextsAgree v R → Allowed R (rec.Holds s t) → IsSome (core_in v s)
given-made R v s (Some t) sound a ok = rw (a.cores s) (core-there R s sound ok.0)
given-made R v s None sound a ok = rw (a.cores s) (go (holder_of R s) refl ok)
  where
    go : (o : Option ObjId) → holder_of R s ≡ o → IsSome o → IsSome (core_said R s)
    go None e h = absurd cc
    go (Some t) e h = core-there R s sound (held-there R s t sound e).0

-- a thread that is no holder has no context
idle-none : (v : Holding) (t : ObjId) → IsOneToOne v → ((x : ObjId) → holder_in v x ≢ Some t) → context_in v t ≡ None
idle-none v t one idle = go (context_in v t) refl
  where
    go : (o : Option ObjId) → context_in v t ≡ o → o ≡ None
    go None e = refl
    go (Some s) e = absurd (idle s (one.held_by_holder s t e))

pub given-idle : (R : Log) (v : Holding) (s : ObjId) (t : Option ObjId) → IsOneToOne v → ContextsAgree v R → Allowed R (rec.Holds s t) → IfSome t (λ u. context_in v u ≡ None)
given-idle R v s None one a ok = tt
given-idle R v s (Some t) one a ok = idle-none v t one (λ x h. ok.2 x (sym (a.holders x) ∙ h))

-- the context that the table has of a thread is the one that it holds, and it is there
pub context-is : (R : Log) (v : Holding) (t : ObjId) → Sound R → IsOneToOne v → ContextsAgree v R → context_in v t ≡ context_of R t
context-is R v t sound one a = go (context_in v t) refl
  where
    go : (o : Option ObjId) → context_in v t ≡ o → o ≡ context_of R t
    go (Some s) e = sym (holder-context_of R t s sound (sym (a.holders s) ∙ one.held_by_holder s t e))
    go None e = none (context_of R t) refl
      where
        none : (p : Option ObjId) → context_of R t ≡ p → None ≡ p
        none None f = refl
        none (Some s) f = let it = one.holder_holds s t (a.holders s ∙ context_of-holder R t s f) in absurd cc

pub context-there : (R : Log) (t : ObjId) → Sound R → IfSome (context_of R t) (λ s. IsThere R kind.Context s)
context-there R t sound = go (context_of R t) refl
  where
    go : (o : Option ObjId) → context_of R t ≡ o → IfSome o (λ s. IsThere R kind.Context s)
    go None e = tt
    go (Some s) e = (held-there R s t sound (context_of-holder R t s e)).0

-- a context that may be closed is in the table, and no thread holds it
pub closing-context : (R : Log) (v : Holding) (s : ObjId) → Sound R → s.kind ≡ kind.Context → Allowed R (rec.Closed s) → ContextsAgree v R → IsSome (core_in v s)
closing-context R v s sound is ok a = rw (a.cores s) (core-there R s sound (is, ok.0))

pub closing-unheld : (R : Log) (v : Holding) (s : ObjId) → s.kind ≡ kind.Context → Allowed R (rec.Closed s) → ContextsAgree v R → holder_in v s ≡ None
closing-unheld R v s is ok a = a.holders s ∙ (released R s kind.Context is ok).0

pub closing-homeless : (R : Log) (v : Holding) (s : ObjId) → s.kind ≡ kind.Context → Allowed R (rec.Closed s) → ContextsAgree v R → home_in v s ≡ None
closing-homeless R v s is ok a = a.homes s ∙ (released R s kind.Context is ok).1

-- what is homed, or was, is in the table
pub homed-made : (R : Log) (v : Holding) (s : ObjId) (n : Option ObjId) → Sound R → ContextsAgree v R → Allowed R (rec.Homed s n) → IsSome (core_in v s)
homed-made R v s (Some n) sound a ok = rw (a.cores s) (core-there R s sound ok.0)
homed-made R v s None sound a ok = rw (a.cores s) (go (home_of R s) refl ok)
  where
    go : (o : Option ObjId) → home_of R s ≡ o → IsSome o → IsSome (core_said R s)
    go None e h = absurd cc
    go (Some n) e h = core-there R s sound (home-there R s n sound e).0

-- who is homed anew was homed nowhere, and who loses a home had one
pub homed-changes : (R : Log) (v : Holding) (s : ObjId) (n : Option ObjId) → ContextsAgree v R → Allowed R (rec.Homed s n) → is_some (home_in v s) ≡ is_none n
homed-changes R v s (Some n) a ok = rw (a.homes s, ok.2) refl
homed-changes R v s None a ok = rw (a.homes s) ok
