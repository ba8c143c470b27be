-- Messages that are taken, and callers that are answered (manual: Message Passing; donation is this
-- profile's).
use Rattle.std.specs.Prelude.{Option, Some, None, List, [], ◌∷◌}
use Rattle.mcs_types.specs.Views.{Content}
use Rattle.mcs_types.specs.declared.id.ObjId.{ObjId}
use Rattle.mcs_types.specs.declared.record.SendMode.{SendMode}
use Rattle.mcs_types.specs.declared.record.SendMode.TheVariants as how
use Rattle.mcs_types.specs.declared.record.Mode.TheVariants.{Running, Inactive}
use Rattle.mcs_types.specs.declared.record.Queue.TheVariants.{Senders, Receivers}
use Rattle.mcs_types.specs.declared.record.Rec.{Rec}
use Rattle.mcs_types.specs.declared.record.Rec.TheVariants.{Turns, Parts, Took, Owes, Paid, Holds}
use Rattle.mcs_types.specs.declared.record.Letter.{Letter}
use Rattle.mcs_book.specs.Queues.{reply_with}
use Rattle.mcs_book.specs.Contexts.{context_of}
use Rattle.mcs_book.specs.Replies.{owed_by}
use Rattle.mcs_book.specs.Chains.{topped_by}
use Rattle.mcs_book.specs.Pieces.{Piece, ◌then◌, nothing, say, with_any}

-- the debt of r to x, with the contexts that p and x hold: x's is donated to p, if p has none
abbrev pub debt : ObjId → ObjId → ObjId → Option ObjId → Option ObjId → List Rec
debt r x p None (Some s) = Owes r x (Some s) ∷ Holds s (Some p) ∷ []
debt r x p _ _ = Owes r x None ∷ []

-- r owes x an answer, which p is to give
unfoldable pub owe : ObjId → ObjId → ObjId → Piece
owe r x p R = debt r x p (context_of R p) (context_of R x)

-- the context s passes to x, if there is one and x holds none
abbrev pub back_to : ObjId → Option ObjId → Option ObjId → List Rec
back_to x (Some s) None = Holds s (Some x) ∷ []
back_to x _ _ = []

-- the context s passes to x: one whose chain was topped returns, one that is homed is found, and
-- one that is given comes along
unfoldable pub give_back : Option ObjId → ObjId → Piece
give_back s x R = back_to x s (context_of R x)

-- the context of x passes to p
unfoldable pub give : ObjId → ObjId → Piece
give x p R = give_back (context_of R x) p R

-- what becomes of the sender x when p takes its message with the reply object r; after a plain send
-- it goes on as said
abbrev pub settle : SendMode → ObjId → ObjId → Option ObjId → Piece → Piece
settle how.Plain x p r goes_on = goes_on
settle how.Call x p (Some r) goes_on = owe r x p
settle how.Call x p None goes_on = say (Turns x Inactive)
settle how.Mute x p r goes_on = say (Turns x Inactive)
settle how.Give x p r goes_on = give x p

-- a message that was just sent is taken by p, who is in its queue for it
unfoldable pub handed : Letter → ObjId → Piece
handed s p R =
    (say (Took s.number p)
    then say (Parts p (Receivers s.endpoint))
    then settle s.mode s.sender p (reply_with R p) nothing
    then say (Turns p Running)) R

-- a message of a sender who is in its queue is taken by p, who receives with r
unfoldable pub taken : Letter → ObjId → Option ObjId → Piece
taken s p r =
    say (Took s.number p)
    then say (Parts s.sender (Senders s.endpoint))
    then settle s.mode s.sender p r (say (Turns s.sender Running))

-- the caller whom r owes is answered
unfoldable pub pay : ObjId → Content → Piece
pay r message R = with_any (owed_by R r) (λ x. say (Paid r x message) then say (Turns x Running) then give_back (topped_by R r) x) R
