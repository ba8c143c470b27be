-- What holds where a thread sends or receives.
use Rattle.std.specs.Prelude.{Option}
use Rattle.std.specs.Option.{IfSome}
use Rattle.mcs_types.specs.declared.id.ObjId.{ObjId}
use Rattle.mcs_types.specs.declared.id.Kind.TheVariants as kind
use Rattle.mcs_book.specs.Logs.{Log}
use Rattle.mcs_book.specs.Sound.{IsThere, IsIdle, IsFreeReply}
use Rattle.mcs_notify.specs.Waiting.{NoneElseBound}
use Rattle.mcs_state.specs.Entering.{IsActing, OpenStand}
use Rattle.mcs_ipc.specs.declared.checks.Source.{Source}
use Rattle.mcs_ipc.specs.declared.checks.Source.TheVariants as source
use Rattle.mcs_ipc.specs.declared.checks.Target.{Target}
use Rattle.mcs_ipc.specs.declared.checks.Target.TheVariants as target

-- t acts, and the endpoint is there
pub record IsSending (R : Log) (t e : ObjId) : Type 0 where
  pub acting : IsActing R t
  pub stand : OpenStand R
  pub endpoint : IsThere R kind.Endpoint e

-- t acts, the endpoint is there, and so is the reply object, if there is one
pub record IsReceiving (R : Log) (t e : ObjId) (r : Option ObjId) : Type 0 where
  pub acting : IsActing R t
  pub stand : OpenStand R
  pub endpoint : IsThere R kind.Endpoint e
  pub reply : IfSome r (λ o. IsThere R kind.Reply o)

-- t acts, the notification is there, and no other thread is bound to it
pub record IsWaiting (R : Log) (t n : ObjId) : Type 0 where
  pub acting : IsActing R t
  pub there : IsThere R kind.Notification n
  pub alone : NoneElseBound R n t

-- t may receive from a source
abbrev pub IsReceivingFrom : Log → ObjId → Source → Type 0
IsReceivingFrom R t (source.Endpoint at) = IsReceiving R t at.endpoint at.reply
IsReceivingFrom R t (source.Notification n) = IsWaiting R t n

-- t may send over an endpoint, a notification or a reply object
abbrev pub IsSendingOver : Log → ObjId → Target → Type 0
IsSendingOver R t (target.Endpoint cap) = IsSending R t cap.obj
IsSendingOver R t (target.Notification cap) = IsThere R kind.Notification cap.obj
IsSendingOver R t (target.Reply r) = Unit {0}

-- t receives on an endpoint, and no thread uses the reply object
pub record IsReady (R : Log) (t e : ObjId) (r : Option ObjId) : Type 0 where
  pub acting : IsActing R t
  pub stand : OpenStand R
  pub endpoint : IsThere R kind.Endpoint e
  pub reply : IfSome r (λ o. IsThere R kind.Reply o × IsFreeReply R o)

-- x has sent a message that p takes with the reply object r, if there is one; no thread uses r
pub record IsSettling (R : Log) (x p : ObjId) (r : Option ObjId) : Type 0 where
  pub sender : IsThere R kind.Thread x
  pub idle : IsIdle R x
  pub receiver : IsThere R kind.Thread p
  pub reply : IfSome r (λ o. IsThere R kind.Reply o × IsFreeReply R o)

-- x has called, and p is to answer by the reply object r, which no thread uses
pub record IsCalling (R : Log) (r x p : ObjId) : Type 0 where
  pub caller : IsThere R kind.Thread x
  pub idle : IsIdle R x
  pub receiver : IsThere R kind.Thread p
  pub reply : IsThere R kind.Reply r
  pub free : IsFreeReply R r
