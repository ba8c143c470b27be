-- The entries by which a domain receives: those of libmicrokit's loop.
use Rattle.std.specs.Prelude.{ℕ, Bool, cond, List, Option, Some, None, codes}
use denote.Ref.{Bor}
use Rattle.mcs_plan_domains.specs.declared.inputs.Input.{Input}
use Rattle.mcs_plan_domains.specs.declared.system.Domain.{Domain}
use Rattle.mcs_plan_domains.specs.Pages.{Page, put, ended, last_put, number_put, indented, words_put}

-- its name: `input1: `
abbrev pub input_put : Page → Input → Page
input_put p i = put (number_put (put (indented p i.depth) (codes "input")) i.number) (codes ": ")

-- from where a domain receives: its endpoint with its reply object, or its notification
abbrev pub source_put : Page → Domain → Page
source_put p d =
    let q = put (put p (codes " ")) d.name.now in
    cond d.is_called (put (put (put q (codes ".ep ")) d.name.now) (codes ".reply")) (put q (codes ".ntfn"))

abbrev pub receive_word : Bool → List ℕ
receive_word called = cond called (codes "recv") (codes "wait")

abbrev pub send_receive_word : Bool → List ℕ
send_receive_word called = cond called (codes "nbsendrecv ") (codes "nbsendwait ")

-- an entry that only receives: `input1: recv fs.ep fs.reply`, or `input1: wait fs.ntfn`
abbrev pub receive_put : Page → Input → Domain → ℕ → Page
receive_put p i d line = ended (source_put (put (input_put p i) (receive_word d.is_called)) d) line

-- a capability: a name, after which a channel may be
abbrev pub capability_put : Page → List ℕ → Option ℕ → Page
capability_put p name None = put p name
capability_put p name (Some channel) = number_put (put p name) channel

-- an entry that notifies and receives: `input1: nbsendrecv notify.3 fs.ep fs.reply 0`
abbrev pub send_receive_put : Page → Input → Domain → ℕ → List ℕ → Option ℕ → Page
send_receive_put p i d line name channel =
    last_put (source_put (capability_put (put (input_put p i) (send_receive_word d.is_called)) name channel) d) (codes " 0") line

-- an entry that answers and receives: `input1: replyrecv fs.ep fs.reply 0 $1`
abbrev pub reply_put : Page → Input → Domain → ℕ → List (Bor (List ℕ)) → Page
reply_put p i d line words = ended (words_put (source_put (put (input_put p i) (codes "replyrecv")) d) words) line
