-- The objects and threads of a system of protection domains, and what each domain has.
use Rattle.std.specs.Prelude.{ℕ, zero, suc, ◌+◌, ◌^◌, ◌==◌, ◌&&◌, Bool, false, cond, List, [], ◌∷◌, Option, Some, None, codes, slice_get}
use Rattle.mcs_plan_domains.specs.declared.capabilities.TheConstants.{CORES}
use Rattle.mcs_plan_domains.specs.declared.ends.End.{End}
use Rattle.mcs_plan_domains.specs.declared.system.Channel.{Channel}
use Rattle.mcs_plan_domains.specs.declared.system.Domain.{Domain}
use Rattle.mcs_plan_domains.specs.declared.system.System.{System}
use Rattle.mcs_plan_domains.specs.Pages.{Page, put, ended, last_put, number_put, hex_put}

-- the badge with which a domain is notified over its channel: the bit of the channel
abbrev pub notified_badge : End → ℕ
notified_badge e = 2 ^ e.channel

-- that with which it is called: bit 63, and the channel
abbrev pub called_badge : End → ℕ
called_badge e = 2 ^ 63 + e.channel

-- an object of a domain: `notification fs.ntfn`
abbrev pub object_put : Page → List ℕ → Domain → List ℕ → Page
object_put p kind d ending = last_put (put (put p kind) d.name.now) ending d.line

-- its notification; if it is called, its endpoint and its reply object
abbrev pub objects_put : Page → Domain → Page
objects_put p d =
    let q = object_put p (codes "notification ") d (codes ".ntfn") in
    cond d.is_called (object_put (object_put q (codes "endpoint ") d (codes ".ep")) (codes "reply ") d (codes ".reply")) q

-- its thread: `thread fs prio 200 on core 0`
abbrev pub thread_put : Page → Domain → Page
thread_put p d =
    ended (number_put (put (number_put (put (put (put p (codes "thread ")) d.name.now) (codes " prio ")) d.priority) (codes " on core ")) d.core) d.line

-- its notification is bound to it: `tie fs fs.ntfn`
abbrev pub tie_put : Page → Domain → Page
tie_put p d = last_put (put (put (put (put p (codes "tie ")) d.name.now) (codes " ")) d.name.now) (codes ".ntfn") d.line

-- the beginning of what it has: `fs has blk.ep`
abbrev pub has_put : Page → Domain → List ℕ → List ℕ → Page
has_put p d object ending = put (put (put (put p d.name.now) (codes " has ")) object) ending

-- with what it receives: its endpoint and its reply object, or its notification
abbrev pub inputs_put : Page → Domain → Page
inputs_put p d =
    cond d.is_called
    (ended (has_put (ended (has_put p d d.name.now (codes ".ep:r")) d.line) d d.name.now (codes ".reply")) d.line)
    (ended (has_put p d d.name.now (codes ".ntfn:r")) d.line)

-- with what it notifies another over a channel: `anna has fs.ntfn:w=0x2 as notify.1`
abbrev pub notify_put : Page → Domain → End → ℕ → Domain → End → Page
notify_put p d own line there other =
    ended (number_put (put (hex_put (has_put p d there.name.now (codes ".ntfn:w=")) (notified_badge other)) (codes " as notify.")) own.channel) line

-- with what it calls another over a channel: `anna has fs.ep:wp=0x8000000000000001 as ppcall.1`
abbrev pub call_put : Page → Domain → End → ℕ → Domain → End → Page
call_put p d own line there other =
    ended (number_put (put (hex_put (has_put p d there.name.now (codes ".ep:wp=")) (called_badge other)) (codes " as ppcall.")) own.channel) line

-- what it has at its end of a channel, over which it may call or not
abbrev pub end_between : Page → Bool → ℕ → End → End → Option Domain → Option Domain → Page
end_between p calls line own other (Some d) (Some there) =
    let q = notify_put p d own line there other in
    cond calls (call_put q d own line there other) q
end_between p calls line own other a b = p

abbrev pub end_put : Page → System → Bool → ℕ → End → End → Page
end_put p s calls line own other =
    end_between p calls line own other (slice_get s.domains.items own.domain) (slice_get s.domains.items other.domain)

-- a channel: its first end may call the second, if it has protected procedures
abbrev pub channel_put : Page → System → Channel → Page
channel_put p s c = end_put (end_put p s c.is_called c.line c.first c.second) s false c.line c.second c.first

-- the capability with which a passive domain reports to the monitor of its core that it has begun.
-- The badge is its number
abbrev pub begun_put : Page → Domain → Page
begun_put p d =
    last_put (number_put (put (number_put (has_put p d (codes "microkit.ep") []) d.core) (codes ":w=")) d.number) (codes " as microkit.monitor") d.line

-- what the monitor has of it: its context, or its notification
abbrev pub monitored_put : Page → Domain → List ℕ → Page
monitored_put p d ending = last_put (put (put (number_put (put p (codes "microkit.monitor")) d.core) (codes " has ")) d.name.now) ending d.line

abbrev pub passive_put : Page → Domain → Page
passive_put p d = monitored_put (monitored_put (begun_put p d) d (codes ".context")) d (codes ".ntfn")

-- the capabilities of a domain that no channel gives
abbrev pub own_put : Page → Domain → Page
own_put p d = cond d.is_passive (passive_put (inputs_put p d) d) (inputs_put p d)

-- the line of the first passive domain of a core
abbrev pub passive_line : List Domain → ℕ → Option ℕ
passive_line [] core = None
passive_line (d ∷ ds) core = cond (d.is_passive && (d.core == core)) (Some d.line) (passive_line ds core)

-- the monitor of a core that has passive domains: its endpoint, and its thread, which receives
abbrev pub monitor_thread_put : Page → ℕ → ℕ → Page
monitor_thread_put p core line = ended (number_put (put (number_put (put p (codes "thread microkit.monitor")) core) (codes " prio 255 on core ")) core) line

abbrev pub monitor_input_put : Page → ℕ → ℕ → Page
monitor_input_put p core line = last_put (number_put (put (number_put (put p (codes "microkit.monitor")) core) (codes " has microkit.ep")) core) (codes ":r") line

abbrev pub monitor_put : Page → ℕ → ℕ → Page
monitor_put p core line = monitor_input_put (monitor_thread_put (ended (number_put (put p (codes "endpoint microkit.ep")) core) line) core line) core line

abbrev pub monitor_if : Page → ℕ → Option ℕ → Page
monitor_if p core None = p
monitor_if p core (Some line) = monitor_put p core line

abbrev pub monitors_put : Page → List Domain → ℕ → Page
monitors_put p ds zero = p
monitors_put p ds (suc n) = monitor_if (monitors_put p ds n) n (passive_line ds n)

-- all domains, by what each adds
abbrev pub each_put : (Page → Domain → Page) → Page → List Domain → Page
each_put add p [] = p
each_put add p (d ∷ ds) = each_put add (add p d) ds

abbrev pub channels_put : Page → System → List Channel → Page
channels_put p s [] = p
channels_put p s (c ∷ cs) = channels_put (channel_put p s c) s cs

-- a thread, which its notification is bound to
abbrev pub tied_put : Page → Domain → Page
tied_put p d = tie_put (thread_put p d) d

-- all objects and threads, and what each thread has
abbrev pub boot_put : Page → System → Page
boot_put p s =
    let ds = s.domains.items in
    channels_put (each_put own_put (monitors_put (each_put tied_put (each_put objects_put p ds) ds) ds CORES) ds) s s.channels.items
