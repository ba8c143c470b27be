use Rattle.std.proofs.Common.{◌≡◌, drop}
use Rattle.mcs_plan_domains.specs.Boots.{channels_put}
use Rattle.mcs_plan_domains.specs.Pages.{page_of}
use Rattle.mcs_plan_domains.proofs.capabilities.put_channels.Given as goal

abbrev pub invariant-loop-channel : goal.invariant-loop-channel
invariant-loop-channel l =
    channels_put (page_of l.out) l.system (drop l.channel-index l.system.channels.items) ≡ channels_put (page_of l.fn.out) l.system l.system.channels.items
