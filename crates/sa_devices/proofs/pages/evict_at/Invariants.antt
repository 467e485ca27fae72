use Rattle.std.proofs.Common.{◌≡◌, drop}
use Rattle.sa_devices.specs.Pages.{evicted}
use Rattle.sa_devices.proofs.pages.evict_at.Given as goal

abbrev pub invariant-loop-evict : goal.invariant-loop-evict
invariant-loop-evict l = evicted l.event (drop l.evict-index l.later) l.pages ≡ evicted l.event l.evictions l.fn.pages
