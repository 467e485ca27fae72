use Rattle.sa_devices.proofs.SoundLemmas.{events-in_order}
use Rattle.sa_check_ios.proofs.pending.Pending.evict.Goals as goal

pub evict_at-requires-clause-order : goal.evict_at-requires-clause-order
evict_at-requires-clause-order c = events-in_order _ c.evictions.ensures.rise
