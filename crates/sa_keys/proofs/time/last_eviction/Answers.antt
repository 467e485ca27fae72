use Rattle.std.proofs.Common.{sym}
use Rattle.sa_keys.proofs.EvictionsToCome.{to-come-last, to-come-none}
use Rattle.sa_keys.proofs.time.last_eviction.Goals as goal

pub returns-in-None : goal.returns-in-None
returns-in-None c = λ event. to-come-none event c.args.evictions.now (sym c.in-None.ensures.value)

pub returns-in-Some : goal.returns-in-Some
returns-in-Some c = λ event. to-come-last event c.args.evictions.now c.requires c.in-Some.last.now (sym c.in-Some.ensures.value)
