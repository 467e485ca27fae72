use Rattle.std.proofs.Common.{◌+◌, refl, sym}
use Rattle.std.specs.List.{length_refill}
use Rattle.sa_devices.proofs.FetchLemmas.{refill-changed, one-more}
use Rattle.sa_devices.proofs.devices.count_fetch.Goals as goal

pub returns-in-Upcall-clause-spaces : goal.returns-in-Upcall-clause-spaces
returns-in-Upcall-clause-spaces c = sym (length_refill _ c.args.fetching.now.items _ refl)

pub returns-in-Upcall-clause-counts : goal.returns-in-Upcall-clause-counts
returns-in-Upcall-clause-counts c =
    let xs = c.args.fetching.now.items in
    let after = refill-changed (λ n. n + 1) xs c.deref_mut.result.now c.from.result _ c.deref_mut.ensures.value c.from.ensures in
    rw c.in-Upcall.is (one-more xs _ c.in-Upcall.s after (rw c.in-Upcall.is at c.requires.kind))
