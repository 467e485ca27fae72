use Rattle.std.proofs.Common.{◌≡◌, ◌<◌, length, ◌∙◌, ap, arith}
use Rattle.sa_spaces.specs.Workload.{WorkloadView}
use Rattle.sa_laws.proofs.Lengths.{claims-length}
use Rattle.sa_check_moment.specs.Seen.{seen}
use Rattle.sa_check.proofs.shares.shares_at.Goals as goal

pub shares-requires-clause-first : goal.shares-requires-clause-first
shares-requires-clause-first c =
    let m = seen c.args.moment.now in
    let is = ap (λ (w : WorkloadView). length w.spaces) c.workload-workload.ensures in
    let size : length c.deref.result.now ≡ length m.workload.spaces =
    ap length c.deref.ensures.0 ∙ ap length c.claims-claims.ensures ∙ claims-length m.workload m.readings in
    let within = c.first_space.ensures.within in
    let first : c.first_space.result < length c.deref.result.now = omega arith in
    omega arith
