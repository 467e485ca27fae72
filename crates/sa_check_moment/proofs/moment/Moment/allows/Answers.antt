use Rattle.std.proofs.Common.{◌≡◌, ◌↔◌, ◌∙◌, ap, subst, true}
use Rattle.sa_replay.specs.Needs.{NeedsWith}
use Rattle.sa_replay.proofs.NeedLemmas.{needs}
use Rattle.sa_check_moment.specs.Seen.{Kept, seen}
use Rattle.sa_check_moment.specs.KeptFields.{kept_in}
use Rattle.sa_check_moment.proofs.moment.Moment.allows.Goals as goal

pub returns : goal.returns
unfolding seen
returns c =
    let m = seen c.args.self.now in
    let same = needs m.workload c.args.p m.readings c.beyond-beyond.result c.args.what.now c.beyond-beyond.ensures in
    let holds = subst (λ (k : Kept). (c.allows.result ≡ true) ↔ NeedsWith k.workload c.args.p k.state c.beyond-beyond.result c.args.what.now)
    (ap kept_in c.deref.ensures ∙ c.self.view_is) c.allows.ensures.needs in
    (λ h. same.0 (holds.0 h), λ h. holds.1 (same.1 h))
