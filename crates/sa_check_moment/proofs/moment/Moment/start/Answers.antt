use Rattle.std.proofs.Common.{◌≡◌, ◌∙◌, ap, sym, subst}
use Rattle.sa_laws.specs.Readings.{opening_readings}
use Rattle.sa_check_moment.specs.Level.{IsKeptFor}
use Rattle.sa_check_moment.specs.declared.moment.Parts.{Parts}
use Rattle.sa_check_moment.specs.Seen.{Seen, seen, opened}
use Rattle.sa_check_moment.specs.KeptFields.{kept_in}
use Rattle.sa_check_moment.specs.Listed.{IsListed}
use Rattle.sa_check_moment.proofs.ListedLemmas.{listed-opened}
use Rattle.sa_check_moment.proofs.moment.Moment.start.Goals as goal

-- what is read is the moment before any record
boxed : (c : goal.In_ok-new) → seen (kept_in c.in_ok-new.field-0.value) ≡ opened c.args.rules c.args.workload.now
boxed c = ap (λ (m : Parts). seen (kept_in m)) c.in_ok-new.ensures.ok ∙ c.in_ok-parts.ensures.seen

pub invariant_of-result : goal.invariant_of-result
unfolding seen
invariant_of-result c =
    let r = opening_readings c.args.workload.now in
    let new = c.in_ok-new.field-0.value in
    let kept : IsKeptFor new.level r.state r.ready =
    subst (λ (m : Parts). IsKeptFor m.level r.state r.ready) (sym c.in_ok-new.ensures.ok) c.in_ok-parts.ensures.kept in
    record {
      listed = subst (λ (m : Seen). IsListed m) (sym (boxed c)) (listed-opened c.args.rules c.args.workload.now);
      kept = subst (λ (m : Seen). IsKeptFor new.level m.readings.state m.readings.ready) (sym (boxed c)) kept;
    }

pub returns : goal.returns
returns c = boxed c
