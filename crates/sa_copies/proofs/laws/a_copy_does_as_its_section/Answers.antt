use Rattle.std.proofs.Common.{◌≡◌, slice_get, sym, ap, ◌∙◌, inl}
use Rattle.sa_copies.specs.Runs.{at, is_effect}
use Rattle.sa_copies.proofs.Places.{ops-copied}
use Rattle.sa_copies.proofs.Alike.{run_of-alike}
use Rattle.sa_copies.proofs.Ends.{section-leaves, copy-yields, micro-faults}
use Rattle.sa_copies.proofs.laws.a_copy_does_as_its_section.Goals as goal

pub returns-clause-alike : goal.returns-clause-alike
returns-clause-alike c s f place copy seen code has = run_of-alike seen s f place copy code (inl has)

pub returns-clause-leaves : goal.returns-clause-leaves
returns-clause-leaves c s f place copy first second more code has apart can resident =
    section-leaves place copy has apart s f first second more code can resident

pub returns-clause-yields : goal.returns-clause-yields
returns-clause-yields c s f place copy first second more code has can resident = copy-yields place copy has s f first second more code can resident

pub returns-clause-faults : goal.returns-clause-faults
returns-clause-faults c s f place copy pages code has effect absent =
    let same : slice_get s.code copy ≡ slice_get s.code place =
    ap (λ ops. slice_get ops copy) code ∙ ops-copied place copy has ∙ sym (ap (λ ops. slice_get ops place) code) in
    (micro-faults s (at f place) pages effect absent, micro-faults s (at f copy) pages (ap is_effect same ∙ effect) absent)
