use Rattle.std.proofs.Common.{◌≤◌, false, sym, ap, ◌∙◌, arith}
use Rattle.std.proofs.lemmas.Bool.{le-ltb}
use Rattle.std.proofs.lemmas.List.{get_or_past}
use Rattle.sa_base.specs.declared.limits.TheConstants.{MAX_THREADS}
use Rattle.sa_driven_model.specs.Threads.{has}
use Rattle.sa_driven_model.proofs.threads.ThreadSet.has.Goals as goal

pub returns-else-t-lt-MAX_THREADS : goal.returns-else-t-lt-MAX_THREADS
returns-else-t-lt-MAX_THREADS c =
    let past : MAX_THREADS ≤ c.args.t.0 = c.if-t-lt-MAX_THREADS.false in
    le-ltb c.args.t.0 MAX_THREADS past ∙ sym (get_or_past c.self.inside.is_in c.args.t.0 false (omega (arith, past, c.self.told)))
    ∙ ap (λ s. has s c.args.t.0) c.self.view_is
