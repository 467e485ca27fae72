-- What a context with the mark does, by the pairs that there are.
use Rattle.std.proofs.Common.{◌≡◌, Option, Some, None, ap, ◌∙◌}
use Rattle.sa_base.specs.declared.number.ThreadNo.{ThreadNo}
use Rattle.sa_base.specs.declared.context.Seen.{Seen}
use Rattle.sa_package_model.specs.declared.context.Context.{Context}
use Rattle.sa_package_model.specs.Context.{carried_by}
use Rattle.sa_package_model.specs.Rules.{settled}
use Rattle.sa_prio_model.specs.declared.pair.Outranked.{Outranked}
use Rattle.sa_prio_model.specs.Prio.{Prio, outranked, lowest}
use Rattle.sa_prio_model.specs.Step.{goes, interrupts, urged, urged_by}

-- its own thread is in no pair, and another one's is
pub urged-interrupts : (v : Prio) (seen : Seen) (c : Context) (other : Outranked) → outranked v seen seen.proc ≡ None → lowest v seen ≡ Some other
    → urged v seen c ≡ interrupts v c other
urged-interrupts v seen c other own line = ap (λ o. urged_by v seen c o (lowest v seen)) own ∙ ap (urged_by v seen c None) line

-- no thread is in a pair
pub urged-goes : (v : Prio) (seen : Seen) (c : Context) → outranked v seen seen.proc ≡ None → lowest v seen ≡ None
    → urged v seen c ≡ goes v seen (settled v.base seen c (carried_by c.state))
urged-goes v seen c own line = ap (λ o. urged_by v seen c o (lowest v seen)) own ∙ ap (urged_by v seen c None) line

-- so its context settles with the thread that it carries
pub settled-is : (u v : Prio) (seen : Seen) (c d : Context) (t : Option ThreadNo) → d ≡ settled u.base seen c t → u ≡ v → t ≡ carried_by c.state
    → d ≡ settled v.base seen c (carried_by c.state)
settled-is u v seen c d t is same carries =
    is ∙ ap (λ (x : Prio). settled x.base seen c t) same ∙ ap (settled v.base seen c) carries
