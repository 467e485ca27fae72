use Rattle.std.proofs.Common.{ap, ◌∙◌, arith, below_more}
use Rattle.std.proofs.lemmas.Bool.{false≢true}
use Rattle.std.proofs.lemmas.List.{get_or_default}
use Rattle.sa_trace.specs.declared.kind.Kind.TheVariants.{Tick}
use Rattle.sa_trace.specs.declared.kind.TheConstants.{KINDS}
use Rattle.sa_trace.specs.Kind.{form_of}
use Rattle.sa_trace.proofs.KindLemmas.{place_of}
use Rattle.sa_trace.proofs.kind.Kind.of_word.Goals as goal

pub loop-kind-preserved : goal.loop-kind-preserved
loop-kind-preserved c = below_more _ _ c.loop-kind.invariant (λ same.
    false≢true (c.if-has_word.ensures.1 (ap (λ k. (form_of k).word) (get_or_default KINDS c.loop-kind.kind-index _ Tick (omega arith)) ∙ same)))

pub returns-clause-none : goal.returns-clause-none
returns-clause-none c = λ kind same.
    let place = place_of kind in
    c.loop-kind.invariant place.0 (omega (arith, place.1)) (ap (λ k. (form_of k).word) place.2 ∙ same)
