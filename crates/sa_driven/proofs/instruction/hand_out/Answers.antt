use Rattle.std.proofs.Common.{◌≡◌, ◌<◌, ◌+◌, Some, ◌∷◌, length, drop, sym, ap, ◌∙◌, subst, arith}
use Rattle.sa_links.specs.Lists.{list_at}
use Rattle.sa_fast.specs.Work.{Work, work_of}
use Rattle.sa_driven_model.specs.Threads.{with_thread, with_all}
use Rattle.sa_driven_model.specs.Conditions.{IsAlone}
use Rattle.sa_driven_model.proofs.Drained.{queue, less_alone, less_rest, drained}
use Rattle.sa_driven.proofs.instruction.hand_out.Goals as goal

pub loop-left-smaller : goal.loop-left-smaller
loop-left-smaller c =
    let works = c.loop-left.works in
    let first = c.in-Some.first in
    let alone : IsAlone works (Some first) = subst (IsAlone works) c.in-Some.is c.loop-left.invariant.alone in
    let rest : work_of c.take_first.new.self c.take_first.new.work ≡ drop 1 (list_at works first.0) =
    ap (λ (w : Work). work_of w.lists w.name) c.take_first.ensures ∙ less_rest works first alone in
    let was : work_of works c.loop-left.left ≡ first.0 ∷ drop 1 (list_at works first.0) = ap (work_of works) c.in-Some.is ∙ queue works first alone in
    let a : length (work_of c.take_first.new.self c.take_first.new.work) ≡ length (drop 1 (list_at works first.0)) = ap length rest in
    let b : length (work_of works c.loop-left.left) ≡ length (drop 1 (list_at works first.0)) + 1 = ap length was ∙ omega arith in
    let less : length (work_of c.take_first.new.self c.take_first.new.work) < length (work_of works c.loop-left.left) = omega (arith, a, b) in less

pub loop-left-preserved : goal.loop-left-preserved
loop-left-preserved c =
    let works = c.loop-left.works in
    let first = c.in-Some.first in
    let inv = c.loop-left.invariant in
    let alone : IsAlone works (Some first) = subst (IsAlone works) c.in-Some.is inv.alone in
    let rest : work_of c.take_first.new.self c.take_first.new.work ≡ drop 1 (list_at works first.0) =
    ap (λ (w : Work). work_of w.lists w.name) c.take_first.ensures ∙ less_rest works first alone in
    let was : work_of works c.loop-left.left ≡ first.0 ∷ drop 1 (list_at works first.0) = ap (work_of works) c.in-Some.is ∙ queue works first alone in
    record {
      alone = subst (λ (w : Work). IsAlone w.lists w.name) (sym c.take_first.ensures) (less_alone works first alone);
      hand =
          ap (λ s. with_all s (work_of c.take_first.new.self c.take_first.new.work)) c.add.ensures
          ∙ ap (with_all (with_thread c.loop-left.hand first.0)) rest ∙ ap (with_all c.loop-left.hand) (sym was) ∙ inv.hand;
      handed =
          ap (λ s. with_all s (work_of c.take_first.new.self c.take_first.new.work)) c.add-in-Some.ensures
          ∙ ap (with_all (with_thread c.loop-left.handed first.0)) rest ∙ ap (with_all c.loop-left.handed) (sym was) ∙ inv.handed;
    }

pub returns-clause-works : goal.returns-clause-works
returns-clause-works c = drained c.loop-left.works (subst (IsAlone c.loop-left.works) c.in_default.is c.loop-left.invariant.alone)
