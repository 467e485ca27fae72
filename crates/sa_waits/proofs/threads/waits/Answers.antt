use Rattle.std.proofs.Common.{◌++◌, ◌∙◌, sym, ap}
use Rattle.sa_laws.specs.State.{space_at}
use Rattle.sa_waits.specs.Waits.{waits_in}
use Rattle.sa_waits.proofs.Numbers.{none-below, one-more}
use Rattle.sa_waits.proofs.threads.waits.Goals as goal

pub loop-s-init : goal.loop-s-init
loop-s-init c =
    c.new-waits.ensures.items ∙ sym (none-below (λ s. waits_in (record { 0 = s }) (space_at c.args.replay.now.state (record { 0 = s }))))

pub loop-s-preserved : goal.loop-s-preserved
loop-s-preserved c =
    let f = λ (s : _). waits_in (record { 0 = s }) (space_at c.args.replay.now.state (record { 0 = s })) in
    c.in_ok-push_space.ensures ∙ ap (λ front. front ++ f c.loop-s.s) c.loop-s.invariant ∙ sym (one-more f c.loop-s.s)
