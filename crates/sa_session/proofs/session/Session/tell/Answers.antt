use Rattle.std.proofs.Common.{◌≡◌, ◌<◌, length, ap, ◌∙◌, arith}
use Rattle.sa_core.specs.View.{CoreView, machine}
use Rattle.sa_driven_model.specs.declared.context.DrivenContext.{DrivenContext}
use Rattle.sa_driven_model.specs.declared.space.DrivenSpace.{DrivenSpace}
use Rattle.sa_session.proofs.Telling.{tells-next, told-next, text-told}
use Rattle.sa_session.proofs.session.Session.tell.Goals as goal

pub tell-requires : goal.tell-requires
tell-requires c =
    let m = machine c.args.self.now.core in
    let before : c.items.result.now ≡ m.items =
    c.items.ensures ∙ c.trace.ensures ∙ ap (λ (v : CoreView DrivenSpace DrivenContext). (machine v).items) c.loop-self.invariant.core in
    let within : c.loop-self.self-inside.told < length m.items = omega (arith, c.loop-self-test.true, ap length before) in
    let same : c.items-in-loop-self.result.now ≡ m.items =
    c.items-in-loop-self.ensures ∙ c.trace-in-loop-self.ensures ∙ ap (λ (v : CoreView DrivenSpace DrivenContext). (machine v).items) c.loop-self.invariant.core in
    tells-next m.workload m.items c.items-in-loop-self.result.now c.loop-self.self-inside.told _ c.loop-self.self-inside.teller same
    c.loop-self.invariant.knows c.requires.plays within

pub loop-self-preserved : goal.loop-self-preserved
loop-self-preserved c =
    let m = machine c.args.self.now.core in
    let before : c.items.result.now ≡ m.items =
    c.items.ensures ∙ c.trace.ensures ∙ ap (λ (v : CoreView DrivenSpace DrivenContext). (machine v).items) c.loop-self.invariant.core in
    let within : c.loop-self.self-inside.told < length m.items = omega (arith, c.loop-self-test.true, ap length before) in
    let same : c.items-in-loop-self.result.now ≡ m.items =
    c.items-in-loop-self.ensures ∙ c.trace-in-loop-self.ensures ∙ ap (λ (v : CoreView DrivenSpace DrivenContext). (machine v).items) c.loop-self.invariant.core in
    record {
      core = c.loop-self.invariant.core;
      few = omega (arith, within);
      knows = told-next m.workload m.items c.items-in-loop-self.result.now c.loop-self.self-inside.told _ c.loop-self.self-inside.teller c.tell.new.self same
          c.loop-self.invariant.knows within c.in_ok-tell.ensures.told;
      text = text-told m.items c.items-in-loop-self.result.now c.loop-self.self-inside.told _ c.loop-self.self-inside.teller c.tell.new.self
          c.loop-self.said.items c.tell.new.out.items _ same within c.in_ok-tell.ensures.told c.loop-self.invariant.text c.in_ok-tell.ensures.text;
    }
