use Rattle.std.proofs.Common.{◌+◌, ◌++◌, length, sym, ap, ◌∙◌}
use Rattle.sa_base.specs.Items.{items_at}
use Rattle.sa_fast.specs.Work.{work_of}
use Rattle.sa_fast.specs.Instruction.{run_says}
use Rattle.sa_driven_model.specs.declared.context.DrivenContext.{DrivenContext}
use Rattle.sa_driven_model.specs.declared.space.DrivenSpace.{DrivenSpace}
use Rattle.sa_driven_model.specs.Threads.{with_all}
use Rattle.sa_driven_model.specs.Step.{after_run, run_of}
use Rattle.sa_driven.proofs.Ran.{ran_does}
use Rattle.sa_driven.proofs.driven.Driven.do_ins.Goals as goal

pub returns : goal.returns
returns c =
    let a = c.args in
    let seen = a.seen.now in
    let t = a.thread in
    let old : DrivenContext = a.ctx.now in
    let r = c.run_thread-ran in
    ran_does a.self.now seen old t a.trace.now r.new.trace r.new.space r.new.ctx c.end_ins.new.ctx c.is_next_local-local.result r.result c.end_ins.result
    (r.ensures.space ∙ ap (λ (u : DrivenSpace). after_run u (run_of u seen t)) c.self.view_is)
    (r.ensures.ctx ∙ ap {B = DrivenContext} (λ (u : DrivenSpace). record old {
      hand = with_all old.hand (work_of (run_of u seen t).shared.works (run_of u seen t).work);
    }) c.self.view_is)
    (r.ensures.ran ∙ ap (λ (u : DrivenSpace). (run_of u seen t).answer) c.self.view_is)
    c.is_next_local-local.ensures
    c.end_ins.ensures.ctx c.end_ins.ensures.answer
    (r.ensures.items ∙ ap (λ (u : DrivenSpace). a.trace.now.items ++ items_at seen.event seen.proc (run_says u.base.def seen.pages u.base.shared t)) c.self.view_is)
    (sym (ap (λ (u : DrivenSpace). r.new.trace.spare + length (run_says u.base.def seen.pages u.base.shared t)) c.self.view_is) ∙ r.ensures.spare)
