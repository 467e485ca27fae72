use Rattle.std.proofs.Common.{sym, ap, ◌∙◌, length, arith}
use Rattle.sa_lists.specs.ReadyView.{ReadyView, ready_count}
use Rattle.sa_lists.proofs.Seeking.{sought_some, sought_none, sought_nowhere}
use Rattle.sa_lists.proofs.ready.ReadyLists.seek.Goals as goal

pub returns-then-self-eq0 : goal.returns-then-self-eq0
returns-then-self-eq0 c =
    sought_nowhere c.args.self.now c.args.p.0 (sym (ap ready_count c.self.view_is) ∙ sym c.self.invariant.counted ∙ c.if-self-eq0.true)

pub returns-in-Some : goal.returns-in-Some
returns-in-Some c =
    sought_some c.args.self.now c.args.p.0 c.len-count.result _
    (omega (arith, c.len-count.ensures, ap (λ (r : ReadyView). length r.lists) c.self.view_is)) c.in-Some.ensures

pub returns-in-None : goal.returns-in-None
returns-in-None c =
    sought_none c.args.self.now c.args.p.0 c.len-count.result _
    (omega (arith, c.len-count.ensures, ap (λ (r : ReadyView). length r.lists) c.self.view_is)) c.in-None.ensures c.first_open-in-None.ensures
