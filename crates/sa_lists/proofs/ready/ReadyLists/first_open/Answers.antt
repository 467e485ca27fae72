use Rattle.std.proofs.Common.{sym, ap, ◌∙◌}
use Rattle.std.specs.Option.{option_map}
use Rattle.sa_lists.specs.ReadyView.{processor, is_open}
use Rattle.sa_lists.proofs.Seeking.{find-range_here, find-range_behind}
use Rattle.sa_lists.proofs.ready.ReadyLists.first_open.Goals as goal

pub returns-then-is_open : goal.returns-then-is_open
returns-then-is_open c =
    ap (option_map processor) (sym (c.loop-list.invariant
    ∙ find-range_here (is_open c.args.self.now) c.loop-list.list c.args.end c.loop-list-test.true (sym c.is_open.ensures ∙ c.if-is_open.true)))

pub loop-list-preserved : goal.loop-list-preserved
loop-list-preserved c =
    c.loop-list.invariant ∙ find-range_behind (is_open c.args.self.now) c.loop-list.list c.args.end c.loop-list-test.true
    (sym c.is_open.ensures ∙ c.if-is_open.false)
