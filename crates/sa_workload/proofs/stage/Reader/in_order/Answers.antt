use Rattle.std.proofs.Common.{sym, ap, ◌∙◌}
use Rattle.std.specs.Ordering.{nat_cmp}
use Rattle.std.specs.Cmp.Lexicographic.{slice_cmp}
use Rattle.sa_workload.specs.Next.{last_numbers}
use Rattle.sa_workload.specs.Stage.{position_of}
use Rattle.sa_workload.proofs.calls.Calls.{order-equal, order-less, order-greater}
use Rattle.sa_workload.proofs.stage.Reader.in_order.Goals as goal

pub returns-in-Equal : goal.returns-in-Equal
returns-in-Equal c =
    order-equal c.in-Some.last.items c.args.numbers.now (last_numbers (position_of c.args.self.now) c.args.word.now) c.in-Some.ensures c.requires
    (ap (slice_cmp nat_cmp c.args.numbers.now) (sym c.as_slice.ensures.value) ∙ sym c.in-Equal.ensures)

pub returns-in-Less : goal.returns-in-Less
returns-in-Less c =
    order-less c.in-Some.last.items c.args.numbers.now (last_numbers (position_of c.args.self.now) c.args.word.now) c.in-Some.ensures c.requires
    (ap (slice_cmp nat_cmp c.args.numbers.now) (sym c.as_slice.ensures.value) ∙ sym c.in-Less.ensures)

pub returns-in-Greater : goal.returns-in-Greater
returns-in-Greater c =
    order-greater c.in-Some.last.items c.args.numbers.now (last_numbers (position_of c.args.self.now) c.args.word.now) c.in-Some.ensures c.requires
    (ap (slice_cmp nat_cmp c.args.numbers.now) (sym c.as_slice.ensures.value) ∙ sym c.in-Greater.ensures)
