-- What the turns of a schedule are.
use Rattle.std.specs.Prelude.{◌≡◌, ℕ, ◌+◌, ◌≤◌}
use Rattle.sa_sched.specs.Order.{Order, processor_at}
use Rattle.sa_sched.specs.Turns.{start, next_processor, turned_often}

-- the k-th turn is that of the k-th processor of the order, here after `turns` others
abbrev pub TurnsAreInOrder : Type 0
TurnsAreInOrder =
    (order : Order) (processors turns : ℕ) → 1 ≤ processors
    → next_processor (turned_often (start order processors) turns) ≡ processor_at order processors (turns + 1)
