use Rattle.std.proofs.Common.{◌≡◌, ℕ}
use Rattle.sa_acts.specs.Queues.{all_numbers, HaveRoom}
use Rattle.sa_acts.proofs.RoomLemmas.{FirstHaveRoom}
use Rattle.sa_acts.proofs.acts.reserve_all.Given as goal

abbrev pub invariant-loop-s : goal.invariant-loop-s
invariant-loop-s l =
    (all_numbers l.queues ≡ all_numbers l.fn.queues)
    × ((n : ℕ) → HaveRoom n l.fn.queues → HaveRoom n l.queues)
    × FirstHaveRoom l.s l.room l.queues
