-- What a cell holds at a moment, before which these were all ups.
use Rattle.std.specs.Prelude.{ℕ, List, decimal}
use Rattle.sa_base.specs.declared.number.ActNo.{ActNo}
use Rattle.sa_laws.specs.Readings.{owner_of, aim_of, line_of, running_of, demand_of, untold_of, ready_of}
use Rattle.sa_check_moment.specs.Seen.{Seen}
use Rattle.sa_cells.specs.declared.cell.Cell.{Cell}
use Rattle.sa_cells.specs.declared.cell.Cell.TheVariants.{Owner, Aim, Line, Activation, Runs, Demand, Untold, Holder, Listed, Thread, Mutex, Semaphore, Shared, Where, Locks, Hand}
use Rattle.sa_cells.specs.Pieces.{space_if, act_if}
use Rattle.sa_cells.specs.Processor.{line_text, runs_text}
use Rattle.sa_cells.specs.Space.{untold_text, list_text, holder_text}
use Rattle.sa_cells.specs.Life.{place_of, locks_of, hand_of}
use Rattle.sa_cells.specs.Thread.{thread_text}
use Rattle.sa_cells.specs.Sync.{of_sync, mutex_in, semaphore_in, cell_in}

abbrev pub text_of : List ActNo → Seen → Cell → List ℕ
text_of ups m (Owner p) = space_if (owner_of m.readings p)
text_of ups m (Aim p) = space_if (aim_of m.readings p)
text_of ups m (Line p) = line_text (line_of m.readings p)
text_of ups m (Activation p) = act_if (running_of m.readings p)
text_of ups m (Runs p) = runs_text m.readings p
text_of ups m (Demand s) = decimal (demand_of m.readings s)
text_of ups m (Untold s) = untold_text (untold_of m.readings s)
text_of ups m (Holder s l) = holder_text m.readings ups s l
text_of ups m (Listed s l) = list_text l (ready_of m.readings s)
text_of ups m (Thread s t) = thread_text m.workload m.readings.state s t
text_of ups m (Mutex s k) = of_sync (λ x. mutex_in x k) m.readings.state s
text_of ups m (Semaphore s k) = of_sync (λ x. semaphore_in x k) m.readings.state s
text_of ups m (Shared s c) = of_sync (λ x. cell_in x c) m.readings.state s
text_of ups m (Where a) = place_of m.readings a
text_of ups m (Locks a) = locks_of m.readings a
text_of ups m (Hand a) = hand_of m.readings a
