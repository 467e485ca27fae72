-- The names of cells.
use Rattle.std.specs.Prelude.{ℕ, List, ◌++◌, codes}
use Rattle.sa_cells.specs.declared.cell.Cell.{Cell}
use Rattle.sa_cells.specs.declared.cell.Cell.TheVariants.{Owner, Aim, Line, Activation, Runs, Demand, Untold, Holder, Listed, Thread, Mutex, Semaphore, Shared, Where, Locks, Hand}
use Rattle.sa_cells.specs.Pieces.{one, numbered}

-- of a processor, a space, an activation; of a thing of a space
abbrev pub of_space : ℕ → List ℕ → ℕ → List ℕ
of_space s word n = numbered (codes "s") s ++ numbered word n

abbrev pub name_of : Cell → List ℕ
name_of (Owner p) = one (codes "p") p.0 (codes ".space")
name_of (Aim p) = one (codes "p") p.0 (codes ".aim")
name_of (Line p) = one (codes "p") p.0 (codes ".line")
name_of (Activation p) = one (codes "p") p.0 (codes ".activation")
name_of (Runs p) = one (codes "p") p.0 (codes ".runs")
name_of (Demand s) = one (codes "s") s.0 (codes ".demand")
name_of (Untold s) = one (codes "s") s.0 (codes ".untold")
name_of (Holder s l) = of_space s.0 (codes ".lock") l.0
name_of (Listed s l) = of_space s.0 (codes ".list") l.0
name_of (Thread s t) = of_space s.0 (codes ".thread") t.0
name_of (Mutex s m) = of_space s.0 (codes ".mutex") m
name_of (Semaphore s k) = of_space s.0 (codes ".semaphore") k
name_of (Shared s c) = of_space s.0 (codes ".cell") c
name_of (Where a) = one (codes "a") a.0 (codes ".place")
name_of (Locks a) = one (codes "a") a.0 (codes ".locks")
name_of (Hand a) = one (codes "a") a.0 (codes ".hand")
