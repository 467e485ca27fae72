-- What becomes of a life by a change.
use Rattle.std.specs.Prelude.{ℕ, ◌+◌, Bool, true, false, Option, Some, None}
use Rattle.sa_base.specs.declared.number.ThreadNo.{ThreadNo}
use Rattle.sa_laws.specs.Life.{Life, Lock, readied, with_lock, without_lock, with_first, ran, with_hand, with_cont, held_with}
use Rattle.sa_laws.specs.Record.{one_thread, stopped_with, back_with, made_ready}
use Rattle.sa_check_lives.specs.declared.change.Scan.{Scan}
use Rattle.sa_check_lives.specs.declared.change.Scan.TheVariants.{More, Same, Over}
use Rattle.sa_check_lives.specs.declared.change.Stepped.{Stepped}
use Rattle.sa_check_lives.specs.declared.change.Change.{Change}
use Rattle.sa_check_lives.specs.declared.change.Change.TheVariants.{Stop, Block, Unblock, Cont, Back, Ready, Run, Take, Free, Step, Arise}

abbrev pub scans_by : Scan → ℕ → ℕ
scans_by More scans = scans + 1
scans_by Same scans = scans
scans_by Over scans = 0

-- at the end of an own event, and of the event of its up
abbrev pub stepped_by : Stepped → Life → Life
stepped_by x life = record life { freed = x.freed; scans = scans_by x.scan life.scans; inside = x.inside }

abbrev pub arisen_by : Bool → Life → Life
arisen_by inside life = record life { inside = inside }

-- the lock has got its ready record, or its run record of a thread
abbrev pub used_by : Option ThreadNo → Lock → Lock
used_by None = readied
used_by (Some t) = ran t

abbrev pub changed_by : Change → Life → Life
changed_by (Stop t) = stopped_with t
changed_by (Block t) = held_with t
changed_by (Unblock t) = with_hand (one_thread t)
changed_by Cont = with_cont true
changed_by (Back t) = back_with t
changed_by (Ready t) = made_ready t
changed_by (Run t) = with_first (ran t)
changed_by (Take lock) = with_lock lock
changed_by Free = without_lock
changed_by (Step x) = stepped_by x
changed_by (Arise inside) = arisen_by inside

-- the change gives a life a lock
abbrev pub adds_lock : Change → Bool
adds_lock (Take lock) = true
adds_lock _ = false

-- the life is in by the change
abbrev pub enters : Change → Bool
enters (Step x) = x.inside
enters (Arise inside) = inside
enters _ = false
