-- Idle marks.
use Rattle.std.specs.Prelude.{ℕ, ◌==◌, nat_lt, Bool, false, if◌then◌else◌, List, Option, Some, None}
use Rattle.sa_base.specs.declared.number.ProcNo.{ProcNo}
use Rattle.sa_base.specs.declared.record.Record.{Record}
use Rattle.sa_base.specs.declared.record.Record.TheVariants.{Up, Want}
use Rattle.sa_base.specs.declared.record.Item.{Item}
use Rattle.sa_promises.specs.Words.{last_want}
use Rattle.sa_promises.specs.Along.{last_seen}
use Rattle.sa_promises.specs.Moments.{is_first}

-- A hint is a want that is the first record of its event; it is a lowering one where it wants less than the last want of
-- its space. A processor is marked idle from a lowering hint there until its next up or raising hint.
abbrev pub mark_in : ℕ → List Item → Record → Option Bool
mark_in event past (Up s a) = Some false
mark_in event past (Want s n) = if is_first event past then Some (nat_lt n (last_want past s)) else None
mark_in event past _ = None

abbrev pub mark_said : ProcNo → List Item → Item → Option Bool
mark_said p past x = if x.proc.0 == p.0 then mark_in x.event past x.what else None

abbrev pub is_marked : List Item → ProcNo → Bool
is_marked items p = last_seen (mark_said p) false items
