-- Where the life of an activation number stands, in plain words: as the last record about the number says.
use Rattle.std.specs.Prelude.{◌≡◌, ◌≢◌, ◌↔◌, ◌==◌, true, if◌then◌else◌, is_some, List, Contains, Option, Some, None, unwrap_or}
use Rattle.std.specs.List.{list_any}
use Rattle.sa_base.specs.declared.number.ProcNo.{ProcNo}
use Rattle.sa_base.specs.declared.number.SpaceNo.{SpaceNo}
use Rattle.sa_base.specs.declared.number.ActNo.{ActNo}
use Rattle.sa_base.specs.declared.record.Note.TheVariants.{Preempted, Unblocked}
use Rattle.sa_base.specs.declared.record.Record.{Record}
use Rattle.sa_base.specs.declared.record.Record.TheVariants.{Stop, Block, Unblock, Up, Told, GiveBack}
use Rattle.sa_base.specs.declared.record.Item.{Item}
use Rattle.sa_laws.specs.Readings.{Readings, running_of, life_of, taken_of}
use Rattle.sa_laws.specs.Record.{is_io_of}
use Rattle.sa_promises.specs.Words.{last_said}

-- a number is in nobody's use; its life runs on a processor; it is blocked, its I/O under way; it was stopped, or came
-- back, and that is untold; it is taken, until it is given back
pub data Stand : Type 0 where
  Unused : Stand
  Running : ProcNo → Stand
  InBlock : Stand
  Stopped : Stand
  Returned : Stand
  Taken : Stand

abbrev pub stand_if : ActNo → ActNo → Stand → Option Stand
stand_if a b x = if b.0 == a.0 then Some x else None

abbrev pub stand_in : ActNo → ProcNo → Record → Option Stand
stand_in a p (Up s b) = stand_if a b (Running p)
stand_in a p (Stop s t b) = stand_if a b Stopped
stand_in a p (Block s t b io) = stand_if a b InBlock
stand_in a p (Unblock s t b) = stand_if a b Returned
stand_in a p (Told (Preempted b)) = stand_if a b Taken
stand_in a p (Told (Unblocked b)) = stand_if a b Taken
stand_in a p (GiveBack b) = stand_if a b Unused
stand_in a p _ = None

abbrev pub stand_said : ActNo → Item → Option Stand
stand_said a x = stand_in a x.proc x.what

abbrev pub stand_of : List Item → ActNo → Stand
stand_of items a = unwrap_or (last_said (stand_said a) items) Unused

-- the readings say of lives what the words say
pub record LivesAreRead (items : List Item) (r : Readings) : Type 0 where
  pub used : (a : ActNo) → is_some (life_of r a) ≡ true ↔ (stand_of items a ≢ Unused)
  pub running : (p : ProcNo) (a : ActNo) → running_of r p ≡ Some a ↔ (stand_of items a ≡ Running p)
  pub blocked : (a : ActNo) → list_any (is_io_of a) r.under_way ≡ true ↔ (stand_of items a ≡ InBlock)
  pub taken : (s : SpaceNo) (a : ActNo) → Contains (taken_of r s) a → stand_of items a ≡ Taken
