-- What a history tells of each thread that its state at the end does not: what it put out, and how it left its processor.
use Rattle.std.specs.Prelude.{ℕ, ◌+◌, ◌*◌, ◌==◌, ◌&&◌, Bool, true, false, if◌then◌else◌, List, [], ◌∷◌, ◌++◌, length, replicate, Option, Some, None, slice_index_or, slice_set}
use Rattle.sa_base.specs.declared.limits.TheConstants.{MAX_THREADS}
use Rattle.sa_base.specs.declared.number.SpaceNo.{SpaceNo}
use Rattle.sa_base.specs.declared.number.ThreadNo.{ThreadNo}
use Rattle.sa_base.specs.declared.record.Item.{Item}
use Rattle.sa_base.specs.declared.record.Record.{Record}
use Rattle.sa_base.specs.declared.record.Record.TheVariants.{Ins, Out, Stop, Block, Unblock}
use Rattle.toga_say.specs.declared.notes.Left.{Left}
use Rattle.toga_say.specs.declared.notes.Left.TheVariants.{Stopped, InIo, Faulted, Returned}

pub record NoteView : Type 0 where
  -- the values that it put out, in order
  pub outs : List ℕ
  pub left : Left

abbrev pub blank : NoteView
blank = record { outs = []; left = Stopped }

-- the place of a thread in a list of notes
abbrev pub place_of : SpaceNo → ThreadNo → ℕ
place_of s t = s.0 * MAX_THREADS + t.0

abbrev pub note_of : List NoteView → SpaceNo → ThreadNo → NoteView
note_of notes s t = slice_index_or notes (place_of s t) blank

-- the thread put a value out; it left its processor so
abbrev pub with_out : List NoteView → SpaceNo → ThreadNo → ℕ → List NoteView
with_out notes s t value = slice_set notes (place_of s t) (record (note_of notes s t) { outs = (note_of notes s t).outs ++ value ∷ [] })

abbrev pub with_left : List NoteView → SpaceNo → Option ThreadNo → Left → List NoteView
with_left notes s None left = notes
with_left notes s (Some t) left = slice_set notes (place_of s t) (record (note_of notes s t) { left = left })

-- a thread that blocks directly after its instruction is in the I/O of that; else it misses a page
abbrev pub is_ins_of : SpaceNo → ThreadNo → Option Record → Bool
is_ins_of s t (Some (Ins of u i)) = of.0 == s.0 && u.0 == t.0
is_ins_of s t _ = false

abbrev pub blocked_by : SpaceNo → Option ThreadNo → Option Record → Left
blocked_by s None last = Faulted
blocked_by s (Some t) last = if is_ins_of s t last then InIo else Faulted

-- after a record, which came after that one
abbrev pub noted : List NoteView → Option Record → Record → List NoteView
noted notes last (Out s t value) = with_out notes s t value
noted notes last (Stop s t act) = with_left notes s t Stopped
noted notes last (Block s t act io) = with_left notes s t (blocked_by s t last)
noted notes last (Unblock s t act) = with_left notes s t Returned
noted notes last _ = notes

-- after these items
abbrev pub notes_from : List NoteView → Option Record → List Item → List NoteView
notes_from notes last [] = notes
notes_from notes last (x ∷ xs) = notes_from (noted notes last x.what) (Some x.what) xs

-- the notes of a whole history of so many spaces
abbrev pub notes_of : ℕ → List Item → List NoteView
notes_of spaces items = notes_from (replicate (spaces * MAX_THREADS) blank) None items
