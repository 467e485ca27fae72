-- The key of a machine: the bytes of its outlook.
use Rattle.std.specs.Prelude.{ℕ, false, List, ◌++◌, length, None, slice_index, slice_index_or}
use Rattle.std.specs.List.{flat_map, range_with_len}
use Rattle.sa_base.specs.declared.limits.TheConstants.{MAX_SPACES}
use Rattle.sa_outlook.specs.Nameless.{PlainStopped, NamelessNote, NamelessKind, NamelessIo}
use Rattle.sa_outlook.specs.Outlook.{Outlook}
use Rattle.sa_package_keys.specs.Codes.{number, flag, number_or_none, thread_key, space_no_key, optional, list}

-- `ctx` is the code of what matters of a context
module _ {D : Type 0} (ctx : D → List ℕ) where
  abbrev pub stopped_key : PlainStopped D → List ℕ
  stopped_key held = ctx held.ctx ++ thread_key held.thread ++ flag held.idle

  abbrev pub note_key : NamelessNote D → List ℕ
  note_key (NamelessNote.added p) = number 0 ++ number p.0
  note_key (NamelessNote.preempted held) = number 1 ++ optional stopped_key held
  note_key NamelessNote.blocked = number 2
  note_key (NamelessNote.unblocked held) = number 3 ++ optional stopped_key held

  abbrev pub kind_key : NamelessKind D → List ℕ
  kind_key (NamelessKind.plain s held) = number 0 ++ number s.0 ++ optional stopped_key held
  kind_key (NamelessKind.page s held page) = number 1 ++ number s.0 ++ optional stopped_key held ++ number page
  kind_key (NamelessKind.upcall s) = number 2 ++ number s.0

  abbrev pub io_key : NamelessIo D → List ℕ
  io_key io = number io.left ++ kind_key io.kind

  -- what is known of a processor, and of a space
  abbrev pub processor_key : {U : Type 0} → Outlook U D → ℕ → List ℕ
  processor_key o p =
      space_no_key (slice_index_or o.owners p None)
      ++ space_no_key (slice_index_or o.aims p None)
      ++ flag (o.raised p)
      ++ flag (slice_index_or o.marks p false)
      ++ optional ctx (o.contexts p)

  abbrev pub space_key : {U : Type 0} → Outlook U D → ℕ → List ℕ
  space_key o s = number (slice_index o.demands s) ++ number (slice_index o.pages s) ++ list note_key (o.untold s)

abbrev pub taken_key : {U D : Type 0} → Outlook U D → ℕ → List ℕ
taken_key o s = number (o.taken s)

-- `user` is the code of a user level's value
module _ {U D : Type 0} (user : U → List ℕ) (ctx : D → List ℕ) where
  -- all of them, in the order of their numbers; then the I/Os, and the time
  abbrev pub key_of : Outlook U D → List ℕ
  key_of o =
      flat_map (processor_key ctx o) (range_with_len 0 (length o.owners))
      ++ flat_map user o.users
      ++ flat_map (space_key ctx o) (range_with_len 0 (length o.demands))
      ++ flat_map (taken_key o) (range_with_len 0 MAX_SPACES)
      ++ list (io_key ctx) o.ios
      ++ number o.first
      ++ number o.beat
      ++ number_or_none o.until
