-- Notices as a contract sees them.
use Rattle.std.specs.Prelude.{ℕ, ◌≤◌, Bool, true, false, List, [], ◌∷◌, Option, Some, None, All}
use Rattle.sa_base.specs.declared.number.ProcNo.{ProcNo}
use Rattle.sa_base.specs.declared.record.Note.{Note}
use Rattle.sa_base.specs.declared.record.Note.TheVariants.{Add}
use Rattle.sa_batch.specs.Noted.{Noted}

pub record NoticesView : Type 0 where
  -- of each space: what it was not told yet, in order
  pub untold : List (List Note)
  -- what the last upcall told and its context has not fetched yet, in order
  pub telling : List Note
  -- for how many more notices there is room, whichever their spaces
  pub spare : ℕ

abbrev pub notes_of : Noted → List Note
notes_of b = b.notes

-- the notices of a batch, after that of an added processor, if there is one
abbrev pub behind_added : Option ProcNo → List Note → List Note
behind_added None notes = notes
behind_added (Some p) notes = Add p ∷ notes

-- each batch has room for n more
abbrev pub HaveRoom : ℕ → List Noted → Type 0
HaveRoom n batches = All (λ (b : Noted). n ≤ b.spare) batches

-- an upcall tells a space what it was not told, after the notice of its processor, if that was added
abbrev pub notes_told : Bool → ProcNo → List Note → List Note
notes_told true p notes = Add p ∷ notes
notes_told false p notes = notes

abbrev pub has_untold : List Note → Bool
has_untold [] = false
has_untold (note ∷ notes) = true
