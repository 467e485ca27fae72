-- What holds of the kernel as a value, whatever its callers do.
use Rattle.std.specs.Prelude.{◌≡◌, ℕ, zero, suc, ◌+◌, ◌<◌, ◌≤◌, ◌^◌, ◌↔◌, true, false, List, [], ◌∷◌, length, map, Option, Some, None, Contains}
use Rattle.std.specs.Int.{bit_at}
use Rattle.sa_base.specs.declared.number.ProcNo.{ProcNo}
use Rattle.sa_base.specs.declared.number.SpaceNo.{SpaceNo}
use Rattle.sa_base.specs.declared.number.ActNo.{ActNo}
use Rattle.sa_base.specs.declared.context.Stopped.{Stopped}
use Rattle.sa_base.specs.declared.record.Note.{Note}
use Rattle.sa_acts.specs.Table.{runs_in, held_of, space_of}
use Rattle.sa_kernel_model.specs.declared.entry.TheConstants.{ENTRY_ITEMS}
use Rattle.sa_kernel_model.specs.State.{KernelState, Scene, owner_of, line_of, life_of, untold_of, taken_of}
use Rattle.sa_kernel_model.specs.Closing.{calls_for, closed}
use Rattle.sa_kernel_model.specs.Entries.{next_note, held_for, after_fetch}
use Rattle.sa_kernel_model.specs.Sound.{HasSizes, IsSound, AreClaimed, IsPrompt, note_claim}
use Rattle.sa_kernel_model.specs.Seen.{low_of, IsLow, is_quiet}
use Rattle.sa_kernel_model.specs.Owed.{owed_items, pending_count}
use Rattle.sa_kernel_model.specs.Entering.{need_of}

module _ {C : Type 0} where
  -- an activation of the space runs on the processor
  pub record RunsOn (k : KernelState C) (p : ProcNo) (s : SpaceNo) : Type 0 where
    pub life : ActNo
    pub here : life_of k p ≡ Some life
    pub act : k.acts life.0 ≡ Some (runs_in s)

  -- the context of an activation of the space is held
  pub record IsHeldIn (k : KernelState C) (s a : ℕ) : Type 0 where
    pub context : Stopped C
    pub held : held_of (k.acts a) ≡ Some context
    pub space : (space_of (k.acts a)).0 ≡ s

  -- nothing is under way or due, and no space waits to be told of a context that was not idle
  pub record IsQuiet (k : KernelState C) : Type 0 where
    pub under_way : k.under_way ≡ []
    pub low : (p : ProcNo) → line_of k p ≡ None
    pub told : (s : SpaceNo) (note : Note) → Contains (untold_of k s.0) note → calls_for k note ≡ false

  -- what n calls of `next_note` answer, one after another
  abbrev pub answers : ℕ → KernelState C → List (Option (Note × Option (Stopped C)))
  answers zero k = []
  answers (suc n) k = next_note k ∷ answers n (after_fetch k.telling k)

  -- a told notice with the context that was saved when it was told
  abbrev pub answer_in : KernelState C → Note → Option (Note × Option (Stopped C))
  answer_in k note = Some (note, held_for k note)

module _ (C : Type 0) where
  -- where a space owns a processor, an activation of it runs there
  abbrev pub OwnersRun : Type 0
  OwnersRun = (k : KernelState C) → IsSound k → (p : ProcNo) (s : SpaceNo) → owner_of k p ≡ Some s → RunsOn k p s

  -- bit q of what a space sees of low lines says that it owns processor q, whose line is low
  abbrev pub LowBitsSayWhere : Type 0
  LowBitsSayWhere = (k : KernelState C) → HasSizes k → (s : SpaceNo) (q : ProcNo) → (bit_at (low_of k s) q.0 ≡ 1) ↔ IsLow k s q

  abbrev pub LowBitsAreFew : Type 0
  LowBitsAreFew = (k : KernelState C) → HasSizes k → (s : SpaceNo) → low_of k s < 2 ^ 16

  abbrev pub QuietSaysSo : Type 0
  QuietSaysSo = (k : KernelState C) → HasSizes k → (is_quiet k ≡ true) ↔ IsQuiet k

  -- a notice that still hands a context over is of the space that was told, and its context is held
  abbrev pub ToldContextsAreHeld : Type 0
  ToldContextsAreHeld = (k : KernelState C) (s a : ℕ) (note : Note) → AreClaimed k s → Contains k.telling note → note_claim a note ≡ 1 → IsHeldIn k s a

  -- as many calls of `next_note` as notices were told answer these in order, with the saved contexts
  abbrev pub NotesAreHandedOut : Type 0
  NotesAreHandedOut = (k : KernelState C) → IsSound k → answers (length k.telling) k ≡ map (answer_in k) k.telling

  -- after the closing of an event a notice waits only where its space owns no processor, or its upcall page is being
  -- fetched, or the line of one that it owns is raised
  abbrev pub NoticesWaitRightly : Type 0
  NoticesWaitRightly = (e : ℕ) (p : ProcNo) (x : Scene C) → HasSizes x.state → IsPrompt (closed e p x).state

  -- the room for one entry and for what is owed suffices for the next entry
  abbrev pub OwedIsEnough : Type 0
  OwedIsEnough = (k : KernelState C) → need_of k ≤ ENTRY_ITEMS + owed_items k

  -- what is taken of a space is on its way, and so is at most one for each event
  abbrev pub TakenIsPending : Type 0
  TakenIsPending = (k : KernelState C) (s : SpaceNo) → length (taken_of k s.0) ≤ pending_count k
