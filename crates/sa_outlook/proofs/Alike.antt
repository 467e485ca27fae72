-- Two machines are alike, field by field: whatever comes, they do the same, but for the numbers of activations, I/Os and events. Of
-- machines of runs that is equality of outlooks.
use Rattle.std.specs.Prelude.{◌≡◌, ℕ, List, length, Option, None, is_some, slice_index_or, sum_by}
use Rattle.sa_spaces.specs.Space.{SpaceView}
use Rattle.sa_kernel_model.specs.State.{KernelState, untold_of, taken_of}
use Rattle.sa_kernel_model.specs.Closing.{first_space}
use Rattle.sa_kernel_model.specs.Sound.{note_claim, io_claim}
use Rattle.sa_core_model.specs.Machine.{Machine}
use Rattle.sa_outlook.specs.Nameless.{NamelessNote, nameless_notes}
use Rattle.sa_outlook.specs.Outlook.{held_by, untold_notes, nameless_ios, until, beat, look_in, see_at}

module _ {C D : Type 0} (look : ℕ → C → D) where
  -- what the last upcall told space s
  abbrev pub told_notes : KernelState C → ℕ → List (NamelessNote D)
  told_notes k s = nameless_notes look s (held_by k) k.telling

  -- k at event e, and l at event g
  pub record AlikeKernels (e g : ℕ) (k l : KernelState C) : Type 0 where
    pub fixed : k.fixed ≡ l.fixed
    pub owners : k.assign.owners ≡ l.assign.owners
    pub aims : k.assign.aims ≡ l.assign.aims
    pub raised : (p : ℕ) → is_some (slice_index_or k.assign.lines p None) ≡ is_some (slice_index_or l.assign.lines p None)
    pub lines : length k.assign.lines ≡ length l.assign.lines
    pub marks : k.assign.marks ≡ l.assign.marks
    pub live : (p : ℕ) → is_some (slice_index_or k.lives p None) ≡ is_some (slice_index_or l.lives p None)
    pub lives : length k.lives ≡ length l.lives
    pub taken : (s : ℕ) → length (taken_of k s) ≡ length (taken_of l s)
    pub takers : length k.taken ≡ length l.taken
    pub demands : k.demands ≡ l.demands
    pub untold : (s : ℕ) → untold_notes look k s ≡ untold_notes look l s
    pub spaces : length k.untold ≡ length l.untold
    pub ios : nameless_ios look e k ≡ nameless_ios look g l
    pub pages : k.pages ≡ l.pages
    pub first : first_space k e ≡ first_space l g

-- no notice that was not told and no I/O is for activation a
pub record IsUnclaimed {C : Type 0} (k : KernelState C) (a : ℕ) : Type 0 where
  pub untold : (s : ℕ) → sum_by (note_claim a) (untold_of k s) ≡ 0
  pub ios : (s : ℕ) → sum_by (io_claim s a) k.under_way ≡ 0

module _ {U C D : Type 0} (plain : Option SpaceView → C → D) where
  pub record AlikeMachines (m n : Machine U C) : Type 0 where
    pub workload : m.workload ≡ n.workload
    pub kernel : AlikeKernels (look_in plain m.workload) m.event n.event m.kernel n.kernel
    pub users : m.users ≡ n.users
    pub contexts : (p : ℕ) → see_at plain m p ≡ see_at plain n p
    pub processors : length m.contexts ≡ length n.contexts
    pub until : until m.event m.workload.evictions ≡ until n.event n.workload.evictions
    pub beat : beat m.workload.slice m.event ≡ beat n.workload.slice n.event
