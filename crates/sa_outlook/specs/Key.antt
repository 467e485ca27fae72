-- What a search has to hold of a machine to know its outlook again, field by field: two machines of one workload with the same key have
-- one outlook.
use Rattle.std.specs.Prelude.{◌≡◌, ℕ, length, Option, None, is_some, slice_index_or}
use Rattle.sa_spaces.specs.Space.{SpaceView}
use Rattle.sa_kernel_model.specs.State.{taken_of}
use Rattle.sa_kernel_model.specs.Closing.{first_space}
use Rattle.sa_core_model.specs.Machine.{Machine}
use Rattle.sa_outlook.specs.Outlook.{until, beat, untold_notes, nameless_ios, look_in, see_at}

module _ {U C D : Type 0} (plain : Option SpaceView → C → D) where
  pub record SameKey (m n : Machine U C) : Type 0 where
    pub owners : m.kernel.assign.owners ≡ n.kernel.assign.owners
    pub aims : m.kernel.assign.aims ≡ n.kernel.assign.aims
    pub raised : (p : ℕ) → is_some (slice_index_or m.kernel.assign.lines p None) ≡ is_some (slice_index_or n.kernel.assign.lines p None)
    pub marks : m.kernel.assign.marks ≡ n.kernel.assign.marks
    pub contexts : (p : ℕ) → see_at plain m p ≡ see_at plain n p
    pub users : m.users ≡ n.users
    pub taken : (s : ℕ) → length (taken_of m.kernel s) ≡ length (taken_of n.kernel s)
    pub demands : m.kernel.demands ≡ n.kernel.demands
    pub untold : (s : ℕ) → untold_notes (look_in plain m.workload) m.kernel s ≡ untold_notes (look_in plain m.workload) n.kernel s
    pub pages : m.kernel.pages ≡ n.kernel.pages
    pub ios : nameless_ios (look_in plain m.workload) m.event m.kernel ≡ nameless_ios (look_in plain m.workload) n.event n.kernel
    pub first : first_space m.kernel m.event ≡ first_space n.kernel n.event
    pub beat : beat m.workload.slice m.event ≡ beat n.workload.slice n.event
    pub until : until m.event m.workload.evictions ≡ until n.event n.workload.evictions
