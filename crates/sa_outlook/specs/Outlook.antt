-- The outlook of a machine: what decides how it goes on, and no more. No number of an activation, an I/O or an event is in it, but for
-- the event while an eviction is to come.
use Rattle.std.specs.Prelude.{ℕ, ◌%◌, ◌==◌, nat_lt, Bool, if◌then◌else◌, List, length, map, Option, Some, None, is_some, slice_get, slice_index_or}
use Rattle.std.specs.List.{list_any}
use Rattle.sa_base.specs.declared.number.SpaceNo.{SpaceNo}
use Rattle.sa_spaces.specs.Space.{SpaceView}
use Rattle.sa_spaces.specs.declared.workload.Evict.{Evict}
use Rattle.sa_spaces.specs.Workload.{WorkloadView}
use Rattle.sa_acts.specs.Table.{held_of}
use Rattle.sa_kernel_model.specs.State.{KernelState, untold_of, taken_of}
use Rattle.sa_kernel_model.specs.Closing.{first_space}
use Rattle.sa_core_model.specs.Machine.{Machine}
use Rattle.sa_outlook.specs.Nameless.{NamelessNote, NamelessIo, Held, nameless_notes, nameless_io}
use Rattle.sa_outlook.specs.DueOrder.{in_order}

-- TIME. The event, while an eviction is to come.
abbrev pub is_to_come : ℕ → List Evict → Bool
is_to_come e evictions = list_any (λ (x : Evict). nat_lt e x.event) evictions

abbrev pub until : ℕ → List Evict → Option ℕ
until e evictions = if is_to_come e evictions then Some e else None

-- how far the slice has gone
abbrev pub beat : ℕ → ℕ → ℕ
beat slice e = if slice == 0 then 0 else e % slice

-- THE KERNEL. What is held of each activation, what space s was not told, and the I/Os under way at event e.
abbrev pub held_by : {C : Type 0} → KernelState C → Held C
held_by k n = held_of (k.acts n)

module _ {C D : Type 0} (look : ℕ → C → D) where
  abbrev pub untold_notes : KernelState C → ℕ → List (NamelessNote D)
  untold_notes k s = nameless_notes look s (held_by k) (untold_of k s)

  abbrev pub nameless_ios : ℕ → KernelState C → List (NamelessIo D)
  nameless_ios e k = map (nameless_io look e (held_by k)) (in_order k.under_way)

-- CONTEXTS. What matters of one of space s, and of the one that runs on a processor of this owner.
module _ {C D : Type 0} (plain : Option SpaceView → C → D) where
  abbrev pub look_in : WorkloadView → ℕ → C → D
  look_in w s c = plain (slice_get w.spaces s) c

  abbrev pub see : WorkloadView → Option SpaceNo → Option C → Option D
  see w None c = None
  see w (Some s) None = None
  see w (Some s) (Some c) = Some (look_in w s.0 c)

  abbrev pub see_at : {U : Type 0} → Machine U C → ℕ → Option D
  see_at m p = see m.workload (slice_index_or m.kernel.assign.owners p None) (slice_index_or m.contexts p None)

pub record Outlook (U D : Type 0) : Type 0 where
  pub workload : WorkloadView
  -- of each processor: its owner, its aim, whether its line is raised, its idle mark, and the context that runs there
  pub owners : List (Option SpaceNo)
  pub aims : List (Option SpaceNo)
  pub raised : ℕ → Bool
  pub marks : List Bool
  pub contexts : ℕ → Option D
  -- of each space: its user level's value, how many activations are taken, its demand, what it was not told, its pages
  pub users : List U
  pub taken : ℕ → ℕ
  pub demands : List ℕ
  pub untold : ℕ → List (NamelessNote D)
  pub pages : List ℕ
  -- I/Os in the order in which they are due
  pub ios : List (NamelessIo D)
  -- the space that is served first, how far the slice has gone, and the event while an eviction is to come
  pub first : ℕ
  pub beat : ℕ
  pub until : Option ℕ

module _ {U C D : Type 0} (plain : Option SpaceView → C → D) where
  abbrev pub outlook : Machine U C → Outlook U D
  outlook m = record {
    workload = m.workload;
    owners = m.kernel.assign.owners;
    aims = m.kernel.assign.aims;
    raised = λ p. is_some (slice_index_or m.kernel.assign.lines p None);
    marks = m.kernel.assign.marks;
    contexts = see_at plain m;
    users = m.users;
    taken = λ s. length (taken_of m.kernel s);
    demands = m.kernel.demands;
    untold = untold_notes (look_in plain m.workload) m.kernel;
    pages = m.kernel.pages;
    ios = nameless_ios (look_in plain m.workload) m.event m.kernel;
    first = first_space m.kernel m.event;
    beat = beat m.workload.slice m.event;
    until = until m.event m.workload.evictions;
  }
