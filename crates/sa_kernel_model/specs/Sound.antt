-- What always holds of a state.
use Rattle.std.specs.Prelude.{◌≡◌, ℕ, ◌+◌, ◌≤◌, ◌<◌, ◌==◌, ◌&&◌, true, false, if◌then◌else◌, List, [], length, sum_by, Option, Some, None, is_some, IsSome, All, Contains, slice_index_or}
use Rattle.sa_base.specs.declared.number.ProcNo.{ProcNo}
use Rattle.sa_base.specs.declared.number.SpaceNo.{SpaceNo}
use Rattle.sa_base.specs.declared.number.ActNo.{ActNo}
use Rattle.sa_base.specs.declared.record.Note.{Note}
use Rattle.sa_base.specs.declared.record.Note.TheVariants.{Add, Preempted, Blocked, Unblocked}
use Rattle.sa_base.specs.declared.limits.TheConstants.{MAX_PROCESSORS, MAX_SPACES}
use Rattle.sa_acts.specs.declared.acts.Act.{Act}
use Rattle.sa_acts.specs.Table.{runs_in}
use Rattle.sa_assign.specs.AssignView.{AssignView}
use Rattle.sa_devices.specs.declared.kind.IoKind.{IoKind}
use Rattle.sa_devices.specs.declared.kind.IoKind.TheVariants.{Plain, Page, Upcall}
use Rattle.sa_devices.specs.Ios.{Io}
use Rattle.sa_devices.specs.Pages.{IsKind}
use Rattle.sa_kernel_model.specs.State.{KernelState, owner_of, line_of, life_of, untold_of, is_fetching}
use Rattle.sa_batch.specs.Notices.{has_untold}

-- what is there are spaces of the workload
abbrev pub AreSpaces : ℕ → List (Option SpaceNo) → Type 0
AreSpaces spaces cells = (p : ℕ) (s : SpaceNo) → slice_index_or cells p None ≡ Some s → s.0 < spaces

-- each I/O is for a space of the workload
abbrev pub AreIos : ℕ → List Io → Type 0
AreIos spaces ios = All (λ (io : Io). IsKind spaces io.kind) ios

-- of a processor: the space that owns it, its aim, its line, and what runs there
pub record IsPlaced (owner aim : Option SpaceNo) (line : Option ℕ) (life : Option ActNo) : Type 0 where
  -- an activation runs where a space owns the processor
  pub runs : IsSome owner → IsSome life
  -- a raised line has an aim
  pub aimed : IsSome line → IsSome aim
  -- where the line is low, the aim is reached
  pub settled : line ≡ None → aim ≡ owner

-- each processor is so
abbrev pub ArePlaced : AssignView → List (Option ActNo) → Type 0
ArePlaced assign lives =
    (p : ℕ) → IsPlaced (slice_index_or assign.owners p None) (slice_index_or assign.aims p None) (slice_index_or assign.lines p None)
    (slice_index_or lives p None)

-- a notice hands over the context of activation a, once or not
abbrev pub note_claim : ℕ → Note → ℕ
note_claim a (Add p) = 0
note_claim a (Preempted b) = if a == b.0 then 1 else 0
note_claim a (Blocked b) = 0
note_claim a (Unblocked b) = if a == b.0 then 1 else 0

-- an I/O of space s is for the context of activation a, once or not
abbrev pub kind_claim : ℕ → ℕ → IoKind → ℕ
kind_claim s a (Plain t b) = if s == t.0 && a == b.0 then 1 else 0
kind_claim s a (Page t b k) = if s == t.0 && a == b.0 then 1 else 0
kind_claim s a (Upcall t) = 0

abbrev pub io_claim : ℕ → ℕ → Io → ℕ
io_claim s a io = kind_claim s a io.kind

module _ {C : Type 0} where
  -- how many claims of space s there are on the context of activation a, where the last upcall told space `told_to`: I/Os
  -- under way, notices that were not told, and told ones that were not fetched
  abbrev pub claims_on : KernelState C → ℕ → ℕ → ℕ → ℕ
  claims_on k told_to s a =
      sum_by (io_claim s a) k.under_way + sum_by (note_claim a) (untold_of k s) + (if s == told_to then sum_by (note_claim a) k.telling else 0)

  -- a context is held of an activation of space s, once or not
  abbrev pub held_in : ℕ → Option (Act C) → ℕ
  held_in s None = 0
  held_in s (Some x) = if s == x.space.0 && is_some x.held then 1 else 0

  -- each context that is held has one claim on it, of its own space, and no other has any
  abbrev pub AreClaimed : KernelState C → ℕ → Type 0
  AreClaimed k told_to = (s a : ℕ) → claims_on k told_to s a ≡ held_in s (k.acts a)

  -- so no context is lost or handed over twice; the last upcall told this space
  pub record IsClaimed (k : KernelState C) : Type 0 where
    pub told_to : ℕ
    pub once : AreClaimed k told_to

  -- each list has one entry for each processor, or for each space, and there are few of both
  pub record HasSizes (k : KernelState C) : Type 0 where
    pub some_processor : 1 ≤ length k.lives
    pub few_processors : length k.lives ≤ MAX_PROCESSORS
    pub owners : length k.assign.owners ≡ length k.lives
    pub aims : length k.assign.aims ≡ length k.lives
    pub lines : length k.assign.lines ≡ length k.lives
    pub marks : length k.assign.marks ≡ length k.lives
    pub some_space : 1 ≤ length k.demands
    pub few_spaces : length k.demands ≤ MAX_SPACES
    pub untold : length k.untold ≡ length k.demands
    pub pages : length k.pages ≡ length k.demands
    pub priorities : length k.fixed.priorities ≡ length k.demands
    pub taken : length k.taken ≡ MAX_SPACES

  -- the activation was taken, and is of this space
  pub record IsTaken (s : ℕ) (act : Option (Act C)) : Type 0 where
    pub here : Act C
    pub is : act ≡ Some here
    pub taken : here.taken ≡ true
    pub none_held : here.held ≡ None
    pub space : here.space.0 ≡ s

  -- the activation of a processor runs there in the space that owns it
  pub record RunsIn (owners : List (Option SpaceNo)) (acts : ℕ → Option (Act C)) (p : ℕ) (a : ActNo) : Type 0 where
    pub space : SpaceNo
    pub owner : slice_index_or owners p None ≡ Some space
    pub act : acts a.0 ≡ Some (runs_in space)

  -- what runs on a processor is an activation of its owner, which runs nowhere else
  pub record AreAlive (owners : List (Option SpaceNo)) (lives : List (Option ActNo)) (acts : ℕ → Option (Act C)) : Type 0 where
    pub run : (p : ℕ) (a : ActNo) → slice_index_or lives p None ≡ Some a → RunsIn owners acts p a
    pub apart : (p q : ℕ) (a : ActNo) → slice_index_or lives p None ≡ Some a → slice_index_or lives q None ≡ Some a → p ≡ q

  -- what is listed as taken was taken
  abbrev pub AreTaken : List (List ActNo) → (ℕ → Option (Act C)) → Type 0
  AreTaken taken acts = (s : ℕ) (a : ActNo) → Contains (slice_index_or taken s []) a → IsTaken s (acts a.0)

  -- who runs where, and what was taken: spaces and numbers are in range and apart
  pub record IsFormed (k : KernelState C) : Type 0 where
    pub sizes : HasSizes k
    pub owners : AreSpaces (length k.demands) k.assign.owners
    pub aims : AreSpaces (length k.demands) k.assign.aims
    pub ios : AreIos (length k.demands) k.under_way
    pub lives : AreAlive k.assign.owners k.lives k.acts
    pub taken : AreTaken k.taken k.acts

  -- the space owns a processor whose line is raised
  pub record HasRaised (k : KernelState C) (s : SpaceNo) : Type 0 where
    pub proc : ProcNo
    pub owner : owner_of k proc ≡ Some s
    pub raised : IsSome (line_of k proc)

  -- a notice waits only where its space owns no processor, or its upcall page is being fetched, or the line of one that it owns is raised
  abbrev pub IsPrompt : KernelState C → Type 0
  IsPrompt k = (s : SpaceNo) → has_untold (untold_of k s.0) ≡ true → is_fetching k s.0 ≡ false → (p : ProcNo) → owner_of k p ≡ Some s → HasRaised k s

  -- what always holds: nothing is lost
  pub record IsSound (k : KernelState C) : Type 0 where
    pub formed : IsFormed k
    pub placed : ArePlaced k.assign k.lives
    pub claimed : IsClaimed k

  -- an upcall was made: the activation runs on the processor in the space that owns it, and what it tells is of that space
  pub record IsUpcalled (k : KernelState C) (p : ProcNo) (a : ActNo) : Type 0 where
    pub space : SpaceNo
    pub owner : owner_of k p ≡ Some space
    pub life : life_of k p ≡ Some a
    pub act : k.acts a.0 ≡ Some (runs_in space)
    pub told : AreClaimed k space.0
