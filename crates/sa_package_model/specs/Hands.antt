-- Who has what. Each lock, each thread and each work list is at rest, or in the hand of one context.
use Rattle.std.specs.Prelude.{◌≡◌, ℕ, ◌+◌, ◌≤◌, if◌then◌else◌, List, [], ◌∷◌, Option, Some, None}
use Rattle.sa_links.specs.Lists.{count_in}
use Rattle.sa_lists.specs.ReadyView.{ReadyView, is_locked}
use Rattle.sa_code.specs.declared.state.Frame.{Frame}
use Rattle.sa_code.specs.Micro.{list_in}
use Rattle.sa_fast.specs.Work.{work_of}
use Rattle.sa_fast.specs.Rest.{one_if, one_of}
use Rattle.sa_package_model.specs.declared.context.Context.{Context}
use Rattle.sa_package_model.specs.Context.{carried_by, section_in, before_all}
use Rattle.sa_package_model.specs.Rules.{thread_alone}

-- of things that are numbered, how often each is at rest, and in the hand of each activation's context
pub record AreInOnePlace (rest : ℕ → ℕ) (hands : ℕ → ℕ → ℕ) : Type 0 where
  pub once : (a t : ℕ) → rest t + hands a t ≤ 1
  pub apart : (a b t : ℕ) → 1 ≤ hands a t → 1 ≤ hands b t → a ≡ b
  -- nothing is lost
  pub somewhere : (t : ℕ) → rest t ≡ 0 → (a : ℕ) × (1 ≤ hands a t)

-- the sections of a context: the one in which it is, or in whose copy, and those that it has to continue
abbrev pub sections_of : Context → List Frame
sections_of c = before_all (section_in c.state) c.sections

-- LOCKS: each section has that of its list
abbrev pub locks_in : List Frame → ℕ → ℕ
locks_in [] l = 0
locks_in (f ∷ fs) l = one_if (list_in f).0 l + locks_in fs l

abbrev pub locks_of : Option Context → ℕ → ℕ
locks_of None l = 0
locks_of (Some c) l = locks_in (sections_of c) l

abbrev pub free_locks : ReadyView → ℕ → ℕ
free_locks r l = if is_locked r l then 0 else 1

-- THREADS: a section has the one that it carries and the one that it pushes
abbrev pub threads_in : List Frame → ℕ → ℕ
threads_in [] t = 0
threads_in (f ∷ fs) t = one_of f.thread t + one_of f.pushed t + threads_in fs t

-- a context has those of its sections, the one that it carries elsewhere, and those of its work list
abbrev pub threads_of : List (List ℕ) → Option Context → ℕ → ℕ
threads_of works None t = 0
threads_of works (Some c) t =
    threads_in (sections_of c) t + one_of (thread_alone (section_in c.state) (carried_by c.state)) t
    + count_in t (work_of works c.work)

-- WORK LISTS: a context has the one that it names
abbrev pub name_of : Option Context → ℕ → ℕ
name_of None l = 0
name_of (Some c) l = one_of c.work l

-- CARRIED is the thread that a context has with it
abbrev pub carried_of : Option Context → ℕ → ℕ
carried_of None t = 0
carried_of (Some c) t = one_of (carried_by c.state) t
