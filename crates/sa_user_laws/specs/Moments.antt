-- What is true of each moment of a history, and when two moments are the same for a space.
use Rattle.std.specs.Prelude.{◌≡◌, ◌↔◌, ℕ, ◌==◌, false, if◌then◌else◌, length, Option, Some, None, IsSome, slice_index}
use Rattle.std.specs.Int.{bit_at}
use Rattle.std.specs.Option.{option_map}
use Rattle.sa_base.specs.declared.number.ProcNo.{ProcNo}
use Rattle.sa_base.specs.declared.number.SpaceNo.{SpaceNo}
use Rattle.sa_base.specs.declared.number.ThreadNo.{ThreadNo}
use Rattle.sa_base.specs.declared.number.ActNo.{ActNo}
use Rattle.sa_base.specs.declared.context.Seen.{Seen}
use Rattle.sa_spaces.specs.Workload.{WorkloadView}
use Rattle.sa_laws.specs.declared.place.Place.TheVariants.{Running}
use Rattle.sa_laws.specs.Life.{Life}
use Rattle.sa_laws.specs.State.{space_at, thread_at}
use Rattle.sa_laws.specs.Readings.{Readings, owner_of, line_of, running_of, life_of, demand_of, taken_of, untold_of, ready_of}

-- Who runs where. A running life is one of the space that owns its processor, and runs on no other. A thread runs only
-- on a processor of its space, and no other thread of the space runs there.
pub record IsMoment (r : Readings) : Type 0 where
  pub lives : (p : ProcNo) (a : ActNo) → running_of r p ≡ Some a
      → (life : Life) × (life_of r a ≡ Some life) × (life.proc ≡ p) × (owner_of r p ≡ Some life.space)
  pub apart : (p q : ProcNo) (a : ActNo) → running_of r p ≡ Some a → running_of r q ≡ Some a → p ≡ q
  pub owned : (p : ProcNo) (s : SpaceNo) (t : ThreadNo) → (thread_at r.state s t).place ≡ Running p → owner_of r p ≡ Some s
  pub alone : (p : ProcNo) (s : SpaceNo) (t u : ThreadNo)
      → (thread_at r.state s t).place ≡ Running p → (thread_at r.state s u).place ≡ Running p → t ≡ u

-- Each list of the readings has one entry for each space, or for each processor.
pub record AreSized (w : WorkloadView) (r : Readings) : Type 0 where
  pub spaces : length r.state.spaces ≡ length w.spaces
  pub ready : length r.ready ≡ length w.spaces
  pub untold : length r.untold ≡ length w.spaces
  pub taken : length r.taken ≡ length w.spaces
  pub demands : length r.demands ≡ length w.spaces
  pub pages : length r.pages ≡ length w.spaces
  pub running : length r.running ≡ w.processors
  pub lines : length r.lines ≡ w.processors

-- a life where it is one of this space; the activation that runs where its life is one of this space
abbrev pub life_in : SpaceNo → Option Life → Option Life
life_in s None = None
life_in s (Some life) = if life.space.0 == s.0 then Some life else None

abbrev pub runs_in : SpaceNo → (ℕ → Option Life) → Option ActNo → Option ActNo
runs_in s lives None = None
runs_in s lives (Some a) = option_map (λ life. a) (life_in s (lives a.0))

-- the line of a processor stays raised, if it was
abbrev pub StaysRaised : Readings → Readings → ProcNo → Type 0
StaysRaised m n p = IsSome (line_of m p) → IsSome (line_of n p)

-- From one moment to the other nothing of this space changes, but perhaps its demand, its pages, its aims and its
-- inputs and outputs; and no line is lowered on a processor where a life of it runs.
pub record SameFor (s : SpaceNo) (m n : Readings) : Type 0 where
  pub space : space_at n.state s ≡ space_at m.state s
  pub lives : (a : ℕ) → life_in s (n.lives a) ≡ life_in s (m.lives a)
  pub running : (p : ProcNo) → runs_in s n.lives (running_of n p) ≡ runs_in s m.lives (running_of m p)
  pub taken : taken_of n s ≡ taken_of m s
  pub untold : untold_of n s ≡ untold_of m s
  pub ready : ready_of n s ≡ ready_of m s
  pub lines : (p : ProcNo) → IsSome (runs_in s m.lives (running_of m p)) → StaysRaised m n p

-- From one moment to the other nothing changes but what the kernel alone does, as in a closing: aims, marks, inputs and
-- outputs, pages, perhaps demands; and lines are only raised.
pub record AlikeButDemands (m n : Readings) : Type 0 where
  pub state : n.state ≡ m.state
  pub lives : n.lives ≡ m.lives
  pub running : n.running ≡ m.running
  pub taken : n.taken ≡ m.taken
  pub untold : n.untold ≡ m.untold
  pub ready : n.ready ≡ m.ready
  pub lines : (p : ProcNo) → StaysRaised m n p

pub record Alike (m n : Readings) : Type 0 where
  pub kernel : AlikeButDemands m n
  pub demands : n.demands ≡ m.demands

-- a life without what the end of its last own event says of it
abbrev pub unended : Option Life → Option Life
unended None = None
unended (Some life) = Some (record life { inside = false; freed = false; scans = 0 })

-- The moments differ in nothing but the ends of own events of lives.
pub record AlikeButEnds (m n : Readings) : Type 0 where
  pub lives : (a : ℕ) → unended (n.lives a) ≡ unended (m.lives a)
  pub is : n ≡ record m { lives = n.lives }

-- A life of the space runs on the processor.
pub record HasLifeOn (s : SpaceNo) (r : Readings) (p : ProcNo) : Type 0 where
  pub act : ActNo
  pub life : Life
  pub runs : running_of r p ≡ Some act
  pub is : life_of r act ≡ Some life
  pub space : life.space ≡ s

-- What a space sees on a processor in an event is what is read. It sees the lines of its own processors alone, and on
-- each of these a life of its own runs: so a space that keeps which thread each of its running lives carries knows which
-- of its threads runs on each of its processors.
pub record Sees (s : SpaceNo) (r : Readings) (p : ProcNo) (e : ℕ) (seen : Seen) : Type 0 where
  pub proc : seen.proc ≡ p
  pub event : seen.event ≡ e
  pub demand : seen.demand ≡ demand_of r s
  pub pages : seen.pages ≡ slice_index r.pages s.0
  pub taken : seen.taken ≡ length (taken_of r s)
  pub low : (q : ProcNo) → (bit_at seen.low q.0 ≡ 1) ↔ ((owner_of r q ≡ Some s) × (line_of r q ≡ None))
  pub lives : (q : ProcNo) → owner_of r q ≡ Some s → HasLifeOn s r q

-- A thread of the space runs where a life of it does, and no other thread of it runs there; and a running life of the
-- space has the processor on which it runs.
pub record ThreadsRun (s : SpaceNo) (r : Readings) : Type 0 where
  pub owned : (p : ProcNo) (t : ThreadNo) → (thread_at r.state s t).place ≡ Running p → IsSome (runs_in s r.lives (running_of r p))
  pub alone : (p : ProcNo) (t u : ThreadNo)
      → (thread_at r.state s t).place ≡ Running p → (thread_at r.state s u).place ≡ Running p → t ≡ u
  pub proc : (p : ProcNo) (a : ActNo) (life : Life)
      → running_of r p ≡ Some a → life_of r a ≡ Some life → life.space ≡ s → life.proc ≡ p
