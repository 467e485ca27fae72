-- A source and a sink together, and what they tell.
use Rattle.std.specs.Prelude.{ℕ, List, Option}

-- what source and sink tell: what is left, what was taken, and how many reads and writes failed
pub record World : Type 0 where
  pub left : Option (List ℕ)
  pub taken : Option (List ℕ)
  pub reads : ℕ
  pub writes : ℕ

abbrev pub world : Option (List ℕ) → Option (List ℕ) → ℕ → ℕ → World
world left taken reads writes = record { left = left; taken = taken; reads = reads; writes = writes }

-- the source and the sink that a call is lent, as whole values
pub record Streams (S K : Type 0) : Type 0 where
  pub source : S
  pub sink : K

abbrev pub streams : {S K : Type 0} → S → K → Streams S K
streams source sink = record { source = source; sink = sink }

-- what they tell, where a source tells what is left and how many reads failed, and a sink what was taken and how many writes failed
abbrev pub world_by : {S K : Type 0} → (S → Option (List ℕ)) → (K → Option (List ℕ)) → (S → ℕ) → (K → ℕ) → Streams S K → World
world_by left taken reads writes both = world (left both.source) (taken both.sink) (reads both.source) (writes both.sink)
