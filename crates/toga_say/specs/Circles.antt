-- The circles of threads that wait for one another.
use Rattle.std.specs.Prelude.{ℕ, ◌++◌, List, [], ◌∷◌, codes, Option, Some, None}
use Rattle.std.specs.List.{flat_map}
use Rattle.sa_base.specs.declared.number.SpaceNo.{SpaceNo}
use Rattle.sa_waits.specs.declared.wait.Wait.{Wait}
use Rattle.sa_circles.specs.Circles.{circle_of}
use Rattle.toga_source.specs.Names.{NamesView}
use Rattle.toga_say.specs.Scene.{SceneView, of_space}
use Rattle.toga_say.specs.Names.{thread_name}

-- each thread, from one on, waits for the next, and the last for the first of all
abbrev pub named : SceneView → NamesView → SpaceNo → ℕ → List ℕ
named scene own s t = thread_name scene own s (record { 0 = t })

unfoldable pub waits_for : SceneView → NamesView → SpaceNo → (t u : ℕ) → List ℕ
waits_for scene own s t u = named scene own s t ++ codes " waits for " ++ named scene own s u

abbrev pub chain_text : SceneView → NamesView → SpaceNo → (home t : ℕ) → List ℕ → List ℕ
chain_text scene own s home t [] = waits_for scene own s t home
chain_text scene own s home t (u ∷ us) = waits_for scene own s t u ++ codes ", " ++ chain_text scene own s home u us

-- a circle from its least thread on, with the others in it
abbrev pub cycle_text : SceneView → SpaceNo → (home : ℕ) → List ℕ → NamesView → List ℕ
cycle_text scene s home rest own = codes "A cycle: " ++ chain_text scene own s home home rest ++ codes ".\n"

abbrev pub circle_text : SceneView → SpaceNo → (home : ℕ) → List ℕ → NamesView → List ℕ
circle_text scene s home [] own = named scene own s home ++ codes " waits for itself.\n"
circle_text scene s home (u ∷ us) own = cycle_text scene s home (u ∷ us) own

abbrev pub circle_if : SceneView → Wait → Option (List ℕ) → List ℕ
circle_if scene wait None = []
circle_if scene wait (Some rest) = of_space scene wait.space (circle_text scene wait.space wait.thread.0 rest)

abbrev pub circle_said : SceneView → List Wait → Wait → List ℕ
circle_said scene waits wait = circle_if scene wait (circle_of waits wait)

abbrev pub circles_text : SceneView → List Wait → List ℕ
circles_text scene waits = flat_map (circle_said scene waits) waits
