-- The states that have an end, by their results, which bytes say.
use Rattle.std.specs.Prelude.{ℕ, List, map, position, Option}
use Rattle.std.specs.Str.{bytes_eq}
use Rattle.sa_explore_model.specs.Results.{Grouped}
use Rattle.sa_states.specs.declared.groups.Group.{Group}

abbrev pub group_of : Group → Grouped
group_of g = record { key = g.key.items; first = g.first; states = g.states }

abbrev pub groups_of : List Group → List Grouped
groups_of groups = map group_of groups

-- the place of the group with these bytes
abbrev pub place_of : List ℕ → List Group → Option ℕ
place_of key groups = position (λ (g : Group). bytes_eq g.key.items key) groups
