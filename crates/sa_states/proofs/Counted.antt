-- The group with some bytes among those counted so far.
use Rattle.std.proofs.Common.{◌≡◌, ℕ, zero, suc, Some, None, List, [], ◌∷◌, slice_get, refl, ap, ◌∙◌}
use Rattle.std.proofs.lemmas.Option.{same_Some}
use Rattle.std.specs.Str.{bytes_eq}
use Rattle.std.specs.Cmp.Lexicographic.{bytes_decides}
use Rattle.sa_explore_model.specs.Results.{Grouped}
use Rattle.sa_states.specs.declared.groups.Group.{Group}
use Rattle.sa_states.specs.Groups.{group_of, groups_of, place_of}
use Rattle.sa_states.proofs.Firsts.{none-passes}

-- a group as it is kept
pub kept-group : (groups : List Group) (i : ℕ) (g : Grouped) → slice_get (groups_of groups) i ≡ Some g
    → (x : Group) × (slice_get groups i ≡ Some x) × (group_of x ≡ g)
kept-group [] i g is = absurd cc
kept-group (x ∷ xs) zero g is = (x, refl, same_Some (group_of x) g is)
kept-group (x ∷ xs) (suc i) g is = kept-group xs i g is

pub none-there : (key : List ℕ) (groups : List Group) → place_of key groups ≡ None
    → (i : ℕ) (g : Grouped) → slice_get (groups_of groups) i ≡ Some g → g.key ≡ key → ⊥
none-there key groups none i g is same =
    let x = kept-group groups i g is in
    none-passes (λ (y : Group). bytes_eq y.key.items key) groups none i x.0 x.1
    ((bytes_decides x.0.key.items key).1 (ap (λ (y : Grouped). y.key) x.2 ∙ same))
