-- How many spaces have something left to do.
use Rattle.std.proofs.Common.{◌≡◌, ℕ, ◌≤◌, Bool, false, not, cond, eqb, List, [], ◌∷◌, length, map, refl, sym, ap, ◌∙◌, arith, ◌<◌, ◌+◌, ◌++◌, take, get_or}
use Rattle.std.specs.List.{list_all, count_by}
use Rattle.std.proofs.Math.Path.{fun_ext}
use Rattle.std.proofs.lemmas.List.{length-map, map_more}
use Rattle.std.proofs.lemmas.List.Sums.{sum_by-cons}
use Rattle.std.proofs.lemmas.List.Folds.{sum_by-zero}
use Rattle.sa_base.specs.declared.limits.TheConstants.{MAX_SPACES}
use Rattle.sa_spaces.specs.Space.{SpaceView}
use Rattle.sa_replay.proofs.CountLemmas.{one_none}
use Rattle.sa_laws.specs.State.{SpaceState, opening_space}
use Rattle.sa_laws.specs.Ends.{are_done, are_at_rest}
use Rattle.sa_replay.specs.Spaces.{live_in, restless_in, IsCounted}

count_none : (test : SpaceState → Bool) (spaces : List SpaceState) → eqb (count_by (λ (x : SpaceState). not (test x)) spaces) 0 ≡ list_all test spaces
count_none test spaces =
    sum_by-zero (λ (x : SpaceState). cond (not (test x)) 1 0) spaces
    ∙ ap (λ (passes : SpaceState → Bool). list_all passes spaces) (fun_ext (λ (x : SpaceState). one_none (test x)))

pub live_none : (spaces : List SpaceState) (n : ℕ) → n ≡ live_in spaces → eqb n 0 ≡ list_all are_done spaces
live_none spaces n counted = ap (λ m. eqb m 0) counted ∙ count_none are_done spaces

pub restless_none : (spaces : List SpaceState) (n : ℕ) → n ≡ restless_in spaces → eqb n 0 ≡ list_all are_at_rest spaces
restless_none spaces n counted = ap (λ m. eqb m 0) counted ∙ count_none are_at_rest spaces

-- at the opening each space has a thread that is ready
all_count : (test : SpaceState → Bool) (defs : List SpaceView) → ((def : SpaceView) → test (opening_space def) ≡ false)
    → count_by (λ (x : SpaceState). not (test x)) (map opening_space defs) ≡ length defs
all_count test [] none = refl
all_count test (def ∷ defs) none =
    let rest = all_count test defs none in
    let one : ◌≡◌ {A = ℕ} (cond (not (test (opening_space def))) 1 0) 1 = ap (λ b. cond (not b) 1 0) (none def) in
    omega (arith, sum_by-cons (λ (x : SpaceState). cond (not (test x)) 1 0) (opening_space def) (map opening_space defs), rest, one)

pub counted-opening : (defs : List SpaceView) → length defs ≤ MAX_SPACES → IsCounted (map opening_space defs) (length defs) (length defs)
counted-opening defs few = record {
  few = omega (arith, length-map defs opening_space, few);
  lives = sym (all_count are_done defs (λ def. refl));
  restless_ones = sym (all_count are_at_rest defs (λ def. refl));
}

-- one space more
pub opening-more : (defs : List SpaceView) (i : ℕ) (def : SpaceView) (x : SpaceState) (old new : List SpaceState) → i < length defs → def ≡ get_or defs i def
    → x ≡ opening_space def → old ≡ map opening_space (take i defs)
    → new ≡ old ++ x ∷ [] → new ≡ map opening_space (take (i + 1) defs)
opening-more defs i def x old new within is made before pushed =
    let same : x ≡ opening_space (get_or defs i def) = made ∙ ap opening_space is in
    let all : old ++ x ∷ [] ≡ map opening_space (take i defs) ++ opening_space (get_or defs i def) ∷ [] =
    ap (λ (xs : List SpaceState). xs ++ x ∷ []) before ∙ ap (λ (y : SpaceState). map opening_space (take i defs) ++ y ∷ []) same in
    pushed ∙ all ∙ sym (map_more opening_space defs i def within)
