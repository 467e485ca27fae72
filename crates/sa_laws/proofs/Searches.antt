-- What a search for the thread that runs on a processor finds, and what it passes.
use Rattle.std.proofs.Common.{◌≡◌, ℕ, zero, suc, ◌+◌, zero-add, true, false, cond, List, [], ◌∷◌, get_or, Some, None, refl, sym, ap, ◌∙◌, subst, arith}
use Rattle.std.proofs.lemmas.Bool.{eq-eqb, eqb-true}
use Rattle.std.proofs.lemmas.Option.{same_Some}
use Rattle.sa_base.specs.declared.number.ProcNo.{ProcNo}
use Rattle.sa_laws.specs.declared.place.Place.{Place}
use Rattle.sa_laws.specs.declared.place.Place.TheVariants.{Running, Ready, Blocked, Waiting, Carried, Done}
use Rattle.sa_laws.specs.State.{Thread, SpaceState, Runner, at_start, is_running_on, runner_in, first_runner, runner_from, no_threads}

abbrev there_is : ℕ → ℕ → Runner
there_is k j = record { space = record { 0 = k }; thread = record { 0 = j } }

abbrev pub place_of : List Thread → ℕ → Place
place_of threads i = (get_or threads i (at_start 0 Done)).place

runs-there : (p : ProcNo) (x : Place) → is_running_on p x ≡ true → x ≡ Running p
runs-there p (Running q) e = ap (λ n. Running (record { 0 = n })) (eqb-true q.0 p.0 e)
runs-there p Ready e = absurd cc
runs-there p Blocked e = absurd cc
runs-there p Waiting e = absurd cc
runs-there p Carried e = absurd cc
runs-there p Done e = absurd cc

runs-not : (p : ProcNo) (x : Place) → is_running_on p x ≡ false → x ≡ Running p → ⊥
runs-not p x fails runs = let yes : is_running_on p x ≡ true = ap (is_running_on p) runs ∙ eq-eqb p.0 p.0 refl in absurd cc

passed : (p : ProcNo) (thread : Thread) (threads : List Thread) → is_running_on p thread.place ≡ false → ((i : ℕ) → place_of threads i ≡ Running p → ⊥)
    → (i : ℕ) → place_of (thread ∷ threads) i ≡ Running p → ⊥
passed p thread threads fails rest zero runs = runs-not p thread.place fails runs
passed p thread threads fails rest (suc i) runs = rest i runs

-- in one space
found-in : (p : ProcNo) (k j : ℕ) (threads : List Thread) (x : Runner) → runner_in p k j threads ≡ Some x
    → (x.space.0 ≡ k) × ((i : ℕ) × (x.thread.0 ≡ j + i) × (place_of threads i ≡ Running p))
found-in p k j [] x is = cc
found-in p k j (thread ∷ threads) x is =
    let here : Runner = there_is k j in
    elim (is_running_on p thread.place) as (λ b. b ≡ is_running_on p thread.place → cond b (Some here) (runner_in p k (j + 1) threads) ≡ Some x
    → (x.space.0 ≡ k) × ((i : ℕ) × (x.thread.0 ≡ j + i) × (place_of (thread ∷ threads) i ≡ Running p))) [
      | true ↦ λ test found. let one : here ≡ x = same_Some here x found in
          (sym (ap (λ (y : Runner). y.space.0) one), (0, omega (arith, ap (λ (y : Runner). y.thread.0) one), runs-there p thread.place (sym test)))
      | false ↦ λ test found. let more = found-in p k (j + 1) threads x found in (more.0, (suc more.1.0, omega (arith, more.1.1), more.1.2))
    ] refl is

passed-in : (p : ProcNo) (k j : ℕ) (threads : List Thread) → runner_in p k j threads ≡ None → (i : ℕ) → place_of threads i ≡ Running p → ⊥
passed-in p k j [] is i runs = let both : Done ≡ Running p = runs in cc
passed-in p k j (thread ∷ threads) is i runs =
    elim (is_running_on p thread.place) as
    (λ b. b ≡ is_running_on p thread.place → cond b (Some (there_is k j)) (runner_in p k (j + 1) threads) ≡ None → (i : ℕ)
    → place_of (thread ∷ threads) i ≡ Running p → ⊥) [
      | true ↦ λ test none i runs. let both : Some (there_is k j) ≡ None = none in cc
      | false ↦ λ test none. passed p thread threads (sym test) (passed-in p k (j + 1) threads none)
    ] refl is i runs

passed-all : (p : ProcNo) (space : SpaceState) (spaces : List SpaceState) → ((j : ℕ) → place_of space.threads j ≡ Running p → ⊥)
    → ((i j : ℕ) → place_of (get_or spaces i no_threads).threads j ≡ Running p → ⊥)
    → (i j : ℕ) → place_of (get_or (space ∷ spaces) i no_threads).threads j ≡ Running p → ⊥
passed-all p space spaces here rest zero j runs = here j runs
passed-all p space spaces here rest (suc i) j runs = rest i j runs

-- in all spaces
pub found-from : (p : ProcNo) (k : ℕ) (spaces : List SpaceState) (x : Runner) → runner_from p k spaces ≡ Some x
    → (i : ℕ) × (x.space.0 ≡ k + i) × (place_of (get_or spaces i no_threads).threads x.thread.0 ≡ Running p)
found-from p k [] x is = cc
found-from p k (space ∷ spaces) x is =
    elim (runner_in p k 0 space.threads) as (λ o. o ≡ runner_in p k 0 space.threads → first_runner o (runner_from p (k + 1) spaces) ≡ Some x
    → (i : ℕ) × (x.space.0 ≡ k + i) × (place_of (get_or (space ∷ spaces) i no_threads).threads x.thread.0 ≡ Running p)) [
      | None ↦ λ test found. let more = found-from p (k + 1) spaces x found in (suc more.0, omega (arith, more.1), more.2)
      | Some y ↦ λ test found.
          let here = found-in p k 0 space.threads x (sym test ∙ found) in
          (0, omega (arith, here.0), subst (λ n. place_of space.threads n ≡ Running p) (sym (here.1.1 ∙ zero-add here.1.0)) here.1.2)
    ] refl is

pub passed-from : (p : ProcNo) (k : ℕ) (spaces : List SpaceState) → runner_from p k spaces ≡ None → (i j : ℕ)
    → place_of (get_or spaces i no_threads).threads j ≡ Running p → ⊥
passed-from p k [] is i j runs = let both : Done ≡ Running p = runs in cc
passed-from p k (space ∷ spaces) is i j runs =
    elim (runner_in p k 0 space.threads) as (λ o. o ≡ runner_in p k 0 space.threads → first_runner o (runner_from p (k + 1) spaces) ≡ None → ⊥) [
      | None ↦ λ test none. passed-all p space spaces (passed-in p k 0 space.threads (sym test)) (passed-from p (k + 1) spaces none) i j runs
      | Some y ↦ λ test none. cc
    ] refl is
