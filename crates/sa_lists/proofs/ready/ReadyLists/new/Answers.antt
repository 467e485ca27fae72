use Rattle.std.proofs.Common.{◌≡◌, ℕ, false, List, [], length, replicate, sum_by, refl, sym, ap, ◌∙◌, subst, arith, rules}
use Rattle.std.proofs.lemmas.List.{length-replicate}
use Rattle.std.proofs.lemmas.List.Folds.{sum_by-replicate}
use Rattle.sa_lists.specs.Chains.{Ranked}
use Rattle.sa_lists.specs.ReadyView.{IsStored, opening_ranks}
use Rattle.sa_lists.proofs.ready.ReadyLists.new.Goals as goal

none-counted : (n : ℕ) → 0 ≡ sum_by length (let xss : List (List ℕ) = replicate n [] in xss)
none-counted n = let none : List ℕ = [] in let all = sum_by-replicate (λ (xs : List ℕ). length xs) n none in omega arith

pub invariant_of-result : goal.invariant_of-result
invariant_of-result c =
    let a = c.args in
    let none : List ℕ = [] in
    let lists = length-replicate a.lists none in
    let locked = c.in_ok-locked.ensures.items_if_clones_equal (λ y h. search rules) ∙ ap (λ n. replicate n false) c.from.ensures in
    subst (λ (x : Ranked). IsStored x.lists c.in_ok-locked.locked.items 0 0 a.threads) (sym c.in_ok-lists.ensures) (record {
      nodes = refl;
      counted = none-counted a.lists;
      locks = ap length locked ∙ length-replicate a.lists false ∙ sym lists;
      processors = omega (arith, lists, c.requires.lists);
      within = omega arith;
      most = c.requires.threads;
    })

pub returns : goal.returns
returns c =
    let a = c.args in
    let locked = c.in_ok-locked.ensures.items_if_clones_equal (λ y h. search rules) ∙ ap (λ n. replicate n false) c.from.ensures in
    ap (λ (x : Ranked). record { lists = x.lists.lists; locked = c.in_ok-locked.locked.items; made = 0; threads = a.threads; ranks = x.ranks }) c.in_ok-lists.ensures
    ∙ ap (λ bs. record { lists = replicate a.lists []; locked = bs; made = 0; threads = a.threads; ranks = opening_ranks a.ranks a.threads }) locked
