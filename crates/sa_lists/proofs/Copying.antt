-- The chains of a list, one after the other.
use Rattle.std.proofs.Common.{◌≡◌, ℕ, zero, suc, ◌+◌, List, [], ◌∷◌, ◌++◌, take, refl, sym, ap, ◌∙◌, append_assoc, append-nil, add-one}
use Rattle.sa_links.specs.Lists.{list_at}
use Rattle.sa_lists.specs.Chains.{joined}

joined-suc : (cs : List (List ℕ)) (k : ℕ) → joined (take (suc k) cs) ≡ list_at cs k ++ joined (take k cs)
joined-suc [] zero = refl
joined-suc [] (suc k) = refl
joined-suc (x ∷ cs) zero = sym (append-nil x)
joined-suc (x ∷ cs) (suc k) = ap (λ z. z ++ x) (joined-suc cs k) ∙ append_assoc (list_at cs k) (joined (take k cs)) x

-- the chains below rank r, where k is the greatest of these
pub joined-greatest : (cs : List (List ℕ)) (r k : ℕ) → r ≡ k + 1 → joined (take r cs) ≡ list_at cs k ++ joined (take k cs)
joined-greatest cs r k is = ap (λ n. joined (take n cs)) (is ∙ add-one k) ∙ joined-suc cs k
