-- Adding the copies of operations, one after another.
use Rattle.std.proofs.Common.{◌≡◌, ℕ, ◌+◌, ◌<◌, ◌≤◌, List, [], ◌∷◌, ◌++◌, length, get_or, drop, Option, Some, None, refl, sym, ap, ◌∙◌, arith, add-one, drop-cons, append_assoc, length-append}
use Rattle.std.specs.List.{cons_option, filter_map}
use Rattle.sa_code.specs.declared.code.Op.{Op}
use Rattle.sa_copies.specs.Copies.{copied}

-- the copies of the operations from i on, where o is what the i-th has in its copy
copies-from : (ops : List Op) (i : ℕ) (d : Op) (o : Option Op) → i < length ops → o ≡ copied (get_or ops i d)
    → filter_map copied (drop i ops) ≡ cons_option o (filter_map copied (drop (i + 1) ops))
copies-from ops i d o inside e =
    let head : drop i ops ≡ get_or ops i d ∷ drop (i + 1) ops = rw (add-one, drop-cons ops i d) refl in
    ap (filter_map copied) head ∙ ap (λ p. cons_option p (filter_map copied (drop (i + 1) ops))) (sym e)

pub copies-some : (ops code whole : List Op) (i : ℕ) (d o : Op) → i < length ops → Some o ≡ copied (get_or ops i d)
    → code ++ filter_map copied (drop i ops) ≡ whole → (code ++ o ∷ []) ++ filter_map copied (drop (i + 1) ops) ≡ whole
copies-some ops code whole i d o inside e so_far =
    append_assoc code (o ∷ []) (filter_map copied (drop (i + 1) ops)) ∙ ap (λ xs. code ++ xs) (sym (copies-from ops i d (Some o) inside e)) ∙ so_far

pub copies-none : (ops code whole : List Op) (i : ℕ) (d : Op) → i < length ops → None ≡ copied (get_or ops i d)
    → code ++ filter_map copied (drop i ops) ≡ whole → code ++ filter_map copied (drop (i + 1) ops) ≡ whole
copies-none ops code whole i d inside e so_far = ap (λ xs. code ++ xs) (sym (copies-from ops i d None inside e)) ∙ so_far

-- there is room for one that has a copy
pub room-some : (ops code old all : List Op) (i n : ℕ) (d o : Op) → i < length ops → Some o ≡ copied (get_or ops i d)
    → code ++ filter_map copied (drop i ops) ≡ old ++ all → length old + length all ≤ n → length code < n
room-some ops code old all i n d o inside e so_far most =
    let from = ap length (copies-from ops i d (Some o) inside e) in
    let sum = ap length so_far in
    let left = length-append code (filter_map copied (drop i ops)) in
    let right = length-append old all in
    omega arith
