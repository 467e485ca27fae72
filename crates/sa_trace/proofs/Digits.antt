-- A number in decimal, two digits at a time.
use Rattle.std.proofs.Common.{◌≡◌, ℕ, ◌/◌, ◌%◌, ◌<◌, ◌≤◌, ◌^◌, ◌+◌, List, [], ◌∷◌, ◌++◌, sym, ap, ap₂, ◌∙◌, arith, append_assoc}
use Rattle.std.specs.Prelude.{decimal}
use Rattle.std.proofs.lemmas.Fmt.{decimal_step}

-- the last two digits
decimal_pair : (n : ℕ) → 100 ≤ n → n < 2 ^ 64 → decimal n ≡ decimal (n / 100) ++ (48 + n % 100 / 10) ∷ (48 + n % 100 % 10) ∷ []
decimal_pair n large small =
    let q : n / 10 / 10 ≡ n / 100 = omega arith in
    let d : n / 10 % 10 ≡ n % 100 / 10 = omega arith in
    let e : n % 10 ≡ n % 100 % 10 = omega arith in
    decimal_step n (omega arith) small
    ∙ ap (λ z. z ++ (48 + n % 10) ∷ []) (decimal_step (n / 10) (omega arith) (omega arith))
    ∙ append_assoc (decimal (n / 10 / 10)) ((48 + n / 10 % 10) ∷ []) ((48 + n % 10) ∷ [])
    ∙ ap (λ m. decimal m ++ (48 + n / 10 % 10) ∷ (48 + n % 10) ∷ []) q
    ∙ ap₂ (λ j k. decimal (n / 100) ++ (48 + j) ∷ (48 + k) ∷ []) d e

-- what is printed with the last two digits behind the others
pub with_pair : (out one two : List ℕ) (n : ℕ) → 100 ≤ n → n < 2 ^ 64 → one ≡ out ++ decimal (n / 100)
    → two ≡ one ++ (48 + n % 100 / 10) ∷ (48 + n % 100 % 10) ∷ [] → two ≡ out ++ decimal n
with_pair out one two n large small first second =
    second ∙ ap (λ z. z ++ (48 + n % 100 / 10) ∷ (48 + n % 100 % 10) ∷ []) first
    ∙ append_assoc out (decimal (n / 100)) ((48 + n % 100 / 10) ∷ (48 + n % 100 % 10) ∷ [])
    ∙ ap (λ z. out ++ z) (sym (decimal_pair n large small))

-- with the last four
pub with_pairs : (out one two three : List ℕ) (n : ℕ) → 10000 ≤ n → n < 2 ^ 64 → one ≡ out ++ decimal (n / 10000)
    → two ≡ one ++ (48 + n / 100 % 100 / 10) ∷ (48 + n / 100 % 100 % 10) ∷ []
    → three ≡ two ++ (48 + n % 100 / 10) ∷ (48 + n % 100 % 10) ∷ [] → three ≡ out ++ decimal n
with_pairs out one two three n large small first second third =
    let q : n / 10000 ≡ n / 100 / 100 = omega arith in
    with_pair out two three n (omega arith) small
    (with_pair out one two (n / 100) (omega arith) (omega arith) (first ∙ ap (λ m. out ++ decimal m) q) second) third
