-- The number that bytes spell, as a function of them.
use Rattle.std.proofs.Common.{◌≡◌, ◌≢◌, ◌<◌, ◌^◌, ◌&&◌, ℕ, Bool, true, false, cond, List, Option, Some, None, refl, sym, ap, ◌∙◌, subst, nat_lt}
use Rattle.std.specs.Prelude.{decimal, IfSome, IfNone}
use Rattle.std.specs.Str.{bytes_eq}
use Rattle.std.specs.Str.Parse.{digits_value}
use Rattle.std.proofs.lemmas.Fmt.{decimal_is_IsNumeral}
use Rattle.std.proofs.lemmas.Bool.{lt-ltb, ltb-true, and_parts}
use Rattle.std.proofs.lemmas.Option.{same_Some}
use Rattle.std.proofs.lemmas.Slice.Eq.{bytes_eq-Decides}
use Rattle.sa_text.specs.Number.{number_of}

none_where : (a b : Bool) (x : Option ℕ) → (a ≡ true → b ≡ true → ⊥) → cond (a && b) x None ≡ None
none_where true true x h = absurd (h refl refl)
none_where true false x h = refl
none_where false b x h = refl

-- the bytes of a number are read as that number
pub reads_number : (n : ℕ) → n < 2 ^ 64 → number_of (decimal n) ≡ Some n
reads_number n h =
    let made : ℕ → Option ℕ = λ v. cond (nat_lt v (2 ^ 64) && bytes_eq (decimal n) (decimal v)) (Some v) None in
    ap made (decimal_is_IsNumeral n h).1
    ∙ ap (λ b. cond (b && bytes_eq (decimal n) (decimal n)) (Some n) None) (lt-ltb n (2 ^ 64) h)
    ∙ ap (λ b. cond (true && b) (Some n) None) ((bytes_eq-Decides (decimal n) (decimal n)).1 refl)

-- and other bytes as none
pub reads_none : (bytes : List ℕ) → ((n : ℕ) → n < 2 ^ 64 → bytes ≢ decimal n) → number_of bytes ≡ None
reads_none bytes others =
    let v = digits_value 10 bytes in
    none_where (nat_lt v (2 ^ 64)) (bytes_eq bytes (decimal v)) (Some v) (λ p q. others v (ltb-true v (2 ^ 64) p) ((bytes_eq-Decides bytes (decimal v)).0 q))

some_where : (b : Bool) (m n : ℕ) → cond b (Some m) None ≡ Some n → (b ≡ true) × (m ≡ n)
some_where true m n is = (refl, same_Some m n is)
some_where false m n is = absurd cc

-- a number is read from its decimal text alone
pub number_of-some : (bytes : List ℕ) (n : ℕ) → number_of bytes ≡ Some n → (bytes ≡ decimal n) × (n < 2 ^ 64)
number_of-some bytes n is =
    let v = digits_value 10 bytes in
    let made = some_where (nat_lt v (2 ^ 64) && bytes_eq bytes (decimal v)) v n is in
    let tests = and_parts (nat_lt v (2 ^ 64)) (bytes_eq bytes (decimal v)) made.0 in
    let small : v < 2 ^ 64 = ltb-true v (2 ^ 64) tests.0 in
    ((bytes_eq-Decides bytes (decimal v)).0 tests.1 ∙ ap decimal made.1, subst (λ m. m < 2 ^ 64) made.1 small)

pub reads_any : (r : Option ℕ) (bytes : List ℕ) → IfSome r (λ n. n < 2 ^ 64) → IfSome r (λ n. bytes ≡ decimal n)
    → IfNone r ((n : ℕ) → n < 2 ^ 64 → bytes ≢ decimal n) → r ≡ number_of bytes
reads_any None bytes h some none = sym (reads_none bytes none)
reads_any (Some n) bytes h some none = sym (ap number_of some ∙ reads_number n h)
