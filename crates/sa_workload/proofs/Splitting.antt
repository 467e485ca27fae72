-- The two texts of an input.
use Rattle.std.proofs.Common.{◌≡◌, ◌≢◌, ℕ, ◌+◌, ◌<◌, ◌≤◌, List, [], ◌∷◌, ◌++◌, length, take, drop, get_or, Bool, true, false, refl, ap, ◌∙◌, arith, ◌-◌, length-drop}
use Rattle.std.proofs.lemmas.Bool.Decides.{nat_tests}
use Rattle.std.proofs.Math.Nat.{sub_self}
use Rattle.std.proofs.lemmas.List.{drop_more, take_more, get_or-drop}
use Rattle.std.specs.List.{slice_range}
use Rattle.std.specs.Prelude.{◌==◌, codes, if◌then◌else◌}
use Rattle.std.specs.Str.{bytes_eq}
use Rattle.sa_workload.specs.Texts.{through_close, workload_part, second_part}

-- the bytes through the first `close` are at the front
by-tests : (bs first more : List ℕ) (ends closes : Bool) → take (length first) bs ≡ first → take (length more) bs ≡ more
    → take (length (if ends then (if closes then [] else first) else more)) bs ≡ (if ends then (if closes then [] else first) else more)
by-tests bs first more true true x y = refl
by-tests bs first more true false x y = x
by-tests bs first more false closes x y = y

through-front : (line bs : List ℕ) → take (length (through_close line bs)) bs ≡ through_close line bs
through-front line [] = refl
through-front line (b ∷ bs) = ap (λ xs. b ∷ xs)
    (by-tests bs (through_close [] bs) (through_close (line ++ b ∷ []) bs) (b == 10) (bytes_eq line (codes "close")) (through-front [] bs)
    (through-front (line ++ b ∷ []) bs))

workload-front : (input : List ℕ) → take (length (workload_part input)) input ≡ workload_part input
workload-front input = through-front [] input

pub first-part : (input first : List ℕ) (n : ℕ) → first ≡ take n input → n ≡ length (workload_part input) → first ≡ workload_part input
first-part input first n is len = is ∙ ap (λ k. take k input) len ∙ workload-front input

pub second-part : (input second : List ℕ) (n : ℕ) → second ≡ drop n input → n ≡ length (workload_part input) → second ≡ second_part input
second-part input second n is len = is ∙ ap (λ k. drop k input) len

-- one byte more: it ends a line that is not `close`, or belongs to the line
is-feed : (b : ℕ) → b ≡ 10 → (b == 10) ≡ true
is-feed b is = grind (arith, nat_tests)

no-feed : (b : ℕ) → b ≢ 10 → (b == 10) ≡ false
no-feed b is = grind (arith, nat_tests)

pub line-more : (input : List ℕ) (start i n : ℕ) → i < length input → get_or input i 0 ≡ 10
    → bytes_eq (slice_range input start i) (codes "close") ≡ false
    → i + length (through_close (slice_range input start i) (drop i input)) ≡ n
    → i + 1 + length (through_close (slice_range input (i + 1) (i + 1)) (drop (i + 1) input)) ≡ n
line-more input start i n within feed other rest =
    let rest' = rw (drop_more input i 0 within) at rest in
    let choose : Bool → Bool → List ℕ = λ ends closes.
    if ends then (if closes then [] else through_close [] (drop (i + 1) input))
    else through_close (slice_range input start i ++ get_or input i 0 ∷ []) (drop (i + 1) input) in
    let goes : choose (get_or input i 0 == 10) (bytes_eq (slice_range input start i) (codes "close")) ≡ choose true false =
    ap (λ t. choose t (bytes_eq (slice_range input start i) (codes "close"))) (is-feed (get_or input i 0) feed) ∙ ap (λ t. choose true t) other in
    let len = ap length goes in
    let none : slice_range input (i + 1) (i + 1) ≡ [] = ap (λ k. take k (drop (i + 1) input)) (sub_self (i + 1)) in
    rw none (omega arith)

line-byte : (input : List ℕ) (start i : ℕ) → start ≤ i → i < length input
    → slice_range input start (i + 1) ≡ slice_range input start i ++ get_or input i 0 ∷ []
line-byte input start i forward within =
    let len = length-drop start input in
    let k : i + 1 - start ≡ (i - start) + 1 = omega arith in
    let at : start + (i - start) ≡ i = omega arith in
    ap (λ n. take n (drop start input)) k
    ∙ take_more (drop start input) (i - start) 0 (omega arith)
    ∙ ap (λ b. take (i - start) (drop start input) ++ b ∷ []) (get_or-drop start input (i - start) 0 ∙ ap (λ n. get_or input n 0) at)

pub byte-more : (input : List ℕ) (start i n : ℕ) → start ≤ i → i < length input → get_or input i 0 ≢ 10
    → i + length (through_close (slice_range input start i) (drop i input)) ≡ n
    → i + 1 + length (through_close (slice_range input start (i + 1)) (drop (i + 1) input)) ≡ n
byte-more input start i n forward within other rest =
    let rest' = rw (drop_more input i 0 within) at rest in
    let choose : Bool → List ℕ = λ ends.
    if ends then (if bytes_eq (slice_range input start i) (codes "close") then [] else through_close [] (drop (i + 1) input))
    else through_close (slice_range input start i ++ get_or input i 0 ∷ []) (drop (i + 1) input) in
    let goes : choose (get_or input i 0 == 10) ≡ choose false = ap choose (no-feed (get_or input i 0) other) in
    let len = ap length goes in
    let line = line-byte input start i forward within in
    rw line (omega arith)
