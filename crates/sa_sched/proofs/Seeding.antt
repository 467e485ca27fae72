-- The generator of a seed, and the words that it gives.
use Rattle.std.proofs.Common.{◌≡◌, ℕ, ◌+◌, ◌-◌, ◌*◌, ◌/◌, ◌%◌, ◌^◌, ◌<◌, List, [], ◌++◌, take, refl, ap, ◌∙◌, arith}
use Rattle.std.specs.Prelude.{bit_or, bit_xor}
use Rattle.std.specs.Int.{w32, to_le_bytes}
use Rattle.std.proofs.lemmas.Nat.{or_lt, from_le_bytes-to_le_bytes_4}
use Rattle.std.proofs.Math.Nat.{mod-lt, div-le_self}
use Rattle.rand_core.specs.Steps.{u32_at, u64_at, word_bytes}
use Rattle.rand_core.specs.Pcg32Seed.{pcg32_seed}
use Rattle.rand_pcg.specs.Pcg.{pcg32_of_seed}
use Rattle.sa_sched.specs.Turns.{Rest, Words}
use Rattle.sa_sched.specs.Generator.{word_of, seed_word, stretched, joined_words, state_behind, state_of, increment_of}

unfoldable bytes_of : ℕ → ℕ → ℕ → ℕ → List ℕ
bytes_of a b c d = take 16 (((([] ++ to_le_bytes w32 a) ++ to_le_bytes w32 b) ++ to_le_bytes w32 c) ++ to_le_bytes w32 d)

word_0 : (a b c d : ℕ) → a < 2 ^ 32 → u32_at (bytes_of a b c d) 0 ≡ a
unfolding u32_at bytes_of
word_0 a b c d h = omega (arith, from_le_bytes-to_le_bytes_4 a h)

word_1 : (a b c d : ℕ) → b < 2 ^ 32 → u32_at (bytes_of a b c d) 1 ≡ b
unfolding u32_at bytes_of
word_1 a b c d h = omega (arith, from_le_bytes-to_le_bytes_4 b h)

word_2 : (a b c d : ℕ) → c < 2 ^ 32 → u32_at (bytes_of a b c d) 2 ≡ c
unfolding u32_at bytes_of
word_2 a b c d h = omega (arith, from_le_bytes-to_le_bytes_4 c h)

word_3 : (a b c d : ℕ) → d < 2 ^ 32 → u32_at (bytes_of a b c d) 3 ≡ d
unfolding u32_at bytes_of
word_3 a b c d h = omega (arith, from_le_bytes-to_le_bytes_4 d h)

stretch : (seed : ℕ) → pcg32_seed 16 seed ≡ bytes_of (seed_word seed 1) (seed_word seed 2) (seed_word seed 3) (seed_word seed 4)
unfolding pcg32_seed word_bytes bytes_of
stretch seed = refl

word-small : (state : ℕ) → word_of state < 2 ^ 32
word-small state =
    let x = bit_xor (state / 2 ^ 18) state / 2 ^ 27 % 2 ^ 32 in
    let by = state / 2 ^ 59 in
    let small : x < 2 ^ 32 = mod-lt (bit_xor (state / 2 ^ 18) state / 2 ^ 27) (omega arith) in
    let left : x / 2 ^ (by % 32) < 2 ^ 32 = omega (arith, div-le_self x (2 ^ (by % 32))) in
    or_lt 32 (x / 2 ^ (by % 32)) (x * 2 ^ ((32 - by % 32) % 32) % 2 ^ 32) left (mod-lt (x * 2 ^ ((32 - by % 32) % 32)) (omega arith))

-- the generator that the crate makes of a seed is the one of the definition
pub seeded : (seed : ℕ) → Words (pcg32_of_seed (pcg32_seed 16 seed)).increment (pcg32_of_seed (pcg32_seed 16 seed)).state ≡ Words (increment_of seed)
    (state_of seed 0)
seeded seed =
    let a = seed_word seed 1 in let b = seed_word seed 2 in let c = seed_word seed 3 in let d = seed_word seed 4 in
    let words : ℕ → ℕ → Rest = λ (state increment : ℕ). Words (bit_or increment 1)
    (state_behind (bit_or increment 1) ((state + bit_or increment 1) % 2 ^ 64)) in
    let low : u64_at (bytes_of a b c d) 0 ≡ joined_words a b =
    ap (λ x. x + u32_at (bytes_of a b c d) 1 * 2 ^ 32) (word_0 a b c d (word-small (stretched seed 1)))
    ∙ ap (λ x. a + x * 2 ^ 32) (word_1 a b c d (word-small (stretched seed 2))) in
    let high : u64_at (bytes_of a b c d) 1 ≡ joined_words c d =
    ap (λ x. x + u32_at (bytes_of a b c d) 3 * 2 ^ 32) (word_2 a b c d (word-small (stretched seed 3)))
    ∙ ap (λ x. c + x * 2 ^ 32) (word_3 a b c d (word-small (stretched seed 4))) in
    ap (λ bytes. Words (pcg32_of_seed bytes).increment (pcg32_of_seed bytes).state) (stretch seed)
    ∙ ap (λ x. words x (u64_at (bytes_of a b c d) 1)) low
    ∙ ap (λ x. words (joined_words a b) x) high
