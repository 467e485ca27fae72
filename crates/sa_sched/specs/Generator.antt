-- The generator of the seeded order, PCG XSH RR 64/32 (O'Neill, "PCG: a family of simple fast space-efficient
-- statistically good algorithms for random number generation", 2014): a recurrence of states modulo 2^64, and of
-- each state a word of 32 bits.
use Rattle.std.specs.Prelude.{ℕ, zero, suc, ◌+◌, ◌-◌, ◌*◌, ◌/◌, ◌%◌, ◌^◌, bit_or, bit_xor}
use Rattle.std.specs.Int.{w32, rotate_right}

-- the state that follows a state
abbrev pub state_behind : ℕ → ℕ → ℕ
state_behind increment state = (state * 6364136223846793005 % 2 ^ 64 + increment) % 2 ^ 64

-- the word of a state: the state is shifted by 18 and xored with itself, its bits 27 to 58 are taken, and they are
-- rotated to the right by the number in its top five bits
abbrev pub word_of : ℕ → ℕ
word_of state = rotate_right w32 (bit_xor (state / 2 ^ 18) state / 2 ^ 27 % 2 ^ 32) (state / 2 ^ 59)

-- a seed is stretched to four words by the same recurrence, with an increment of its own
abbrev pub stretched : ℕ → ℕ → ℕ
stretched seed zero = seed
stretched seed (suc i) = state_behind 0xA17654E46FBE17F3 (stretched seed i)

abbrev pub seed_word : ℕ → ℕ → ℕ
seed_word seed i = word_of (stretched seed i)

-- two words as one number of 64 bits, the low one first
abbrev pub joined_words : ℕ → ℕ → ℕ
joined_words low high = low + high * 2 ^ 32

-- the increment of a seed's generator, which is odd: the seed's last two words, with the lowest bit set
abbrev pub increment_of : ℕ → ℕ
increment_of seed = bit_or (joined_words (seed_word seed 3) (seed_word seed 4)) 1

-- its state after that many words: the first is one step after the seed's first two words plus the increment
abbrev pub state_of : ℕ → ℕ → ℕ
state_of seed zero = state_behind (increment_of seed) ((joined_words (seed_word seed 1) (seed_word seed 2) + increment_of seed) % 2 ^ 64)
state_of seed (suc words) = state_behind (increment_of seed) (state_of seed words)

-- the k-th word of a seed, k from 1 on
abbrev pub seeded_word : ℕ → ℕ → ℕ
seeded_word seed k = word_of (state_of seed (k - 1))
