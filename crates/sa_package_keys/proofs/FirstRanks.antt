-- The ranks of the first threads.
use Rattle.std.proofs.Common.{◌≡◌, ℕ, ◌+◌, ◌<◌, List, length, map, get_or, ap, ◌∙◌, arith}
use Rattle.std.specs.List.{range_with_len}
use Rattle.std.proofs.lemmas.List.{get_or-map}
use Rattle.std.proofs.lemmas.List.FromFn.{length-map-range_with_len, length-range_with_len, get_or-range_with_len}
use Rattle.sa_lists.specs.ReadyView.{rank_of}

abbrev pub first_ranks : List ℕ → ℕ → List ℕ
first_ranks ranks n = map (rank_of ranks) (range_with_len 0 n)

pub length-first_ranks : (ranks : List ℕ) (n : ℕ) → length (first_ranks ranks n) ≡ n
length-first_ranks ranks n = length-map-range_with_len (rank_of ranks) 0 n

pub get_or-first_ranks : (ranks : List ℕ) (n t : ℕ) → t < n → get_or (first_ranks ranks n) t 0 ≡ rank_of ranks t
get_or-first_ranks ranks n t low =
    get_or-map (rank_of ranks) (range_with_len 0 n) t 0 0 (let h : t < length (range_with_len 0 n) = omega (arith, length-range_with_len 0 n) in h)
    ∙ ap (λ k. rank_of ranks k) (get_or-range_with_len 0 n t 0 low ∙ (let e : 0 + t ≡ t = omega arith in e))
