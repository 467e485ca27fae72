-- A list of threads in the order of their ranks, as they came into it.
use Rattle.std.specs.Prelude.{ℕ, nat_lt, if◌then◌else◌, List, [], ◌∷◌, Option, Some, None}
use Rattle.sa_lists.specs.ReadyView.{rank_of, inserted}

-- a list with these threads too, which came one after the other; and the list of them alone
abbrev pub by_rank_from : List ℕ → List ℕ → List ℕ → List ℕ
by_rank_from ranks xs [] = xs
by_rank_from ranks xs (n ∷ newer) = by_rank_from ranks (inserted ranks n xs) newer

abbrev pub by_rank : List ℕ → List ℕ → List ℕ
by_rank ranks ns = by_rank_from ranks [] ns

-- of the threads of the greatest rank the newest
abbrev pub greater : List ℕ → Option ℕ → Option ℕ → Option ℕ
greater ranks older None = older
greater ranks None (Some newer) = Some newer
greater ranks (Some older) (Some newer) = if nat_lt (rank_of ranks newer) (rank_of ranks older) then Some older else Some newer

abbrev pub greatest : List ℕ → List ℕ → Option ℕ
greatest ranks [] = None
greatest ranks (n ∷ newer) = greater ranks (Some n) (greatest ranks newer)
