-- What is written of the losses of a run on virtual processors.
use Rattle.std.specs.Prelude.{ℕ, List, ◌++◌, codes, decimal, length, slice_index}
use Rattle.std.specs.List.{flat_map, range_with_len}

-- the line of what a space has lost
abbrev pub loss_line : ℕ → ℕ → List ℕ
loss_line space lost = codes "lost " ++ decimal space ++ codes " " ++ decimal lost ++ codes "\n"

-- the lines of what each space has lost, in order
abbrev pub losses_text : List ℕ → List ℕ
losses_text lost = flat_map (λ s. loss_line s (slice_index lost s)) (range_with_len 0 (length lost))
