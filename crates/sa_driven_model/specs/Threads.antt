-- Sets of threads: for each thread whether it is in.
use Rattle.std.specs.Prelude.{ℕ, Bool, true, false, ◌&&◌, ◌||◌, List, [], ◌∷◌, replicate, Option, Some, None, slice_index_or, slice_set}
use Rattle.std.specs.Simd.Lanes.{zip2}
use Rattle.sa_base.specs.declared.number.ThreadNo.{ThreadNo}
use Rattle.sa_base.specs.declared.limits.TheConstants.{MAX_THREADS}

abbrev pub no_threads : List Bool
no_threads = replicate MAX_THREADS false

abbrev pub has : List Bool → ℕ → Bool
has set t = slice_index_or set t false

abbrev pub with_thread : List Bool → ℕ → List Bool
with_thread set t = slice_set set t true

abbrev pub without_thread : List Bool → ℕ → List Bool
without_thread set t = slice_set set t false

-- with or without a thread, if there is one
abbrev pub with_some : List Bool → Option ThreadNo → List Bool
with_some set None = set
with_some set (Some t) = with_thread set t.0

abbrev pub without_some : List Bool → Option ThreadNo → List Bool
without_some set None = set
without_some set (Some t) = without_thread set t.0

-- with all of these, in order
abbrev pub with_all : List Bool → List ℕ → List Bool
with_all set [] = set
with_all set (t ∷ ts) = with_all (with_thread set t) ts

-- what is in one of two sets
abbrev pub both_sets : List Bool → List Bool → List Bool
both_sets set others = zip2 (λ a b. a || b) set others

-- some thread is in both
abbrev pub share_one : List Bool → List Bool → Bool
share_one (a ∷ set) (b ∷ others) = (a && b) || share_one set others
share_one _ _ = false
