-- Rows of items, one for each space.
use Rattle.std.specs.Prelude.{List, [], ◌∷◌, ◌++◌, ◌-◌, take, length, slice_index_or, slice_set}
use Rattle.sa_base.specs.declared.number.SpaceNo.{SpaceNo}

module _ {A : Type 0} where
  abbrev pub row_at : List (List A) → SpaceNo → List A
  row_at rows s = slice_index_or rows s.0 []

  abbrev pub front_of : List A → List A
  front_of xs = take (length xs - 1) xs

  abbrev pub without_last : List (List A) → SpaceNo → List (List A)
  without_last rows s = slice_set rows s.0 (front_of (row_at rows s))

  abbrev pub with_item : List (List A) → SpaceNo → A → List (List A)
  with_item rows s item = slice_set rows s.0 (row_at rows s ++ item ∷ [])
