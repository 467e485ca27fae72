-- A part of a list of records, by its length.
use Rattle.std.proofs.Common.{◌≡◌, refl, ap, true, false, List, [], ◌∷◌, length, take, Option, Some, if◌then◌else◌}
use Rattle.sa_base.specs.declared.record.Record.{Record}
use Rattle.sa_laws.specs.Shape.{is_other_line, before_lines, front_part}

take-lines : (last : Option Record) (xs : List Record) → take (length (before_lines last xs)) xs ≡ before_lines last xs
take-lines last [] = refl
take-lines last (x ∷ xs) =
    let rest = before_lines (Some x) xs in
    elim (is_other_line last x) as (λ b. take (length (if b then [] else x ∷ rest)) (x ∷ xs) ≡ (if b then [] else x ∷ rest)) [
      | true ↦ refl
      | false ↦ ap (λ ys. x ∷ ys) (take-lines (Some x) xs)
    ]

-- the part before the last lines is as many of the first records
pub take-front : (xs : List Record) → take (length (front_part xs)) xs ≡ front_part xs
take-front [] = refl
take-front (x ∷ xs) = ap (λ ys. x ∷ ys) (take-lines (Some x) xs)
