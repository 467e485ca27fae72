-- The notices of a batch that wait: those behind the ones that were handed out.
use Rattle.std.proofs.Common.{◌≡◌, ℕ, ◌+◌, ◌≤◌, List, [], drop, length, slice_get, None, sym, ap, ◌∙◌, arith}
use Rattle.std.proofs.lemmas.List.{drop-drop, drop_all}
use Rattle.sa_base.specs.declared.record.Note.{Note}

-- where all were handed out there is no first one, and nothing is left
pub none-waits : (notes : List Note) (first : ℕ) → length notes ≤ first → None ≡ slice_get (drop first notes) 0
none-waits notes first all = sym (ap (λ (ns : List Note). slice_get ns 0) (drop_all first notes all))

pub none-left : (notes : List Note) (first : ℕ) → length notes ≤ first → drop first notes ≡ drop 1 (drop first notes)
none-left notes first all = drop_all first notes all ∙ sym (ap (drop 1) (drop_all first notes all))

-- the last one is handed out
pub last-leaves : (notes : List Note) (first : ℕ) → first + 1 ≡ length notes → [] ≡ drop 1 (drop first notes)
last-leaves notes first last = sym (drop-drop 1 first notes ∙ drop_all (first + 1) notes (omega (arith, last)))
