-- The order of schedules: the shorter first, and of those of one length by the first processor in which they differ.
use Rattle.std.specs.Prelude.{◌≡◌, ◌<◌, ◌⊎◌, List, [], ◌∷◌, length}
use Rattle.sa_base.specs.declared.number.ProcNo.{ProcNo}

-- of one length: equal, or less at the first place at which they differ
abbrev pub IsNotAfter : List ProcNo → List ProcNo → Type 0
IsNotAfter [] qs = Unit {0}
IsNotAfter (p ∷ ps) [] = ⊥
IsNotAfter (p ∷ ps) (q ∷ qs) = (p.0 < q.0) ⊎ ((p ≡ q) × IsNotAfter ps qs)

-- no schedule of these two comes before the first
abbrev pub ComesFirst : List ProcNo → List ProcNo → Type 0
ComesFirst ps qs = (length ps < length qs) ⊎ ((length ps ≡ length qs) × IsNotAfter ps qs)
