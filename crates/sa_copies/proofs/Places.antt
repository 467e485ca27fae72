-- The places of the package's code.
use Rattle.std.proofs.Common.{rules, ◌≡◌, ℕ, zero, suc, ◌+◌, true, Some, is_some, slice_get, refl, subst, ◌⊎◌, inl, inr}
use Rattle.std.proofs.lemmas.Option.{same_Some}
use Rattle.sa_code.specs.declared.code.Op.{Op}
use Rattle.sa_code.specs.declared.code.Op.TheVariants.{Push, Pop, Free, Leave, Yield}
use Rattle.sa_copies.specs.Copies.{package_ops, is_in_section, section_at, copy_at}
use Rattle.sa_copies.specs.Runs.{is_over, is_section_op}

-- what holds at each of the fourteen places, and after them, holds everywhere
at_places : (P : ℕ → Type 0) → P 0 → P 1 → P 2 → P 3 → P 4 → P 5 → P 6 → P 7 → P 8 → P 9 → P 10 → P 11 → P 12 → P 13
    → ((n : ℕ) → P (suc (suc (suc (suc (suc (suc (suc (suc (suc (suc (suc (suc (suc (suc n))))))))))))))) → (pc : ℕ) → P pc
at_places P a b c d e f g h i j k l m n rest zero = a
at_places P a b c d e f g h i j k l m n rest (suc zero) = b
at_places P a b c d e f g h i j k l m n rest (suc (suc zero)) = c
at_places P a b c d e f g h i j k l m n rest (suc (suc (suc zero))) = d
at_places P a b c d e f g h i j k l m n rest (suc (suc (suc (suc zero)))) = e
at_places P a b c d e f g h i j k l m n rest (suc (suc (suc (suc (suc zero))))) = f
at_places P a b c d e f g h i j k l m n rest (suc (suc (suc (suc (suc (suc zero)))))) = g
at_places P a b c d e f g h i j k l m n rest (suc (suc (suc (suc (suc (suc (suc zero))))))) = h
at_places P a b c d e f g h i j k l m n rest (suc (suc (suc (suc (suc (suc (suc (suc zero)))))))) = i
at_places P a b c d e f g h i j k l m n rest (suc (suc (suc (suc (suc (suc (suc (suc (suc zero))))))))) = j
at_places P a b c d e f g h i j k l m n rest (suc (suc (suc (suc (suc (suc (suc (suc (suc (suc zero)))))))))) = k
at_places P a b c d e f g h i j k l m n rest (suc (suc (suc (suc (suc (suc (suc (suc (suc (suc (suc zero))))))))))) = l
at_places P a b c d e f g h i j k l m n rest (suc (suc (suc (suc (suc (suc (suc (suc (suc (suc (suc (suc zero)))))))))))) = m
at_places P a b c d e f g h i j k l m n rest (suc (suc (suc (suc (suc (suc (suc (suc (suc (suc (suc (suc (suc zero))))))))))))) = n
at_places P a b c d e f g h i j k l m n rest (suc (suc (suc (suc (suc (suc (suc (suc (suc (suc (suc (suc (suc (suc o)))))))))))))) = rest o

-- the eight places that have a copy
pub at_copies : (P : ℕ → ℕ → Type 0) → P 1 8 → P 2 9 → P 5 11 → P 6 12 → P 8 8 → P 9 9 → P 11 11 → P 12 12 → (c d : ℕ) → copy_at c ≡ Some d → P c d
at_copies P a b e f g h i j c d copy = at_places (λ k. copy_at k ≡ Some d → P k d)
    (λ x. absurd cc) (λ x. subst (λ k. P 1 k) (same_Some 8 d x) a) (λ x. subst (λ k. P 2 k) (same_Some 9 d x) b) (λ x. absurd cc)
    (λ x. absurd cc) (λ x. subst (λ k. P 5 k) (same_Some 11 d x) e) (λ x. subst (λ k. P 6 k) (same_Some 12 d x) f) (λ x. absurd cc)
    (λ x. subst (λ k. P 8 k) (same_Some 8 d x) g) (λ x. subst (λ k. P 9 k) (same_Some 9 d x) h) (λ x. absurd cc)
    (λ x. subst (λ k. P 11 k) (same_Some 11 d x) i) (λ x. subst (λ k. P 12 k) (same_Some 12 d x) j) (λ x. absurd cc)
    (λ n x. absurd cc) c copy

-- a place and its copy have the same operation, which is one of a section
pub record HasCopy (c d : ℕ) : Type 0 where
  pub op : Op
  pub here : slice_get package_ops c ≡ Some op
  pub there : slice_get package_ops d ≡ Some op
  pub inside : is_in_section op ≡ true

pub has_copy : (c d : ℕ) → copy_at c ≡ Some d → HasCopy c d
has_copy = at_copies HasCopy
    (record { op = Push; here = refl; there = refl; inside = refl }) (record { op = Free; here = refl; there = refl; inside = refl })
    (record { op = Pop; here = refl; there = refl; inside = refl }) (record { op = Free; here = refl; there = refl; inside = refl })
    (record { op = Push; here = refl; there = refl; inside = refl }) (record { op = Free; here = refl; there = refl; inside = refl })
    (record { op = Pop; here = refl; there = refl; inside = refl }) (record { op = Free; here = refl; there = refl; inside = refl })

-- a place and its copy, or two ends
abbrev pub ArePaired : ℕ → ℕ → Type 0
ArePaired c d = (copy_at c ≡ Some d) ⊎ ((is_over (slice_get package_ops c) ≡ true) × (is_over (slice_get package_ops d) ≡ true))

pub next-paired : (c d : ℕ) → copy_at c ≡ Some d → ArePaired (c + 1) (d + 1)
next-paired =
    at_copies (λ c d. ArePaired (c + 1) (d + 1)) (inl refl) (inr (refl, refl)) (inl refl) (inr (refl, refl)) (inl refl) (inr (refl, refl)) (inl refl)
    (inr (refl, refl))

-- the operations and sections of places and copies
pub ops-copied : (c d : ℕ) → copy_at c ≡ Some d → slice_get package_ops d ≡ slice_get package_ops c
ops-copied = at_copies (λ c d. slice_get package_ops d ≡ slice_get package_ops c) refl refl refl refl refl refl refl refl

pub sections-copied : (c d : ℕ) → copy_at c ≡ Some d → section_at d ≡ section_at c
sections-copied = at_copies (λ c d. section_at d ≡ section_at c) refl refl refl refl refl refl refl refl

pub copies-copied : (c d : ℕ) → copy_at c ≡ Some d → copy_at d ≡ Some d
copies-copied = at_copies (λ c d. copy_at d ≡ Some d) refl refl refl refl refl refl refl refl

pub copies-ops : (pc : ℕ) → is_some (copy_at pc) ≡ is_section_op (slice_get package_ops pc)
copies-ops pc = search rules

-- the operation after another
pub next-push : (pc : ℕ) → slice_get package_ops pc ≡ Some Push → slice_get package_ops (pc + 1) ≡ Some Free
next-push pc e = search rules

pub next-pop : (pc : ℕ) → slice_get package_ops pc ≡ Some Pop → slice_get package_ops (pc + 1) ≡ Some Free
next-pop pc e = search rules

pub next-free : (pc : ℕ) → slice_get package_ops pc ≡ Some Free → (slice_get package_ops (pc + 1) ≡ Some Leave) ⊎ (slice_get package_ops (pc + 1) ≡ Some Yield)
next-free pc e = search rules
