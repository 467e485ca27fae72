-- What a mark more keeps of the marks, and that they are whole when a sweep marks nothing more.
use Rattle.std.proofs.Common.{◌≡◌, ℕ, zero, suc, ◌+◌, ◌*◌, ◌<◌, inl, inr, Bool, true, false, not, Some, List, [], ◌∷◌, length, get_or, slice_get, slice_set, count_by, cond, ap, ◌∙◌, arith}
use Rattle.std.proofs.lemmas.List.Sums.{sum_by-cons}
use Rattle.std.proofs.lemmas.Option.{slice_get-get_or}
use Rattle.sa_lemmas.proofs.ListReads.{read-at}
use Rattle.sa_lemmas.proofs.ListUpdates.{slice_get-set_cases}
use Rattle.sa_explore_model.specs.declared.answer.State.{State}
use Rattle.sa_explore_model.specs.Search.{Ends, AreMarked}
use Rattle.sa_explore_model.proofs.Places.{place-below}
use Rattle.sa_states.specs.Marks.{AreTurns}
use Rattle.sa_states.specs.Sweep.{IsNear, AreSound, AreAll}

count-cons : (b : Bool) (marks : List Bool) → count_by not (b ∷ marks) ≡ cond (not b) 1 0 + count_by not marks
count-cons b marks = sum_by-cons (λ (x : Bool). cond (not x) 1 0) b marks

-- one unmarked place fewer
pub count-marked : (marks : List Bool) (k : ℕ) → slice_get marks k ≡ Some false → count_by not (slice_set marks k true) + 1 ≡ count_by not marks
count-marked [] k is = absurd (cc)
count-marked (true ∷ marks) zero is = absurd (cc)
count-marked (false ∷ marks) zero is = omega (arith, count-cons true marks, count-cons false marks)
count-marked (m ∷ marks) (suc k) is =
    omega (arith, count-marked marks k is, count-cons m (slice_set marks k true), count-cons m marks)

module _ (processors : ℕ) (states : List State) (nexts : List ℕ) (turns : AreTurns processors states nexts) where
  -- the turn of a processor from a state has its place
  pub turn-within : (k p : ℕ) → k < length states → p < processors → k * processors + p < length nexts
  turn-within k p within few =
      let size = turns.turns in
      let below = place-below processors k p (length states) 0 few (omega arith) (inl within) in
      omega arith

  module _ (marks : List Bool) where
    abbrev At : ℕ → ℕ → ℕ
    At k p = get_or nexts (k * processors + p) 0

    -- it leads to a state
    pub to-within : (k p : ℕ) → k < length states → p < processors → At k p < length states
    to-within k p within few = turns.inside (k * processors + p) (At k p) (slice_get-get_or nexts (k * processors + p) 0 (turn-within k p within few))

    -- a turn leads to a state that is marked
    pub leads : (k p : ℕ) → k < length states → p < processors → At k p < length marks → get_or marks (At k p) false ≡ true
        → IsNear processors states nexts marks k
    leads k p within few below on =
        inr (
          record { proc = p; to = At k p; within = few; is = slice_get-get_or nexts (k * processors + p) 0 (turn-within k p within few) },
          slice_get-get_or marks (At k p) false below ∙ ap (λ (b : Bool). Some b) on,
        )

    -- where turns lead to marks that are sound, they lead to an end
    pub near-ends : (k : ℕ) → AreSound processors states nexts marks → IsNear processors states nexts marks k
        → (n : ℕ) × Ends processors states nexts n k
    near-ends k sound near =
        elim near [
          | inl over ↦ (zero, over)
          | inr next ↦ (let ends = sound next.0.to next.1 in (suc ends.0, inr (next.0, ends.1)))
        ]

    -- a mark more
    pub sound-more : (at : ℕ) → AreSound processors states nexts marks → IsNear processors states nexts marks at
        → AreSound processors states nexts (slice_set marks at true)
    sound-more at sound near k on =
        elim (slice_get-set_cases marks at k true true on) [
          | inl here ↦ rw here.0 (near-ends at sound near)
          | inr other ↦ sound k other.1
        ]

    -- no turns lead from a state that is not marked to an end
    none-ends : length marks ≡ length states → AreAll processors states nexts marks → (n k : ℕ) → slice_get marks k ≡ Some false
        → Ends processors states nexts n k → ⊥
    none-ends size all zero k off over = all k off (inl over)
    none-ends size all (suc n) k off (inl over) = all k off (inl over)
    none-ends size all (suc n) k off (inr next) =
        let below = turns.inside (k * processors + next.0.proc) next.0.to next.0.is in
        let mark = read-at marks next.0.to (omega arith) in
        go mark.0 mark.1 (none-ends size all n next.0.to)
      where
        go : (b : Bool) → slice_get marks next.0.to ≡ Some b
            → (slice_get marks next.0.to ≡ Some false → Ends processors states nexts n next.0.to → ⊥) → ⊥
        go true on rest = all k off (inr (next.0, on))
        go false is rest = rest is next.1

    pub are-marked : length marks ≡ length states → AreSound processors states nexts marks → AreAll processors states nexts marks
        → AreMarked processors states nexts marks
    are-marked size sound all = record { size = size; marked = sound; others = λ k n off ends. none-ends size all n k off ends }
