-- Items that can be played, one after another.
use Rattle.std.proofs.Common.{◌≡◌, ℕ, zero, suc, ◌+◌, ◌<◌, List, [], ◌∷◌, length, get_or, take, refl, sym, ap, ◌∙◌, subst, arith}
use Rattle.sa_base.specs.declared.record.Item.{Item}
use Rattle.sa_spaces.specs.Workload.{WorkloadView}
use Rattle.sa_laws.specs.State.{State}
use Rattle.sa_laws.specs.Machine.{changed}
use Rattle.sa_replay.specs.Needs.{CanChange}
use Rattle.sa_debug.specs.Reached.{CanPlay}
use Rattle.sa_debug.specs.Views.{state_behind}

-- the next item can change the state after those before it
pub can-next : (w : WorkloadView) (a : State) (items : List Item) (i : ℕ) (d : Item) → CanPlay w a items → i < length items
    → CanChange w (get_or items i d).proc (state_behind w a (take i items)) (get_or items i d).what
can-next w a [] i d can within = absurd (omega arith)
can-next w a (x ∷ xs) zero d can within = can.0
can-next w a (x ∷ xs) (suc i) d can within = can-next w (changed w x.proc a x.what) xs i d can.1 (omega arith)

-- and does
pub behind-next : (w : WorkloadView) (a : State) (items : List Item) (i : ℕ) (d : Item) → i < length items
    → state_behind w a (take (i + 1) items) ≡ changed w (get_or items i d).proc (state_behind w a (take i items)) (get_or items i d).what
behind-next w a [] i d within = absurd (omega arith)
behind-next w a (x ∷ xs) zero d within = refl
behind-next w a (x ∷ xs) (suc i) d within =
    let more : suc i + 1 ≡ suc (i + 1) = omega arith in
    ap (λ n. state_behind w a (take n (x ∷ xs))) more ∙ behind-next w (changed w x.proc a x.what) xs i d (omega arith)

-- the same of a state that is said to be the one after them
pub can-change : (v w : WorkloadView) (a b : State) (items : List Item) (i : ℕ) (d : Item) → v ≡ w → a ≡ state_behind w b (take i items) → CanPlay w b items
    → i < length items
    → CanChange v (get_or items i d).proc a (get_or items i d).what
can-change v w a b items i d same is can within =
    subst (λ u. CanChange u (get_or items i d).proc a (get_or items i d).what) (sym same)
    (subst (λ x. CanChange w (get_or items i d).proc x (get_or items i d).what) (sym is) (can-next w b items i d can within))

pub behind-change : (v w : WorkloadView) (a b new : State) (items : List Item) (i : ℕ) (d : Item) → v ≡ w → a ≡ state_behind w b (take i items)
    → i < length items
    → new ≡ changed v (get_or items i d).proc a (get_or items i d).what → new ≡ state_behind w b (take (i + 1) items)
behind-change v w a b new items i d same is within made =
    made ∙ ap (λ u. changed u (get_or items i d).proc a (get_or items i d).what) same
    ∙ ap (λ x. changed w (get_or items i d).proc x (get_or items i d).what) is
    ∙ sym (behind-next w b items i d within)
