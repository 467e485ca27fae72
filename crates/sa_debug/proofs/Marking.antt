-- The slots of the breakpoints.
use Rattle.std.proofs.Common.{◌≡◌, ℕ, zero, suc, ◌%◌, ◌<◌, Bool, true, false, ◌&&◌, ◌==◌, List, [], ◌∷◌, ◌++◌, length, All}
use Rattle.std.proofs.Common.{slice_index_or, slice_set, get_or, set, refl, sym, ap, ◌∙◌, subst}
use Rattle.std.specs.List.{list_any}
use Rattle.std.proofs.lemmas.Bool.{eqb-true, false_from_ne_true}
use Rattle.std.proofs.lemmas.List.{get_or-set_same}
use Rattle.std.proofs.lemmas.List.Elements.{All-nil, All-cons, All-append}
use Rattle.std.proofs.lemmas.List.Folds.{list_any_none}
use Rattle.sa_debug.specs.declared.script.command.Point.{Point}
use Rattle.sa_debug.specs.Points.{same_point, IsMarked}

second : (x y z : Bool) → y ≡ false → (x && y && z) ≡ false
second true y z h = ap (λ b. b && z) h
second false y z h = refl

third : (x y z : Bool) → z ≡ false → (x && y && z) ≡ false
third true true z h = h
third _ _ z h = refl

-- two numbers of which one has its slot set and the other not
apart : (slots : List Bool) (m n : ℕ) → slice_index_or slots (m % 64) false ≡ false → slice_index_or slots (n % 64) false ≡ true → (m == n) ≡ false
apart slots m n unset marked =
    false_from_ne_true (m == n) (λ is. let bad : false ≡ true = sym unset ∙ ap (λ k. slice_index_or slots (k % 64) false) (eqb-true m n is) ∙ marked in cc)

-- a point one of whose slots is not set is no breakpoint
pub no_thread : (threads places : List Bool) (points now : List Point) (p : Point) (i : ℕ)
    → points ≡ now → i ≡ p.thread.0 % 64 → All (IsMarked threads places) points
    → slice_index_or threads i false ≡ false → false ≡ list_any (same_point p) now
no_thread threads places points now p i same slot marked unset =
    let at : slice_index_or threads (p.thread.0 % 64) false ≡ false = ap (λ k. slice_index_or threads k false) (sym slot) ∙ unset in
    let differs : (q : Point) → IsMarked threads places q → same_point p q ≡ false =
    λ q is. second (p.space.0 == q.space.0) (p.thread.0 == q.thread.0) (p.place == q.place) (apart threads p.thread.0 q.thread.0 at is.0) in
    sym (list_any_none (same_point p) points (λ k d within. differs (slice_index_or points k d) (marked k d within))) ∙ ap (list_any (same_point p)) same

pub no_place : (threads places : List Bool) (points now : List Point) (p : Point) (i : ℕ)
    → points ≡ now → i ≡ p.place % 64 → All (IsMarked threads places) points
    → slice_index_or places i false ≡ false → false ≡ list_any (same_point p) now
no_place threads places points now p i same slot marked unset =
    let at : slice_index_or places (p.place % 64) false ≡ false = ap (λ k. slice_index_or places k false) (sym slot) ∙ unset in
    let differs : (q : Point) → IsMarked threads places q → same_point p q ≡ false =
    λ q is. third (p.space.0 == q.space.0) (p.thread.0 == q.thread.0) (p.place == q.place) (apart places p.place q.place at is.1) in
    sym (list_any_none (same_point p) points (λ k d within. differs (slice_index_or points k d) (marked k d within))) ∙ ap (list_any (same_point p)) same

-- a slot that is set stays so
stays : (slots : List Bool) (i j : ℕ) → get_or slots j false ≡ true → get_or (set slots i true) j false ≡ true
stays [] i j h = let bad : false ≡ true = h in cc
stays (x ∷ xs) zero zero h = refl
stays (x ∷ xs) (suc i) (suc j) h = stays xs i j h
stays (x ∷ xs) _ _ h = h

is_set : (slots : List Bool) (i j : ℕ) → i ≡ j → i < length slots → get_or (set slots i true) j false ≡ true
is_set slots i j is within = ap (λ k. get_or (set slots i true) k false) (sym is) ∙ get_or-set_same slots i true false within

-- the breakpoints are marked after one more
pub one_more : (threads places : List Bool) (points new : List Point) (p : Point) (i j : ℕ)
    → i ≡ p.thread.0 % 64 → j ≡ p.place % 64 → i < length threads → j < length places
    → new ≡ points ++ p ∷ [] → All (IsMarked threads places) points → All (IsMarked (slice_set threads i true) (slice_set places j true)) new
one_more threads places points new p i j thread place in_threads in_places is marked =
    let P = IsMarked (slice_set threads i true) (slice_set places j true) in
    let older : (q : Point) → IsMarked threads places q → IsMarked (slice_set threads i true) (slice_set places j true) q =
    λ q m. (stays threads i (q.thread.0 % 64) m.0, stays places j (q.place % 64) m.1) in
    subst (All P) (sym is) (All-append P points (p ∷ []) (λ k d within. older (slice_index_or points k d) (marked k d within))
    (All-cons P p [] (is_set threads i (p.thread.0 % 64) thread in_threads, is_set places j (p.place % 64) place in_places) (All-nil P)))
