-- What one read of a source in memory gives, and what it leaves.
use Rattle.std.proofs.Common.{◌≡◌, ℕ, ◌+◌, ◌<◌, ◌≤◌, List, [], ◌∷◌, ◌++◌, length, take, drop, min, arith, refl, sym, ap, ◌∙◌, subst, length-take-le, take-append-drop}
use Rattle.std.proofs.Math.Seq.{take-append_seam}
use Rattle.std.proofs.lemmas.List.{drop-drop}
use Rattle.std.specs.Prelude.{◌↔◌}
use Rattle.sa_io.specs.Faults.{count_up}
use Rattle.sa_io.specs.Supply.{after_read, Supply}

-- what came and what is left after it are what was left before
pub front-taken : (bytes to came : List ℕ) (at n step room : ℕ) → n ≡ min step (min room (length (drop at bytes))) → came ≡ take n (drop at bytes) ++ drop n to
    → drop at bytes ≡ take n came ++ drop (at + n) bytes
front-taken bytes to came at n step room count is =
    let from = drop at bytes in
    let fits : n ≤ length from = omega (arith, count) in
    let front : take n came ≡ take n from =
    ap (take n) is
    ∙ subst (λ k. take k (take n from ++ drop n to) ≡ take n from) (length-take-le n from fits) (take-append_seam (take n from) (drop n to)) in
    sym (ap (λ l. l ++ drop (at + n) bytes) front ∙ ap (λ l. take n from ++ l) (sym (drop-drop n at bytes)) ∙ take-append-drop n from)

-- where a byte could come, none comes exactly where none is left
pub end-is-told : (left : List ℕ) (n step room : ℕ) → 0 < step → n ≡ min step (min room (length left)) → 0 < room → (n ≡ 0) ↔ (left ≡ [])
end-is-told [] n step room steps is roomy = (λ _. refl, λ _. omega (arith, is))
end-is-told (x ∷ left) n step room steps is roomy =
    (λ none. absurd (omega (arith, is, none)), λ empty. absurd (omega (arith, ap length empty)))

-- a source in memory by its parts
abbrev pub supply : List ℕ → ℕ → List ℕ → ℕ → ℕ → Supply
supply left step failing calls faults = record { left = left; step = step; failing = failing; calls = calls; faults = faults }

-- the place moves on by the bytes that came
pub after-read : (bytes : List ℕ) (n at step : ℕ) (failing : List ℕ) (calls later faults : ℕ) → later ≡ count_up calls
    → supply (drop (at + n) bytes) step failing later faults ≡ after_read (supply (drop at bytes) step failing calls faults) n
after-read bytes n at step failing calls later faults is =
    ap (λ left. supply left step failing later faults) (sym (drop-drop n at bytes)) ∙ ap (λ k. supply (drop n (drop at bytes)) step failing k faults) is
