-- The same lives, as a contract sees them.
use Rattle.std.proofs.Common.{◌≡◌, ℕ, ◌∙◌, ap, List, Option}
use Rattle.sa_base.specs.declared.number.ActNo.{ActNo}
use Rattle.sa_base.specs.declared.record.Note.{Note}
use Rattle.sa_laws.specs.Life.{Life}
use Rattle.sa_check_lives.specs.View.{LivesView}

abbrev view : (ℕ → Option Life) → List (Option ActNo) → List (List ActNo) → List (List Note) → Option ActNo → LivesView
view lives running taken untold upped = record { lives = lives; running = running; taken = taken; untold = untold; upped = upped }

pub view-same : (old new : LivesView) → new.lives ≡ old.lives → new.running ≡ old.running → new.taken ≡ old.taken
    → new.untold ≡ old.untold → new.upped ≡ old.upped → new ≡ old
view-same old new lives running taken untold upped =
    ap (λ x. view x new.running new.taken new.untold new.upped) lives
    ∙ ap (λ x. view old.lives x new.taken new.untold new.upped) running
    ∙ ap (λ x. view old.lives old.running x new.untold new.upped) taken
    ∙ ap (λ x. view old.lives old.running old.taken x new.upped) untold
    ∙ ap (view old.lives old.running old.taken old.untold) upped
