-- Lives that are changed, handed over and put back.
use Rattle.std.proofs.Common.{◌≡◌, ℕ, sym, ◌∙◌, ap, Option, Some, None}
use Rattle.std.specs.Prelude.{IfNone}
use Rattle.std.specs.Option.{option_map}
use Rattle.sa_lemmas.specs.Function.{put}
use Rattle.sa_lemmas.proofs.FunctionUpdates.{put-same, put-put, put-self}
use Rattle.sa_base.specs.declared.number.ActNo.{ActNo}
use Rattle.sa_laws.specs.Life.{Life, inherits, bereft}
use Rattle.sa_laws.specs.Record.{with_life, handed}

-- a life that is put back is what it was
pub restored : (f : Life → Life) (lives : ℕ → Option Life) (a : ActNo) (from : Life) → lives a.0 ≡ Some from
    → with_life (λ other. from) (Some a) (with_life f (Some a) lives) ≡ lives
restored f lives a from is =
    let w = option_map f (lives a.0) in
    ap (λ here. put (put lives a.0 w) a.0 (option_map (λ other. from) here)) (put-same lives a.0 w ∙ ap (option_map f) is)
    ∙ put-put lives a.0 w (Some from)
    ∙ ap (put lives a.0) (sym is)
    ∙ put-self lives a.0

pub on-none : {A P Q : Type 0} (found : Option A) → (P → Q) → IfNone found P → IfNone found Q
on-none None f p = f p
on-none (Some x) f p = p

-- a life that has lost what it had, and the life of the last up, which got it; or the first as it was
pub passed : (upped : Option ActNo) (to a : ActNo) (from : Life) (lives mid new : ℕ → Option Life)
    → upped ≡ Some to → lives a.0 ≡ Some from → mid ≡ with_life bereft (Some a) lives
    → new ≡ with_life (inherits from) (Some to) mid → new ≡ handed upped a (lives a.0) lives
passed upped to a from lives mid new up is lost got =
    got ∙ ap (with_life (inherits from) (Some to)) lost
    ∙ sym (ap (λ u. handed u a (lives a.0) lives) up ∙ ap (λ here. handed (Some to) a here lives) is)

pub put-back : (a : ActNo) (from : Life) (lives mid new : ℕ → Option Life)
    → lives a.0 ≡ Some from → mid ≡ with_life bereft (Some a) lives → new ≡ with_life (λ other. from) (Some a) mid → new ≡ lives
put-back a from lives mid new is lost back =
    back ∙ ap (with_life (λ other. from) (Some a)) lost ∙ restored bereft lives a from is
