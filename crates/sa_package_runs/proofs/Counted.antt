-- How many events of a processor a history has, and how many its moves make.
use Rattle.std.proofs.Common.{◌≡◌, ℕ, zero, suc, ◌+◌, Bool, true, false, cond, List, [], ◌∷◌, replicate, drop, refl, sym, ap, ◌∙◌, arith}
use Rattle.std.specs.Prelude.{◌==◌, count_by}
use Rattle.std.proofs.lemmas.List.Sums.{sum_by-cons, sum_by-append}
use Rattle.sa_base.specs.declared.number.ProcNo.{ProcNo}
use Rattle.sa_laws.specs.Event.{Event}
use Rattle.sa_core_model.specs.Run.{Move}
use Rattle.sa_core_model.specs.Run.Move.{turn, commit}
use Rattle.sa_seat.specs.Chain.{turns_of}
use Rattle.sa_legal_runs.specs.Moves.{processors_of, procs_of}
use Rattle.sa_package_runs.specs.Threads.{is_of}

abbrev one_on : ℕ → ProcNo → ℕ
one_on p q = cond (q.0 == p) 1 0

count-procs : (p : ℕ) (es : List Event) → count_by (is_of p) es ≡ count_by (λ (q : ProcNo). q.0 == p) (procs_of es)
count-procs p [] = refl
count-procs p (e ∷ es) =
    sum_by-cons (λ (x : Event). one_on p x.proc) e es
    ∙ ap (λ n. one_on p e.proc + n) (count-procs p es)
    ∙ sym (sum_by-cons (one_on p) e.proc (procs_of es))

count-same : (p n : ℕ) (q : ProcNo) → count_by (λ (x : ProcNo). x.0 == p) (replicate n q) ≡ cond (q.0 == p) n 0
count-same p zero q = either (q.0 == p)
  where
    none : ℕ
    none = 0

    either : (b : Bool) → none ≡ cond b 0 0
    either true = refl
    either false = refl
count-same p (suc n) q =
    sum_by-cons (one_on p) q (replicate n q) ∙ ap (λ k. one_on p q + k) (count-same p n q) ∙ either (q.0 == p)
  where
    either : (b : Bool) → cond b 1 0 + cond b n 0 ≡ cond b (suc n) 0
    either true = omega arith
    either false = refl

count-moves : (p : ℕ) (moves : List Move) → count_by (λ (q : ProcNo). q.0 == p) (processors_of moves) ≡ turns_of p moves
count-moves p [] = refl
count-moves p (turn q ∷ moves) = sum_by-cons (one_on p) q (processors_of moves) ∙ ap (λ n. one_on p q + n) (count-moves p moves)
count-moves p (commit q n ∷ moves) =
    sum_by-append (one_on p) (replicate n q) (processors_of moves)
    ∙ ap (λ k. k + count_by (λ (x : ProcNo). x.0 == p) (processors_of moves)) (count-same p n q)
    ∙ ap (λ k. cond (q.0 == p) n 0 + k) (count-moves p moves)

-- after the opening a history has as many events of a processor as the moves make
behind : (es : List Event) (p : ProcNo) (ps : List ProcNo) → procs_of es ≡ p ∷ ps → procs_of (drop 1 es) ≡ ps
behind [] p ps is = absurd cc
behind (e ∷ es) p ps is = ap (drop 1) is

pub counted : (p : ℕ) (es : List Event) (first : ProcNo) (moves : List Move) → procs_of es ≡ first ∷ processors_of moves
    → count_by (is_of p) (drop 1 es) ≡ turns_of p moves
counted p es first moves is =
    count-procs p (drop 1 es)
    ∙ ap (λ (ps : List ProcNo). count_by (λ (q : ProcNo). q.0 == p) ps) (behind es first (processors_of moves) is)
    ∙ count-moves p moves
