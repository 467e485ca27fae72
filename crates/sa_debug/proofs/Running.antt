-- Turn by turn.
use Rattle.std.proofs.Common.{◌≡◌, ℕ, zero, suc, ◌+◌, ◌-◌, ◌<◌, ◌≤◌, if◌then◌else◌, find, [], Option, Some, None, ◌⊎◌, inl, inr, refl, sym, ap, ◌∙◌, subst, arith}
use Rattle.std.specs.Prelude.{MatchOption, true}
use Rattle.std.specs.List.{list_any}
use Rattle.sa_base.specs.declared.limits.TheConstants.{MAX_PROCESSORS}
use Rattle.sa_base.specs.declared.number.ProcNo.{ProcNo}
use Rattle.sa_debug.specs.declared.script.reply.Reply.{Reply}
use Rattle.sa_debug.specs.declared.script.reply.Reply.TheVariants.{AtBreak, Halted}
use Rattle.sa_debug.specs.declared.script.command.Point.{Point}
use Rattle.sa_debug.specs.Points.{same_point}
use Rattle.sa_debug.specs.Order.{goes, in_order}
use Rattle.sa_debug.proofs.Ordering.{found-first}
use Rattle.sa_debug.specs.Session.{Watched, Session, IsFree, first, next, with_halt, point_if, point_at, IsHeld, IsNext, Turns, Passes, SaysEnded, Stops, RunsTo, RunsSoFar}

module _ {M : Type 0} (o : Watched M) where
  passes : (s between t : Session M) (p : ProcNo) → IsNext o s p → between ≡ s → Turns o between p t → Passes o s p t
  passes s between t p next same turns = record { has = next; turns = subst (λ x. Turns o x p t) same turns }

  -- what some turns lead to, these and one more before them lead to
  pub runs-on : (n i : ℕ) (s between t last : Session M) (p : ProcNo) (reply : Reply) → i < n → IsNext o s p → between ≡ s → Turns o between p t
      → RunsTo o (n - (i + 1)) t last reply → RunsTo o (n - i) s last reply
  runs-on n i s between t last p reply within next same turns runs =
      let left : suc (n - (i + 1)) ≡ n - i = omega arith in
      subst (λ k. RunsTo o k s last reply) left (inr (inr (p, t, passes s between t p next same turns, runs)))

  pub comes-on : (n i : ℕ) (s between t last : Session M) (p : ProcNo) → i < n → IsNext o s p → between ≡ s → Turns o between p t
      → RunsSoFar o (n - (i + 1)) t last → RunsSoFar o (n - i) s last
  comes-on n i s between t last p within next same turns runs =
      let left : suc (n - (i + 1)) ≡ n - i = omega arith in
      subst (λ k. RunsSoFar o k s last) left (inr (p, t, passes s between t p next same turns, runs))

  -- it stops here
  pub runs-no_more : (n i : ℕ) (s last : Session M) (reply : Reply) → i < n → SaysEnded o s last reply ⊎ Stops o s last reply → RunsTo o (n - i) s last reply
  runs-no_more n i s last reply within stops =
      let left : suc (n - (i + 1)) ≡ n - i = omega arith in
      subst (λ k. RunsTo o k s last reply) left (elim stops [ inl ended ↦ inl ended | inr held ↦ inr (inl held) ])

  pub comes-no_more : (n i : ℕ) (s last : Session M) → i < n → last ≡ s → RunsSoFar o (n - i) s last
  comes-no_more n i s last within same =
      let left : suc (n - (i + 1)) ≡ n - i = omega arith in
      subst (λ k. RunsSoFar o k s last) left (inl same)

  -- the processor that is next stands at a breakpoint, and is halted there
  pub stops-at : (s t : Session M) (p : ProcNo) (point : Point) (reply : Reply) → o.HasEnded s.machine None → next o s ≡ Some p
      → point_at o s p ≡ Some point → reply ≡ AtBreak p point → t ≡ with_halt s p true → Stops o s t reply
  stops-at s t p point reply not_ended is at answer same = record {
    not_ended = not_ended;
    held = subst (λ x. IsHeld o s x t reply) (sym is)
        (subst (λ x. MatchOption x ⊥ (λ y. (reply ≡ AtBreak p y) × (t ≡ with_halt s p true))) (sym at) (answer, same));
  }

  -- no processor is next, since all are halted
  pub stops-halted : (s : Session M) → o.HasEnded s.machine None → next o s ≡ None → Stops o s s Halted
  stops-halted s not_ended none = record { not_ended = not_ended; held = subst (λ x. IsHeld o s x s Halted) (sym none) (refl, refl) }

  -- no processor stands at a breakpoint where there is none
  pub no-point : (s : Session M) (p : ProcNo) → s.points ≡ [] → point_at o s p ≡ None
  no-point s p none = go (o.stands s.machine p)
    where
      go : (x : Option Point) → point_if o s x ≡ None
      go None = refl
      go (Some point) = ap (λ ps. if list_any (same_point point) ps then Some point else None) none

  -- all turns were made
  pub runs-over : (n i : ℕ) (s last : Session M) (reply : Reply) → n ≤ i → RunsTo o 0 s last reply → RunsTo o (n - i) s last reply
  runs-over n i s last reply over runs = let left : 0 ≡ n - i = omega arith in subst (λ k. RunsTo o k s last reply) left runs

  -- in a session that is free the order begins with the processor that has the next turn
  pub next-free : (s : Session M) (p : ProcNo) → IsFree s → p.0 ≡ first o s.machine → p.0 < o.processors s.machine → o.processors s.machine ≤ MAX_PROCESSORS
      → o.HasEnded s.machine None → IsNext o s p
  next-free s p free is within few not_ended = record {
    not_ended = not_ended;
    is =
        let here : find (goes s.halted) (in_order p.0 (o.processors s.machine)) ≡ Some p =
        found-first (goes s.halted) p.0 (o.processors s.machine) within (free.0 p (omega (arith, within, few))) in
        ap (λ n. find (goes s.halted) (in_order n (o.processors s.machine))) (sym is) ∙ here;
    free = no-point s p free.1;
  }

  -- and it is free after its turn
  pub free-on : (s t : Session M) (p : ProcNo) → Turns o s p t → IsFree s → IsFree t
  free-on s t p turns free = (
    λ q within. ap (λ (x : Session M). goes x.halted q) turns.is ∙ free.0 q within,
    ap (λ (x : Session M). x.points) turns.is ∙ free.1,
  )

  -- a run that has ended is told as ended, however many turns are left
  pub runs-ended : (n : ℕ) (s : Session M) (reply : Reply) → (o.HasEnded s.machine None → ⊥) → RunsTo o 0 s s reply → RunsTo o n s s reply
  runs-ended zero s reply ended runs = runs
  runs-ended (suc n) s reply ended (inl says) = inl says
  runs-ended (suc n) s reply ended (inr over) = absurd (ended over.not_ended)
