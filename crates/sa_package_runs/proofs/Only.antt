-- Commands over a thing that goes one way come to one session, with one list of replies.
use Rattle.std.proofs.Common.{◌≡◌, ℕ, zero, suc, true, List, [], ◌∷◌, Option, Some, None, inl, inr, sym, ap, ◌∙◌, subst}
use Rattle.std.specs.Prelude.{MatchOption}
use Rattle.std.proofs.lemmas.Option.{same_Some, none-some}
use Rattle.sa_base.specs.declared.number.ProcNo.{ProcNo}
use Rattle.sa_base.specs.declared.record.End.{End}
use Rattle.sa_debug.specs.declared.script.command.Point.{Point}
use Rattle.sa_debug.specs.declared.script.command.DebugCommand.{DebugCommand}
use Rattle.sa_debug.specs.declared.script.command.DebugCommand.TheVariants.{Step, Run}
use Rattle.sa_debug.specs.declared.script.reply.Reply.{Reply}
use Rattle.sa_debug.specs.declared.script.reply.Reply.TheVariants.{Event, Ended, AtBreak}
use Rattle.sa_debug.specs.Session.{Watched, Session, Gives, with_halt, with_machine, next, point_at}
use Rattle.sa_debug.specs.Session.{SaysEnded, Turns, Steps, IsHeld, Stops, IsNext, IsOver, RunsTo, Does, DoAll}
use Rattle.sa_package_runs.proofs.Keeping.{ran, does-all}

-- What goes one way: it has one end, and each turn of it leads on. Of two turns that both lead to the same later state the
-- states after them are one.
pub record GoesOneWay {N : Type 0} (q : Watched N) (Before : N → N → Type 0) : Type 0 where
  pub ends : (m : N) (one other : Option End) → q.HasEnded m one → q.HasEnded m other → one ≡ other
  pub here : (m : N) → Before m m
  pub later : (a b c : N) → Before a b → Before b c → Before a c
  pub turns : (m : N) (p : ProcNo) (after : N) → q.IsTurn m p after → Before m after
  pub one : (m : N) (p r : ProcNo) (after other x : N) → q.IsTurn m p after → q.IsTurn m r other → Before after x → Before other x → after ≡ other

module _ {N : Type 0} (q : Watched N) (Before : N → N → Type 0) (goes : GoesOneWay q Before) where
  -- a session and its reply are the same as others
  abbrev Same : Session N → Reply → Session N → Reply → Type 0
  Same t reply z other = (z ≡ t) × (other ≡ reply)

  given : (x : Session N × Reply) (t z : Session N) (reply other : Reply) → Gives x t reply → Gives x z other → Same t reply z other
  given x t z reply other one two = (two.0 ∙ sym one.0, two.1 ∙ sym one.1)

  -- what turns keep: how far the thing has come
  pub from : (a : N) (m : N) (p : ProcNo) (after : N) → Before a m → q.IsTurn m p after → Before a after
  from a m p after before made = goes.later a m after before (goes.turns m p after made)

  -- ENDS
  both-ended : (s t z : Session N) (reply other : Reply) → SaysEnded q s t reply → SaysEnded q s z other → Same t reply z other
  both-ended s t z reply other one two =
      let end : two.end ≡ one.end = same_Some two.end one.end (goes.ends s.machine (Some two.end) (Some one.end) two.ended one.ended) in
      (two.same ∙ sym one.same, two.answer ∙ ap Ended end ∙ sym one.answer)

  not-both : (s t : Session N) (reply : Reply) → SaysEnded q s t reply → q.HasEnded s.machine None → ⊥
  not-both s t reply says on = none-some says.end (goes.ends s.machine None (Some says.end) on says.ended)

  -- TURNS
  both-turn : (s t z : Session N) (p r : ProcNo) (x : N) → Turns q s p t → Turns q s r z → Before t.machine x → Before z.machine x → z ≡ t
  both-turn s t z p r x one two before after =
      let there : one.machine ≡ two.machine =
      goes.one s.machine p r one.machine two.machine x one.turn two.turn
      (subst (λ (y : Session N). Before y.machine x) one.is before) (subst (λ (y : Session N). Before y.machine x) two.is after) in
      two.is ∙ ap (with_machine s) (sym there) ∙ sym one.is

  both-step : (s t z : Session N) (p : ProcNo) (reply other : Reply) (x : N) → Steps q s p t reply → Steps q s p z other → Before t.machine x
      → Before z.machine x → Same t reply z other
  both-step s t z p reply other x one two before after =
      let same = both-turn s t z p p x one.turns two.turns before after in
      (same, two.answer ∙ ap (λ (y : Session N). Event (q.event y.machine)) same ∙ sym one.answer)

  -- HALTS
  at-break : (s t z : Session N) (p : ProcNo) (reply other : Reply) (point : Option Point)
      → MatchOption point ⊥ (λ x. (reply ≡ AtBreak p x) × (t ≡ with_halt s p true))
      → MatchOption point ⊥ (λ x. (other ≡ AtBreak p x) × (z ≡ with_halt s p true)) → Same t reply z other
  at-break s t z p reply other None one two = absurd one
  at-break s t z p reply other (Some point) one two = (two.1 ∙ sym one.1, two.0 ∙ sym one.0)

  both-held : (s t z : Session N) (who : Option ProcNo) (reply other : Reply) → IsHeld q s who t reply → IsHeld q s who z other → Same t reply z other
  both-held s t z None reply other one two = (two.1 ∙ sym one.1, two.0 ∙ sym one.0)
  both-held s t z (Some p) reply other one two = at-break s t z p reply other (point_at q s p) one two

  free-held : (s t : Session N) (p : ProcNo) (reply : Reply) → point_at q s p ≡ None → IsHeld q s (Some p) t reply → ⊥
  free-held s t p reply free at = subst (λ (o : Option Point). MatchOption o ⊥ (λ x. (reply ≡ AtBreak p x) × (t ≡ with_halt s p true))) free at

  not-held : (s t : Session N) (p : ProcNo) (reply : Reply) → IsNext q s p → Stops q s t reply → ⊥
  not-held s t p reply has stops = free-held s t p reply has.free (subst (λ (who : Option ProcNo). IsHeld q s who t reply) has.is stops.held)

  -- RUNS
  both-over : (s t z : Session N) (reply other : Reply) → IsOver q s t reply → IsOver q s z other → Same t reply z other
  both-over s t z reply other one two = (two.same ∙ sym one.same, two.answer ∙ sym one.answer)

  both-run : (n : ℕ) (s t z : Session N) (reply other : Reply) (x : N) → RunsTo q n s t reply → RunsTo q n s z other → Before t.machine x
      → Before z.machine x → Same t reply z other
  both-run zero s t z reply other x one two before after = elim one [
    | inl says ↦ elim two [
      | inl also ↦ both-ended s t z reply other says also
      | inr over ↦ absurd (not-both s t reply says over.not_ended)
    ]
    | inr over ↦ elim two [
      | inl says ↦ absurd (not-both s z other says over.not_ended)
      | inr also ↦ both-over s t z reply other over also
    ]
  ]
  both-run (suc n) s t z reply other x one two before after = elim one [
    | inl says ↦ elim two [
      | inl also ↦ both-ended s t z reply other says also
      | inr rest ↦ elim rest [
        | inl stops ↦ absurd (not-both s t reply says stops.not_ended)
        | inr more ↦ absurd (not-both s t reply says more.2.has.not_ended)
      ]
    ]
    | inr first ↦ elim two [
      | inl says ↦ elim first [
        | inl stops ↦ absurd (not-both s z other says stops.not_ended)
        | inr more ↦ absurd (not-both s z other says more.2.has.not_ended)
      ]
      | inr rest ↦ elim first [
        | inl stops ↦ elim rest [
          | inl also ↦ both-held s t z (next q s) reply other stops.held also.held
          | inr more ↦ absurd (not-held s t more.0 reply more.2.has stops)
        ]
        | inr more ↦ elim rest [
          | inl stops ↦ absurd (not-held s z more.0 other more.2.has stops)
          | inr also ↦
              let reached : Before more.1.machine x =
              goes.later more.1.machine t.machine x
              (ran q (Before more.1.machine) (from more.1.machine) n more.1 t reply more.3 (goes.here more.1.machine)) before in
              let too : Before also.1.machine x =
              goes.later also.1.machine z.machine x
              (ran q (Before also.1.machine) (from also.1.machine) n also.1 z other also.3 (goes.here also.1.machine)) after in
              let same : also.1 ≡ more.1 = both-turn s more.1 also.1 more.0 also.0 x more.2.turns also.2.turns reached too in
              both-run n more.1 t z reply other x more.3 (subst (λ (y : Session N). RunsTo q n y z other) same also.3) before after
        ]
      ]
    ]
  ]

  -- COMMANDS
  both-do : (c : DebugCommand) (s t z : Session N) (reply other : Reply) (x : N) → Does q c s t reply → Does q c s z other → Before t.machine x
      → Before z.machine x → Same t reply z other
  both-do (Step p) s t z reply other x one two before after = elim one [
    | inl says ↦ elim two [
      | inl also ↦ both-ended s t z reply other says also
      | inr steps ↦ absurd (not-both s t reply says steps.turns.not_ended)
    ]
    | inr steps ↦ elim two [
      | inl says ↦ absurd (not-both s z other says steps.turns.not_ended)
      | inr also ↦ both-step s t z p reply other x steps also before after
    ]
  ]
  both-do (Run n) s t z reply other x one two before after = both-run n s t z reply other x one two before after
  both-do _ s t z reply other x one two before after = given _ t z reply other one two

  -- To two sessions from which the thing can come to one and the same state; so to two with one state of the thing.
  pub only-before : (cs : List DebugCommand) (s t z : Session N) (replies others : List Reply) (x : N) → DoAll q cs s t replies → DoAll q cs s z others
      → Before t.machine x → Before z.machine x → (z ≡ t) × (others ≡ replies)
  only-before [] s t z replies others x one two before after = (two.0 ∙ sym one.0, two.1 ∙ sym one.1)
  only-before (c ∷ cs) s t z replies others x one two before after =
      let leads : Before one.0.machine x =
      goes.later one.0.machine t.machine x
      (does-all q (Before one.0.machine) (from one.0.machine) cs one.0 t one.2 one.5 (goes.here one.0.machine)) before in
      let also : Before two.0.machine x =
      goes.later two.0.machine z.machine x
      (does-all q (Before two.0.machine) (from two.0.machine) cs two.0 z two.2 two.5 (goes.here two.0.machine)) after in
      let first = both-do c s one.0 two.0 one.1 two.1 x one.4 two.4 leads also in
      let rest = only-before cs one.0 t z one.2 two.2 x one.5 (subst (λ (y : Session N). DoAll q cs y z two.2) first.0 two.5) before after in
      (rest.0, two.3 ∙ ap (λ (r : Reply). r ∷ two.2) first.1 ∙ ap (λ (rs : List Reply). one.1 ∷ rs) rest.1 ∙ sym one.3)

  pub only : (cs : List DebugCommand) (s t z : Session N) (replies others : List Reply) → DoAll q cs s t replies → DoAll q cs s z others
      → z.machine ≡ t.machine → (z ≡ t) × (others ≡ replies)
  only cs s t z replies others one two same =
      only-before cs s t z replies others t.machine one two (goes.here t.machine) (subst (Before z.machine) same (goes.here z.machine))
