-- Commands that came so far, over a thing that goes one way: the thing and the number of those that were done tell one session alone.
use Rattle.std.proofs.Common.{◌≡◌, ℕ, zero, suc, ◌≤◌, List, [], ◌∷◌, take, drop, inl, inr, refl, sym, ap, ◌∙◌, subst}
use Rattle.std.proofs.lemmas.List.{take-take}
use Rattle.sa_debug.specs.declared.script.command.DebugCommand.{DebugCommand}
use Rattle.sa_debug.specs.declared.script.command.DebugCommand.TheVariants.{Run}
use Rattle.sa_debug.specs.declared.script.reply.Reply.{Reply}
use Rattle.sa_debug.specs.Session.{Watched, Session, with_machine, RunsSoFar, DoesSoFar, DoAll}
use Rattle.sa_package_runs.specs.Told.{CameSoFar}
use Rattle.sa_package_runs.proofs.Keeping.{does-so_far, does-all}
use Rattle.sa_package_runs.proofs.Only.{GoesOneWay, from, only-before}

module _ {N : Type 0} (q : Watched N) where
  -- A command that memory ran out at has changed at most how far the thing has come.
  alike : (s t : Session N) → t ≡ s → t ≡ with_machine s t.machine
  alike s t same = same ∙ ap (with_machine s) (ap (λ (y : Session N). y.machine) (sym same))

  run-alike : (n : ℕ) (s t : Session N) → RunsSoFar q n s t → t ≡ with_machine s t.machine
  run-alike zero s t comes = alike s t comes
  run-alike (suc n) s t comes = elim comes [
    | inl here ↦ alike s t here
    | inr more ↦ run-alike n more.1 t more.3 ∙ ap (λ (y : Session N). with_machine y t.machine) more.2.turns.is
  ]

  so-far-alike : (c : DebugCommand) (s t : Session N) → DoesSoFar q c s t → t ≡ with_machine s t.machine
  so-far-alike (Run n) s t comes = run-alike n s t comes
  so-far-alike _ s t comes = alike s t comes

  came-alike : (cs : List DebugCommand) (s t : Session N) (came : CameSoFar q cs s t) → t ≡ with_machine came.between t.machine
  came-alike cs s t came = elim came.last [
    | inl same ↦ alike came.between t same
    | inr part ↦ so-far-alike part.0 came.between t part.2
  ]

  -- the first of the commands, and those after them
  in-two : (cs : List DebugCommand) (n : ℕ) (s t : Session N) (replies : List Reply) → DoAll q cs s t replies
      → (mid : Session N) × DoAll q (take n cs) s mid (take n replies) × DoAll q (drop n cs) mid t (drop n replies)
  in-two cs zero s t replies done = (s, (refl, refl), done)
  in-two [] (suc n) s t replies done = (s, (refl, ap (take (suc n)) done.1), (done.0, ap (drop (suc n)) done.1))
  in-two (c ∷ cs) (suc n) s t replies done =
      let rest = in-two cs n done.0 t done.2 done.5 in (
        rest.0,
        (done.0, done.1, take n done.2, ap (take (suc n)) done.3, done.4, rest.1),
        subst (λ (rs : List Reply). DoAll q (drop n cs) rest.0 t rs) (sym (ap (drop (suc n)) done.3)) rest.2,
      )

  module _ (Before : N → N → Type 0) (goes : GoesOneWay q Before) where
    -- from the session after the commands that were done the thing has come on
    comes-from : (cs : List DebugCommand) (s t : Session N) (came : CameSoFar q cs s t) → Before came.between.machine t.machine
    comes-from cs s t came = elim came.last [
      | inl same ↦ subst (λ (y : Session N). Before came.between.machine y.machine) (sym same) (goes.here came.between.machine)
      | inr part ↦
          does-so_far q (Before came.between.machine) (from q Before goes came.between.machine) part.0 came.between t part.2 (goes.here came.between.machine)
    ]

    pub only-partly : (cs : List DebugCommand) (s t z : Session N) (one : CameSoFar q cs s t) (two : CameSoFar q cs s z) → z.machine ≡ t.machine
        → two.count ≡ one.count → (z ≡ t) × (two.replies ≡ one.replies)
    only-partly cs s t z one two same as_many =
        let done : DoAll q (take one.count cs) s two.between two.replies = subst (λ n. DoAll q (take n cs) s two.between two.replies) as_many two.done in
        let both =
        only-before q Before goes (take one.count cs) s one.between two.between one.replies two.replies t.machine one.done done
        (comes-from cs s t one) (subst (Before two.between.machine) same (comes-from cs s z two)) in (
          came-alike cs s z two ∙ ap (with_machine two.between) same ∙ ap (λ (y : Session N). with_machine y t.machine) both.0
              ∙ sym (came-alike cs s t one),
          both.1,
        )

    -- the first n commands alone, where as many were done
    first-part : (cs : List DebugCommand) (s t : Session N) (came : CameSoFar q cs s t) (n : ℕ) → n ≤ came.count
        → (mid : Session N) × DoAll q (take n cs) s mid (take n came.replies) × Before mid.machine t.machine
    first-part cs s t came n less =
        let parts = in-two (take came.count cs) n s came.between came.replies came.done in (
          parts.0,
          subst (λ (xs : List DebugCommand). DoAll q xs s parts.0 (take n came.replies)) (take-take n came.count cs less) parts.1,
          goes.later parts.0.machine came.between.machine t.machine
              (does-all q (Before parts.0.machine) (from q Before goes parts.0.machine) (drop n (take came.count cs)) parts.0 came.between (drop n came.replies) parts.2
              (goes.here parts.0.machine))
              (comes-from cs s t came),
        )

    pub common-replies : (cs : List DebugCommand) (s t z : Session N) (one : CameSoFar q cs s t) (two : CameSoFar q cs s z) → z.machine ≡ t.machine
        → (n : ℕ) → n ≤ one.count → n ≤ two.count → take n two.replies ≡ take n one.replies
    common-replies cs s t z one two same n less also =
        let first = first-part cs s t one n less in
        let second = first-part cs s z two n also in
        (only-before q Before goes (take n cs) s first.0 second.0 (take n one.replies) (take n two.replies) t.machine first.1 second.1 first.2
        (subst (Before second.0.machine) same second.2)).1
