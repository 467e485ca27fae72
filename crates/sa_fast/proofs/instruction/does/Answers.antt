use Rattle.std.proofs.Common.{ℕ, ◌≡◌, Option, inl, inr, refl, sym, ap, ◌∙◌, subst, rules}
use Rattle.sa_sync.specs.Calls.{unlocked, signalled}
use Rattle.sa_sync.proofs.LawLemmas.{unlocked_tells, signalled_tells}
use Rattle.sa_base.specs.declared.number.ThreadNo.{ThreadNo}
use Rattle.sa_instr.specs.declared.instr.Instr.{Instr}
use Rattle.sa_fast.specs.declared.threads.Block.{Block}
use Rattle.sa_fast.specs.declared.shared.Shared.{Shared}
use Rattle.sa_fast.specs.Threads.{block_at}
use Rattle.sa_fast.specs.declared.instruction.Ran.TheVariants.{Goes}
use Rattle.sa_fast.specs.Instruction.{outcome, went, outcome_of}
use Rattle.sa_fast.proofs.WakeLemmas.{woken_free}
use Rattle.sa_fast.proofs.instruction.does.Goals as goal

pub tell_next-requires-in-Unlock-clause-woken : goal.tell_next-requires-in-Unlock-clause-woken
tell_next-requires-in-Unlock-clause-woken c =
    let s = c.args.shared.now.sync in
    woken_free s c.args.shared.now.works c.args.t.0 (unlocked s c.args.t.0 c.in-Unlock.m) c.unlock-answer.result c.waits_once.ensures
    (unlocked_tells s c.args.t.0 c.in-Unlock.m (search rules)) c.requires.can.waiting c.unlock-answer.ensures.answer

pub tell_next-requires-in-Signal-clause-woken : goal.tell_next-requires-in-Signal-clause-woken
tell_next-requires-in-Signal-clause-woken c =
    let s = c.args.shared.now.sync in
    woken_free s c.args.shared.now.works c.args.t.0 (signalled s c.in-Signal.k) c.signal-answer.result c.waits_once.ensures
    (signalled_tells s c.args.t.0 c.in-Signal.k (search rules)) c.requires.can.waiting c.signal-answer.ensures.answer

-- an instruction that stays within its thread
as_local : (fetch pages : ℕ) (x : Shared) (w : Option ThreadNo) (t : ThreadNo) (b : Block) (i j : Instr) → i ≡ j
    → outcome_of fetch pages x w t b j ≡ went x w t b j → outcome_of fetch pages x w t b i ≡ went x w t b i
as_local fetch pages x w t b i j e h = subst (λ k. outcome_of fetch pages x w t b k ≡ went x w t b k) (sym e) h

pub returns-in-Compute : goal.returns-in-Compute
returns-in-Compute c =
    let a = c.args in let b = block_at a.shared.now.threads a.t.0 in
    let same = as_local a.fetch a.seen.now.pages a.shared.now a.work.now a.t b a.instr in
    ap (λ threads. outcome (record a.shared.now { threads = threads }) a.work.now Goes) c.go.ensures
    ∙ sym (elim c.in-Compute.is [
      | inl compute ↦ same _ compute refl
      | inr other ↦ elim other [
        | inl set ↦ same _ set.2 refl
        | inr other ↦ elim other [
          | inl add ↦ same _ add.2 refl
          | inr other ↦ elim other [
            | inl sub ↦ same _ sub.2 refl
            | inr jnz ↦ same _ jnz.2 refl
          ]
        ]
      ]
    ])

pub returns-in-Io : goal.returns-in-Io
returns-in-Io c =
    let a = c.args in
    c.io.ensures a.work.now
    ∙ ap (outcome_of a.fetch a.seen.now.pages a.shared.now a.work.now a.t (block_at a.shared.now.threads a.t.0)) (sym c.in-Io.is)

pub returns-in-Touch : goal.returns-in-Touch
returns-in-Touch c =
    let a = c.args in
    c.touch.ensures a.work.now
    ∙ ap (outcome_of a.fetch a.seen.now.pages a.shared.now a.work.now a.t (block_at a.shared.now.threads a.t.0)) (sym c.in-Touch.is)
