-- What an instruction does is the same, whichever threads the ready lists have. So what is known of FastThreads' instructions holds
-- here, as if the ready threads were in a list.
use Rattle.std.proofs.Common.{◌≡◌, ℕ, zero, suc, ◌+◌, ◌≤◌, ◌<◌, Bool, true, false, cond, List, [], ◌∷◌, Option, Some, None, refl, ap, ◌∙◌, inl, inr, arith}
use Rattle.std.proofs.lemmas.Bool.{cases_eq}
use Rattle.std.proofs.lemmas.List.Sums.{sum_by-cons}
use Rattle.sa_base.specs.declared.number.ThreadNo.{ThreadNo}
use Rattle.sa_spaces.specs.Space.{SpaceView}
use Rattle.sa_instr.specs.declared.instr.Reg.{Reg}
use Rattle.sa_instr.specs.declared.instr.Instr.{Instr}
use Rattle.sa_instr.specs.declared.instr.Instr.TheVariants.{Fork, Join, Lock, Unlock, Wait, Signal, Touch}
use Rattle.sa_links.specs.Lists.{count_in, count_in_all}
use Rattle.sa_lists.specs.ReadyView.{next_made}
use Rattle.sa_code.specs.Micro.{is_resident}
use Rattle.sa_sync.specs.declared.answer.SyncAnswer.{SyncAnswer}
use Rattle.sa_sync.specs.declared.answer.SyncAnswer.TheVariants as answer
use Rattle.sa_sync.specs.Sync.{Sync}
use Rattle.sa_sync.specs.Calls.{locked, unlocked, waited, signalled, joined}
use Rattle.sa_instr.specs.Regs.{reg_value}
use Rattle.sa_fast.specs.declared.shared.Shared.{Shared}
use Rattle.sa_fast.specs.declared.threads.Block.{Block}
use Rattle.sa_fast.specs.Threads.{block_at}
use Rattle.sa_fast.specs.Instruction.{Outcome, told_by, forked, touched, outcome_of, instr_of, run, with_sync, next_of}
use Rattle.sa_fast.specs.Rest.{one_if, one_where}
use Rattle.sa_fast.proofs.WorkSteps.{count_one, one_same, one_other}

-- x with other ready lists
abbrev pub with_lists : Shared → List (List ℕ) → Shared
with_lists x lists = record x { state = record x.state { lists = record x.state.lists { lists = lists } } }

-- two outcomes that differ in no more than that
pub record AreAlike (o p : Outcome) : Type 0 where
  pub threads : p.shared.threads ≡ o.shared.threads
  pub sync : p.shared.sync ≡ o.shared.sync
  pub made : p.shared.state.lists.made ≡ o.shared.state.lists.made
  pub answer : p.answer ≡ o.answer

module _ (x : Shared) (lists : List (List ℕ)) (w : Option ThreadNo) (t : ThreadNo) where
  abbrev y : Shared
  y = with_lists x lists

  told_alike : (s : Sync) (b : Block) (a : SyncAnswer) → AreAlike (told_by (with_sync x s) w t b a) (told_by (with_sync y s) w t b a)
  told_alike s b answer.Goes = record { threads = refl; sync = refl; made = refl; answer = refl }
  told_alike s b answer.Waits = record { threads = refl; sync = refl; made = refl; answer = refl }
  told_alike s b (answer.Wakes u) = record { threads = refl; sync = refl; made = refl; answer = refl }

  forked_alike : (b : Block) (reg : Reg) (program : ℕ) (made : Option ℕ) → AreAlike (forked x w t b reg program made) (forked y w t b reg program made)
  forked_alike b reg program None = record { threads = refl; sync = refl; made = refl; answer = refl }
  forked_alike b reg program (Some n) = record { threads = refl; sync = refl; made = refl; answer = refl }

  touched_alike : (b : Block) (fetch page : ℕ) (there : Bool) → AreAlike (touched x w t b fetch page there) (touched y w t b fetch page there)
  touched_alike b fetch page true = record { threads = refl; sync = refl; made = refl; answer = refl }
  touched_alike b fetch page false = record { threads = refl; sync = refl; made = refl; answer = refl }

  outcome_alike : (fetch pages : ℕ) (b : Block) (i : Instr) → AreAlike (outcome_of fetch pages x w t b i) (outcome_of fetch pages y w t b i)
  outcome_alike fetch pages b (Fork reg program) = forked_alike b reg program (next_made x.state.lists)
  outcome_alike fetch pages b (Join reg) =
      let change = joined x.sync t.0 (reg_value b.regs reg) x.state.lists.made in told_alike change.state _ change.answer
  outcome_alike fetch pages b (Lock m) = let change = locked x.sync t.0 m in told_alike change.state (next_of b) change.answer
  outcome_alike fetch pages b (Unlock m) = let change = unlocked x.sync t.0 m in told_alike change.state (next_of b) change.answer
  outcome_alike fetch pages b (Wait k) = let change = waited x.sync t.0 k in told_alike change.state (next_of b) change.answer
  outcome_alike fetch pages b (Signal k) = let change = signalled x.sync k in told_alike change.state (next_of b) change.answer
  outcome_alike fetch pages b (Touch page) = touched_alike b fetch page (is_resident pages page)
  outcome_alike fetch pages b _ = record { threads = refl; sync = refl; made = refl; answer = refl }

  pub run_alike : (def : SpaceView) (fetch pages : ℕ) → AreAlike (run def fetch pages x w t) (run def fetch pages y w t)
  run_alike def fetch pages = let b = block_at x.threads t.0 in outcome_alike fetch pages b (instr_of def b)

-- A LIST of the numbers below n of which a test holds
module _ (p : ℕ → Bool) where
  abbrev with_if : Bool → ℕ → List ℕ → List ℕ
  with_if true n xs = n ∷ xs
  with_if false n xs = xs

  abbrev pub listed : ℕ → List ℕ
  listed zero = []
  listed (suc n) = with_if (p n) n (listed n)

  count_if : (b : Bool) (n u : ℕ) (xs : List ℕ) → count_in u (with_if b n xs) ≡ cond b (one_if n u) 0 + count_in u xs
  count_if true n u xs = count_one u n xs
  count_if false n u xs = let none : cond false (one_if n u) 0 ≡ 0 = refl in omega (arith, none)

  past_none : (n u : ℕ) → n ≤ u → count_in u (listed n) ≡ 0
  past_none zero u past = refl
  past_none (suc n) u past =
      let none : cond (p n) (one_if n u) 0 ≡ 0 = elim (p n) as (λ b. cond b (one_if n u) 0 ≡ 0) [
        | true ↦ one_other n u (λ e. absurd (omega (arith, past, e)))
        | false ↦ refl
      ] in
      omega (arith, none, count_if (p n) n u (listed n), past_none n u (omega (arith, past)))

  pub count_listed : (n u : ℕ) → u < n → count_in u (listed n) ≡ one_where (p u)
  count_listed zero u below = absurd (omega (arith, below))
  count_listed (suc n) u below = elim (cases_eq n u) [
    | inl e ↦
        let here : cond (p n) (one_if n u) 0 ≡ one_where (p u) =
        ap (λ k. cond (p n) k 0) (one_same n u e) ∙ ap (λ k. one_where (p k)) e in
        omega (arith, here, count_if (p n) n u (listed n), past_none n u (omega (arith, e)))
    | inr ne ↦
        let none : cond (p n) (one_if n u) 0 ≡ 0 = elim (p n) as (λ b. cond b (one_if n u) 0 ≡ 0) [ true ↦ one_other n u ne | false ↦ refl ] in
        omega (arith, none, count_if (p n) n u (listed n), count_listed n u (omega (arith, below, ne)))
  ]

  pub count_past : (n u : ℕ) → n ≤ u → count_in u (listed n) ≡ 0
  count_past = past_none

-- one list alone
pub one_list : (xs : List ℕ) (u : ℕ) → count_in_all u (xs ∷ []) ≡ count_in u xs
one_list xs u = let sum : count_in_all u (xs ∷ []) ≡ count_in u xs + count_in_all u [] = sum_by-cons (count_in u) xs [] in
    let nil : count_in_all u [] ≡ 0 = refl in omega (arith, sum, nil)
