-- A thread keeps its program wherever threads are placed.
use Rattle.std.proofs.Common.{◌≡◌, ℕ, List, length, Option, Some, None, refl, sym, ap, ◌∙◌, inl, inr, arith}
use Rattle.std.proofs.lemmas.Bool.{cases_eq, cases_lt}
use Rattle.std.proofs.lemmas.List.{get_or-set_same, get_or-set_other, set_past}
use Rattle.sa_base.specs.declared.number.ThreadNo.{ThreadNo}
use Rattle.sa_fast.specs.Threads.{block_at, unmade, moved_to, with_block}
use Rattle.sa_fast.specs.declared.threads.Block.{Block}
use Rattle.sa_fast.specs.declared.threads.KeptPlace.{KeptPlace}
use Rattle.sa_package_model.specs.Rules.{blocks_placed}

pub placed-programs : (blocks : List Block) (t : Option ThreadNo) (place : KeptPlace) (n : ℕ)
    → (block_at (blocks_placed blocks t place) n).program ≡ (block_at blocks n).program
placed-programs blocks None place n = refl
placed-programs blocks (Some t) place n =
    let b = moved_to (block_at blocks t.0) place in
    elim (cases_eq n t.0) [
      | inl same ↦ elim (cases_lt t.0 (length blocks)) [
        | inl less ↦
            ap (λ m. (block_at (with_block blocks t.0 b) m).program) same
            ∙ ap (λ (x : Block). x.program) (get_or-set_same blocks t.0 b unmade less)
            ∙ sym (ap (λ m. (block_at blocks m).program) same)
        | inr past ↦ ap (λ bs. (block_at bs n).program) (set_past blocks t.0 b (omega arith))
      ]
      | inr ne ↦ ap (λ (x : Block). x.program) (get_or-set_other blocks t.0 n b unmade ne)
    ]
