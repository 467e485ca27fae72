-- A run of local instructions, from what is left of it.
use Rattle.std.proofs.Common.{◌≡◌, ℕ, suc, ◌+◌, ◌-◌, ◌<◌, ◌++◌, List, [], ◌∷◌, sym, ap, ◌∙◌, arith, append_assoc}
use Rattle.sa_base.specs.declared.number.SpaceNo.{SpaceNo}
use Rattle.sa_base.specs.declared.number.ProcNo.{ProcNo}
use Rattle.sa_base.specs.declared.number.ThreadNo.{ThreadNo}
use Rattle.sa_base.specs.declared.record.Item.{Item}
use Rattle.sa_base.specs.declared.record.Record.TheVariants.{Ins}
use Rattle.sa_base.specs.Items.{items_from}
use Rattle.sa_instr.specs.declared.instr.Instr.{Instr}
use Rattle.sa_instr.specs.Local.{instr_at, pc_after, regs_after}
use Rattle.sa_abstract.specs.Walk.{Spot, after_many, after_one, ins_records}
use Rattle.sa_fast.specs.declared.threads.Block.{Block}
use Rattle.sa_fast.specs.Threads.{gone_to}
use Rattle.sa_package_model.specs.Step.{block_after, says_between, spot_of, at_spot}

-- the spot after one instruction
spot_is : (program : List Instr) (b : Block) (pc : ℕ) (regs : List ℕ) → pc ≡ pc_after (instr_at program b.pc) b.pc b.regs
    → regs ≡ regs_after (instr_at program b.pc) b.regs → spot_of (gone_to b pc regs) ≡ after_one program (spot_of b)
spot_is program b pc regs at with =
    let of : ℕ → List ℕ → Spot = λ p r. record { pc = p; regs = r } in
    ap (λ p. of p regs) at ∙ ap (of (pc_after (instr_at program b.pc) b.pc b.regs)) with

module _ (program : List Instr) (b : Block) (pc : ℕ) (regs : List ℕ) (n done : ℕ) (more : done < n)
    (at : pc ≡ pc_after (instr_at program b.pc) b.pc b.regs) (with : regs ≡ regs_after (instr_at program b.pc) b.regs) where
  left : n - done ≡ suc (n - (done + 1))
  left = omega arith

  pub block-more : block_after program (n - (done + 1)) (gone_to b pc regs) ≡ block_after program (n - done) b
  block-more =
      ap (λ spot. at_spot b (after_many program (n - (done + 1)) spot)) (spot_is program b pc regs at with)
      ∙ ap (λ k. block_after program k b) (sym left)

  pub items-more : (s : SpaceNo) (t : ThreadNo) (p : ProcNo) (event next : ℕ) (before : List Item) → next ≡ event + 1
      → (before ++ record { event = event; proc = p; what = Ins s t b.pc } ∷ []) ++ items_from next p
      (says_between s t program (n - (done + 1)) (gone_to b pc regs))
      ≡ before ++ items_from event p (says_between s t program (n - done) b)
  items-more s t p event next before e =
      let rest = ins_records s t program (n - (done + 1)) in
      append_assoc before (record { event = event; proc = p; what = Ins s t b.pc } ∷ []) (items_from next p (rest (spot_of (gone_to b pc regs))))
      ∙ ap (λ k. before ++ record { event = event; proc = p; what = Ins s t b.pc } ∷ items_from k p (rest (spot_of (gone_to b pc regs)))) e
      ∙ ap (λ spot. before ++ record { event = event; proc = p; what = Ins s t b.pc } ∷ items_from (event + 1) p (rest spot))
      (spot_is program b pc regs at with)
      ∙ ap (λ k. before ++ items_from event p (says_between s t program k b)) (sym left)
