-- FastThreads' instructions after which their thread goes on, or waits or is done, are legal.
use Rattle.std.proofs.Common.{reverse, ◌≡◌, ℕ, [], ◌∷◌, Option, None, slice_index_or, refl, sym, ap, ◌∙◌}
use Rattle.std.specs.Prelude.{length}
use Rattle.sa_base.specs.declared.context.Seen.{Seen}
use Rattle.sa_base.specs.declared.number.ActNo.{ActNo}
use Rattle.sa_base.specs.declared.number.ProcNo.{ProcNo}
use Rattle.sa_base.specs.declared.number.ThreadNo.{ThreadNo}
use Rattle.sa_base.specs.declared.record.Record.TheVariants as records
use Rattle.sa_instr.specs.declared.instr.Instr.{Instr}
use Rattle.sa_spaces.specs.Workload.{WorkloadView}
use Rattle.sa_links.specs.Lists.{list_at}
use Rattle.sa_fast.specs.Instruction.{Outcome, run, instr_of}
use Rattle.sa_fast.specs.Threads.{block_at}
use Rattle.sa_fast.specs.declared.instruction.Ran.TheVariants as rans
use Rattle.sa_fast.specs.declared.threads.Block.{Block}
use Rattle.sa_abstract.specs.Calls.{Contexts}
use Rattle.sa_abstract.specs.Setting.{Setting}
use Rattle.sa_package_model.specs.Rules.{with_shared}
use Rattle.sa_package_model.specs.Step.{stepped}
use Rattle.sa_package_model.specs.declared.context.Context.{Context}
use Rattle.sa_package_model.specs.declared.context.ContextState.TheVariants.{User}
use Rattle.sa_package_model.specs.declared.package.Package.{Package}
use Rattle.sa_laws.specs.History.{after_records}
use Rattle.sa_laws.specs.Life.{Life}
use Rattle.sa_laws.specs.Readings.{Readings, ready_of}
use Rattle.sa_user_laws.specs.Scene.{event_begun_at}
use Rattle.sa_fast_laws.specs.FastFits.{numbers_in, FitsLists}
use Rattle.sa_fast_laws.proofs.instructions.Ranks.{ranks-stay}
use Rattle.sa_fast_laws.proofs.steps.Events.{IsLegal}
use Rattle.sa_fast_laws.proofs.steps.Scenes.{IsScene, IsFastScene}
use Rattle.sa_fast_laws.proofs.steps.Turns.{IsAllowed, turn-legal}
use Rattle.sa_fast_laws.proofs.user_steps.UserMoves.{out_of, outs, outs_plain, IsCalm, goes-move, goes-lists, leaves-move, leaves-lists, ins-table, ins-cases}

module _ (set : Setting) (e : ℕ) (u : Package) (cs : Contexts Context) (w : WorkloadView) (r : Readings) (p : ProcNo) (a : ActNo) (life : Life)
    (seen : Seen)
    (t : ThreadNo) (y : IsFastScene set e u cs w r p a life (record { state = User t; sections = []; work = None }) seen) where
  abbrev c : Context
  c = record { state = User t; sections = []; work = None }

  abbrev b : Block
  b = block_at u.shared.threads t.0

  abbrev j : Instr
  j = instr_of u.def b

  abbrev o : Outcome
  o = run u.def u.fetch seen.pages u.shared None t

  abbrev v : Package
  v = with_shared u o.shared

  abbrev Legal : Type 0
  Legal = IsLegal w set r p seen.event a cs (stepped u seen (record { state = User t; sections = []; work = None }))

  i : IsScene set e u cs w r p a life (record { state = User t; sections = []; work = None }) seen
  i = y.scene

  abbrev q : Readings
  q = after_records w seen.event p (event_begun_at w seen.event p r) (records.Ins set.space t b.pc ∷ outs set.space t (out_of b j))

  -- FastThreads' lists stay, and its threads have one rank
  lists-stay : v.shared.state.lists.lists ≡ u.shared.state.lists.lists → q.ready ≡ r.ready → FitsLists v (ready_of q set.space)
  lists-stay lists ready = record {
    many = ap length lists ∙ y.lists.many;
    ranks = ranks-stay u.fetch seen.pages u.shared None t b j y.lists.ranks;
    numbers = λ m. ap (λ ls. numbers_in (slice_index_or ls set.space.0 []) m) ready
        ∙ y.lists.numbers m ∙ ap (λ ls. reverse (list_at ls m.0)) (sym lists);
  }

  module _ (calm : IsCalm (run u.def u.fetch seen.pages u.shared None t).answer) where
    -- what the rules ask of it
    allowed : v.shared.state.lists.lists ≡ u.shared.state.lists.lists → q.ready ≡ r.ready
        → IsAllowed set e u cs w r p a life c seen y (records.Ins set.space t b.pc) (outs set.space t (out_of b j)) v
    allowed lists ready = record {
      table = ins-table set e u cs w r p a life seen t i calm;
      keeps = tt;
      alone = (outs_plain set.space t (out_of b j)).1;
      free = record { free = λ bound. y.free refl };
      next = λ behind. tt;
      lists = lists-stay lists ready;
    }

    pub goes-legal : o.answer ≡ rans.Goes → Legal
    goes-legal goes =
        let same = goes-lists set e u cs w r p a life seen t i calm goes in
        turn-legal set e u cs w r p a life c seen y (goes-move set e u cs w r p a life seen t i calm goes) (allowed same.0 same.1)

    leaves-legal : o.answer ≡ rans.Leaves → Legal
    leaves-legal leaves =
        let same = leaves-lists set e u cs w r p a life seen t i calm leaves in
        turn-legal set e u cs w r p a life c seen y (leaves-move set e u cs w r p a life seen t i calm leaves) (allowed same.0 same.1)

  -- ALL OF THEM, but one that blocks
  pub instr-legal : ((length : ℕ) (page : Option ℕ) → (run u.def u.fetch seen.pages u.shared None t).answer ≡ rans.Blocks length page → Legal) → Legal
  instr-legal blocks =
      ins-cases set e u cs w r p a life seen t i Legal
      (record { goes = λ calm is. goes-legal calm is; leaves = λ calm is. leaves-legal calm is; blocks = blocks })
