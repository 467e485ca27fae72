-- Each call of a package keeps for how many threads there are ranks.
use Rattle.std.proofs.Common.{◌≡◌, ℕ, Bool, true, false, ◌==◌, Option, Some, None, List, length, slice_get, slice_set, if◌then◌else◌, refl, ap, ◌∙◌}
use Rattle.std.proofs.lemmas.List.{length-set}
use Rattle.sa_base.specs.declared.number.ProcNo.{ProcNo}
use Rattle.sa_base.specs.declared.number.ThreadNo.{ThreadNo}
use Rattle.sa_base.specs.declared.context.Seen.{Seen}
use Rattle.sa_base.specs.declared.context.Stopped.{Stopped}
use Rattle.sa_base.specs.declared.record.Note.{Note}
use Rattle.sa_base.specs.declared.record.Note.TheVariants.{Preempted, Unblocked}
use Rattle.sa_base.specs.declared.record.Record.{Record}
use Rattle.sa_instr.specs.declared.instr.Instr.{Instr}
use Rattle.sa_instr.specs.declared.instr.Instr.TheVariants as instrs
use Rattle.sa_instr.specs.declared.instr.Reg.{Reg}
use Rattle.sa_links.specs.Lists.{count_in_all}
use Rattle.sa_lists.specs.ReadyView.{ReadyView, with_made, next_made, is_locked, sought}
use Rattle.sa_code.specs.declared.code.Op.{Op}
use Rattle.sa_code.specs.declared.code.Op.TheVariants as ops
use Rattle.sa_code.specs.declared.state.PackageState.{PackageState}
use Rattle.sa_code.specs.declared.state.Frame.{Frame}
use Rattle.sa_code.specs.declared.state.MicroDone.{MicroDone}
use Rattle.sa_code.specs.declared.state.MicroDone.TheVariants as micros
use Rattle.sa_code.specs.Micro.{Micro, micro, micro_at, taken, pushed, popped, chosen, takes_first, list_in, is_resident}
use Rattle.sa_base.specs.declared.limits.TheConstants.{PACKAGE_PAGE}
use Rattle.sa_sync.specs.declared.answer.SyncAnswer.{SyncAnswer}
use Rattle.sa_sync.specs.declared.answer.SyncAnswer.TheVariants as answers
use Rattle.sa_sync.specs.Calls.{Change, locked, unlocked, waited, signalled}
use Rattle.sa_fast.specs.declared.shared.Shared.{Shared}
use Rattle.sa_fast.specs.declared.threads.Block.{Block}
use Rattle.sa_fast.specs.declared.instruction.Ran.{Ran}
use Rattle.sa_fast.specs.declared.instruction.Ran.TheVariants as rans
use Rattle.sa_fast.specs.Threads.{block_at}
use Rattle.sa_fast.specs.Instruction.{outcome_of, run, run_says, told_by, synced, with_sync, forked, touched, instr_of, next_of}
use Rattle.sa_package_model.specs.declared.context.Context.{Context}
use Rattle.sa_package_model.specs.declared.context.ContextState.{ContextState}
use Rattle.sa_package_model.specs.declared.context.ContextState.TheVariants.{Code, Work, Hint, Return, User, Look}
use Rattle.sa_package_model.specs.declared.package.Package.{Package}
use Rattle.sa_package_model.specs.Context.{carried_by}
use Rattle.sa_package_model.specs.Rules.{with_shared, owed, coded_by, moved_by, pushing_by, push_of, own_list, used_by, pop_of, popping_by, is_idle, looked_by}
use Rattle.sa_package_model.specs.Step.{told_of, told, worked, hinted, stepped_at, resettled, stepped}

abbrev pub ranks_in : Shared → List ℕ
ranks_in x = x.state.lists.ranks

abbrev pub ranks_of : Package → List ℕ
ranks_of u = ranks_in u.shared

-- an operation of the package's code
micro-ranks : (s : PackageState) (f : Frame) (pages : ℕ) → (micro s f pages).state.lists.ranks ≡ s.lists.ranks
micro-ranks s f pages = go (is_resident pages PACKAGE_PAGE) (list_in f) (slice_get s.code f.pc)
  where
    taking : (l : ProcNo) (held : Bool) → (taken s f l held).state.lists.ranks ≡ s.lists.ranks
    taking l true = refl
    taking l false = refl

    pushing : (resident : Bool) (l : ProcNo) (t : Option ThreadNo) → (pushed s f resident l t).state.lists.ranks ≡ s.lists.ranks
    pushing false l t = refl
    pushing true l None = refl
    pushing true l (Some t) = refl

    popping : (resident : Bool) (l : ProcNo) (t : Option ℕ) → (popped s f resident l t).state.lists.ranks ≡ s.lists.ranks
    popping false l t = refl
    popping true l None = refl
    popping true l (Some t) = refl

    go : (resident : Bool) (l : ProcNo) (op : Option Op) → (micro_at s f resident l op).state.lists.ranks ≡ s.lists.ranks
    go resident l (Some ops.TakePush) = taking l (is_locked s.lists l.0)
    go resident l (Some ops.Push) = pushing resident l f.pushed
    go resident l (Some ops.TakePop) = taking l (is_locked s.lists l.0)
    go resident l (Some ops.Pop) = popping resident l (chosen s.lists (takes_first s.lists f.own) l.0)
    go resident l (Some ops.Free) = refl
    go resident l (Some ops.Leave) = refl
    go resident l (Some ops.Yield) = refl
    go resident l None = refl

-- a thread is made
pub made-ranks : (r : ReadyView) (n rank : ℕ) → length (with_made r rank (Some n)).ranks ≡ length r.ranks
made-ranks r n rank = go (count_in_all n r.lists == 0)
  where
    go : (b : Bool) → length (if b then slice_set r.ranks n rank else r.ranks) ≡ length r.ranks
    go true = length-set r.ranks n rank
    go false = refl

-- an instruction of a thread
module _ (x : Shared) (w : Option ThreadNo) (t : ThreadNo) (b : Block) where
  told-ranks : (y : Shared) (c : Block) (answer : SyncAnswer) → ranks_in y ≡ ranks_in x → ranks_in (told_by y w t c answer).shared ≡ ranks_in x
  told-ranks y c answers.Goes same = same
  told-ranks y c _ same = same

  synced-ranks : (c : Block) (change : Change) → ranks_in (synced x w t c change).shared ≡ ranks_in x
  synced-ranks c change = told-ranks (with_sync x change.state) c change.answer refl

  forked-ranks : (reg : Reg) (program : ℕ) (next : Option ℕ) → length (ranks_in (forked x w t b reg program next).shared) ≡ length (ranks_in x)
  forked-ranks reg program None = refl
  forked-ranks reg program (Some n) = made-ranks x.state.lists n program

  touched-ranks : (fetch page : ℕ) (resident : Bool) → ranks_in (touched x w t b fetch page resident).shared ≡ ranks_in x
  touched-ranks fetch page true = refl
  touched-ranks fetch page false = refl

  outcome-ranks : (fetch pages : ℕ) (i : Instr) → length (ranks_in (outcome_of fetch pages x w t b i).shared) ≡ length (ranks_in x)
  outcome-ranks fetch pages (instrs.Fork reg program) = forked-ranks reg program (next_made x.state.lists)
  outcome-ranks fetch pages (instrs.Join reg) = ap length (told-ranks (with_sync x _) _ _ refl)
  outcome-ranks fetch pages (instrs.Lock m) = ap length (synced-ranks (next_of b) (locked x.sync t.0 m))
  outcome-ranks fetch pages (instrs.Unlock m) = ap length (synced-ranks (next_of b) (unlocked x.sync t.0 m))
  outcome-ranks fetch pages (instrs.Wait k) = ap length (synced-ranks (next_of b) (waited x.sync t.0 k))
  outcome-ranks fetch pages (instrs.Signal k) = ap length (synced-ranks (next_of b) (signalled x.sync k))
  outcome-ranks fetch pages (instrs.Touch page) = ap length (touched-ranks fetch page (is_resident pages page))
  outcome-ranks fetch pages _ = refl

-- the calls
module _ (u : Package) where
  abbrev Stay : Package → Type 0
  Stay v = length (ranks_of v) ≡ length (ranks_of u)

  moved-ranks : (x : Shared) (op : Option Op) (f g : Frame) → ranks_in (moved_by x op f g) ≡ ranks_in x
  moved-ranks x (Some ops.Push) f g = refl
  moved-ranks x _ f g = refl

  coded-stay : (seen : Seen) (c : Context) (f : Frame) (op : Option Op) (m : Micro) (done : MicroDone) → m.state.lists.ranks ≡ ranks_of u
      → Stay (coded_by u seen c f op m done).user
  coded-stay seen c f op m micros.Did same = ap length (moved-ranks (record u.shared { state = m.state }) op f m.frame ∙ same)
  coded-stay seen c f op m _ same = ap length same

  pushing-stay : (c : Context) (first : ThreadNo) (m : Micro) (done : MicroDone) → m.state.lists.ranks ≡ ranks_of u → Stay (pushing_by u c first m done).user
  pushing-stay c first m micros.Did same = ap length same
  pushing-stay c first m _ same = ap length same

  popping-stay : (c : Context) (m : Micro) (done : MicroDone) → m.state.lists.ranks ≡ ranks_of u → Stay (popping_by u c m done).user
  popping-stay c m micros.Did same = ap length same
  popping-stay c m _ same = ap length same

  worked-stay : (seen : Seen) (c : Context) (f : Option Frame) (t : Option ThreadNo) → Stay (worked u seen c f t).user
  worked-stay seen c None (Some first) =
      let f = push_of seen.proc (own_list u seen.proc) first (carried_by c.state) in
      let m = micro u.shared.state f seen.pages in pushing-stay c first m m.done (micro-ranks u.shared.state f seen.pages)
  worked-stay seen c _ _ = refl

  hinted-stay : (c : Context) (n : Option ℕ) → Stay (hinted u c n).user
  hinted-stay c None = refl
  hinted-stay c (Some n) = refl

  looked-stay : (seen : Seen) (c : Context) (looks : ℕ) (idle : Bool) (l : Option ℕ) → Stay (looked_by u seen c looks idle l).user
  looked-stay seen c looks idle (Some l) =
      let f = pop_of seen.proc l in let m = micro u.shared.state f seen.pages in popping-stay c m m.done (micro-ranks u.shared.state f seen.pages)
  looked-stay seen c looks true None = refl
  looked-stay seen c looks false None = refl

  used-stay : (x : Shared) (seen : Seen) (c : Context) (t : ThreadNo) (r : Ran) (says : List Record) → length (ranks_in x) ≡ length (ranks_of u)
      → Stay (used_by (with_shared u x) seen c t r says).user
  used-stay x seen c t rans.Goes says same = same
  used-stay x seen c t _ says same = same

  stepped_at-stay : (seen : Seen) (c : Context) (s : ContextState) → Stay (stepped_at u seen c s).user
  stepped_at-stay seen c (Code f) =
      let m = micro u.shared.state f seen.pages in
      coded-stay seen c f (slice_get u.shared.state.code f.pc) m m.done (micro-ranks u.shared.state f seen.pages)
  stepped_at-stay seen c (Work t) = worked-stay seen c (slice_get c.sections 0) c.work
  stepped_at-stay seen c (Hint t) = hinted-stay c (owed u seen)
  stepped_at-stay seen c Return = refl
  stepped_at-stay seen c (User t) =
      let o = run u.def u.fetch seen.pages u.shared c.work t in
      let b = block_at u.shared.threads t.0 in
      used-stay o.shared seen (record c { work = o.work }) t o.answer (run_says u.def seen.pages u.shared t)
      (outcome-ranks u.shared c.work t b u.fetch seen.pages (instr_of u.def b))
  stepped_at-stay seen c (Look looks) = looked-stay seen c looks (is_idle u seen looks) (sought u.shared.state.lists (own_list u seen.proc).0)

  pub stepped-stay : (seen : Seen) (c : Context) → Stay (stepped u seen c).user
  stepped-stay seen c = let d = resettled u seen c c.state in stepped_at-stay seen d d.state

  told_of-stay : (c : Context) (held : Option (Stopped Context)) → Stay (told_of u c held).user
  told_of-stay c None = refl
  told_of-stay c (Some h) = refl

  pub told-stay : (c : Context) (note : Note) (held : Option (Stopped Context)) → Stay (told u c note held).0
  told-stay c (Preempted a) held = told_of-stay c held
  told-stay c (Unblocked a) held = told_of-stay c held
  told-stay c _ held = refl
