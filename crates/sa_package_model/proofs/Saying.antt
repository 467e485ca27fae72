-- A step adds two records at most, all of its own space.
use Rattle.std.proofs.Common.{ℕ, ◌≤◌, Bool, true, false, List, [], ◌∷◌, length, Option, Some, None, All, slice_get, if◌then◌else◌, arith}
use Rattle.std.proofs.lemmas.List.Elements.{All-cons, All-nil}
use Rattle.sa_base.specs.declared.limits.TheConstants.{PACKAGE_PAGE}
use Rattle.sa_base.specs.declared.number.ProcNo.{ProcNo}
use Rattle.sa_base.specs.declared.number.ThreadNo.{ThreadNo}
use Rattle.sa_base.specs.declared.context.Seen.{Seen}
use Rattle.sa_base.specs.declared.record.Record.{Record}
use Rattle.sa_base.specs.declared.record.Record.TheVariants.{Ins}
use Rattle.sa_instr.specs.declared.instr.Instr.{Instr}
use Rattle.sa_instr.specs.declared.instr.Instr.TheVariants.{Out, Touch}
use Rattle.sa_abstract.specs.Setting.{Setting}
use Rattle.sa_abstract.specs.Keeps.{IsOwn}
use Rattle.sa_lists.specs.ReadyView.{is_locked, sought}
use Rattle.sa_code.specs.declared.code.Op.{Op}
use Rattle.sa_code.specs.declared.code.Op.TheVariants as ops
use Rattle.sa_code.specs.declared.state.Frame.{Frame}
use Rattle.sa_code.specs.declared.state.MicroDone.{MicroDone}
use Rattle.sa_code.specs.declared.state.MicroDone.TheVariants as micros
use Rattle.sa_code.specs.Micro.{Micro, micro, micro_at, taken, pushed, popped, takes_first, chosen, list_in, is_resident}
use Rattle.sa_fast.specs.declared.threads.Block.{Block}
use Rattle.sa_fast.specs.declared.instruction.Ran.{Ran}
use Rattle.sa_fast.specs.declared.instruction.Ran.TheVariants.{Goes}
use Rattle.sa_fast.specs.Threads.{block_at}
use Rattle.sa_fast.specs.Instruction.{says_of, instr_of}
use Rattle.sa_package_model.specs.declared.context.Context.{Context}
use Rattle.sa_package_model.specs.declared.context.ContextState.{ContextState}
use Rattle.sa_package_model.specs.declared.context.ContextState.TheVariants.{Code, Work, Hint, Return, User, Look}
use Rattle.sa_package_model.specs.declared.package.Package.{Package}
use Rattle.sa_package_model.specs.Context.{carried_by}
use Rattle.sa_package_model.specs.Laws.{IsMadeFor}
use Rattle.sa_package_model.specs.Rules.{owed, coded_by, pushing_by, used_by, popping_by, is_idle, looked_by, own_list, push_of, pop_of}
use Rattle.sa_package_model.specs.Step.{worked, hinted, resettled, stepped_at, stepped}

module _ (s : Setting) (u : Package) (seen : Seen) (made : IsMadeFor s u) where
  abbrev Own : List Record → Type 0
  Own says = All (IsOwn s.space) says × (length says ≤ 2)

  none : Own []
  none = (All-nil (IsOwn s.space), omega arith)

  one : (r : Record) → IsOwn s.space r → Own (r ∷ [])
  one r h = (All-cons (IsOwn s.space) r [] h (All-nil (IsOwn s.space)), omega arith)

  two : (r q : Record) → IsOwn s.space r → IsOwn s.space q → Own (r ∷ q ∷ [])
  two r q h i = (All-cons (IsOwn s.space) r (q ∷ []) h (one q i).0, omega arith)

  taken_own : (f : Frame) (l : ProcNo) (held : Bool) → Own (taken u.shared.state f l held).says
  taken_own f l true = one _ tt
  taken_own f l false = one _ made.space

  pushed_own : (f : Frame) (there : Bool) (l : ProcNo) (t : Option ThreadNo) → Own (pushed u.shared.state f there l t).says
  pushed_own f true l (Some t) = one _ made.space
  pushed_own f _ l _ = none

  popped_own : (f : Frame) (there : Bool) (l : ProcNo) (t : Option ℕ) → Own (popped u.shared.state f there l t).says
  popped_own f true l (Some t) = one _ made.space
  popped_own f _ l _ = none

  micro_at_own : (f : Frame) (there : Bool) (l : ProcNo) (op : Option Op) → Own (micro_at u.shared.state f there l op).says
  micro_at_own f there l (Some ops.Push) = pushed_own f there l f.pushed
  micro_at_own f there l (Some ops.Pop) = popped_own f there l (chosen u.shared.state.lists (takes_first u.shared.state.lists f.own) l.0)
  micro_at_own f there l (Some ops.Free) = one _ made.space
  micro_at_own f there l (Some ops.Leave) = none
  micro_at_own f there l (Some ops.Yield) = one _ made.space
  micro_at_own f there l None = none
  micro_at_own f there l _ = taken_own f l (is_locked u.shared.state.lists l.0)

  micro_own : (f : Frame) → Own (micro u.shared.state f seen.pages).says
  micro_own f = micro_at_own f (is_resident seen.pages PACKAGE_PAGE) (list_in f) (slice_get u.shared.state.code f.pc)

  coded_own : (c : Context) (f : Frame) (op : Option Op) (m : Micro) (done : MicroDone) → Own m.says → Own (coded_by u seen c f op m done).says
  coded_own c f op m micros.Did h = h
  coded_own c f op m _ h = h

  pushing_own : (c : Context) (first : ThreadNo) (m : Micro) (done : MicroDone) → Own m.says → Own (pushing_by u c first m done).says
  pushing_own c first m micros.Did h = h
  pushing_own c first m _ h = h

  popping_own : (c : Context) (m : Micro) (done : MicroDone) → Own m.says → Own (popping_by u c m done).says
  popping_own c m micros.Did h = h
  popping_own c m _ h = h

  worked_own : (c : Context) (f : Option Frame) (first : Option ThreadNo) → Own (worked u seen c f first).says
  worked_own c (Some f) first = one _ made.space
  worked_own c None (Some first) =
      let f = push_of seen.proc (own_list u seen.proc) first (carried_by c.state) in let m = micro u.shared.state f seen.pages in
      pushing_own c first m m.done (micro_own f)
  worked_own c None None = none

  hinted_own : (c : Context) (more : Option ℕ) → Own (hinted u c more).says
  hinted_own c (Some n) = none
  hinted_own c None = none

  touched_own : (t : ThreadNo) (b : Block) (there : Bool) → Own (if there then Ins u.shared.state.space t b.pc ∷ [] else [])
  touched_own t b true = one _ made.space
  touched_own t b false = none

  says_own : (t : ThreadNo) (b : Block) (i : Instr) → Own (says_of u.shared.state.space t b seen.pages i)
  says_own t b (Out reg) = two _ _ made.space made.space
  says_own t b (Touch page) = touched_own t b (is_resident seen.pages page)
  says_own t b _ = one _ made.space

  used_own : (v : Package) (c : Context) (t : ThreadNo) (a : Ran) (says : List Record) → Own says → Own (used_by v seen c t a says).says
  used_own v c t Goes says h = h
  used_own v c t _ says h = h

  looked_own : (c : Context) (looks : ℕ) (idle : Bool) (l : Option ℕ) → Own (looked_by u seen c looks idle l).says
  looked_own c looks idle (Some l) = let f = pop_of seen.proc l in let m = micro u.shared.state f seen.pages in popping_own c m m.done (micro_own f)
  looked_own c looks true None = none
  looked_own c looks false None = one _ tt

  own_at : (c : Context) (state : ContextState) → Own (stepped_at u seen c state).says
  own_at c (Code f) = let m = micro u.shared.state f seen.pages in coded_own c f (slice_get u.shared.state.code f.pc) m m.done (micro_own f)
  own_at c (Work t) = worked_own c (slice_get c.sections 0) c.work
  own_at c (Hint t) = hinted_own c (owed u seen)
  own_at c Return = none
  own_at c (User t) = let b = block_at u.shared.threads t.0 in used_own _ _ t _ _ (says_own t b (instr_of u.def b))
  own_at c (Look looks) = looked_own c looks (is_idle u seen looks) (sought u.shared.state.lists (own_list u seen.proc).0)

  pub step-own : (c : Context) → Own (stepped u seen c).says
  step-own c = let d = resettled u seen c c.state in own_at d d.state
