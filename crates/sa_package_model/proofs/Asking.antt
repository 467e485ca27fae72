-- What a step asks for the kernel can do.
use Rattle.std.proofs.Common.{◌≡◌, ℕ, ◌+◌, ◌-◌, ◌<◌, ◌≤◌, Bool, true, false, cond, ◌&&◌, List, [], length, Option, Some, None, is_some, IfSome, nat_le, slice_get, refl, sym, subst, arith}
use Rattle.std.proofs.lemmas.Bool.Decides.{nat_tests}
use Rattle.std.proofs.lemmas.List.Elements.{All-get_or}
use Rattle.sa_base.specs.declared.number.ThreadNo.{ThreadNo}
use Rattle.sa_base.specs.declared.limits.TheConstants.{PAGES, FIRST_THREAD_PAGE, BULK_RETURN}
use Rattle.sa_instr.specs.declared.limits.TheConstants.{LAST_PAGE, MAX_FETCH, MAX_IO_LENGTH}
use Rattle.sa_base.specs.declared.context.Seen.{Seen}
use Rattle.sa_base.specs.declared.record.Record.{Record}
use Rattle.sa_instr.specs.Instr.{IsInRange}
use Rattle.sa_spaces.specs.Space.{SpaceView, IsSpace}
use Rattle.sa_instr.specs.Program.{IsProgram}
use Rattle.sa_instr.specs.declared.instr.Reg.{Reg}
use Rattle.sa_instr.specs.declared.instr.Instr.{Instr}
use Rattle.sa_instr.specs.declared.instr.Instr.TheVariants.{Fork, Join, Lock, Unlock, Wait, Signal, Io, Touch, End}
use Rattle.sa_abstract.specs.Setting.{Setting}
use Rattle.sa_abstract.specs.Walk.{program_at}
use Rattle.sa_abstract.specs.Keeps.{IsAsked}
use Rattle.sa_lists.specs.ReadyView.{next_made, sought}
use Rattle.sa_sync.specs.declared.answer.SyncAnswer.{SyncAnswer}
use Rattle.sa_sync.specs.declared.answer.SyncAnswer.TheVariants as answer
use Rattle.sa_code.specs.declared.code.Op.{Op}
use Rattle.sa_code.specs.declared.state.Frame.{Frame}
use Rattle.sa_code.specs.declared.state.MicroDone.{MicroDone}
use Rattle.sa_code.specs.declared.state.MicroDone.TheVariants as micros
use Rattle.sa_code.specs.Micro.{Micro, micro, is_resident}
use Rattle.sa_fast.specs.declared.threads.Block.{Block}
use Rattle.sa_fast.specs.declared.shared.Shared.{Shared}
use Rattle.sa_fast.specs.declared.instruction.Ran.{Ran}
use Rattle.sa_fast.specs.declared.instruction.Ran.TheVariants.{Goes, Blocks}
use Rattle.sa_fast.specs.Hints.{usable, more_owed, idle_owed}
use Rattle.sa_fast.specs.Threads.{block_at}
use Rattle.sa_fast.specs.Instruction.{told_by, forked, touched, outcome_of, instr_of, IsAt}
use Rattle.sa_package_model.specs.declared.context.Context.{Context}
use Rattle.sa_package_model.specs.declared.context.ContextState.{ContextState}
use Rattle.sa_package_model.specs.declared.context.ContextState.TheVariants.{Code, Work, Hint, Return, User, Look}
use Rattle.sa_package_model.specs.declared.package.Package.{Package}
use Rattle.sa_package_model.specs.Context.{carried_by, settled_to, is_left, has_bulk}
use Rattle.sa_package_model.specs.Conditions.{CanAct, CanStep}
use Rattle.sa_package_model.specs.Laws.{IsMadeFor}
use Rattle.sa_package_model.specs.Rules.{owed, load, coded_by, pushing_by, used_by, popping_by, is_idle, looked_by, own_list, push_of, pop_of}
use Rattle.sa_package_model.specs.Step.{worked, hinted, if_owed, if_bulk, resettled, stepped_at, stepped}
use Rattle.sa_package_model.proofs.Settled.{can-resettled}

-- the hints
owed_fits : (demand processors load n : ℕ) → more_owed demand processors load ≡ Some n → (1 ≤ n) × (demand + n ≤ processors)
owed_fits demand processors load n e =
    let most : usable processors load ≤ processors = grind (arith, nat_tests) in
    elim (nat_le (usable processors load) demand) as (λ b. b ≡ nat_le (usable processors load) demand
    → cond b None (Some (usable processors load - demand)) ≡ Some n → (1 ≤ n) × (demand + n ≤ processors)) [
      | true ↦ λ test is. absurd cc
      | false ↦ λ test is.
          let more : demand < usable processors load = grind (arith, nat_tests) in
          let same : usable processors load - demand ≡ n = cc in (omega arith, omega arith)
    ] refl e

idle_fits : (demand load patience looks : ℕ) → (nat_le patience looks && idle_owed demand load) ≡ true → 1 ≤ demand
idle_fits demand load patience looks e = grind (arith, nat_tests)

-- an instruction blocks for a length, and for a page, in their ranges
abbrev CanBlock : Ran → Type 0
CanBlock (Blocks length page) = (1 ≤ length) × (length ≤ MAX_IO_LENGTH) × IfSome page (λ k. (1 ≤ k) × (k < PAGES))
CanBlock _ = Unit {0}

told_blocks : (x : Shared) (w : Option ThreadNo) (t : ThreadNo) (b : Block) (a : SyncAnswer) → CanBlock (told_by x w t b a).answer
told_blocks x w t b answer.Goes = tt
told_blocks x w t b _ = tt

forked_blocks : (x : Shared) (w : Option ThreadNo) (t : ThreadNo) (b : Block) (reg : Reg) (program : ℕ) (made : Option ℕ)
    → CanBlock (forked x w t b reg program made).answer
forked_blocks x w t b reg program None = tt
forked_blocks x w t b reg program (Some n) = tt

touched_blocks : (x : Shared) (w : Option ThreadNo) (t : ThreadNo) (b : Block) (fetch page : ℕ) (there : Bool) → 1 ≤ fetch → fetch ≤ MAX_FETCH
    → FIRST_THREAD_PAGE ≤ page → page ≤ LAST_PAGE → CanBlock (touched x w t b fetch page there).answer
touched_blocks x w t b fetch page true some few first last = tt
touched_blocks x w t b fetch page false some few first last = (some, omega arith, (omega arith, omega arith))

blocks : (fetch pages : ℕ) (x : Shared) (w : Option ThreadNo) (t : ThreadNo) (b : Block) (i : Instr) → 1 ≤ fetch → fetch ≤ MAX_FETCH → IsInRange i
    → CanBlock (outcome_of fetch pages x w t b i).answer
blocks fetch pages x w t b (Fork reg program) some few range = forked_blocks x w t b reg program (next_made x.state.lists)
blocks fetch pages x w t b (Join reg) some few range = told_blocks _ w t _ _
blocks fetch pages x w t b (Lock m) some few range = told_blocks _ w t _ _
blocks fetch pages x w t b (Unlock m) some few range = told_blocks _ w t _ _
blocks fetch pages x w t b (Wait k) some few range = told_blocks _ w t _ _
blocks fetch pages x w t b (Signal k) some few range = told_blocks _ w t _ _
blocks fetch pages x w t b (Io length) some few range = (range.0.0, range.0.1, tt)
blocks fetch pages x w t b (Touch page) some few range = touched_blocks x w t b fetch page (is_resident pages page) some few range.0.0 range.0.1
blocks fetch pages x w t b _ some few range = tt

-- an instruction of a space is in its range
in_range : (def : SpaceView) (b : Block) → IsSpace def → IsAt def b → IsInRange (instr_of def b)
in_range def b h at =
    let program : IsProgram (program_at def.programs b.program) = All-get_or IsProgram def.programs b.program [] at.program h.programs in
    All-get_or IsInRange (program_at def.programs b.program) b.pc End at.pc program.ranges

-- each rule's answer
module _ (s : Setting) (u : Package) (seen : Seen) (made : IsMadeFor s u) where
  some_fetch : 1 ≤ u.fetch
  some_fetch = subst (λ n. 1 ≤ n) (sym made.fetch) made.setting.some_fetch

  few_fetch : u.fetch ≤ MAX_FETCH
  few_fetch = subst (λ n. n ≤ MAX_FETCH) (sym made.fetch) made.setting.short_fetch

  coded_asks : (c : Context) (f : Frame) (op : Option Op) (m : Micro) (done : MicroDone) → IsAsked s seen (coded_by u seen c f op m done).answer
  coded_asks c f op m micros.Faulted = let some = some_fetch in let few = few_fetch in (some, omega arith, (omega arith, omega arith))
  coded_asks c f op m _ = tt

  pushing_asks : (c : Context) (first : ThreadNo) (m : Micro) (done : MicroDone) → IsAsked s seen (pushing_by u c first m done).answer
  pushing_asks c first m micros.Did = tt
  pushing_asks c first m _ = tt

  popping_asks : (c : Context) (m : Micro) (done : MicroDone) → IsAsked s seen (popping_by u c m done).answer
  popping_asks c m micros.Did = tt
  popping_asks c m _ = tt

  worked_asks : (c : Context) (f : Option Frame) (first : Option ThreadNo) → IsAsked s seen (worked u seen c f first).answer
  worked_asks c None (Some first) = let m = micro u.shared.state (push_of seen.proc (own_list u seen.proc) first (carried_by c.state)) seen.pages in
      pushing_asks c first m m.done
  worked_asks c _ _ = tt

  hinted_asks : (c : Context) (more : Option ℕ) → owed u seen ≡ more → IsAsked s seen (hinted u c more).answer
  hinted_asks c (Some n) e = let fits = owed_fits seen.demand u.processors (load u) n e in (fits.0, subst (λ p. seen.demand + n ≤ p) made.processors fits.1)
  hinted_asks c None e = tt

  used_asks : (v : Package) (c : Context) (t : ThreadNo) (a : Ran) (says : List Record) → CanBlock a → IsAsked s seen (used_by v seen c t a says).answer
  used_asks v c t (Blocks length page) says h = h
  used_asks v c t _ says h = tt

  looked_asks : (c : Context) (looks : ℕ) (idle : Bool) (l : Option ℕ) → is_idle u seen looks ≡ idle → IsAsked s seen (looked_by u seen c looks idle l).answer
  looked_asks c looks idle (Some l) e = let m = micro u.shared.state (pop_of seen.proc l) seen.pages in popping_asks c m m.done
  looked_asks c looks true None e = idle_fits seen.demand (load u) u.def.patience looks e
  looked_asks c looks false None e = tt

  -- a context returns activations only where many are taken
  abbrev IsBulk : ContextState → Type 0
  IsBulk Return = has_bulk seen ≡ true
  IsBulk _ = Unit {0}

  settled_bulk : (t : Option ThreadNo) (left owes bulk : Bool) → bulk ≡ has_bulk seen → IsBulk (settled_to t left owes bulk)
  settled_bulk t true owes bulk e = tt
  settled_bulk t false true bulk e = tt
  settled_bulk (Some t) false false bulk e = tt
  settled_bulk None false false true e = sym e
  settled_bulk None false false false e = tt

  owed_bulk : (c : Context) (t : Option ThreadNo) (more : Option ℕ) → IsBulk c.state → IsBulk (if_owed u seen c t more).state
  owed_bulk c t (Some n) h = h
  owed_bulk c t None h = settled_bulk t (is_left c) (is_some (owed u seen)) (has_bulk seen) refl

  bulk_bulk : (c : Context) (bulk : Bool) → bulk ≡ has_bulk seen → (bulk ≡ true → IsBulk c.state) → IsBulk (if_bulk u seen c bulk).state
  bulk_bulk c true e h = h refl
  bulk_bulk c false e h = settled_bulk None (is_left c) (is_some (owed u seen)) (has_bulk seen) refl

  resettled_bulk : (c : Context) (state : ContextState) → c.state ≡ state → IsBulk (resettled u seen c state).state
  resettled_bulk c (Hint t) e = owed_bulk c t (owed u seen) (subst IsBulk (sym e) tt)
  resettled_bulk c Return e = bulk_bulk c (has_bulk seen) refl (λ many. subst IsBulk (sym e) many)
  resettled_bulk c _ e = subst IsBulk (sym e) tt

  asks_at : (c : Context) (state : ContextState) → IsBulk state → CanAct u c state → IsAsked s seen (stepped_at u seen c state).answer
  asks_at c (Code f) bulk act = let m = micro u.shared.state f seen.pages in coded_asks c f (slice_get u.shared.state.code f.pc) m m.done
  asks_at c (Work t) bulk act = worked_asks c (slice_get c.sections 0) c.work
  asks_at c (Hint t) bulk act = hinted_asks c (owed u seen) refl
  asks_at c Return bulk act = let h : nat_le BULK_RETURN seen.taken ≡ true = bulk in grind (arith, nat_tests)
  asks_at c (User t) bulk act =
      let b = block_at u.shared.threads t.0 in
      used_asks _ _ t _ _ (blocks u.fetch seen.pages u.shared c.work t b (instr_of u.def b) some_fetch few_fetch
      (in_range u.def b (subst IsSpace (sym made.def) made.setting.def) act.at))
  asks_at c (Look looks) bulk act = looked_asks c looks (is_idle u seen looks) (sought u.shared.state.lists (own_list u seen.proc).0) refl

  pub step-asks : (c : Context) → CanStep u seen c → IsAsked s seen (stepped u seen c).answer
  step-asks c can = let d = resettled u seen c c.state in asks_at d d.state (resettled_bulk c c.state refl) (can-resettled u seen c can).acts
