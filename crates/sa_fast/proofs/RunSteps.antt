-- An instruction of a thread moves threads between rest and the hand of its context, and loses none.
use Rattle.std.proofs.Common.{◌≡◌, ◌≢◌, ℕ, ◌+◌, ◌≤◌, ◌<◌, Bool, true, false, cond, nat_lt, get_or, List, [], length, Option, Some, None, refl, sym, ap, ◌∙◌, subst, inl, inr, arith}
use Rattle.std.specs.Prelude.{All}
use Rattle.std.proofs.lemmas.Bool.{cases_lt, ltb-true}
use Rattle.std.proofs.lemmas.Bool.Decides.{nat_tests}
use Rattle.std.proofs.lemmas.Option.{same_Some}
use Rattle.std.proofs.lemmas.List.{length-set}
use Rattle.std.proofs.lemmas.List.Elements.{All-get_or}
use Rattle.sa_base.specs.declared.number.ThreadNo.{ThreadNo}
use Rattle.sa_base.specs.declared.limits.TheConstants.{MAX_THREADS}
use Rattle.sa_instr.specs.declared.limits.TheConstants.{MAX_START}
use Rattle.sa_instr.specs.declared.instr.Instr.{Instr}
use Rattle.sa_instr.specs.declared.instr.Instr.TheVariants.{Compute, Load, Store, Out, Fork, Join, Lock, Unlock, Wait, Signal, Io, Touch, End}
use Rattle.sa_instr.specs.declared.instr.Reg.{Reg}
use Rattle.sa_instr.specs.Instr.{NamesDeclared}
use Rattle.sa_instr.specs.Local.{pc_after, regs_after}
use Rattle.sa_instr.specs.Program.{IsProgram}
use Rattle.sa_instr.specs.Regs.{reg_value}
use Rattle.sa_instr.proofs.PlaceLemmas.{next_inside, place_inside}
use Rattle.sa_spaces.specs.Space.{SpaceView, IsSpace}
use Rattle.sa_links.specs.Lists.{count_in, count_in_all}
use Rattle.sa_abstract.specs.Walk.{program_at}
use Rattle.sa_lists.specs.ReadyView.{ReadyView, thread, next_made}
use Rattle.sa_code.specs.Micro.{is_resident}
use Rattle.sa_sync.specs.declared.answer.SyncAnswer.{SyncAnswer}
use Rattle.sa_sync.specs.declared.answer.SyncAnswer.TheVariants as answer
use Rattle.sa_sync.specs.Sync.{Sync, cell_at, semaphore_at, joiners_at, waits_of}
use Rattle.sa_sync.specs.Calls.{Change, locked, unlocked, waited, signalled, joined, stored}
use Rattle.sa_sync.specs.Laws.{SameNumbers, woken, joining}
use Rattle.sa_sync.proofs.Numbers.{stored_keeps}
use Rattle.sa_fast.specs.declared.shared.Shared.{Shared}
use Rattle.sa_fast.specs.declared.threads.Block.{Block}
use Rattle.sa_fast.specs.declared.threads.KeptPlace.TheVariants.{Waiting, Blocked, Done}
use Rattle.sa_fast.specs.declared.instruction.Ran.{Ran}
use Rattle.sa_fast.specs.declared.instruction.Ran.TheVariants.{Goes, Leaves, Blocks}
use Rattle.sa_fast.specs.declared.instruction.TheConstants.{NOT_MADE}
use Rattle.sa_fast.specs.Threads.{at_start, unmade, block_at, with_block, moved_to, gone_to}
use Rattle.sa_fast.specs.Work.{Work, with_name, added, added_all, IsWork, IsUnlisted}
use Rattle.sa_fast.specs.Instruction.{outcome, outcome_of, with_thread, with_sync, with_works, next_of, value_in, went, told_by, synced, forked, joins, blocks, touched, ended, instr_of, run, IsAt}
use Rattle.sa_fast.specs.Rest.{one_if, one_of, done_at, unmade_at, threads_at_rest, FitsSpace, ArePartsFor}
use Rattle.sa_fast.proofs.Moves.{WorkStep, RunStep, stays_with}
use Rattle.sa_fast.proofs.WorkSteps.{one_same, still-step, added-step, added_all-step}
use Rattle.sa_fast.proofs.SyncSteps.{SyncStep, holds-set, locked-step, unlocked-step, waited-step, signalled-step, joined-step, ended_sync, ended-numbers, ended-waits, ended-done}

-- NUMBERS OF THREADS
pub made_below : (r : ReadyView) (t : ℕ) → unmade_at r t ≡ 0 → t < r.made
made_below r t made = grind (arith, nat_tests)

pub unmade_above : (r : ReadyView) (t : ℕ) → r.made ≤ t → unmade_at r t ≡ 1
unmade_above r t above = grind (arith, nat_tests)

-- one more is made
pub one_made : (r : ReadyView) (n u : ℕ) → r.made ≡ n → unmade_at (record r { made = n + 1 }) u + one_if n u ≡ unmade_at r u
one_made r n u is = grind (arith, nat_tests)

-- the next thread to make is the one after those that were made
next_by : (b : Bool) (m n : ℕ) → Some n ≡ cond b (Some m) None → (b ≡ true) × (m ≡ n)
next_by true m n e = (refl, sym (same_Some _ _ e))
next_by false m n e = absurd cc

pub next_is : (r : ReadyView) (n : ℕ) → Some n ≡ next_made r → (r.made < r.threads) × (r.made ≡ n)
next_is r n e = let by = next_by (nat_lt r.made r.threads) r.made n e in (ltb-true r.made r.threads by.0, by.1)

-- the same numbers of what is declared
fits_on : (def : SpaceView) (old new : Sync) → FitsSpace def old → SameNumbers old new → FitsSpace def new
fits_on def old new fits same = record {
  mutexes = same.mutexes ∙ fits.mutexes;
  semaphores = same.semaphores ∙ fits.semaphores;
  cells = same.cells ∙ fits.cells;
  joiners = same.joiners ∙ fits.joiners;
  done = same.done ∙ fits.done;
}

-- ONE INSTRUCTION of thread t, which is in its context's hand
module _ (def : SpaceView) (processors event : ℕ) (x : Shared) (w : Option ThreadNo) (t : ThreadNo) (space : IsSpace def)
    (parts : ArePartsFor def processors event x)
    (work : IsWork x.works w) (hand : threads_at_rest x t.0 ≡ 0) (rest : (u : ℕ) → 1 ≤ threads_at_rest x u → IsUnlisted x.works u)
    (once : (u : ℕ) → threads_at_rest x u ≤ 1) where
  below : t.0 < MAX_THREADS
  below = let made = made_below x.state.lists t.0 (omega (arith, hand)) in omega (arith, made, parts.state.ready.made, parts.threads)

  live : done_at x.sync t.0 ≡ 0
  live = omega (arith, hand)

  few : (k : ℕ) → (semaphore_at x.sync k).count ≤ MAX_START + (event + 1)
  few k = omega (arith, parts.counts k)

  -- who waits is a thread that was made, and is in no work list
  waits_below : (u : ℕ) → 1 ≤ waits_of x.sync u → u < MAX_THREADS
  waits_below u waits = let made = made_below x.state.lists u (omega (arith, once u, waits)) in omega (arith, made, parts.state.ready.made, parts.threads)

  waits_unlisted : (u : ℕ) → 1 ≤ waits_of x.sync u → IsUnlisted x.works u
  waits_unlisted u waits = rest u (omega (arith, waits))

  waits_once : (u : ℕ) → waits_of x.sync u ≤ 1
  waits_once u = omega (arith, once u)

  -- an instruction that leaves the ready lists: the thread has block b, the work lists are `new`
  moves-step : (s : Sync) (b : Block) (new : Work) (a : Ran) (gained : ℕ → ℕ) → FitsSpace def s
      → ((k : ℕ) → (semaphore_at s k).count ≤ MAX_START + (event + 1)) → IsAt def b
      → WorkStep (with_name x.works w) new (λ u. 0) gained
      → ((u : ℕ) → waits_of s u + done_at s u + gained u + stays_with a t u ≡ waits_of x.sync u + done_at x.sync u + one_if t.0 u)
      → RunStep def processors event x w t (outcome (with_works (with_thread (with_sync x s) t b) new) new.name a)
  moves-step s b new a gained fits counts at step moved = record {
    parts = record {
      state = parts.state;
      lists = parts.lists;
      threads = parts.threads;
      blocks = length-set x.threads t.0 b ∙ parts.blocks;
      sync = fits;
      works = step.works;
      counts = counts;
      at = λ u made. holds-set (IsAt def) x.threads t.0 u b unmade (omega (arith, below, parts.blocks)) (λ same. at) (λ other. parts.at u made);
    };
    space = refl;
    code = refl;
    lists = refl;
    locked = refl;
    gained = gained;
    works = step;
    threads = λ u. omega (arith, moved u);
  }

  -- and the work lists
  kept-step : (s : Sync) (b : Block) (a : Ran) → FitsSpace def s → ((k : ℕ) → (semaphore_at s k).count ≤ MAX_START + (event + 1)) → IsAt def b
      → ((u : ℕ) → waits_of s u + done_at s u + stays_with a t u ≡ waits_of x.sync u + done_at x.sync u + one_if t.0 u)
      → RunStep def processors event x w t (outcome (with_thread (with_sync x s) t b) w a)
  kept-step s b a fits counts at moved =
      moves-step s b (with_name x.works w) a (λ u. 0) fits counts at (still-step (with_name x.works w) parts.works) (λ u. omega (arith, moved u))

  goes-step : (b : Block) → IsAt def b → RunStep def processors event x w t (outcome (with_thread x t b) w Goes)
  goes-step b at = kept-step x.sync b Goes parts.sync few at (λ u. refl)

  blocks-step : (b : Block) (length : ℕ) (page : Option ℕ) → IsAt def b → RunStep def processors event x w t (blocks x w t b length page)
  blocks-step b length page at =
      kept-step x.sync (moved_to b Blocked) (Blocks length page) parts.sync few (record { program = at.program; pc = at.pc }) (λ u. refl)

  stored-step : (b : Block) (cell value : ℕ) → IsAt def b
      → RunStep def processors event x w t (outcome (with_sync (with_thread x t b) (stored x.sync cell value)) w Goes)
  stored-step b cell value at =
      kept-step (stored x.sync cell value) b Goes (fits_on def x.sync (stored x.sync cell value) parts.sync (stored_keeps x.sync cell value)) few at (λ u. refl)

  -- what an answer of what the threads wait on does
  answered : (s : Sync) (a : SyncAnswer) (b : Block) → FitsSpace def s → ((k : ℕ) → (semaphore_at s k).count ≤ MAX_START + (event + 1))
      → ((u : ℕ) → done_at s u ≡ done_at x.sync u)
      → ((u : ℕ) → waits_of s u + woken a u ≡ waits_of x.sync u + joining a t.0 u) → IsAt def b
      → RunStep def processors event x w t (told_by (with_sync x s) w t b a)
  answered s answer.Goes b fits counts ends tells at = kept-step s b Goes fits counts at (λ u. omega (arith, tells u, ends u))
  answered s answer.Waits b fits counts ends tells at =
      kept-step s (moved_to b Waiting) Leaves fits counts (record { program = at.program; pc = at.pc }) (λ u. omega (arith, tells u, ends u))
  answered s (answer.Wakes v) b fits counts ends tells at =
      let waits : 1 ≤ waits_of x.sync v.0 = omega (arith, tells v.0, one_same v.0 v.0 refl) in
      moves-step s b (added (with_name x.works w) v) Goes (one_of (Some v)) fits counts at
      (added-step x.works w v parts.works work (waits_below v.0 waits) (waits_unlisted v.0 waits)) (λ u. omega (arith, tells u, ends u))

  synced-step : (change : Change) (b : Block) → SyncStep x.sync t.0 change → IsAt def b → RunStep def processors event x w t (synced x w t b change)
  synced-step change b step at =
      let s : Sync = change.state in
      let fits : FitsSpace def s = fits_on def x.sync s parts.sync step.numbers in
      let counts : (k : ℕ) → (semaphore_at s k).count ≤ MAX_START + (event + 1) = λ k. omega (arith, step.counts k, parts.counts k) in
      let ends : (u : ℕ) → done_at s u ≡ done_at x.sync u = λ u. ap (λ ds. cond (get_or ds u false) 1 0) step.done in
      answered s change.answer b fits counts ends step.tells at

  -- a fork
  forked-step : (b : Block) (reg : Reg) (program : ℕ) (made : Option ℕ) → made ≡ next_made x.state.lists → IsAt def (next_of b) → program < length def.programs
      → RunStep def processors event x w t (forked x w t b reg program made)
  forked-step b reg program None e next named = goes-step (value_in b reg NOT_MADE) (record { program = next.program; pc = next.pc })
  forked-step b reg program (Some n) e next named =
      let is = next_is x.state.lists n e in
      let parent : Block = value_in b reg n in
      let parent_at : IsAt def parent = record { program = next.program; pc = next.pc } in
      let child : Block = at_start program Waiting in
      let some : IsProgram (program_at def.programs program) = All-get_or IsProgram def.programs program [] named space.programs in
      let child_at : IsAt def child = record { program = named; pc = omega (arith, some.not_empty) } in
      let ready = parts.state.ready in
      let above : unmade_at x.state.lists n ≡ 1 = unmade_above x.state.lists n (omega (arith, is.1)) in
      let step = added-step x.works w (thread n) parts.works work (omega (arith, is.0, is.1, parts.threads)) (rest n (omega (arith, above))) in
      let parents : List Block = with_block x.threads t.0 parent in
      let blocks : length parents ≡ MAX_THREADS = length-set x.threads t.0 parent ∙ parts.blocks in
      record {
        parts = record {
          state = record {
            ready =
                record {
                  locks = ready.locks;
                  processors = ready.processors;
                  made = omega (arith, is.0, is.1);
                  threads = ready.threads;
                  below = ready.below;
                  once = ready.once;
                };
            holders = parts.state.holders;
            free = parts.state.free;
          };
          lists = parts.lists;
          threads = parts.threads;
          blocks = length-set parents n child ∙ blocks;
          sync = parts.sync;
          works = step.works;
          counts = few;
          at = λ u made. holds-set (IsAt def) parents n u child unmade (omega (arith, is.0, is.1, parts.threads, blocks)) (λ same. child_at)
              (λ other. holds-set (IsAt def) x.threads t.0 u parent unmade (omega (arith, below, parts.blocks)) (λ same. parent_at)
              (λ differs. parts.at u (omega (arith, made, other, is.1))));
        };
        space = refl;
        code = refl;
        lists = refl;
        locked = refl;
        gained = one_of (Some (thread n));
        works = step;
        threads = λ u. omega (arith, one_made x.state.lists n u is.1);
      }

  joins-step : (b : Block) (reg : Reg) → IsAt def (next_of b) → RunStep def processors event x w t (joins x w t b reg x.state.lists.made)
  joins-step b reg next =
      let other : ℕ = reg_value b.regs reg in
      synced-step (joined x.sync t.0 other x.state.lists.made) (value_in b reg (cond (nat_lt other x.state.lists.made) 1 0))
      (joined-step x.sync t.0 other x.state.lists.made (omega (arith, parts.sync.joiners, parts.state.ready.made, parts.threads)))
      (record { program = next.program; pc = next.pc })

  touched-step : (b : Block) (fetch page : ℕ) (resident : Bool) → IsAt def b → IsAt def (next_of b)
      → RunStep def processors event x w t (touched x w t b fetch page resident)
  touched-step b fetch page true at next = goes-step (next_of b) next
  touched-step b fetch page false at next = blocks-step b fetch (Some page) at

  -- the end of the thread
  ended-step : (b : Block) → IsAt def b → RunStep def processors event x w t (ended x w t b)
  ended-step b at =
      let ts : List ℕ = joiners_at x.sync t.0 in
      let s : Sync = ended_sync x.sync t.0 in
      let waits : (u : ℕ) → waits_of s u + count_in u ts ≡ waits_of x.sync u = λ u. ended-waits x.sync t.0 u (omega (arith, below, parts.sync.joiners)) in
      let ends : (u : ℕ) → done_at s u ≡ done_at x.sync u + one_if t.0 u = λ u. ended-done x.sync t.0 u (omega (arith, below, parts.sync.done)) live in
      let apart : (u : ℕ) → count_in u ts + count_in_all u x.works ≤ 1 = λ u. elim (cases_lt 0 (count_in u ts)) [
        | inl some ↦ let unlisted : count_in_all u x.works ≡ 0 = waits_unlisted u (omega (arith, waits u, some)) in
            omega (arith, unlisted, waits u, waits_once u)
        | inr none ↦ omega (arith, none, parts.works.once u)
      ] in
      moves-step s (moved_to b Done) (added_all (with_name x.works w) ts) Leaves (λ u. count_in u ts)
      (fits_on def x.sync s parts.sync (ended-numbers x.sync t.0)) few (record { program = at.program; pc = at.pc })
      (added_all-step x.works w ts parts.works work (λ u some. waits_below u (omega (arith, waits u, some))) apart)
      (λ u. omega (arith, waits u, ends u))

  program_is : (b : Block) → IsAt def b → IsProgram (program_at def.programs b.program)
  program_is b at = All-get_or IsProgram def.programs b.program [] at.program space.programs

  -- where the thread is
  next : (b : Block) (i : Instr) → IsAt def b → i ≡ instr_of def b → i ≢ End → IsAt def (next_of b)
  next b i at is more = record {
    program = at.program;
    pc = next_inside (program_at def.programs b.program) b.pc (program_is b at) at.pc (λ ends. more (is ∙ ends));
  }

  went-step : (b : Block) (i : Instr) → IsAt def b → i ≡ instr_of def b → RunStep def processors event x w t (went x w t b i)
  went-step b i at is =
      goes-step (gone_to b (pc_after i b.pc b.regs) (regs_after i b.regs))
      (record { program = at.program; pc = place_inside (program_at def.programs b.program) b.pc b.regs i (program_is b at) at.pc is })

  named : (b : Block) (i : Instr) → IsAt def b → i ≡ instr_of def b → NamesDeclared def.mutexes (length def.sems) def.cells (length def.programs) i
  named b i at is =
      subst (NamesDeclared def.mutexes (length def.sems) def.cells (length def.programs)) (sym is)
      (All-get_or (NamesDeclared def.mutexes (length def.sems) def.cells (length def.programs)) (program_at def.programs b.program) b.pc End at.pc
      (All-get_or (All (NamesDeclared def.mutexes (length def.sems) def.cells (length def.programs))) def.programs b.program [] at.program space.names))

  instr-step : (fetch pages : ℕ) (b : Block) (i : Instr) → IsAt def b → i ≡ instr_of def b
      → RunStep def processors event x w t (outcome_of fetch pages x w t b i)
  instr-step fetch pages b Compute at is = went-step b Compute at is
  instr-step fetch pages b (Load reg cell) at is = let n = next b (Load reg cell) at is (λ e. cc) in
      goes-step (value_in b reg (cell_at x.sync cell)) (record { program = n.program; pc = n.pc })
  instr-step fetch pages b (Store reg cell) at is = stored-step (next_of b) cell (reg_value b.regs reg) (next b (Store reg cell) at is (λ e. cc))
  instr-step fetch pages b (Out reg) at is = goes-step (next_of b) (next b (Out reg) at is (λ e. cc))
  instr-step fetch pages b (Fork reg program) at is =
      forked-step b reg program (next_made x.state.lists) refl (next b (Fork reg program) at is (λ e. cc)) (named b (Fork reg program) at is).1.0
  instr-step fetch pages b (Join reg) at is = joins-step b reg (next b (Join reg) at is (λ e. cc))
  instr-step fetch pages b (Lock m) at is =
      synced-step (locked x.sync t.0 m) (next_of b) (locked-step x.sync t.0 m (omega (arith, parts.sync.mutexes, (named b (Lock m) at is).0)))
      (next b (Lock m) at is (λ e. cc))
  instr-step fetch pages b (Unlock m) at is =
      synced-step (unlocked x.sync t.0 m) (next_of b) (unlocked-step x.sync t.0 m (omega (arith, parts.sync.mutexes, (named b (Unlock m) at is).0)))
      (next b (Unlock m) at is (λ e. cc))
  instr-step fetch pages b (Wait k) at is =
      synced-step (waited x.sync t.0 k) (next_of b) (waited-step x.sync t.0 k (omega (arith, parts.sync.semaphores, (named b (Wait k) at is).0)))
      (next b (Wait k) at is (λ e. cc))
  instr-step fetch pages b (Signal k) at is =
      synced-step (signalled x.sync k) (next_of b) (signalled-step x.sync t.0 k (omega (arith, parts.sync.semaphores, (named b (Signal k) at is).0)))
      (next b (Signal k) at is (λ e. cc))
  instr-step fetch pages b (Io length) at is = blocks-step (next_of b) length None (next b (Io length) at is (λ e. cc))
  instr-step fetch pages b (Touch page) at is = touched-step b fetch page (is_resident pages page) at (next b (Touch page) at is (λ e. cc))
  instr-step fetch pages b End at is = ended-step b at
  instr-step fetch pages b i at is = went-step b i at is

-- t is in its context's hand, so not at rest; threads at rest are in no work list
pub run-step : (def : SpaceView) (processors event fetch pages : ℕ) (x : Shared) (w : Option ThreadNo) (t : ThreadNo) → IsSpace def
    → ArePartsFor def processors event x
    → IsWork x.works w → threads_at_rest x t.0 ≡ 0
    → ((u : ℕ) → 1 ≤ threads_at_rest x u → IsUnlisted x.works u) → ((u : ℕ) → threads_at_rest x u ≤ 1)
    → RunStep def processors event x w t (run def fetch pages x w t)
run-step def processors event fetch pages x w t space parts work hand rest once =
    let b : Block = block_at x.threads t.0 in
    let at : IsAt def b = parts.at t.0 (made_below x.state.lists t.0 (omega (arith, hand))) in
    instr-step def processors event x w t space parts work hand rest once fetch pages b (instr_of def b) at refl
