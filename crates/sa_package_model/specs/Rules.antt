-- The rules of the package, one each: what a context does in its step, and what it takes over from another one.
use Rattle.std.specs.Prelude.{◌≡◌, ℕ, ◌+◌, ◌==◌, Bool, true, false, ◌&&◌, Option, Some, None, is_some, List, [], ◌∷◌, ◌++◌, drop, length, slice_get, nat_le, min}
use Rattle.sa_base.specs.Recorded.{Recorded}
use Rattle.sa_base.specs.Items.{items_at}
use Rattle.sa_base.specs.declared.number.ProcNo.{ProcNo}
use Rattle.sa_base.specs.declared.number.ThreadNo.{ThreadNo}
use Rattle.sa_base.specs.declared.limits.TheConstants.{PACKAGE_PAGE}
use Rattle.sa_base.specs.declared.context.Seen.{Seen}
use Rattle.sa_base.specs.declared.record.Record.{Record}
use Rattle.sa_base.specs.declared.record.Record.TheVariants.{Cont, Idle as IdleRecord}
use Rattle.sa_instr.specs.declared.limits.TheConstants.{MAX_PATIENCE}
use Rattle.sa_abstract.specs.declared.answer.Step.{Step}
use Rattle.sa_abstract.specs.declared.answer.Step.TheVariants.{Did, Block, Idle}
use Rattle.sa_abstract.specs.Calls.{Stepped}
use Rattle.sa_lists.specs.ReadyView.{processor, home, sought}
use Rattle.sa_code.specs.declared.code.Op.{Op}
use Rattle.sa_code.specs.declared.code.Op.TheVariants.{Push, Pop, Leave}
use Rattle.sa_code.specs.declared.state.PackageState.{PackageState}
use Rattle.sa_code.specs.declared.state.Frame.{Frame}
use Rattle.sa_code.specs.declared.state.MicroDone.{MicroDone}
use Rattle.sa_code.specs.declared.state.MicroDone.TheVariants as micros
use Rattle.sa_code.specs.Micro.{Micro, micro}
use Rattle.sa_fast.specs.declared.threads.Block.{Block as BlockOf}
use Rattle.sa_fast.specs.declared.threads.KeptPlace.{KeptPlace}
use Rattle.sa_fast.specs.declared.threads.KeptPlace.TheVariants.{Ready, Running, Blocked, Carried}
use Rattle.sa_fast.specs.declared.shared.Shared.{Shared}
use Rattle.sa_fast.specs.declared.instruction.Ran.TheVariants as rans
use Rattle.sa_fast.specs.declared.instruction.Ran.{Ran}
use Rattle.sa_fast.specs.Hints.{more_owed, idle_owed}
use Rattle.sa_fast.specs.Threads.{block_at, with_block, moved_to, load_of}
use Rattle.sa_fast.specs.Work.{Work as WorkOf, with_name, added, joined, without_first}
use Rattle.sa_fast.specs.Instruction.{run, run_says, with_works}
use Rattle.sa_package_model.specs.declared.context.Context.{Context}
use Rattle.sa_package_model.specs.declared.context.ContextState.{ContextState}
use Rattle.sa_package_model.specs.declared.context.ContextState.TheVariants.{Code, User, Look}
use Rattle.sa_package_model.specs.declared.package.Package.{Package}
use Rattle.sa_package_model.specs.Context.{carried_by, section_in, before_all, is_left, settled_to, has_bulk}

-- the package and a context of it
pub record Pair : Type 0 where
  pub user : Package
  pub ctx : Context

abbrev pub pair : Package → Context → Pair
pair u c = record { user = u; ctx = c }

abbrev pub with_shared : Package → Shared → Package
with_shared u x = record u { shared = x }

abbrev pub with_package : Package → PackageState → Package
with_package u s = record u { shared = record u.shared { state = s } }

abbrev pub at_state : Context → ContextState → Context
at_state c state = record c { state = state }

-- a thread is elsewhere, if there is one
abbrev pub blocks_placed : List BlockOf → Option ThreadNo → KeptPlace → List BlockOf
blocks_placed blocks None place = blocks
blocks_placed blocks (Some t) place = with_block blocks t.0 (moved_to (block_at blocks t.0) place)

abbrev pub placed : Shared → Option ThreadNo → KeptPlace → Shared
placed x t place = record x { threads = blocks_placed x.threads t place }

abbrev pub placed_in : Package → Option ThreadNo → KeptPlace → Package
placed_in u t place = with_shared u (placed u.shared t place)

-- a stopped thread is put into the work list last, if there is one
abbrev pub due_last : Shared → Option ThreadNo → Option ThreadNo → WorkOf
due_last x w None = with_name x.works w
due_last x w (Some t) = added (with_name x.works w) t

abbrev pub put_last : Package → Context → Option ThreadNo → Pair
put_last u c t =
    let works = due_last u.shared c.work t in
    pair (with_shared u (with_works (placed u.shared t Carried) works)) (record c { work = works.name })

-- how many threads of the space are ready or run
abbrev pub load : Package → ℕ
load u = load_of u.shared.threads

abbrev pub owed : Package → Seen → Option ℕ
owed u seen = more_owed seen.demand u.processors (load u)

-- settling of a context that carries t
abbrev pub settled : Package → Seen → Context → Option ThreadNo → Context
settled u seen c t = at_state c (settled_to t (is_left c) (is_some (owed u seen)) (has_bulk seen))

-- THE CHECK of a notice with context d: its section, and then the sections that it has to continue, come after those of
-- c; its work list is put at the end of that of c; and where it is in no section its thread comes last
abbrev pub thread_alone : Option Frame → Option ThreadNo → Option ThreadNo
thread_alone (Some f) t = None
thread_alone None t = t

abbrev pub took_over : Package → Context → Context → Pair
took_over u c d =
    let t = carried_by d.state in
    let own = section_in d.state in
    let works = joined u.shared.works c.work d.work in
    put_last (with_shared (placed_in u t Carried) (with_works (placed u.shared t Carried) works))
    (record c { sections = c.sections ++ before_all own d.sections; work = works.name }) (thread_alone own t)

-- A STEP: nothing is asked of the kernel
abbrev pub did : Pair → List Record → Stepped Package Context
did p says = record { user = p.user; ctx = p.ctx; says = says; answer = Did }

abbrev pub asks : Pair → Step → Stepped Package Context
asks p answer = record { user = p.user; ctx = p.ctx; says = []; answer = answer }

-- code: the effects of push and pop move a thread; after a free that is no copy's the routine is over
abbrev pub moved_by : Shared → Option Op → Frame → Frame → Shared
moved_by x (Some Push) f g = placed x f.pushed Ready
moved_by x (Some Pop) f g = placed x g.thread Running
moved_by x _ f g = x

abbrev pub context_after : Package → Seen → Context → Frame → Option Op → Context
context_after u seen c g (Some Leave) = settled u seen c g.thread
context_after u seen c g _ = at_state c (Code g)

abbrev pub coded_by : Package → Seen → Context → Frame → Option Op → Micro → MicroDone → Stepped Package Context
coded_by u seen c f op m micros.Did =
    let v = with_shared u (moved_by (record u.shared { state = m.state }) op f m.frame) in
    did (pair v (context_after v seen c m.frame (slice_get m.state.code m.frame.pc))) m.says
coded_by u seen c f op m micros.Spun = did (pair (with_package u m.state) c) m.says
coded_by u seen c f op m micros.Faulted = record {
  user = placed_in (with_package u m.state) f.thread Blocked;
  ctx = c;
  says = m.says;
  answer = Block u.fetch (Some PACKAGE_PAGE);
}
coded_by u seen c f op m micros.Left =
    let v = with_package u m.state in did (pair v (settled v seen c f.thread)) m.says
coded_by u seen c f op m micros.Yielded =
    let p = put_last (with_package u m.state) c f.thread in did (pair p.user (settled p.user seen p.ctx None)) m.says

abbrev pub coded : Package → Seen → Context → Frame → Stepped Package Context
coded u seen c f =
    let m = micro u.shared.state f seen.pages in coded_by u seen c f (slice_get u.shared.state.code f.pc) m m.done

-- work: the first section is continued in its copy, with its thread; one that is carried comes last in the work list
abbrev pub continuing : Pair → Frame → Stepped Package Context
continuing p f =
    did (pair (placed_in p.user f.thread Running) (record p.ctx { state = Code f; sections = drop 1 p.ctx.sections }))
    (Cont p.user.shared.state.space f.thread ∷ [])

abbrev pub continued : Package → Context → Frame → Stepped Package Context
continued u c f = continuing (put_last u c (carried_by c.state)) f

-- the list that counts as the processor's own
abbrev pub own_list : Package → ProcNo → ProcNo
own_list u p = processor (home u.shared.state.lists p.0)

-- work: the take of the push of thread first on list l, by processor p; it spins where that is locked
abbrev pub push_of : (p l : ProcNo) → ThreadNo → Option ThreadNo → Frame
push_of p l first t = record { pc = 0; list = Some l; own = l.0 == p.0; pushed = Some first; thread = t }

abbrev pub pushing_by : Package → Context → ThreadNo → Micro → MicroDone → Stepped Package Context
pushing_by u c first m micros.Did =
    let works = without_first u.shared.works first in
    did (pair (with_shared u (with_works (record u.shared { state = m.state }) works)) (record c { state = Code m.frame; work = works.name })) m.says
pushing_by u c first m _ = did (pair (with_package u m.state) c) m.says

abbrev pub pushing : Package → Seen → Context → ThreadNo → Stepped Package Context
pushing u seen c first =
    let m = micro u.shared.state (push_of seen.proc (own_list u seen.proc) first (carried_by c.state)) seen.pages in pushing_by u c first m m.done

-- user: one instruction
abbrev pub stays_user : Package → Seen → Context → ThreadNo → Option ThreadNo → Context
stays_user u seen c t None = at_state c (User t)
stays_user u seen c t (Some first) = settled u seen c (Some t)

abbrev pub used_by : Package → Seen → Context → ThreadNo → Ran → List Record → Stepped Package Context
used_by u seen c t rans.Goes says = did (pair u (stays_user u seen c t c.work)) says
used_by u seen c t rans.Leaves says = did (pair u (settled u seen c None)) says
used_by u seen c t (rans.Blocks length page) says = record { user = u; ctx = c; says = says; answer = Block length page }

abbrev pub used : Package → Seen → Context → ThreadNo → Stepped Package Context
used u seen c t =
    let o = run u.def u.fetch seen.pages u.shared c.work t in
    used_by (with_shared u o.shared) seen (record c { work = o.work }) t o.answer (run_says u.def seen.pages u.shared t)

-- look: the take of the pop on the list that `seek` gives; else the hint that the processor is idle, once the patience is
-- used up; else one look more
abbrev pub pop_of : ProcNo → ℕ → Frame
pop_of p l = record { pc = 4; list = Some (processor l); own = l == p.0; pushed = None; thread = None }

abbrev pub popping_by : Package → Context → Micro → MicroDone → Stepped Package Context
popping_by u c m micros.Did = did (pair (with_package u m.state) (at_state c (Code m.frame))) m.says
popping_by u c m _ = did (pair (with_package u m.state) c) m.says

abbrev pub popping : Package → Seen → Context → ℕ → Stepped Package Context
popping u seen c l = let m = micro u.shared.state (pop_of seen.proc l) seen.pages in popping_by u c m m.done

abbrev pub is_idle : Package → Seen → ℕ → Bool
is_idle u seen looks = nat_le u.def.patience looks && idle_owed seen.demand (load u)

abbrev pub looked_by : Package → Seen → Context → ℕ → Bool → Option ℕ → Stepped Package Context
looked_by u seen c looks idle (Some l) = popping u seen c l
looked_by u seen c looks true None = asks (pair u c) Idle
looked_by u seen c looks false None = did (pair u (at_state c (Look (min (looks + 1) MAX_PATIENCE)))) (IdleRecord ∷ [])

abbrev pub looked : Package → Seen → Context → ℕ → Stepped Package Context
looked u seen c looks = looked_by u seen c looks (is_idle u seen looks) (sought u.shared.state.lists (own_list u seen.proc).0)

-- value, context, answer and trace are what the step makes of them
pub record Steps (s : Stepped Package Context) (seen : Seen) (old : Recorded) (u : Package) (c : Context) (answer : Step) (new : Recorded) : Type 0 where
  pub user : u ≡ s.user
  pub ctx : c ≡ s.ctx
  pub answers : answer ≡ s.answer
  pub items : new.items ≡ old.items ++ items_at seen.event seen.proc s.says
  pub spare : new.spare + length s.says ≡ old.spare
