-- The package's calls as functions.
use Rattle.std.specs.Prelude.{List, ℕ, Bool, true, false, Option, Some, None, [], slice_get, replicate, if◌then◌else◌}
use Rattle.std.specs.Option.{option_map}
use Rattle.sa_base.specs.declared.number.SpaceNo.{SpaceNo}
use Rattle.sa_base.specs.declared.number.ThreadNo.{ThreadNo}
use Rattle.sa_base.specs.declared.record.Record.{Record}
use Rattle.sa_instr.specs.declared.instr.Instr.{Instr}
use Rattle.sa_base.specs.declared.limits.TheConstants.{MAX_THREADS}
use Rattle.sa_base.specs.declared.context.Seen.{Seen}
use Rattle.sa_base.specs.declared.context.Stopped.{Stopped}
use Rattle.sa_base.specs.declared.record.Note.{Note}
use Rattle.sa_base.specs.declared.record.Note.TheVariants.{Add, Preempted, Blocked, Unblocked}
use Rattle.sa_abstract.specs.declared.answer.SeatState.{SeatState}
use Rattle.sa_abstract.specs.declared.answer.SeatState.TheVariants.{Local, Away}
use Rattle.sa_abstract.specs.declared.answer.Step.TheVariants.{More, GiveBack}
use Rattle.sa_abstract.specs.declared.answer.Tally.{Tally}
use Rattle.sa_abstract.specs.Setting.{Setting}
use Rattle.sa_abstract.specs.Calls.{Calls, Stepped, Gone}
use Rattle.sa_abstract.specs.Walk.{Spot, after_many, ins_records, program_at}
use Rattle.sa_lists.specs.declared.ranks.Ranks.{Ranks}
use Rattle.sa_lists.specs.declared.ranks.Ranks.TheVariants.{One, Many}
use Rattle.sa_lists.specs.ReadyView.{ReadyView, no_threads, with_lock, with_made, pushed}
use Rattle.sa_code.specs.declared.state.Frame.{Frame}
use Rattle.sa_code.specs.Micro.{list_in}
use Rattle.sa_code.specs.Changes.{opening_package, in_section as is_in_section}
use Rattle.sa_copies.specs.Copies.{package_ops}
use Rattle.sa_sync.specs.Sync.{opening}
use Rattle.sa_fast.specs.declared.threads.Block.{Block}
use Rattle.sa_fast.specs.declared.threads.KeptPlace.TheVariants.{Ready}
use Rattle.sa_fast.specs.Threads.{unmade, at_start, block_at, with_block, gone_to, active_of, done_of}
use Rattle.sa_fast.specs.Instruction.{with_thread}
use Rattle.sa_package_model.specs.declared.context.Context.{Context}
use Rattle.sa_package_model.specs.declared.context.ContextState.{ContextState}
use Rattle.sa_package_model.specs.declared.context.ContextState.TheVariants.{Code, Work, Hint, Return, User, Look}
use Rattle.sa_package_model.specs.declared.package.Package.{Package}
use Rattle.sa_package_model.specs.Context.{fresh, carried_by, stands_idle, stands_between, stands_inside, before_all, has_bulk}
use Rattle.sa_package_model.specs.Rules.{Pair, pair, with_shared, owed, settled, took_over, did, asks, coded, continued, pushing, used, looked}

-- the ready lists: one for each processor, or one for all where threads have ranks
abbrev pub lists_for : Ranks → ℕ → ℕ
lists_for One processors = processors
lists_for Many processors = 1

-- the opening: thread 0, of program 0, is ready in list 0, and all locks are free
abbrev pub opened : Ranks → ℕ → ReadyView
opened ranks processors =
    let unmade = no_threads (lists_for ranks processors) ranks MAX_THREADS in
    with_lock (pushed (with_lock (with_made unmade 0 (Some 0)) 0 true) 0 0) 0 false

abbrev pub started_with : Ranks → Setting → Package
started_with ranks s = record {
  def = s.def;
  processors = s.processors;
  fetch = s.fetch;
  shared = record {
    state = record (opening_package s.space package_ops (lists_for ranks s.processors) ranks MAX_THREADS) { lists = opened ranks s.processors };
    sync = opening s.def;
    threads = with_block (replicate MAX_THREADS unmade) 0 (at_start 0 Ready);
    works = replicate MAX_THREADS [];
  };
}

-- FastThreads has one rank
abbrev pub started : Setting → Package
started s = started_with One s

-- a fresh activation
abbrev pub begun : Package → Seen → Package × Context
begun u seen = (u, fresh)

-- a notice: only the context of a stopped or unblocked activation matters
abbrev pub told_of : Package → Context → Option (Stopped Context) → Pair
told_of u c None = pair u c
told_of u c (Some held) = took_over u c held.ctx

abbrev pub told : Package → Context → Note → Option (Stopped Context) → Package × Context
told u c (Add p) held = (u, c)
told u c (Blocked a) held = (u, c)
told u c (Preempted a) held = let p = told_of u c held in (p.user, p.ctx)
told u c (Unblocked a) held = let p = told_of u c held in (p.user, p.ctx)

-- after an upcall's notices, a More and a GiveBack the context settles; after an Idle its state and count stay, and in
-- the code it goes on there
abbrev pub answered : Package → Seen → Context → Package × Context
answered u seen c = (u, if stands_between c.state then settled u seen c (carried_by c.state) else c)

-- what a settled context does, with its first section to continue and the first thread of its work list
abbrev pub worked : Package → Seen → Context → Option Frame → Option ThreadNo → Stepped Package Context
worked u seen c (Some f) first = continued u c f
worked u seen c None (Some first) = pushing u seen c first
worked u seen c None None = did (pair u c) []

abbrev pub hinted : Package → Context → Option ℕ → Stepped Package Context
hinted u c (Some n) = asks (pair u c) (More n)
hinted u c None = did (pair u c) []

abbrev pub stepped_at : Package → Seen → Context → ContextState → Stepped Package Context
stepped_at u seen c (Code f) = coded u seen c f
stepped_at u seen c (Work t) = worked u seen c (slice_get c.sections 0) c.work
stepped_at u seen c (Hint t) = hinted u c (owed u seen)
stepped_at u seen c Return = asks (pair u c) GiveBack
stepped_at u seen c (User t) = used u seen c t
stepped_at u seen c (Look looks) = looked u seen c looks

-- a hint that is no longer owed, and activations that are too few by now: the context settles without an event
abbrev pub if_owed : Package → Seen → Context → Option ThreadNo → Option ℕ → Context
if_owed u seen c t (Some n) = c
if_owed u seen c t None = settled u seen c t

abbrev pub if_bulk : Package → Seen → Context → Bool → Context
if_bulk u seen c true = c
if_bulk u seen c false = settled u seen c None

abbrev pub resettled : Package → Seen → Context → ContextState → Context
resettled u seen c (Hint t) = if_owed u seen c t (owed u seen)
resettled u seen c Return = if_bulk u seen c (has_bulk seen)
resettled u seen c state = c

-- the step
abbrev pub stepped : Package → Seen → Context → Stepped Package Context
stepped u seen c = let d = resettled u seen c c.state in stepped_at u seen d d.state

-- a run of local instructions
abbrev pub spot_of : Block → Spot
spot_of b = record { pc = b.pc; regs = b.regs }

abbrev pub at_spot : Block → Spot → Block
at_spot b spot = gone_to b spot.pc spot.regs

abbrev pub block_after : List Instr → ℕ → Block → Block
block_after program n b = at_spot b (after_many program n (spot_of b))

abbrev pub says_between : SpaceNo → ThreadNo → List Instr → ℕ → Block → List Record
says_between s t program n b = ins_records s t program n (spot_of b)

abbrev pub gone_by : Package → Context → ℕ → ThreadNo → Block → Gone Package Context
gone_by u c n t b =
    let program = program_at u.def.programs b.program in
    record {
      user = with_shared u (with_thread u.shared t (block_after program n b));
      ctx = c;
      says = says_between u.shared.state.space t program n b;
    }

abbrev pub gone_at : Package → Context → ℕ → ContextState → Gone Package Context
gone_at u c n (User t) = gone_by u c n t (block_at u.shared.threads t.0)
gone_at u c n _ = record { user = u; ctx = c; says = [] }

abbrev pub went : Package → Seen → Context → ℕ → Gone Package Context
went u seen c n = gone_at u c n c.state

-- where a context is
abbrev pub stands_at : Package → ThreadNo → Block → SeatState
stands_at u t b = Local u.shared.state.space t b.program b.pc b.regs

abbrev pub local_at : Package → ContextState → SeatState
local_at u (User t) = stands_at u t (block_at u.shared.threads t.0)
local_at u _ = Away

abbrev pub tally : Package → Tally
tally u = record { made = u.shared.state.lists.made; done = done_of u.shared.threads; active = active_of u.shared.threads }

-- the first list whose lock it has: that of the section in which it is, else that of the first to continue
abbrev pub own_section : Package → ContextState → Option Frame
own_section u (Code f) = if is_in_section (slice_get u.shared.state.code f.pc) then Some f else None
own_section u _ = None

abbrev pub in_section : Package → Context → Option ℕ
in_section u c = option_map (λ f. (list_in f).0) (slice_get (before_all (own_section u c.state) c.sections) 0)

-- the record of them
abbrev pub fast_calls : Calls Package Context
fast_calls = record {
  started = started;
  begun = begun;
  told = told;
  answered = answered;
  stepped = stepped;
  went = went;
  thread = λ u c. carried_by c.state;
  idle = λ u c. stands_idle c.state;
  owes = λ u c. stands_inside c.state;
  in_section = in_section;
  local = λ u c. local_at u c.state;
  tally = tally;
}
