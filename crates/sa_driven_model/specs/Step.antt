-- The calls as functions.
use Rattle.std.specs.Prelude.{ℕ, ◌+◌, ◌-◌, Bool, true, false, ◌&&◌, not, nat_lt, if◌then◌else◌, Option, Some, None, is_none, List, [], ◌∷◌, replicate}
use Rattle.sa_base.specs.declared.number.SpaceNo.{SpaceNo}
use Rattle.sa_base.specs.declared.number.ThreadNo.{ThreadNo}
use Rattle.sa_base.specs.declared.limits.TheConstants.{MAX_THREADS, PACKAGE_PAGE}
use Rattle.sa_base.specs.declared.context.Seen.{Seen}
use Rattle.sa_base.specs.declared.context.Stopped.{Stopped}
use Rattle.sa_base.specs.declared.record.Note.{Note}
use Rattle.sa_base.specs.declared.record.Note.TheVariants.{Add, Preempted, Blocked as BlockedNote, Unblocked}
use Rattle.sa_base.specs.declared.record.Record.{Record}
use Rattle.sa_base.specs.declared.record.Record.TheVariants as records
use Rattle.sa_base.specs.Pages.{has_page}
use Rattle.sa_instr.specs.declared.answer.Local.{Local}
use Rattle.sa_instr.specs.declared.answer.Local.TheVariants.{Went}
use Rattle.sa_instr.specs.Local.{local_answer}
use Rattle.sa_spaces.specs.Space.{SpaceView}
use Rattle.sa_abstract.specs.declared.answer.SeatState.{SeatState}
use Rattle.sa_abstract.specs.declared.answer.SeatState.TheVariants.{Away}
use Rattle.sa_abstract.specs.declared.answer.Step.{Step}
use Rattle.sa_abstract.specs.declared.answer.Step.TheVariants as asks
use Rattle.sa_abstract.specs.Setting.{Setting}
use Rattle.sa_abstract.specs.Calls.{Calls, Stepped, Gone}
use Rattle.sa_abstract.specs.Walk.{program_at}
use Rattle.sa_lists.specs.declared.ranks.Ranks.TheVariants.{One}
use Rattle.sa_lists.specs.ReadyView.{ReadyView, no_threads as no_ready, with_made}
use Rattle.sa_code.specs.Changes.{opening_package}
use Rattle.sa_sync.specs.Sync.{opening}
use Rattle.sa_fast.specs.declared.threads.Block.{Block}
use Rattle.sa_fast.specs.declared.threads.KeptPlace.{KeptPlace}
use Rattle.sa_fast.specs.declared.threads.KeptPlace.TheVariants as place
use Rattle.sa_fast.specs.declared.shared.Shared.{Shared}
use Rattle.sa_fast.specs.declared.instruction.Ran.{Ran}
use Rattle.sa_fast.specs.declared.instruction.Ran.TheVariants.{Goes, Leaves, Blocks}
use Rattle.sa_fast.specs.Threads.{unmade, at_start, block_at, with_block}
use Rattle.sa_fast.specs.Work.{work_of}
use Rattle.sa_fast.specs.Instruction.{Outcome, with_thread as with_instr, instr_of, run, run_says}
use Rattle.sa_package_model.specs.declared.package.Package.{Package}
use Rattle.sa_package_model.specs.Rules.{with_shared, placed_in}
use Rattle.sa_package_model.specs.Step.{block_after, says_between, stands_at, tally}
use Rattle.sa_driven_model.specs.declared.context.DrivenContext.{DrivenContext}
use Rattle.sa_driven_model.specs.declared.space.DrivenSpace.{DrivenSpace}
use Rattle.sa_driven_model.specs.declared.reply.Reply.{Reply}
use Rattle.sa_driven_model.specs.declared.reply.Reply.TheVariants.{Ins, Run, Ready, Cont, Back, Take, Free, Spin, Idle, Want, GiveBack, Line}
use Rattle.sa_driven_model.specs.Threads.{no_threads, with_some, without_some, without_thread, with_all, both_sets}
use Rattle.sa_driven_model.specs.Context.{fresh, settled, goes_on, says_idle}
use Rattle.sa_driven_model.specs.Reply.{can}

-- THE OPENING: thread 0, of program 0, is ready, and there is no reply
abbrev pub opened_lists : ReadyView
opened_lists = with_made (no_ready 1 One MAX_THREADS) 0 (Some 0)

abbrev pub opened_shared : SpaceNo → SpaceView → Shared
opened_shared space def = record {
  state = record (opening_package space [] 1 One MAX_THREADS) { lists = opened_lists };
  sync = opening def;
  threads = with_block (replicate MAX_THREADS unmade) 0 (at_start 0 place.Ready);
  works = replicate MAX_THREADS [];
}

abbrev pub started : Setting → DrivenSpace
started s = record {
  base = record { def = s.def; processors = s.processors; fetch = s.fetch; shared = opened_shared s.space s.def };
  handed = no_threads;
  reply = None;
}

-- CHANGES of the value and of a context
abbrev pub with_package : DrivenSpace → Package → DrivenSpace
with_package u p = record u { base = p }

-- a thread is elsewhere, if there is one; it can be made ready from then on, or no longer
abbrev pub moved : DrivenSpace → Option ThreadNo → KeptPlace → DrivenSpace
moved u t place = with_package u (placed_in u.base t place)

abbrev pub handed_over : DrivenSpace → Option ThreadNo → DrivenSpace
handed_over u t = record (moved u t place.Carried) { handed = with_some u.handed t }

abbrev pub picked_up : DrivenSpace → Option ThreadNo → KeptPlace → DrivenSpace
picked_up u t place = record (moved u t place) { handed = without_some u.handed t }

abbrev pub carries : DrivenContext → Option ThreadNo → DrivenContext
carries c t = record c { thread = t }

-- A STEP asks for something, or for nothing
abbrev pub asks_for : DrivenSpace → DrivenContext → List Record → Step → Stepped DrivenSpace DrivenContext
asks_for u c says answer = record { user = u; ctx = c; says = says; answer = answer }

abbrev pub did : DrivenSpace → Seen → DrivenContext → Record → Stepped DrivenSpace DrivenContext
did u seen c record_of = asks_for u (settled u seen c) (record_of ∷ []) asks.Did

abbrev pub idles : DrivenSpace → DrivenContext → Stepped DrivenSpace DrivenContext
idles u c = asks_for u (says_idle u c) (records.Idle ∷ []) asks.Did

-- where the context has a list lock and the package's page is absent, what would touch the ready lists is a block for that
-- page instead
abbrev pub faults : Seen → DrivenContext → Bool
faults seen c = nat_lt 0 c.locks && not (has_page seen.pages PACKAGE_PAGE)

abbrev pub faulted : DrivenSpace → DrivenContext → Stepped DrivenSpace DrivenContext
faulted u c = asks_for (moved u c.thread place.Blocked) c [] (asks.Block u.base.fetch (Some PACKAGE_PAGE))

-- ins: an instruction of the thread. The threads that it forks or wakes join the hand; a local instruction leaves the context as it
-- was
abbrev pub page_of : Bool → Option ℕ → Option ℕ
page_of true (Some page) = Some PACKAGE_PAGE
page_of _ page = page

abbrev pub is_within_thread : Local → Bool
is_within_thread Went = true
is_within_thread _ = false

abbrev pub is_next_local : DrivenSpace → ThreadNo → Bool
is_next_local u t = is_within_thread (local_answer (instr_of u.base.def (block_at u.base.shared.threads t.0)))

abbrev pub after_ins : DrivenSpace → DrivenContext → Bool → DrivenContext
after_ins u c true = c
after_ins u c false = goes_on u c

abbrev pub ran_by : DrivenSpace → Seen → DrivenContext → Bool → Ran → List Record → Stepped DrivenSpace DrivenContext
ran_by u seen c local Goes says = asks_for u (after_ins u c local) says asks.Did
ran_by u seen c local Leaves says = asks_for u (settled u seen (carries c None)) says asks.Did
ran_by u seen c local (Blocks length page) says = asks_for u c says (asks.Block length (page_of (faults seen c) page))

abbrev pub after_run : DrivenSpace → Outcome → DrivenSpace
after_run u o = record u {
  base = with_shared u.base (record o.shared { works = replicate MAX_THREADS [] });
  handed = with_all u.handed (work_of o.shared.works o.work);
}

abbrev pub run_of : DrivenSpace → Seen → ThreadNo → Outcome
run_of u seen t = run u.base.def u.base.fetch seen.pages u.base.shared None t

abbrev pub ran : DrivenSpace → Seen → DrivenContext → Option ThreadNo → Stepped DrivenSpace DrivenContext
ran u seen c None = idles u c
ran u seen c (Some t) =
    let o = run_of u seen t in
    ran_by (after_run u o) seen (record c { hand = with_all c.hand (work_of o.shared.works o.work) }) (is_next_local u t) o.answer
    (run_says u.base.def seen.pages u.base.shared t)

-- run, ready: an effect on the ready lists, or a fault
abbrev pub runs : DrivenSpace → Seen → DrivenContext → ThreadNo → Bool → Stepped DrivenSpace DrivenContext
runs u seen c t true = faulted u c
runs u seen c t false =
    did (moved u (Some t) place.Running) seen (carries c (Some t)) (records.Run u.base.shared.state.space t)

abbrev pub readies : DrivenSpace → Seen → DrivenContext → ThreadNo → Bool → Stepped DrivenSpace DrivenContext
readies u seen c t true = faulted u c
readies u seen c t false =
    did (picked_up u (Some t) place.Ready) seen (record c { hand = without_thread c.hand t.0 }) (records.Ready u.base.shared.state.space t)

-- cont, back
abbrev pub conts : DrivenSpace → Seen → DrivenContext → Option ThreadNo → Stepped DrivenSpace DrivenContext
conts u seen c t =
    did (picked_up u t place.Running) seen (record c { thread = t; continues = true }) (records.Cont u.base.shared.state.space t)

abbrev pub backs : DrivenSpace → Seen → DrivenContext → Stepped DrivenSpace DrivenContext
backs u seen c =
    did (handed_over u c.thread) seen (record c { thread = None; continues = false; hand = with_some c.hand c.thread })
    (records.Back u.base.shared.state.space c.thread)

-- want: the hint that raises the demand, or lowers it
abbrev pub wants : DrivenSpace → Seen → DrivenContext → ℕ → Bool → Stepped DrivenSpace DrivenContext
wants u seen c n true = asks_for u c [] (asks.More (n - seen.demand))
wants u seen c n false = asks_for u (record c { lowers = true }) [] asks.Idle

-- THE REPLIES
abbrev pub done : DrivenSpace → Seen → DrivenContext → Reply → Stepped DrivenSpace DrivenContext
done u seen c Ins = ran u seen c c.thread
done u seen c (Run t) = runs u seen c t (faults seen c)
done u seen c (Ready t) = readies u seen c t (faults seen c)
done u seen c (Cont t) = conts u seen c t
done u seen c Back = backs u seen c
done u seen c (Take l) = did u seen (record c { locks = c.locks + 1 }) (records.Take u.base.shared.state.space l c.thread)
done u seen c (Free l) = did u seen (record c { locks = c.locks - 1 }) (records.Free u.base.shared.state.space l c.thread)
done u seen c (Spin l) = did u seen c (records.Spin l)
done u seen c Idle = idles u c
done u seen c (Want n) = wants u seen c n (nat_lt seen.demand n)
done u seen c GiveBack = asks_for u c [] asks.GiveBack
done u seen c (Line q) = asks_for u c [] (asks.InterruptOwn q)

-- a step does the reply, where there is one that can be done; else the context says that it is idle
abbrev pub done_if : DrivenSpace → Seen → DrivenContext → Option Reply → Stepped DrivenSpace DrivenContext
done_if u seen c None = idles u c
done_if u seen c (Some reply) = if can u seen c reply then done u seen c reply else idles u c

abbrev pub without_reply : DrivenSpace → DrivenSpace
without_reply u = record u { reply = None }

abbrev pub stepped : DrivenSpace → Seen → DrivenContext → Stepped DrivenSpace DrivenContext
stepped u seen c = done_if (without_reply u) seen c u.reply

-- UPCALLS. A notice: the context gets the locks, the hand and the thread of one that was stopped or unblocked
abbrev pub took_over : DrivenContext → DrivenContext → DrivenContext
took_over c d = record c { locks = c.locks + d.locks; hand = with_some (both_sets c.hand d.hand) d.thread }

abbrev pub told_of : DrivenSpace → DrivenContext → Option (Stopped DrivenContext) → DrivenSpace × DrivenContext
told_of u c None = (u, c)
told_of u c (Some held) = (handed_over u held.ctx.thread, took_over c held.ctx)

abbrev pub told : DrivenSpace → DrivenContext → Note → Option (Stopped DrivenContext) → DrivenSpace × DrivenContext
told u c (Add p) held = (u, c)
told u c (BlockedNote a) held = (u, c)
told u c (Preempted a) held = told_of u c held
told u c (Unblocked a) held = told_of u c held

-- after an upcall, or an entry that the context asked for
abbrev pub answered_by : DrivenSpace → Seen → DrivenContext → Bool → DrivenContext
answered_by u seen c true = says_idle u (record c { lowers = false })
answered_by u seen c false = settled u seen c

abbrev pub answered : DrivenSpace → Seen → DrivenContext → DrivenSpace × DrivenContext
answered u seen c = (u, answered_by u seen c c.lowers)

-- LOCAL INSTRUCTIONS: where a context is, and a run of them
abbrev pub local_at : DrivenSpace → Bool → Option ThreadNo → SeatState
local_at u false (Some t) = stands_at u.base t (block_at u.base.shared.threads t.0)
local_at u _ t = Away

abbrev pub went_by : DrivenSpace → DrivenContext → ℕ → ThreadNo → Block → Gone DrivenSpace DrivenContext
went_by u c n t b =
    let program = program_at u.base.def.programs b.program in
    record {
      user = with_package u (with_shared u.base (with_instr u.base.shared t (block_after program n b)));
      ctx = c;
      says = says_between u.base.shared.state.space t program n b;
    }

abbrev pub went_at : DrivenSpace → DrivenContext → ℕ → Bool → Option ThreadNo → Gone DrivenSpace DrivenContext
went_at u c n false (Some t) = went_by u c n t (block_at u.base.shared.threads t.0)
went_at u c n _ t = record { user = u; ctx = c; says = [] }

-- the record of them
abbrev pub driven_calls : Calls DrivenSpace DrivenContext
driven_calls = record {
  started = started;
  begun = λ u seen. (u, fresh);
  told = told;
  answered = answered;
  stepped = stepped;
  went = λ u seen c n. went_at u c n c.inside c.thread;
  thread = λ u c. c.thread;
  idle = λ u c. not c.inside && is_none c.thread;
  owes = λ u c. c.inside;
  in_section = λ u c. None;
  local = λ u c. local_at u c.inside c.thread;
  tally = λ u. tally u.base;
}
