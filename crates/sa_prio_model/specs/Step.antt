-- The calls as functions.
use Rattle.std.specs.Prelude.{ℕ, true, not, ◌&&◌, ◌||◌, if◌then◌else◌, Option, Some, None, [], ◌∷◌, replicate}
use Rattle.std.specs.Option.{option_map}
use Rattle.sa_base.specs.declared.number.ThreadNo.{ThreadNo}
use Rattle.sa_base.specs.declared.context.Seen.{Seen}
use Rattle.sa_base.specs.declared.context.Stopped.{Stopped}
use Rattle.sa_base.specs.declared.record.Note.{Note}
use Rattle.sa_base.specs.declared.record.Record.TheVariants.{Back}
use Rattle.sa_abstract.specs.declared.answer.SeatState.{SeatState}
use Rattle.sa_abstract.specs.declared.answer.SeatState.TheVariants.{Away}
use Rattle.sa_abstract.specs.declared.answer.Step.{Step}
use Rattle.sa_abstract.specs.declared.answer.Step.TheVariants.{Did, Block, InterruptOwn}
use Rattle.sa_abstract.specs.Setting.{Setting}
use Rattle.sa_abstract.specs.Calls.{Calls, Stepped, Gone}
use Rattle.sa_lists.specs.declared.ranks.Ranks.TheVariants.{Many}
use Rattle.sa_package_model.specs.declared.context.Context.{Context}
use Rattle.sa_package_model.specs.declared.context.ContextState.{ContextState}
use Rattle.sa_package_model.specs.declared.package.Package.{Package}
use Rattle.sa_package_model.specs.Context.{fresh, carried_by, stands_idle, stands_between, stands_inside}
use Rattle.sa_package_model.specs.Rules.{settled, put_last}
use Rattle.sa_package_model.specs.Step as fast
use Rattle.sa_prio_model.specs.declared.pair.Outranked.{Outranked}
use Rattle.sa_prio_model.specs.declared.context.PrioContext.{PrioContext}
use Rattle.sa_prio_model.specs.Prio.{Prio, with_base, with_on, outranked, lowest}
use Rattle.sa_prio_model.specs.Urge.{unmarked, marked, settles, came_out}

-- the opening: nobody runs
abbrev pub started : Setting → Prio
started s = record { base = fast.started_with Many s; on = replicate s.processors None }

-- a fresh activation, which carries no thread
abbrev pub begun : Prio → Seen → Prio × PrioContext
begun v seen = (with_on v seen.proc None, unmarked fresh)

-- a notice is told as to FastThreads
abbrev pub base_of : Stopped PrioContext → Stopped Context
base_of held = record { ctx = held.ctx.base; thread = held.thread; idle = held.idle }

abbrev pub told : Prio → PrioContext → Note → Option (Stopped PrioContext) → Prio × PrioContext
told v c note held =
    let r = fast.told v.base c.base note (option_map base_of held) in (with_base v r.0, record c { base = r.1 })

-- after an upcall's notices, a More, a GiveBack, and the interrupt of another processor the context settles
abbrev pub answered : Prio → Seen → PrioContext → Prio × PrioContext
answered v seen c = (v, if c.urge || stands_between c.base.state then settles v seen c.base else c)

-- A STEP of FastThreads. The thread that the context carries after it is the one on the processor, but for one that
-- blocks; and the context has come to an instruction or a look, or has not
abbrev pub left_on : Step → ContextState → Option ThreadNo
left_on (Block length page) state = None
left_on answer state = carried_by state

abbrev pub going : Prio → Seen → ContextState → Stepped Package Context → Stepped Prio PrioContext
going v seen before r =
    let w = with_on (with_base v r.user) seen.proc (left_on r.answer r.ctx.state) in
    record { user = w; ctx = marked w seen (came_out before r.ctx.state) r.ctx; says = r.says; answer = r.answer }

abbrev pub goes : Prio → Seen → Context → Stepped Prio PrioContext
goes v seen c = going v seen c.state (fast.stepped v.base seen c)

-- URGE: the context's own thread gives way. It comes last in the work list, and the context settles
abbrev pub gives_way : Prio → Seen → Context → Stepped Prio PrioContext
gives_way v seen c =
    let p = put_last v.base c (carried_by c.state) in
    record {
      user = with_on (with_base v p.user) seen.proc None;
      ctx = unmarked (settled p.user seen p.ctx None);
      says = Back v.base.shared.state.space (carried_by c.state) ∷ [];
      answer = Did;
    }

-- urge: another processor is interrupted; after that the context settles
abbrev pub interrupts : Prio → Context → Outranked → Stepped Prio PrioContext
interrupts v c other = record { user = v; ctx = record { base = c; urge = true }; says = []; answer = InterruptOwn other.proc }

-- urge: the first that applies; where no pair is left, the context settles without an event and goes on
abbrev pub urged_by : Prio → Seen → Context → Option ℕ → Option Outranked → Stepped Prio PrioContext
urged_by v seen c (Some own) other = gives_way v seen c
urged_by v seen c None (Some other) = interrupts v c other
urged_by v seen c None None = goes v seen (settled v.base seen c (carried_by c.state))

abbrev pub urged : Prio → Seen → Context → Stepped Prio PrioContext
urged v seen c = urged_by v seen c (outranked v seen seen.proc) (lowest v seen)

-- a hint that is no longer owed, and activations that are too few by now: the context settles without an event. One with
-- the mark does not
abbrev pub resettled : Prio → Seen → Context → PrioContext
resettled v seen c = let d = fast.resettled v.base seen c c.state in marked v seen (came_out c.state d.state) d

abbrev pub again : Prio → Seen → PrioContext → PrioContext
again v seen c = if c.urge then c else resettled v seen c.base

-- the step
abbrev pub served : Prio → Seen → PrioContext → Stepped Prio PrioContext
served v seen c = if c.urge then urged v seen c.base else goes v seen c.base

abbrev pub stepped : Prio → Seen → PrioContext → Stepped Prio PrioContext
stepped v seen c = served v seen (again v seen c)

-- a run of local instructions
abbrev pub went : Prio → Seen → PrioContext → ℕ → Gone Prio PrioContext
went v seen c n =
    let r = fast.went v.base seen c.base n in
    record { user = with_base v r.user; ctx = record c { base = r.ctx }; says = r.says }

-- where a context is
abbrev pub local : Prio → PrioContext → SeatState
local v c = if c.urge then Away else fast.local_at v.base c.base.state

-- the record of them
abbrev pub prio_calls : Calls Prio PrioContext
prio_calls = record {
  started = started;
  begun = begun;
  told = told;
  answered = answered;
  stepped = stepped;
  went = went;
  thread = λ v c. carried_by c.base.state;
  idle = λ v c. stands_idle c.base.state && not c.urge;
  owes = λ v c. stands_inside c.base.state || c.urge;
  in_section = λ v c. fast.in_section v.base c.base;
  local = local;
  tally = λ v. fast.tally v.base;
}
