-- What the line of a reply says to a machine: a reply that its step can do, or the first thing that is wrong.
use Rattle.std.specs.Prelude.{◌≡◌, ℕ, Bool, true, false, List, length, take, Result, Ok, Err}
use Rattle.sa_base.specs.declared.number.ProcNo.{ProcNo}
use Rattle.sa_base.specs.declared.number.SpaceNo.{SpaceNo}
use Rattle.sa_base.specs.declared.record.Item.{Item}
use Rattle.sa_base.specs.declared.refusal.Cause.{Cause}
use Rattle.sa_base.specs.Cause.{cause_number}
use Rattle.sa_spaces.specs.Workload.{WorkloadView}
use Rattle.sa_laws.specs.State.{space_at}
use Rattle.sa_lines_in.specs.Line.{line_len}
use Rattle.sa_asked.specs.Questions.{can_reply, put_reply}
use Rattle.sa_driven.specs.Replies.{driven_replies}
use Rattle.sa_driven_model.specs.declared.reply.Reply.{Reply}
use Rattle.sa_replies.specs.declared.fields.Names.{Names}
use Rattle.sa_replies.specs.Reply.{reply_in}
use Rattle.sa_replies.specs.Telling.{opened, told_through}
use Rattle.sa_session.specs.declared.wrong.Wrong.{Wrong}
use Rattle.sa_session.specs.declared.wrong.Wrong.TheVariants.{Bad, NoStep}
use Rattle.sa_driven_runs.specs.Sessions.{DrivenMachine}

abbrev pub wrong_number : Wrong → ℕ
wrong_number (Bad cause) = cause_number cause
wrong_number NoStep = 10

-- what a reply of a space may name: the processors, and the threads that the space has made by the trace
abbrev pub names_in : WorkloadView → List Item → SpaceNo → Names
names_in w items s = record {
  processors = w.processors;
  threads = length (space_at (told_through (opened w) items).replay.state s).threads;
}

-- a reply, if the step of the processor's turn can do it
abbrev pub if_can : Bool → Reply → Result Reply Wrong
if_can true reply = Ok reply
if_can false reply = Err NoStep

abbrev pub checked : DrivenMachine → ProcNo → Result Reply Cause → Result Reply Wrong
checked m p (Ok reply) = if_can (can_reply driven_replies m p reply) reply
checked m p (Err cause) = Err (Bad cause)

-- what a line says: its words first, and then the needs of the reply
abbrev pub answer : DrivenMachine → ProcNo → SpaceNo → List ℕ → Result Reply Wrong
answer m p s line = checked m p (reply_in (names_in m.workload m.items s) line)

-- what some bytes say, which begin with the line: its bytes first
abbrev pub answer_by : DrivenMachine → ProcNo → SpaceNo → List ℕ → Result ℕ Cause → Result Reply Wrong
answer_by m p s bytes (Ok len) = answer m p s (take len bytes)
answer_by m p s bytes (Err cause) = Err (Bad cause)

abbrev pub answer_in : DrivenMachine → ProcNo → SpaceNo → List ℕ → Result Reply Wrong
answer_in m p s bytes = answer_by m p s bytes (line_len bytes)

-- the reply of a line was put
pub record Puts (m : DrivenMachine) (p : ProcNo) (s : SpaceNo) (line : List ℕ) (after : DrivenMachine) : Type 0 where
  pub reply : Reply
  pub is_reply : answer m p s line ≡ Ok reply
  pub is : after ≡ put_reply driven_replies s reply m
