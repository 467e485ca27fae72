-- What is told of a trace: a line for each of its items, and behind it lines that say which threads wait, are done, or can be made
-- ready from then on.
use Rattle.std.specs.Prelude.{ℕ, ◌+◌, ◌-◌, List, [], ◌∷◌, ◌++◌, length, replicate, Option, Some, None, slice_set, slice_index_or}
use Rattle.std.specs.List.{flat_map}
use Rattle.sa_base.specs.declared.number.ActNo.{ActNo}
use Rattle.sa_base.specs.declared.number.SpaceNo.{SpaceNo}
use Rattle.sa_base.specs.declared.number.ThreadNo.{ThreadNo}
use Rattle.sa_base.specs.declared.record.Item.{Item}
use Rattle.sa_base.specs.declared.record.Note.TheVariants.{Preempted, Unblocked}
use Rattle.sa_base.specs.declared.record.Record.{Record}
use Rattle.sa_base.specs.declared.record.Record.TheVariants.{Ins, Stop, Unblock, Back, Told}
use Rattle.sa_spaces.specs.Workload.{WorkloadView}
use Rattle.sa_laws.specs.State.{Runner, runner_of, thread_at}
use Rattle.sa_replay.specs.Replayed.{Replayed, after}
use Rattle.sa_replay.specs.Replayed as replayed
use Rattle.sa_trace.specs.TraceText.{line_of}
use Rattle.sa_replies.specs.Texts.{hand_text, place_text}

-- what is known of the trace so far
pub record Telling : Type 0 where
  -- the abstract machine, and what the last instruction roused
  pub replay : Replayed
  -- of each activation by its number: the thread with which it was last stopped or unblocked
  pub held : List (Option Runner)

abbrev pub opened : WorkloadView → Telling
opened w = record { replay = replayed.opened w; held = [] }

-- one place of a list that is as long as need be
abbrev pub held_put : List (Option Runner) → ActNo → Option Runner → List (Option Runner)
held_put held a x = slice_set (held ++ replicate (a.0 + 1 - length held) None) a.0 x

abbrev pub held_at : List (Option Runner) → ActNo → Option Runner
held_at held a = slice_index_or held a.0 None

abbrev pub with_held : List (Option Runner) → Record → List (Option Runner)
with_held held (Stop s t a) = held_put held a (runner_of s t)
with_held held (Unblock s t a) = held_put held a (runner_of s t)
with_held held _ = held

-- after an item
abbrev pub told_after : Telling → Item → Telling
told_after x i = record { replay = after i.proc x.replay i.what; held = with_held x.held i.what }

-- THE LINES, by what is known after the record. A thread can be made ready.
abbrev pub handed_text : Telling → SpaceNo → ThreadNo → List ℕ
handed_text x s t = hand_text s t (thread_at x.replay.state s t).program

abbrev pub runner_text : Telling → Option Runner → List ℕ
runner_text x None = []
runner_text x (Some runner) = handed_text x runner.space runner.thread

abbrev pub hands_text : Telling → SpaceNo → List ThreadNo → List ℕ
hands_text x s threads = flat_map (handed_text x s) threads

-- behind an instruction: whether its thread waits or is done now, and the threads that it forked or woke; behind a thread that was put
-- down, that thread; behind a notice, the thread of the activation that it names
abbrev pub record_text : Telling → Record → List ℕ
record_text x (Ins s t i) = place_text s t (thread_at x.replay.state s t).place ++ hands_text x s x.replay.roused
record_text x (Back s (Some t)) = handed_text x s t
record_text x (Told (Preempted a)) = runner_text x (held_at x.held a)
record_text x (Told (Unblocked a)) = runner_text x (held_at x.held a)
record_text x _ = []

abbrev pub item_text : Telling → Item → List ℕ
item_text x i = line_of i ++ record_text x i.what

-- items one after another
abbrev pub told_through : Telling → List Item → Telling
told_through x [] = x
told_through x (i ∷ is) = told_through (told_after x i) is

abbrev pub items_text : Telling → List Item → List ℕ
items_text x [] = []
items_text x (i ∷ is) = item_text (told_after x i) i ++ items_text (told_after x i) is
