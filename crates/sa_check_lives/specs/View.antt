-- What a contract sees of the lives, and what each call does to them.
use Rattle.std.specs.Prelude.{ℕ, Bool, true, false, not, List, [], replicate, sum_by, Option, Some, None, slice_index_or, slice_set}
use Rattle.std.specs.Option.{option_map}
use Rattle.sa_base.specs.declared.number.ProcNo.{ProcNo}
use Rattle.sa_base.specs.declared.number.SpaceNo.{SpaceNo}
use Rattle.sa_base.specs.declared.number.ThreadNo.{ThreadNo}
use Rattle.sa_base.specs.declared.number.ActNo.{ActNo}
use Rattle.sa_base.specs.declared.record.Note.{Note}
use Rattle.sa_base.specs.declared.record.Note.TheVariants.{Preempted, Blocked, Unblocked}
use Rattle.sa_lemmas.specs.Function.{put}
use Rattle.sa_laws.specs.Life.{Life, new_life, held_with, with_hand}
use Rattle.sa_laws.specs.Readings.{Readings, stopped_thread, was_idle}
use Rattle.sa_laws.specs.Record.{with_life, handed, with_note, without_note, with_act, without_act, one_thread, stopped_with}
use Rattle.sa_check_lives.specs.declared.change.Change.{Change}
use Rattle.sa_check_lives.specs.Change.{changed_by}
use Rattle.sa_check_lives.specs.Table.{lives_in}

-- what a contract sees of the lives
pub record LivesView : Type 0 where
  pub lives : ℕ → Option Life
  -- of each processor: its running life
  pub running : List (Option ActNo)
  -- of each space: the lives that were taken and not given back, and what it was not told yet, in order
  pub taken : List (List ActNo)
  pub untold : List (List Note)
  -- the life of the last up
  pub upped : Option ActNo

-- the lives as they are stored, in a table; what a contract sees is a reading of it, and is part of the readings of a history
pub record Stored : Type 0 where
  pub table : List (List (ℕ × Life))
  pub running : List (Option ActNo)
  pub taken : List (List ActNo)
  pub untold : List (List Note)
  pub upped : Option ActNo

abbrev pub lives_of : Stored → LivesView
lives_of v = record {
  lives = lives_in v.table;
  running = v.running;
  taken = v.taken;
  untold = v.untold;
  upped = v.upped;
}

abbrev pub read_of : Readings → LivesView
read_of r = record {
  lives = r.lives;
  running = r.running;
  taken = r.taken;
  untold = r.untold;
  upped = r.upped;
}

-- before any record
abbrev pub no_lives : ℕ → ℕ → LivesView
no_lives processors spaces = record {
  lives = λ a. None;
  running = replicate processors None;
  taken = replicate spaces [];
  untold = replicate spaces [];
  upped = None;
}

abbrev pub running_at : LivesView → ProcNo → Option ActNo
running_at v p = slice_index_or v.running p.0 None

abbrev pub life_if_at : LivesView → Option ActNo → Option Life
life_if_at v None = None
life_if_at v (Some a) = v.lives a.0

abbrev pub space_at : LivesView → Option ActNo → Option SpaceNo
space_at v a = option_map (λ (life : Life). life.space) (life_if_at v a)

abbrev pub taken_at : LivesView → SpaceNo → List ActNo
taken_at v s = slice_index_or v.taken s.0 []

abbrev pub untold_at : LivesView → SpaceNo → List Note
untold_at v s = slice_index_or v.untold s.0 []

-- a life changes; the running life of a processor does
abbrev pub changed : (Life → Life) → Option ActNo → LivesView → LivesView
changed f a v = record v { lives = with_life f a v.lives }

abbrev pub changed_on : (Life → Life) → ProcNo → LivesView → LivesView
changed_on f p v = changed f (running_at v p) v

-- an up of a space on a processor
abbrev pub with_up : ProcNo → SpaceNo → ActNo → LivesView → LivesView
with_up p s a v = record v {
  lives = put v.lives a.0 (Some (new_life s p));
  running = slice_set v.running p.0 (Some a);
  upped = Some a;
}

-- a stop and a block on a processor, and an unblock
abbrev pub stopped : ProcNo → SpaceNo → Option ThreadNo → ActNo → LivesView → LivesView
stopped p s t a v = record v {
  lives = with_life (stopped_with t) (Some a) v.lives;
  running = slice_set v.running p.0 None;
  untold = with_note v.untold s (Preempted a);
}

abbrev pub blocked : ProcNo → SpaceNo → Option ThreadNo → ActNo → LivesView → LivesView
blocked p s t a v = record v {
  lives = with_life (held_with t) (Some a) v.lives;
  running = slice_set v.running p.0 None;
  untold = with_note v.untold s (Blocked a);
}

abbrev pub unblocked : SpaceNo → Option ThreadNo → ActNo → LivesView → LivesView
unblocked s t a v = record v {
  lives = with_life (with_hand (one_thread t)) (Some a) v.lives;
  untold = with_note v.untold s (Unblocked a);
}

-- a change of a life, of which its space was not told
abbrev pub noted : SpaceNo → ActNo → Note → Change → LivesView → LivesView
noted s a note change v = record v {
  lives = with_life (changed_by change) (Some a) v.lives;
  untold = with_note v.untold s note;
}

-- a notice is told: where it hands a life over, that one is taken, and the life of the last up gets what it has
abbrev pub passed : ActNo → LivesView → LivesView
passed a v = record v {
  lives = handed v.upped a (v.lives a.0) v.lives;
  taken = with_act v.taken (space_at v (Some a)) a;
}

abbrev pub passed_by : Note → LivesView → LivesView
passed_by (Preempted a) v = passed a v
passed_by (Unblocked a) v = passed a v
passed_by _ v = v

abbrev pub told : Note → LivesView → LivesView
told note v = record (passed_by note v) { untold = without_note v.untold note }

-- a number is given back
abbrev pub given_back : ActNo → LivesView → LivesView
given_back a v = record v {
  lives = put v.lives a.0 None;
  taken = without_act v.taken (space_at v (Some a)) a;
}

-- how many threads the untold stops of a space have
abbrev pub thread_of_note : LivesView → Note → ℕ
thread_of_note v (Preempted a) = stopped_thread (v.lives a.0)
thread_of_note v _ = 0

abbrev pub untold_threads : LivesView → SpaceNo → ℕ
untold_threads v s = sum_by (thread_of_note v) (untold_at v s)

-- the space must be told the notice even where it wants no processor
abbrev pub must_be_told : LivesView → Note → Bool
must_be_told v (Preempted a) = not (was_idle (v.lives a.0))
must_be_told v (Unblocked a) = true
must_be_told v _ = false
