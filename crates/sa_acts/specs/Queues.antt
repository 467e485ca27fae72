-- What a contract sees of a queue of numbers.
use Rattle.std.specs.Prelude.{◌≡◌, ℕ, ◌≤◌, List, [], All, length, map, slice_index_or, slice_set}
use Rattle.sa_base.specs.declared.number.ActNo.{ActNo}

pub record QueueView : Type 0 where
  pub numbers : List ActNo
  -- how many fit in all
  pub room : ℕ

-- the queue of a space; past the spaces there is an empty one
abbrev pub queue_at : List QueueView → ℕ → QueueView
queue_at queues s = slice_index_or queues s (record { numbers = []; room = 0 })

-- how many numbers are in a queue
abbrev pub queued : QueueView → ℕ
queued q = length q.numbers

-- the numbers in each queue
abbrev pub all_numbers : List QueueView → List (List ActNo)
all_numbers queues = map (λ (q : QueueView). q.numbers) queues

-- each queue has room for n numbers in all
abbrev pub HaveRoom : ℕ → List QueueView → Type 0
HaveRoom n queues = All (λ (q : QueueView). n ≤ q.room) queues

-- one queue has no less room than before, and all else is the same
pub record IsGrown (old : List QueueView) (s : ℕ) (new : List QueueView) : Type 0 where
  pub is : new ≡ slice_set old s (record (queue_at old s) { room = (queue_at new s).room })
  pub more : (queue_at old s).room ≤ (queue_at new s).room
