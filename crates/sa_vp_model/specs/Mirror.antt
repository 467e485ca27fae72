-- The board is what is read off a history of virtual processors.
use Rattle.std.specs.Prelude.{◌≡◌, ℕ, ◌+◌, ◌*◌, ◌≤◌, ◌<◌, if◌then◌else◌, List, [], ◌∷◌, ◌++◌, length, sum_by, count_by, Option, None, slice_index_or}
use Rattle.sa_base.specs.declared.number.ThreadNo.{ThreadNo}
use Rattle.sa_base.specs.declared.limits.TheConstants.{MAX_PROCESSORS, MAX_THREADS}
use Rattle.sa_base.specs.declared.record.Item.{Item}
use Rattle.sa_spaces.specs.Workload.{WorkloadView}
use Rattle.sa_links.specs.Lists.{Lists, list_at}
use Rattle.sa_devices.specs.Ios.{Io, is_number}
use Rattle.sa_laws.specs.Readings.{Listed, is_in}
use Rattle.sa_virtual.specs.Virtual.{Virtuals}
use Rattle.sa_virtual.specs.Legal.{blocked_in}
use Rattle.sa_virtual.specs.Holding.{numbers, threads_of}
use Rattle.sa_vp_model.specs.declared.limits.TheConstants.{VIRTUALS}
use Rattle.sa_vp_model.specs.Board.{Board, act_numbers, no_lists}

-- what a board has in a form of its own
pub record Own : Type 0 where
  pub spare : ℕ
  pub threads : List (Option ThreadNo)
  pub steps : List ℕ
  pub ready : List Lists
  pub work : List Lists
  pub due : ℕ
  pub blocked : List ℕ
  pub lost : List ℕ
  pub items : List Item

-- the board that has this, and for the rest what is read
abbrev pub board_of : WorkloadView → Virtuals → Own → Board
board_of w v x = record {
  workload = w;
  number = v.base.number;
  state = v.base.state;
  devices = record {
    ios = record { io_count = v.base.io_count; under_way = v.base.under_way; spare = x.spare };
    pages = v.base.pages;
    evictions = w.evictions;
  };
  queue = record { nodes = VIRTUALS; lists = act_numbers v.queue ∷ [] };
  placed = v.placed;
  threads = x.threads;
  steps = x.steps;
  ready = x.ready;
  work = x.work;
  due = x.due;
  blocked = x.blocked;
  lost = x.lost;
  items = x.items;
}

-- the threads of a list, newest first, where they are in the order in which they became ready
abbrev pub newest_first : List Listed → ℕ → List ℕ
newest_first [] l = []
newest_first (x ∷ xs) l = if is_in (record { 0 = l }) x then newest_first xs l ++ x.thread.0 ∷ [] else newest_first xs l

-- the lists of a space, one for each processor
pub record AreLists (processors : ℕ) (of : ℕ → List ℕ) (c : Lists) : Type 0 where
  pub nodes : c.nodes ≡ MAX_THREADS
  pub many : length c.lists ≡ processors
  pub each : (l : ℕ) → l < processors → list_at c.lists l ≡ of l

abbrev pub rows : List Lists → ℕ → Lists
rows xs s = slice_index_or xs s no_lists

-- no number of an I/O under way comes twice, and none was not begun
pub record AreNumbered (io_count : ℕ) (ios : List Io) : Type 0 where
  pub once : (n : ℕ) → count_by (is_number n) ios ≤ 1
  pub below : (n : ℕ) → io_count ≤ n → count_by (is_number n) ios ≡ 0

abbrev pub total : List Lists → ℕ
total xs = sum_by (λ (c : Lists). sum_by length c.lists) xs

-- it has what is read
pub record Mirrors (w : WorkloadView) (v : Virtuals) (x : Own) : Type 0 where
  pub threads : (λ a. slice_index_or x.threads a None) ≡ threads_of v.base.lives
  pub steps : (λ a. slice_index_or x.steps a 0) ≡ v.steps
  pub ready : (s : ℕ) → s < length w.spaces → AreLists w.processors (newest_first (slice_index_or v.ready s [])) (rows x.ready s)
  pub work : (s : ℕ) → s < length w.spaces → AreLists w.processors (λ l. numbers (v.work (MAX_PROCESSORS * s + l))) (rows x.work s)
  pub blocked : (s : ℕ) → s < length w.spaces → slice_index_or x.blocked s 0 ≡ blocked_in v (record { 0 = s })
  pub due : x.due ≡ total x.work
  pub numbered : AreNumbered v.base.io_count v.base.under_way
  -- there is one of each
  pub many_threads : length x.threads ≡ VIRTUALS
  pub many_steps : length x.steps ≡ VIRTUALS
  pub many_ready : length x.ready ≡ length w.spaces
  pub many_work : length x.work ≡ length w.spaces
  pub many_blocked : length x.blocked ≡ length w.spaces
  pub many_lost : length x.lost ≡ length w.spaces
  pub many_pages : length v.base.pages ≡ length w.spaces

-- no count is above what the events so far can make of it
pub record IsBounded (v : Virtuals) (x : Own) : Type 0 where
  pub io_count : v.base.io_count < v.base.number
  pub steps : (a : ℕ) → slice_index_or x.steps a 0 < v.base.number
  pub blocked : (s : ℕ) → slice_index_or x.blocked s 0 < v.base.number
  pub lost : (s : ℕ) → slice_index_or x.lost s 0 < MAX_THREADS * v.base.number
  pub due : x.due ≤ MAX_THREADS * v.base.number
