-- What the kernel knows of a history: a part of what is read off the history, and the same of a state of the kernel.
use Rattle.std.specs.Prelude.{ℕ, List, [], ◌∷◌, length, take, Option}
use Rattle.std.specs.Option.{option_map}
use Rattle.sa_base.specs.declared.number.SpaceNo.{SpaceNo}
use Rattle.sa_base.specs.declared.number.ActNo.{ActNo}
use Rattle.sa_base.specs.declared.record.Note.{Note}
use Rattle.sa_base.specs.declared.record.Note.TheVariants.{Add, Preempted, Blocked, Unblocked}
use Rattle.sa_acts.specs.declared.acts.Act.{Act}
use Rattle.sa_assign.specs.AssignView.{AssignView}
use Rattle.sa_devices.specs.Ios.{Io}
use Rattle.sa_kernel_model.specs.State.{KernelState}
use Rattle.sa_laws.specs.Life.{Life}
use Rattle.sa_laws.specs.Readings.{Readings}
use Rattle.sa_laws.specs.Record.{with_act}

pub record Overview : Type 0 where
  -- of each processor: the space that owns it, its aim, its line, its idle mark
  pub assign : AssignView
  -- of each processor: its running life
  pub running : List (Option ActNo)
  -- of each number in use: the space of its life
  pub spaces : ℕ → Option SpaceNo
  -- of each space: the lives that are taken
  pub taken : List (List ActNo)
  -- of each space: its demand, and what it was not told yet
  pub demands : List ℕ
  pub untold : List (List Note)
  -- how many I/Os were begun, and those under way
  pub io_count : ℕ
  pub under_way : List Io
  -- of each space: its resident pages
  pub pages : List ℕ

-- of a history
abbrev pub space_of : Option Life → Option SpaceNo
space_of life = option_map (λ (here : Life). here.space) life

abbrev pub overview : Readings → Overview
overview r = record {
  assign = record { owners = r.state.owners; aims = r.aims; lines = r.lines; marks = r.marks };
  running = r.running;
  spaces = λ a. space_of (r.lives a);
  taken = r.taken;
  demands = r.demands;
  untold = r.untold;
  io_count = r.io_count;
  under_way = r.under_way;
  pages = r.pages;
}

-- of a state. A life is taken where its notice was told; its context may not be fetched yet.
abbrev pub taken_by : (ℕ → Option SpaceNo) → Note → List (List ActNo) → List (List ActNo)
taken_by spaces (Add p) taken = taken
taken_by spaces (Preempted a) taken = with_act taken (spaces a.0) a
taken_by spaces (Blocked a) taken = taken
taken_by spaces (Unblocked a) taken = with_act taken (spaces a.0) a

abbrev pub taken_behind : (ℕ → Option SpaceNo) → List Note → List (List ActNo) → List (List ActNo)
taken_behind spaces [] taken = taken
taken_behind spaces (note ∷ notes) taken = taken_behind spaces notes (taken_by spaces note taken)

module _ {C : Type 0} where
  abbrev pub act_space : Option (Act C) → Option SpaceNo
  act_space act = option_map (λ (here : Act C). here.space) act

  abbrev pub spaces_in : KernelState C → ℕ → Option SpaceNo
  spaces_in k a = act_space (k.acts a)

  abbrev pub read_off : KernelState C → Overview
  read_off k = record {
    assign = k.assign;
    running = k.lives;
    spaces = spaces_in k;
    taken = taken_behind (spaces_in k) k.telling (take (length k.fixed.priorities) k.taken);
    demands = k.demands;
    untold = k.untold;
    io_count = k.io_count;
    under_way = k.under_way;
    pages = k.pages;
  }
