-- What a contract sees of devices.
use Rattle.std.specs.Prelude.{ℕ, ◌+◌, ◌-◌, List, [], ◌∷◌, ◌++◌, map}
use Rattle.sa_spaces.specs.declared.workload.Evict.{Evict}
use Rattle.sa_spaces.specs.Workload.{WorkloadView}
use Rattle.sa_devices.specs.declared.kind.IoKind.{IoKind}
use Rattle.sa_devices.specs.Ios.{Io, without}
use Rattle.sa_devices.specs.Pages.{opening_pages}

-- the I/Os that were begun, of which some are under way
pub record IosView : Type 0 where
  -- how many were begun, which is the number of the next
  pub io_count : ℕ
  -- those under way, in the order of their numbers
  pub under_way : List Io
  -- how many more can begin with no memory taken
  pub spare : ℕ

pub record DevicesView : Type 0 where
  pub ios : IosView
  -- the resident pages of each space: bit k for page k
  pub pages : List ℕ
  -- the evictions of the workload
  pub evictions : List Evict

-- an I/O has begun
abbrev pub begun_with : IosView → IoKind → ℕ → IosView
begun_with v kind ends =
    let io : Io = record { number = v.io_count; ends = ends; kind = kind } in
    record { io_count = v.io_count + 1; under_way = v.under_way ++ io ∷ []; spare = v.spare - 1 }

-- an I/O is over
abbrev pub ended_with : IosView → ℕ → IosView
ended_with v n = record v { under_way = without n v.under_way }

-- the opening of a workload: no I/O was begun, and the pages that are absent are those that it names
abbrev pub opening : WorkloadView → DevicesView
opening w = record {
  ios = record { io_count = 0; under_way = []; spare = 0 };
  pages = map opening_pages w.spaces;
  evictions = w.evictions;
}
