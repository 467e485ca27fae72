-- What always holds of devices.
use Rattle.std.specs.Prelude.{◌≡◌, ℕ, ◌<◌, ◌≤◌, List, length, count_by, slice_index, All}
use Rattle.std.specs.List.Sorted.{IsNonDecreasingBy}
use Rattle.sa_spaces.specs.declared.workload.Evict.{Evict}
use Rattle.sa_spaces.specs.Workload.{IsEviction}
use Rattle.sa_devices.specs.Ios.{Io, fetches}
use Rattle.sa_devices.specs.Pages.{IsKind}
use Rattle.sa_devices.specs.DevicesView.{IosView}

-- the kinds are of the spaces, the fetches of upcall pages are counted, and the evictions are in order
pub record IsSound (ios : IosView) (fetching pages : List ℕ) (evictions : List Evict) : Type 0 where
  pub spaces : length fetching ≡ length pages
  pub kinds : All (λ (io : Io). IsKind (length pages) io.kind) ios.under_way
  pub counts : (s : ℕ) → s < length pages → slice_index fetching s ≡ count_by (fetches s) ios.under_way
  pub few : length ios.under_way ≤ ios.io_count
  pub in_range : All (IsEviction (length pages)) evictions
  pub in_order : IsNonDecreasingBy (λ (e : Evict). e.event) evictions
