use Rattle.std.proofs.Common.{◌≡◌, map, take, replicate}
use Rattle.sa_devices.specs.Pages.{opening_pages}
use Rattle.sa_devices.proofs.devices.Devices.new.Given as goal

abbrev pub invariant-loop-space : goal.invariant-loop-space
invariant-loop-space l = record {
  fetching : l.fetching.items ≡ replicate l.space-index 0;
  pages : l.pages.items ≡ map opening_pages (take l.space-index l.space-items);
}
