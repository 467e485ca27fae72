use Rattle.std.proofs.Common.{◌≡◌, map, take}
use Rattle.sa_devices.specs.Pages.{opening_pages}
use Rattle.sa_check_ios.proofs.pending.first_pages.Given as goal

abbrev pub invariant-loop-space : goal.invariant-loop-space
invariant-loop-space l = l.pages.items ≡ map opening_pages (take l.space-index l.spaces)
