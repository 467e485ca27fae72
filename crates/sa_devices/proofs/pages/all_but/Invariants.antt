use Rattle.std.proofs.Common.{◌≡◌, ◌-◌, ◌^◌, drop}
use Rattle.sa_devices.specs.Pages.{without_pages}
use Rattle.sa_devices.proofs.pages.all_but.Given as goal

abbrev pub invariant-loop-page : goal.invariant-loop-page
invariant-loop-page l = without_pages l.pages (drop l.page-index l.absent) ≡ without_pages (2 ^ 16 - 1) l.absent
