-- The one ready list of the package beside the history.
use Rattle.std.specs.Prelude.{◌≡◌, ◌<◌, List, length, map, Contains}
use Rattle.sa_base.specs.declared.number.ThreadNo.{ThreadNo}
use Rattle.sa_lists.specs.ReadyView.{rank_of, list_of}
use Rattle.sa_fast.specs.Threads.{block_at}
use Rattle.sa_package_model.specs.declared.package.Package.{Package}
use Rattle.sa_laws.specs.Readings.{Listed}
use Rattle.sa_fast_laws.specs.FastFits.{number_in}
use Rattle.sa_prio_laws.specs.ByRank.{by_rank}

-- All ready threads are in list 0, by their ranks; each thread that can be has a rank, which is the number of its program
-- once it is made.
pub record FitsRanked (u : Package) (listed : List Listed) : Type 0 where
  pub one : length u.shared.state.lists.lists ≡ 1
  pub many : length u.shared.state.lists.ranks ≡ u.shared.state.lists.threads
  pub there : (x : Listed) → Contains listed x → x.list.0 ≡ 0
  pub order : list_of u.shared.state.lists 0 ≡ by_rank u.shared.state.lists.ranks (map number_in listed)
  pub ranks : (t : ThreadNo) → t.0 < u.shared.state.lists.made → rank_of u.shared.state.lists.ranks t.0 ≡ (block_at u.shared.threads t.0).program
