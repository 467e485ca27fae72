-- What a user level is made for.
use Rattle.std.specs.Prelude.{ℕ, ◌≤◌}
use Rattle.sa_base.specs.declared.number.SpaceNo.{SpaceNo}
use Rattle.sa_base.specs.declared.limits.TheConstants.{MAX_PROCESSORS}
use Rattle.sa_instr.specs.declared.limits.TheConstants.{MAX_FETCH}
use Rattle.sa_spaces.specs.Space.{SpaceView, IsSpace}

pub record Setting : Type 0 where
  pub space : SpaceNo
  pub def : SpaceView
  pub processors : ℕ
  -- how many events the fetch of a page takes
  pub fetch : ℕ

pub record IsSetting (s : Setting) : Type 0 where
  pub def : IsSpace s.def
  pub some_processor : 1 ≤ s.processors
  pub few_processors : s.processors ≤ MAX_PROCESSORS
  pub some_fetch : 1 ≤ s.fetch
  pub short_fetch : s.fetch ≤ MAX_FETCH
