-- How the threads and lives of a space fit a package's value and contexts, whatever else the package keeps: at rest, and
-- while a fresh activation is told of its upcall.
use Rattle.std.specs.Prelude.{◌≡◌, ◌≢◌, ℕ, false, Some, None}
use Rattle.sa_base.specs.declared.number.ActNo.{ActNo}
use Rattle.sa_base.specs.declared.number.SpaceNo.{SpaceNo}
use Rattle.sa_abstract.specs.Calls.{Contexts}
use Rattle.sa_package_model.specs.Context.{carried_by}
use Rattle.sa_package_model.specs.declared.context.Context.{Context}
use Rattle.sa_package_model.specs.declared.context.ContextState.TheVariants.{Work}
use Rattle.sa_package_model.specs.declared.package.Package.{Package}
use Rattle.sa_laws.specs.Life.{Life}
use Rattle.sa_laws.specs.Readings.{Readings, life_of}
use Rattle.sa_fast_laws.specs.FastFits.{Holds}
use Rattle.sa_fast_laws.specs.Life.{IsAtRest}
use Rattle.sa_fast_laws.specs.Stage.{stage_of, Runs}
use Rattle.sa_fast_laws.specs.View.{View}

-- A context of a package has one of FastThreads in it, which is its base, and shows more than that perhaps.
pub record IsBasedOn {C : Type 0} (look : C → View) (base : C → Context) (bs : Contexts Context) (cs : Contexts C) : Type 0 where
  pub up : (i : ℕ) (b : Context) → bs i ≡ Some b → (c : C) × (cs i ≡ Some c) × (base c ≡ b)
  pub down : (i : ℕ) (c : C) → cs i ≡ Some c → bs i ≡ Some (base c)
  pub carries : (c : C) → (look c).carried ≡ carried_by (base c).state

module _ {C : Type 0} (look : C → View) where
  -- all lives with a context are at rest, or all but that of activation a
  abbrev pub Rests : SpaceNo → Readings → Contexts C → Type 0
  Rests s r cs = (a : ActNo) (c : C) (life : Life) → cs a.0 ≡ Some c → life_of r a ≡ Some life → IsAtRest (stage_of r s a life) (look c) life

  abbrev pub RestBut : SpaceNo → Readings → ActNo → Contexts C → Type 0
  RestBut s r a cs =
      (x : ActNo) (c : C) (life : Life) → x.0 ≢ a.0 → cs x.0 ≡ Some c → life_of r x ≡ Some life → IsAtRest (stage_of r s x life) (look c) life

  -- AT REST. The package and the bases of the contexts hold, and all lives are at rest.
  pub record LivesFit (s : SpaceNo) (r : Readings) (u : Package) (bs : Contexts Context) (cs : Contexts C) : Type 0 where
    pub holds : Holds s r u bs
    pub rest : Rests s r cs

  -- WHILE ACTIVATION n IS TOLD. Its context is in its upcall, and all other lives are at rest.
  pub record LivesHear (s : SpaceNo) (r : Readings) (n : ActNo) (u : Package) (bs : Contexts Context) (cs : Contexts C) : Type 0 where
    pub holds : Holds s r u bs
    pub others : RestBut s r n cs
    pub begins : (b : Context) → bs n.0 ≡ Some b → b.state ≡ Work None
    pub runs : (life : Life) → life_of r n ≡ Some life → (stage_of r s n life ≡ Runs) × (life.freed ≡ false) × (life.scans ≡ 0)
