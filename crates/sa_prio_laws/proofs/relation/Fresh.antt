-- A context with the mark has just come to its instruction or look.
use Rattle.std.proofs.Common.{◌≡◌, ◌⊎◌, ℕ, zero, Bool, true, false, not, ◌&&◌, ◌||◌, refl, ap, ◌∙◌, inl, inr}
use Rattle.std.specs.Prelude.{if◌then◌else◌}
use Rattle.sa_base.specs.declared.record.Record.{Record}
use Rattle.sa_base.specs.declared.record.Record.TheVariants as records
use Rattle.sa_package_model.specs.Context.{stands_inside}
use Rattle.sa_package_model.specs.declared.context.ContextState.{ContextState}
use Rattle.sa_package_model.specs.declared.context.ContextState.TheVariants.{Look}
use Rattle.sa_laws.specs.History.{settles, scans_after}
use Rattle.sa_laws.specs.Readings.{Readings}
use Rattle.sa_fast_laws.specs.View.{looks_of}
use Rattle.sa_prio_model.specs.Urge.{came_out, remains_out}
use Rattle.sa_prio_laws.specs.PrioFits.{is_fresh}

pub fresh-when : (urge : Bool) (looks : ℕ) → (urge ≡ true → looks ≡ 0) → is_fresh urge looks ≡ true
fresh-when false looks none = refl
fresh-when true looks none = ap (is_fresh true) (none refl)

pub fresh-is : (urge : Bool) (looks : ℕ) (more : Bool) → (is_fresh urge looks && more) ≡ true → urge ≡ true → looks ≡ 0
fresh-is true zero more both is = refl
fresh-is _ _ more both is = absurd cc

-- a record that settles its life ends its scans
pub settles-scans : (r last : Readings) (x : Record) (n : ℕ) → settles r last x ≡ true → scans_after r x n ≡ 0
settles-scans r last records.Idle n e = absurd cc
settles-scans r last (records.Want s m) n e = by _ e where
  by : (b : Bool) → not b ≡ true → (if b then n else 0) ≡ 0
  by true ends = absurd cc
  by false ends = refl
settles-scans r last _ n e = refl

-- what came out is out
pub came-outside : (before after : ContextState) → came_out before after ≡ true → stands_inside after ≡ false
came-outside before after e = by (stands_inside after) (remains_out before after) e where
  by : (a b : Bool) → (not a && not b) ≡ true → a ≡ false
  by false b e = refl
  by true b e = absurd cc

-- inside the package a context does not look
pub inside-looks : (state : ContextState) → stands_inside state ≡ true → looks_of state ≡ 0
inside-looks (Look looks) e = absurd cc
inside-looks _ e = refl

-- an answer gives the mark only where its record settles the life
pub mark-settles : (inside flag pair urge : Bool) → (inside || (flag && pair)) ≡ (inside || urge) → urge ≡ true → (inside ≡ true) ⊎ (flag ≡ true)
mark-settles true flag pair urge e is = inl refl
mark-settles false true pair urge e is = inr refl
mark-settles false false pair urge e is = absurd (let no = e ∙ is in cc)
