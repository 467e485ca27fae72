-- The outcomes of a micro-operation, each with what led to it.
use Rattle.std.proofs.Common.{◌≡◌, ℕ, Bool, true, false, [], ◌∷◌, Option, Some, None, slice_get, refl}
use Rattle.sa_base.specs.declared.limits.TheConstants.{PACKAGE_PAGE}
use Rattle.sa_base.specs.declared.number.ProcNo.{ProcNo}
use Rattle.sa_base.specs.declared.number.ThreadNo.{ThreadNo}
use Rattle.sa_base.specs.declared.record.Record.TheVariants.{Back, Spin}
use Rattle.sa_lists.specs.ReadyView.{is_locked}
use Rattle.sa_code.specs.declared.code.Op.{Op}
use Rattle.sa_code.specs.declared.code.Op.TheVariants.{TakePush, Push, TakePop, Pop, Free, Leave, Yield}
use Rattle.sa_code.specs.declared.state.PackageState.{PackageState}
use Rattle.sa_code.specs.declared.state.Frame.{Frame}
use Rattle.sa_code.specs.declared.state.MicroDone.TheVariants.{Spun, Faulted, Left, Yielded}
use Rattle.sa_code.specs.Micro.{Micro, micro, micro_at, stays, taken, pushed, popped, freed, takes_first, chosen, list_in, is_resident, HasList, CanChange, CanPush, CanPop, CanDo}
use Rattle.sa_code.proofs.Answers.{chosen-some}

-- what is to be shown of each outcome
pub record Outcomes (P : Micro → Type 0) (s : PackageState) (f : Frame) (op : Option Op) (resident : Bool) : Type 0 where
  pub spun : HasList s f → is_locked s.lists (list_in f).0 ≡ true → P (stays s f Spun (Spin (list_in f) ∷ []))
  pub took_to_push : op ≡ Some TakePush → HasList s f → CanPush s f → is_locked s.lists (list_in f).0 ≡ false → P (taken s f (list_in f) false)
  pub took_to_pop : op ≡ Some TakePop → HasList s f → is_locked s.lists (list_in f).0 ≡ false → P (taken s f (list_in f) false)
  pub faulted : CanChange s f → resident ≡ false → P (stays s f Faulted [])
  pub did_push : (t : ThreadNo) → op ≡ Some Push → CanChange s f → f.pushed ≡ Some t → CanPush s f → P (pushed s f true (list_in f) (Some t))
  pub did_pop : (t : ℕ) → op ≡ Some Pop → CanChange s f → CanPop s f → chosen s.lists (takes_first s.lists f.own) (list_in f).0 ≡ Some t
      → P (popped s f true (list_in f) (Some t))
  pub did_free : op ≡ Some Free → CanChange s f → P (freed s f (list_in f))
  pub left : op ≡ Some Leave → P (stays s f Left [])
  pub yielded : op ≡ Some Yield → P (stays s f Yielded (Back s.space f.thread ∷ []))

taken-outcome : (P : Micro → Type 0) (s : PackageState) (f : Frame) (l : ProcNo) (held : Bool) → (held ≡ true → P (stays s f Spun (Spin l ∷ [])))
    → (held ≡ false → P (taken s f l false)) → P (taken s f l held)
taken-outcome P s f l true spun took = spun refl
taken-outcome P s f l false spun took = took refl

pushed-outcome : (P : Micro → Type 0) (s : PackageState) (f : Frame) (resident : Bool) (l : ProcNo) (t : Option ThreadNo) (x : ThreadNo) → t ≡ Some x
    → (resident ≡ false → P (stays s f Faulted [])) → ((y : ThreadNo) → t ≡ Some y → P (pushed s f true l (Some y))) → P (pushed s f resident l t)
pushed-outcome P s f false l t x e faulted did = faulted refl
pushed-outcome P s f true l None x e faulted did = absurd cc
pushed-outcome P s f true l (Some y) x e faulted did = did y refl

popped-outcome : (P : Micro → Type 0) (s : PackageState) (f : Frame) (resident : Bool) (l : ProcNo) (t : Option ℕ) (x : ℕ) → t ≡ Some x
    → (resident ≡ false → P (stays s f Faulted [])) → ((y : ℕ) → t ≡ Some y → P (popped s f true l (Some y))) → P (popped s f resident l t)
popped-outcome P s f false l t x e faulted did = faulted refl
popped-outcome P s f true l None x e faulted did = absurd cc
popped-outcome P s f true l (Some y) x e faulted did = did y refl

micro_at-outcome : (P : Micro → Type 0) (s : PackageState) (f : Frame) (resident : Bool) (op : Option Op) → CanDo s f op → Outcomes P s f op resident
    → P (micro_at s f resident (list_in f) op)
micro_at-outcome P s f resident (Some TakePush) can o =
    taken-outcome P s f (list_in f) (is_locked s.lists (list_in f).0) (o.spun can.0) (o.took_to_push refl can.0 can.1)
micro_at-outcome P s f resident (Some Push) can o =
    pushed-outcome P s f resident (list_in f) f.pushed can.1.thread can.1.pushes (o.faulted can.0) (λ t e. o.did_push t refl can.0 e can.1)
micro_at-outcome P s f resident (Some TakePop) can o = taken-outcome P s f (list_in f) (is_locked s.lists (list_in f).0) (o.spun can) (o.took_to_pop refl can)
micro_at-outcome P s f resident (Some Pop) can o =
    let some = chosen-some s.lists (takes_first s.lists f.own) (list_in f).0 can.1.some in
    popped-outcome P s f resident (list_in f) (chosen s.lists (takes_first s.lists f.own) (list_in f).0) some.0 some.1 (o.faulted can.0)
    (λ t e. o.did_pop t refl can.0 can.1 e)
micro_at-outcome P s f resident (Some Free) can o = o.did_free refl can
micro_at-outcome P s f resident (Some Leave) can o = o.left refl
micro_at-outcome P s f resident (Some Yield) can o = o.yielded refl
micro_at-outcome P s f resident None can o = absurd can

-- what holds of each outcome that its causes lead to holds of what a micro-operation does
pub micro-outcome : (P : Micro → Type 0) (s : PackageState) (f : Frame) (pages : ℕ) → CanDo s f (slice_get s.code f.pc)
    → Outcomes P s f (slice_get s.code f.pc) (is_resident pages PACKAGE_PAGE) → P (micro s f pages)
micro-outcome P s f pages can o = micro_at-outcome P s f (is_resident pages PACKAGE_PAGE) (slice_get s.code f.pc) can o
