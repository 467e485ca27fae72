-- What a micro-operation answers, and where its frame then is.
use Rattle.std.proofs.Common.{◌≡◌, ℕ, ◌-◌, ◌<◌, Bool, true, false, length, Option, Some, None, slice_get, refl, arith}
use Rattle.std.proofs.lemmas.Option.{slice_get-get_or}
use Rattle.sa_base.specs.declared.number.ProcNo.{ProcNo}
use Rattle.sa_base.specs.declared.number.ThreadNo.{ThreadNo}
use Rattle.sa_lists.specs.ReadyView.{ReadyView, list_of, is_locked}
use Rattle.sa_code.specs.declared.code.Op.{Op}
use Rattle.sa_code.specs.declared.code.Op.TheVariants.{TakePush, Push, TakePop, Pop, Free}
use Rattle.sa_base.specs.declared.limits.TheConstants.{PACKAGE_PAGE}
use Rattle.sa_code.specs.declared.state.PackageState.{PackageState}
use Rattle.sa_code.specs.declared.state.Frame.{Frame}
use Rattle.sa_code.specs.Micro.{micro, micro_at, taken, pushed, popped, takes_first, chosen, list_in, is_resident, CanDo}
use Rattle.sa_code.specs.Changes.{MovesOn, IsStill, answer_of, is_did}

-- a list that is not empty has a thread to pop
pub chosen-some : (r : ReadyView) (own : Bool) (l : ℕ) → 0 < length (list_of r l) → (t : ℕ) × (chosen r own l ≡ Some t)
chosen-some r true l h = (_, slice_get-get_or (list_of r l) 0 0 h)
chosen-some r false l h = (_, slice_get-get_or (list_of r l) (length (list_of r l) - 1) 0 (omega arith))

pushed-answer : (s : PackageState) (f : Frame) (held resident : Bool) (l : ProcNo) (t : Option ThreadNo) (x : ThreadNo) → t ≡ Some x
    → (pushed s f resident l t).done ≡ answer_of (Some Push) held resident
pushed-answer s f held true l None x e = absurd cc
pushed-answer s f held _ l _ x e = refl

popped-answer : (s : PackageState) (f : Frame) (held resident : Bool) (l : ProcNo) (t : Option ℕ) (x : ℕ) → t ≡ Some x
    → (popped s f resident l t).done ≡ answer_of (Some Pop) held resident
popped-answer s f held true l None x e = absurd cc
popped-answer s f held _ l _ x e = refl

taken-answer : (s : PackageState) (f : Frame) (held resident : Bool) (l : ProcNo)
    → ((taken s f l held).done ≡ answer_of (Some TakePush) held resident) × ((taken s f l held).done ≡ answer_of (Some TakePop) held resident)
taken-answer s f true resident l = (refl, refl)
taken-answer s f false resident l = (refl, refl)

micro_at-answer : (s : PackageState) (f : Frame) (resident : Bool) (op : Option Op) → CanDo s f op
    → (micro_at s f resident (list_in f) op).done ≡ answer_of op (is_locked s.lists (list_in f).0) resident
micro_at-answer s f resident (Some TakePush) can = (taken-answer s f (is_locked s.lists (list_in f).0) resident (list_in f)).0
micro_at-answer s f resident (Some Push) can = pushed-answer s f (is_locked s.lists (list_in f).0) resident (list_in f) f.pushed can.1.thread can.1.pushes
micro_at-answer s f resident (Some TakePop) can = (taken-answer s f (is_locked s.lists (list_in f).0) resident (list_in f)).1
micro_at-answer s f resident (Some Pop) can =
    let some = chosen-some s.lists (takes_first s.lists f.own) (list_in f).0 can.1.some in
    popped-answer s f (is_locked s.lists (list_in f).0) resident (list_in f) (chosen s.lists (takes_first s.lists f.own) (list_in f).0) some.0 some.1
micro_at-answer s f resident None can = absurd can
micro_at-answer s f resident _ can = refl

pub micro-answer : (s : PackageState) (f : Frame) (pages : ℕ) → CanDo s f (slice_get s.code f.pc)
    → (micro s f pages).done ≡ answer_of (slice_get s.code f.pc) (is_locked s.lists (list_in f).0) (is_resident pages PACKAGE_PAGE)
micro-answer s f pages can = micro_at-answer s f (is_resident pages PACKAGE_PAGE) (slice_get s.code f.pc) can

-- the frame goes on where the operation was done
taken-goes_on : (s : PackageState) (f : Frame) (l : ProcNo) (held : Bool) → MovesOn f (taken s f l held).frame (is_did (taken s f l held).done)
taken-goes_on s f l true = record { list = refl; own = refl; pc = refl }
taken-goes_on s f l false = record { list = refl; own = refl; pc = refl }

pushed-goes_on : (s : PackageState) (f : Frame) (resident : Bool) (l : ProcNo) (t : Option ThreadNo)
    → MovesOn f (pushed s f resident l t).frame (is_did (pushed s f resident l t).done)
pushed-goes_on s f false l t = record { list = refl; own = refl; pc = refl }
pushed-goes_on s f true l None = record { list = refl; own = refl; pc = refl }
pushed-goes_on s f true l (Some t) = record { list = refl; own = refl; pc = refl }

popped-goes_on : (s : PackageState) (f : Frame) (resident : Bool) (l : ProcNo) (t : Option ℕ)
    → MovesOn f (popped s f resident l t).frame (is_did (popped s f resident l t).done)
popped-goes_on s f false l t = record { list = refl; own = refl; pc = refl }
popped-goes_on s f true l None = record { list = refl; own = refl; pc = refl }
popped-goes_on s f true l (Some t) = record { list = refl; own = refl; pc = refl }

micro_at-goes_on : (s : PackageState) (f : Frame) (resident : Bool) (l : ProcNo) (op : Option Op)
    → MovesOn f (micro_at s f resident l op).frame (is_did (micro_at s f resident l op).done)
micro_at-goes_on s f resident l (Some TakePush) = taken-goes_on s f l (is_locked s.lists l.0)
micro_at-goes_on s f resident l (Some Push) = pushed-goes_on s f resident l f.pushed
micro_at-goes_on s f resident l (Some TakePop) = taken-goes_on s f l (is_locked s.lists l.0)
micro_at-goes_on s f resident l (Some Pop) = popped-goes_on s f resident l (chosen s.lists (takes_first s.lists f.own) l.0)
micro_at-goes_on s f resident l _ = record { list = refl; own = refl; pc = refl }

pub micro-goes_on : (s : PackageState) (f : Frame) (pages : ℕ) → MovesOn f (micro s f pages).frame (is_did (micro s f pages).done)
micro-goes_on s f pages = micro_at-goes_on s f (is_resident pages PACKAGE_PAGE) (list_in f) (slice_get s.code f.pc)

-- nothing changes where it was not done
taken-still : (s : PackageState) (f : Frame) (l : ProcNo) (held : Bool) → is_did (taken s f l held).done ≡ false → IsStill s f (taken s f l held)
taken-still s f l true e = record { state = refl; frame = refl }
taken-still s f l false e = absurd cc

pushed-still : (s : PackageState) (f : Frame) (resident : Bool) (l : ProcNo) (t : Option ThreadNo) → is_did (pushed s f resident l t).done ≡ false
    → IsStill s f (pushed s f resident l t)
pushed-still s f true l (Some t) e = absurd cc
pushed-still s f _ l _ e = record { state = refl; frame = refl }

popped-still : (s : PackageState) (f : Frame) (resident : Bool) (l : ProcNo) (t : Option ℕ) → is_did (popped s f resident l t).done ≡ false
    → IsStill s f (popped s f resident l t)
popped-still s f true l (Some t) e = absurd cc
popped-still s f _ l _ e = record { state = refl; frame = refl }

micro_at-still : (s : PackageState) (f : Frame) (resident : Bool) (l : ProcNo) (op : Option Op) → is_did (micro_at s f resident l op).done ≡ false
    → IsStill s f (micro_at s f resident l op)
micro_at-still s f resident l (Some TakePush) e = taken-still s f l (is_locked s.lists l.0) e
micro_at-still s f resident l (Some Push) e = pushed-still s f resident l f.pushed e
micro_at-still s f resident l (Some TakePop) e = taken-still s f l (is_locked s.lists l.0) e
micro_at-still s f resident l (Some Pop) e = popped-still s f resident l (chosen s.lists (takes_first s.lists f.own) l.0) e
micro_at-still s f resident l (Some Free) e = absurd cc
micro_at-still s f resident l _ e = record { state = refl; frame = refl }

pub micro-still : (s : PackageState) (f : Frame) (pages : ℕ) → is_did (micro s f pages).done ≡ false → IsStill s f (micro s f pages)
micro-still s f pages e = micro_at-still s f (is_resident pages PACKAGE_PAGE) (list_in f) (slice_get s.code f.pc) e
