-- What every micro-operation keeps.
use Rattle.std.proofs.Common.{◌≡◌, ℕ, suc, ◌<◌, ◌≤◌, Bool, true, false, List, length, get_or, replicate, Option, Some, None, slice_get, refl, sym, ◌∙◌, subst, inl, inr, arith}
use Rattle.std.proofs.lemmas.Bool.{cases_eq}
use Rattle.std.proofs.lemmas.Option.{same_Some}
use Rattle.sa_base.specs.declared.number.ProcNo.{ProcNo}
use Rattle.sa_base.specs.declared.number.SpaceNo.{SpaceNo}
use Rattle.sa_base.specs.declared.number.ThreadNo.{ThreadNo}
use Rattle.sa_base.specs.declared.limits.TheConstants.{MAX_PROCESSORS, MAX_THREADS}
use Rattle.sa_lists.specs.declared.ranks.Ranks.{Ranks}
use Rattle.sa_lists.specs.ReadyView.{ReadyView, is_locked, with_list, IsUnlisted, IsReady}
use Rattle.sa_lists.proofs.Changes.{ready-no_threads, ready-pushed, ready-without_newest, ready-without_oldest, ready-with_lock}
use Rattle.sa_code.specs.declared.code.Op.{Op}
use Rattle.sa_code.specs.declared.code.Op.TheVariants.{TakePush, Push, TakePop, Pop, Free}
use Rattle.sa_base.specs.declared.limits.TheConstants.{PACKAGE_PAGE}
use Rattle.sa_code.specs.declared.state.PackageState.{PackageState}
use Rattle.sa_code.specs.declared.state.Frame.{Frame}
use Rattle.sa_code.specs.Micro.{micro, micro_at, taken, pushed, popped, freed, takes_first, chosen, without_chosen, list_in, is_resident, CanDo}
use Rattle.sa_code.specs.Changes.{holder_of, IsList, ChangesOnly, IsPackage, opening_package}
use Rattle.sa_code.proofs.Steps.{taken-changes_only, pushed-changes_only, popped-changes_only, freed-changes_only, taken-list, pushed-list, popped-list, freed-list}

-- a change of list l alone, which has a holder only where its lock is held
package-changed : (s new : PackageState) (l : ℕ) (threads : List ℕ) (held : Bool) (holder : Option ThreadNo) → IsPackage s → ChangesOnly l s new
    → IsReady new.lists → IsList new l threads held holder → (held ≡ false → holder ≡ None) → IsPackage new
package-changed s new l threads held holder h only ready here free = record {
  ready = ready;
  holders = only.holders ∙ h.holders;
  free = λ m e. elim (cases_eq m l) [
    | inl same ↦ subst (λ k. holder_of new k ≡ None) (sym same) (here.holder ∙ free (sym here.lock ∙ subst (λ k. is_locked new.lists k ≡ false) same e))
    | inr ne ↦ let there = only.others m ne in there.holder ∙ h.free m (sym there.lock ∙ e)
  ];
}

-- a list of the state has a lock and a holder
pub has_holder : (s : PackageState) (l : ℕ) → IsPackage s → l < length s.lists.lists → l < length s.holders
has_holder s l h inside = let r = h.ready in let a = h.holders in let b = r.processors in omega arith

pub has_lock : (s : PackageState) (l : ℕ) → IsPackage s → l < length s.lists.lists → l < length s.lists.locked
has_lock s l h inside = let r = h.ready in let a = r.locks in omega arith

taken-package : (s : PackageState) (f : Frame) (l : ProcNo) (held : Bool) → IsPackage s → l.0 < length s.lists.lists → IsPackage (taken s f l held).state
taken-package s f l true h inside = h
taken-package s f l false h inside =
    package-changed s (taken s f l false).state l.0 _ true f.thread h (taken-changes_only s f l false) (ready-with_lock s.lists l.0 true h.ready)
    (taken-list s f l (has_lock s l.0 h inside) (has_holder s l.0 h inside)) (λ e. absurd cc)

pushed-package : (s : PackageState) (f : Frame) (resident : Bool) (l : ProcNo) (t : Option ThreadNo) (x : ThreadNo) → IsPackage s → l.0 < length s.lists.lists
    → t ≡ Some x → x.0 < s.lists.threads → IsUnlisted s.lists x.0 → IsPackage (pushed s f resident l t).state
pushed-package s f true l (Some y) x h inside e below unlisted =
    let same : y ≡ x = same_Some y x e in
    package-changed s (pushed s f true l (Some y)).state l.0 _ (is_locked s.lists l.0) (holder_of s l.0) h (pushed-changes_only s f true l (Some y))
    (ready-pushed s.lists l.0 y.0 h.ready inside (subst (λ (z : ThreadNo). z.0 < s.lists.threads) (sym same) below)
    (subst (λ (z : ThreadNo). IsUnlisted s.lists z.0) (sym same) unlisted))
    (pushed-list s f l y inside) (h.free l.0)
pushed-package s f _ l _ x h inside e below unlisted = h

without_chosen-ready : (r : ReadyView) (own : Bool) (l : ℕ) → IsReady r → l < length r.lists → IsReady (with_list r l (without_chosen r own l))
without_chosen-ready r true l h inside = ready-without_newest r l h inside
without_chosen-ready r false l h inside = ready-without_oldest r l h inside

popped-package : (s : PackageState) (f : Frame) (resident : Bool) (l : ProcNo) (t : Option ℕ) → IsPackage s → l.0 < length s.lists.lists
    → is_locked s.lists l.0 ≡ true → IsPackage (popped s f resident l t).state
popped-package s f true l (Some t) h inside locked =
    package-changed s (popped s f true l (Some t)).state l.0 _ (is_locked s.lists l.0) _ h (popped-changes_only s f true l (Some t))
    (without_chosen-ready s.lists (takes_first s.lists f.own) l.0 h.ready inside)
    (popped-list s f l t inside (has_holder s l.0 h inside)) (λ e. absurd cc)
popped-package s f _ l _ h inside locked = h

freed-package : (s : PackageState) (f : Frame) (l : ProcNo) → IsPackage s → l.0 < length s.lists.lists → IsPackage (freed s f l).state
freed-package s f l h inside =
    package-changed s (freed s f l).state l.0 _ false None h (freed-changes_only s f l) (ready-with_lock s.lists l.0 false h.ready)
    (freed-list s f l (has_lock s l.0 h inside) (has_holder s l.0 h inside)) (λ e. refl)

micro_at-package : (s : PackageState) (f : Frame) (resident : Bool) (op : Option Op) → IsPackage s → CanDo s f op
    → IsPackage (micro_at s f resident (list_in f) op).state
micro_at-package s f resident (Some TakePush) h can = taken-package s f (list_in f) (is_locked s.lists (list_in f).0) h can.0.inside
micro_at-package s f resident (Some Push) h can =
    pushed-package s f resident (list_in f) f.pushed can.1.thread h can.0.list.inside can.1.pushes can.1.below can.1.unlisted
micro_at-package s f resident (Some TakePop) h can = taken-package s f (list_in f) (is_locked s.lists (list_in f).0) h can.inside
micro_at-package s f resident (Some Pop) h can =
    popped-package s f resident (list_in f) (chosen s.lists (takes_first s.lists f.own) (list_in f).0) h can.0.list.inside can.0.locked
micro_at-package s f resident (Some Free) h can = freed-package s f (list_in f) h can.list.inside
micro_at-package s f resident _ h can = h

pub micro-package : (s : PackageState) (f : Frame) (pages : ℕ) → IsPackage s → CanDo s f (slice_get s.code f.pc) → IsPackage (micro s f pages).state
micro-package s f pages h can = micro_at-package s f (is_resident pages PACKAGE_PAGE) (slice_get s.code f.pc) h can

no_holder : (n l : ℕ) → get_or (replicate n (let none : Option ThreadNo = None in none)) l None ≡ None
no_holder (suc n) (suc l) = no_holder n l
no_holder _ _ = refl

-- new package states
pub begun-package : (space : SpaceNo) (code : List Op) (lists : ℕ) (ranks : Ranks) (threads : ℕ) → lists ≤ MAX_PROCESSORS → threads ≤ MAX_THREADS
    → IsPackage (opening_package space code lists ranks threads)
begun-package space code lists ranks threads few most = record {
  ready = ready-no_threads lists ranks threads few most;
  holders = refl;
  free = λ l e. no_holder MAX_PROCESSORS l;
}
