-- What a micro-operation changes: its own list, and no other.
use Rattle.std.proofs.Common.{ℕ, ◌<◌, Bool, true, false, length, Option, Some, None, slice_get, refl}
use Rattle.std.proofs.lemmas.List.{get_or-set_other, get_or-set_same, length-set}
use Rattle.sa_base.specs.declared.number.ProcNo.{ProcNo}
use Rattle.sa_base.specs.declared.number.ThreadNo.{ThreadNo}
use Rattle.sa_lists.specs.ReadyView.{thread, list_of, is_locked, inserted}
use Rattle.sa_lists.proofs.Changes.{list_of-with_list_same, list_of-with_list_other, is_locked-with_lock_same, is_locked-with_lock_other}
use Rattle.sa_code.specs.declared.code.Op.{Op}
use Rattle.sa_code.specs.declared.code.Op.TheVariants.{TakePush, Push, TakePop, Pop, Free}
use Rattle.sa_base.specs.declared.limits.TheConstants.{PACKAGE_PAGE}
use Rattle.sa_code.specs.declared.state.PackageState.{PackageState}
use Rattle.sa_code.specs.declared.state.Frame.{Frame}
use Rattle.sa_code.specs.Micro.{micro, micro_at, taken, pushed, popped, freed, takes_first, chosen, without_chosen, list_in, is_resident}
use Rattle.sa_code.specs.Changes.{holder_of, IsList, ChangesOnly}

-- nothing changes
pub changes_only-refl : (l : ℕ) (s : PackageState) → ChangesOnly l s s
changes_only-refl l s = record {
  others = λ m ne. record { threads = refl; lock = refl; holder = refl };
  lists = refl;
  locks = refl;
  holders = refl;
  made = refl;
  most = refl;
  space = refl;
  code = refl;
}

-- each kind of operation, whatever it finds
pub taken-changes_only : (s : PackageState) (f : Frame) (l : ProcNo) (held : Bool) → ChangesOnly l.0 s (taken s f l held).state
taken-changes_only s f l true = changes_only-refl l.0 s
taken-changes_only s f l false = record {
  others =
      λ m ne. record { threads = refl; lock = is_locked-with_lock_other s.lists l.0 m true ne; holder = get_or-set_other s.holders l.0 m f.thread None ne };
  lists = refl;
  locks = length-set s.lists.locked l.0 true;
  holders = length-set s.holders l.0 f.thread;
  made = refl;
  most = refl;
  space = refl;
  code = refl;
}

pub pushed-changes_only : (s : PackageState) (f : Frame) (resident : Bool) (l : ProcNo) (t : Option ThreadNo)
    → ChangesOnly l.0 s (pushed s f resident l t).state
pushed-changes_only s f true l (Some t) = record {
  others = λ m ne. record { threads = list_of-with_list_other s.lists l.0 m (inserted s.lists.ranks t.0 (list_of s.lists l.0)) ne; lock = refl; holder = refl };
  lists = length-set s.lists.lists l.0 (inserted s.lists.ranks t.0 (list_of s.lists l.0));
  locks = refl;
  holders = refl;
  made = refl;
  most = refl;
  space = refl;
  code = refl;
}
pushed-changes_only s f _ l _ = changes_only-refl l.0 s

pub popped-changes_only : (s : PackageState) (f : Frame) (resident : Bool) (l : ProcNo) (t : Option ℕ) → ChangesOnly l.0 s (popped s f resident l t).state
popped-changes_only s f true l (Some t) =
    let left = without_chosen s.lists (takes_first s.lists f.own) l.0 in
    record {
      others =
          λ m ne. record {
            threads = list_of-with_list_other s.lists l.0 m left ne;
            lock = refl;
            holder = get_or-set_other s.holders l.0 m (Some (thread t)) None ne;
          };
      lists = length-set s.lists.lists l.0 left;
      locks = refl;
      holders = length-set s.holders l.0 (Some (thread t));
      made = refl;
      most = refl;
      space = refl;
      code = refl;
    }
popped-changes_only s f _ l _ = changes_only-refl l.0 s

pub freed-changes_only : (s : PackageState) (f : Frame) (l : ProcNo) → ChangesOnly l.0 s (freed s f l).state
freed-changes_only s f l = record {
  others = λ m ne. record { threads = refl; lock = is_locked-with_lock_other s.lists l.0 m false ne; holder = get_or-set_other s.holders l.0 m None None ne };
  lists = refl;
  locks = length-set s.lists.locked l.0 false;
  holders = length-set s.holders l.0 None;
  made = refl;
  most = refl;
  space = refl;
  code = refl;
}

-- every operation changes its own list alone
micro_at-changes_only : (s : PackageState) (f : Frame) (resident : Bool) (l : ProcNo) (op : Option Op) → ChangesOnly l.0 s (micro_at s f resident l op).state
micro_at-changes_only s f resident l (Some TakePush) = taken-changes_only s f l (is_locked s.lists l.0)
micro_at-changes_only s f resident l (Some Push) = pushed-changes_only s f resident l f.pushed
micro_at-changes_only s f resident l (Some TakePop) = taken-changes_only s f l (is_locked s.lists l.0)
micro_at-changes_only s f resident l (Some Pop) = popped-changes_only s f resident l (chosen s.lists (takes_first s.lists f.own) l.0)
micro_at-changes_only s f resident l (Some Free) = freed-changes_only s f l
micro_at-changes_only s f resident l _ = changes_only-refl l.0 s

pub micro-changes_only : (s : PackageState) (f : Frame) (pages : ℕ) → ChangesOnly (list_in f).0 s (micro s f pages).state
micro-changes_only s f pages = micro_at-changes_only s f (is_resident pages PACKAGE_PAGE) (list_in f) (slice_get s.code f.pc)

-- what each kind of operation makes of its own list, where it is done
pub taken-list : (s : PackageState) (f : Frame) (l : ProcNo) → l.0 < length s.lists.locked → l.0 < length s.holders
    → IsList (taken s f l false).state l.0 (list_of s.lists l.0) true f.thread
taken-list s f l locks holders =
    record { threads = refl; lock = is_locked-with_lock_same s.lists l.0 true locks; holder = get_or-set_same s.holders l.0 f.thread None holders }

pub pushed-list : (s : PackageState) (f : Frame) (l : ProcNo) (t : ThreadNo) → l.0 < length s.lists.lists
    → IsList (pushed s f true l (Some t)).state l.0 (inserted s.lists.ranks t.0 (list_of s.lists l.0)) (is_locked s.lists l.0) (holder_of s l.0)
pushed-list s f l t inside =
    record { threads = list_of-with_list_same s.lists l.0 (inserted s.lists.ranks t.0 (list_of s.lists l.0)) inside; lock = refl; holder = refl }

pub popped-list : (s : PackageState) (f : Frame) (l : ProcNo) (t : ℕ) → l.0 < length s.lists.lists → l.0 < length s.holders
    → IsList (popped s f true l (Some t)).state l.0 (without_chosen s.lists (takes_first s.lists f.own) l.0) (is_locked s.lists l.0) (Some (thread t))
popped-list s f l t inside holders =
    record {
      threads = list_of-with_list_same s.lists l.0 (without_chosen s.lists (takes_first s.lists f.own) l.0) inside;
      lock = refl;
      holder = get_or-set_same s.holders l.0 (Some (thread t)) None holders;
    }

pub freed-list : (s : PackageState) (f : Frame) (l : ProcNo) → l.0 < length s.lists.locked → l.0 < length s.holders
    → IsList (freed s f l).state l.0 (list_of s.lists l.0) false None
freed-list s f l locks holders =
    record { threads = refl; lock = is_locked-with_lock_same s.lists l.0 false locks; holder = get_or-set_same s.holders l.0 None None holders }
