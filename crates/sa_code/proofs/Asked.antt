-- What an operation asks: the one before leads to it, and those in other lists leave it.
use Rattle.std.proofs.Common.{◌≢◌, ℕ, ◌<◌, true, false, List, length, Some, sym, ◌∙◌, subst}
use Rattle.sa_base.specs.declared.number.ThreadNo.{ThreadNo}
use Rattle.sa_code.specs.declared.state.PackageState.{PackageState}
use Rattle.sa_code.specs.declared.state.Frame.{Frame}
use Rattle.sa_code.specs.Micro.{taken, pushed, popped, list_in, HasList, CanChange, CanPop}
use Rattle.sa_code.specs.Changes.{ChangesOnly, IsPackage}
use Rattle.sa_code.proofs.Steps.{pushed-changes_only, popped-changes_only, taken-list}
use Rattle.sa_code.proofs.Kept.{has_holder, has_lock}

-- after a take the frame's list can be changed, and its thread pushed or the list's popped
pub can_change-taken : (s : PackageState) (f : Frame) → IsPackage s → HasList s f
    → CanChange (taken s f (list_in f) false).state (taken s f (list_in f) false).frame
can_change-taken s f h list = record {
  list = record { there = list.there; inside = list.inside };
  locked = (taken-list s f (list_in f) (has_lock s (list_in f).0 h list.inside) (has_holder s (list_in f).0 h list.inside)).lock;
}

-- after an effect it can be freed
pub can_change-pushed : (s : PackageState) (f : Frame) (t : ThreadNo) → CanChange s f
    → CanChange (pushed s f true (list_in f) (Some t)).state (pushed s f true (list_in f) (Some t)).frame
can_change-pushed s f t h = record {
  list = record { there = h.list.there; inside = subst (λ n. (list_in f).0 < n) (sym (pushed-changes_only s f true (list_in f) (Some t)).lists) h.list.inside };
  locked = h.locked;
}

pub can_change-popped : (s : PackageState) (f : Frame) (t : ℕ) → CanChange s f
    → CanChange (popped s f true (list_in f) (Some t)).state (popped s f true (list_in f) (Some t)).frame
can_change-popped s f t h = record {
  list = record { there = h.list.there; inside = subst (λ n. (list_in f).0 < n) (sym (popped-changes_only s f true (list_in f) (Some t)).lists) h.list.inside };
  locked = h.locked;
}

-- a change of another list leaves what is asked of the frame's
pub has_list-kept : (s new : PackageState) (f : Frame) (m : ℕ) → ChangesOnly m s new → HasList s f → HasList new f
has_list-kept s new f m only h = record { there = h.there; inside = subst (λ n. (list_in f).0 < n) (sym only.lists) h.inside }

pub can_change-kept : (s new : PackageState) (f : Frame) (m : ℕ) → ChangesOnly m s new → (list_in f).0 ≢ m → CanChange s f → CanChange new f
can_change-kept s new f m only ne h = record { list = has_list-kept s new f m only h.list; locked = (only.others (list_in f).0 ne).lock ∙ h.locked }

pub can_pop-kept : (s new : PackageState) (f : Frame) (m : ℕ) → ChangesOnly m s new → (list_in f).0 ≢ m → CanPop s f → CanPop new f
can_pop-kept s new f m only ne h =
    record { some = subst (λ (xs : List ℕ). 0 < length xs) (sym (only.others (list_in f).0 ne).threads) h.some; carries = h.carries }
