-- Counting the aims of all spaces at once.
use Rattle.std.proofs.Common.{◌≡◌, ℕ, ◌+◌, ◌-◌, ◌<◌, ◌≤◌, true, false, cond, List, [], ◌++◌, length, take, Option, None, get_or, refl, sym, ap, subst, append-nil, ◌∙◌, arith, inl, inr}
use Rattle.std.proofs.lemmas.Bool.{cases_lt}
use Rattle.std.proofs.Math.Seq.{take-length}
use Rattle.std.proofs.lemmas.List.{get_or_past}
use Rattle.std.proofs.lemmas.List.Sums.{count_by_more_yes, count_by_more_no}
use Rattle.sa_base.specs.declared.number.SpaceNo.{SpaceNo}
use Rattle.sa_base.specs.declared.number.ProcNo.{ProcNo}
use Rattle.sa_base.specs.declared.record.Item.{Item}
use Rattle.sa_base.specs.Items.{items_at}
use Rattle.sa_share.specs.Share.{share_at}
use Rattle.sa_assign.specs.AssignView.{AssignView}
use Rattle.sa_assign.specs.Aims.{Change, aimed, is_aim}
use Rattle.sa_assign.specs.Reaim.{changed, changes_in, records_of, reaimed, reaim_records}
use Rattle.sa_assign.proofs.AimLemmas.{none-missing}

-- the aims so far, and one more
aimed-more : (s : ℕ) (aims : List (Option SpaceNo)) (k : ℕ) → k < length aims
    → aimed s (take (k + 1) aims) ≡ aimed s (take k aims) + cond (is_aim s (get_or aims k None)) 1 0
aimed-more s aims k inside = elim (is_aim s (get_or aims k None)) as (λ b. is_aim s (get_or aims k None) ≡ b
    → aimed s (take (k + 1) aims) ≡ aimed s (take k aims) + cond b 1 0) [
      | true ↦ λ e. count_by_more_yes (is_aim s) aims k None inside e
      | false ↦ λ e. let same = count_by_more_no (is_aim s) aims k None inside e in omega arith
    ] refl

-- what each space misses after the aims so far, and after one more
abbrev pub AreMissing : List ℕ → List (Option SpaceNo) → ℕ → List ℕ → Type 0
AreMissing shares aims k left = (s : ℕ) → share_at left s ≡ share_at shares s - aimed s (take k aims)

pub missing-more : (shares : List ℕ) (aims : List (Option SpaceNo)) (k : ℕ) (left next : List ℕ) → k < length aims
    → AreMissing shares aims k left → ((s : ℕ) → share_at next s ≡ share_at left s - cond (is_aim s (get_or aims k None)) 1 0)
    → AreMissing shares aims (k + 1) next
missing-more shares aims k left next inside so_far taken s =
    let e = so_far s in let f = taken s in let g = aimed-more s aims k inside in omega arith

missing-whole : (shares : List ℕ) (aims : List (Option SpaceNo)) (left : List ℕ) → AreMissing shares aims (length aims) left
    → (s : ℕ) → share_at left s ≡ share_at shares s - aimed s aims
missing-whole shares aims left all s = all s ∙ ap (λ (xs : List (Option SpaceNo)). share_at shares s - aimed s xs) (take-length aims)

-- none is missing anywhere, and somewhere one is
pub missing-none : (shares : List ℕ) (aims : List (Option SpaceNo)) (left : List ℕ) → AreMissing shares aims (length aims) left
    → ((s : ℕ) → s < length left → get_or left s 0 ≡ 0) → (s : ℕ) → share_at shares s ≤ aimed s aims
missing-none shares aims left all none s =
    let e = missing-whole shares aims left all s in
    elim (cases_lt s (length left)) [
      | inl inside ↦ let f = none s inside in omega arith
      | inr past ↦ let f = get_or_past left s 0 past in omega arith
    ]

pub missing-some : (shares : List ℕ) (aims : List (Option SpaceNo)) (left : List ℕ) → AreMissing shares aims (length aims) left
    → ((s : ℕ) → share_at shares s ≤ aimed s aims) → (s : ℕ) → get_or left s 0 ≡ 0
missing-some shares aims left all covered s = let e = missing-whole shares aims left all s in let f = covered s in omega arith

-- where each space has its share, an assignment and the items of a trace stay as they are
pub nothing-due : (event : ℕ) (proc : ProcNo) (spaces : ℕ) (shares which : List ℕ) (aims : List (Option SpaceNo)) (a : AssignView) (items : List Item)
    → shares ≡ which → aims ≡ a.aims → ((s : ℕ) → share_at shares s ≤ aimed s aims)
    → (a ≡ reaimed event spaces which a) × (items ≡ items ++ items_at event proc (reaim_records event spaces which a))
nothing-due event proc spaces shares which aims a items same own covered =
    let none : changes_in spaces which a ≡ [] =
    none-missing 0 spaces which a.marks a.aims
    (subst (λ (xs : List ℕ). (s : ℕ) → share_at xs s ≤ aimed s a.aims) same
    (subst (λ (xs : List (Option SpaceNo)). (s : ℕ) → share_at shares s ≤ aimed s xs) own covered)) in
    (ap (changed event a) (sym none), sym (append-nil items) ∙ ap (λ (cs : List Change). items ++ items_at event proc (records_of event a.lines cs)) (sym none))
