-- Changes of aims that are made one after another.
use Rattle.std.proofs.Common.{◌≡◌, ℕ, zero, suc, ◌+◌, List, [], ◌∷◌, ◌++◌, set, Bool, true, false, Option, Some, None, is_some, refl, sym, ap, ◌∙◌, append_assoc}
use Rattle.std.proofs.lemmas.Bool.{false≢true}
use Rattle.std.proofs.lemmas.List.{set-get_or}
use Rattle.sa_lemmas.proofs.Options.{not_some-is}
use Rattle.sa_base.specs.declared.number.ProcNo.{ProcNo}
use Rattle.sa_base.specs.declared.number.SpaceNo.{SpaceNo}
use Rattle.sa_base.specs.declared.record.Record.{Record}
use Rattle.sa_base.specs.declared.record.Record.TheVariants.{Aim, Line}
use Rattle.sa_base.specs.declared.record.Item.{Item}
use Rattle.sa_base.proofs.Items.{items_at-append}
use Rattle.sa_assign.specs.AssignView.{AssignView}
use Rattle.sa_assign.specs.Aims.{Change, space_no, aims_with, aims_after, changes_for, change_to, choice, changes_from, missing}
use Rattle.sa_assign.specs.Reaim.{raised, lines_with, lines_after, line_at, line_records, proc_no, records_of, carried_out}
use Rattle.sa_base.specs.Items.{items_at}

pub aims_after-append : (aims : List (Option SpaceNo)) (xs ys : List Change) → aims_after aims (xs ++ ys) ≡ aims_after (aims_after aims xs) ys
aims_after-append aims [] ys = refl
aims_after-append aims (x ∷ xs) ys = aims_after-append (aims_with aims x) xs ys

pub lines_after-append : (event : ℕ) (lines : List (Option ℕ)) (xs ys : List Change)
    → lines_after event lines (xs ++ ys) ≡ lines_after event (lines_after event lines xs) ys
lines_after-append event lines [] ys = refl
lines_after-append event lines (x ∷ xs) ys = lines_after-append event (lines_with event lines x) xs ys

pub records_of-append : (event : ℕ) (lines : List (Option ℕ)) (xs ys : List Change)
    → records_of event lines (xs ++ ys) ≡ records_of event lines xs ++ records_of event (lines_after event lines xs) ys
records_of-append event lines [] ys = refl
records_of-append event lines (x ∷ xs) ys =
    let own = line_records x.proc (line_at lines x.proc) in
    let aim = Aim (proc_no x.proc) (Some (space_no x.space)) in
    let after = lines_with event lines x in
    let mine = records_of event after xs in
    let others = records_of event (lines_after event after xs) ys in
    ap (λ (v : List Record). aim ∷ (own ++ v)) (records_of-append event after xs ys)
    ∙ ap (λ (v : List Record). aim ∷ v) (sym (append_assoc own mine others))

-- changes are carried out one after another
pub carried_out-append : (event : ℕ) (proc : ProcNo) (xs ys : List Change) (x : AssignView × List Item)
    → carried_out event proc (xs ++ ys) x ≡ carried_out event proc ys (carried_out event proc xs x)
carried_out-append event proc xs ys x =
    let lines = x.0.lines in
    let aims_path = aims_after-append x.0.aims xs ys in
    let lines_path = lines_after-append event lines xs ys in
    let mine = records_of event lines xs in
    let others = records_of event (lines_after event lines xs) ys in
    let items_path = ap (λ (v : List Record). x.1 ++ items_at event proc v) (records_of-append event lines xs ys)
    ∙ ap (λ (v : List Item). x.1 ++ v) (items_at-append event proc mine others)
    ∙ sym (append_assoc x.1 (items_at event proc mine) (items_at event proc others)) in
    λ i. (record x.0 { aims = aims_path i; lines = lines_path i }, items_path i)

-- one change, and then the others
pub changes_for-suc : (n : ℕ) (shares : List ℕ) (marks : List Bool) (s : ℕ) (aims : List (Option SpaceNo))
    → changes_for (suc n) shares marks s aims
    ≡ changes_for 1 shares marks s aims ++ changes_for n shares marks s (aims_after aims (changes_for 1 shares marks s aims))
changes_for-suc n shares marks s aims = go n (choice shares marks aims) refl where
  go : (n : ℕ) (p : Option ℕ) → choice shares marks aims ≡ p
      → change_to s aims p (changes_for n shares marks s)
      ≡ change_to s aims p (λ _. []) ++ changes_for n shares marks s (aims_after aims (change_to s aims p (λ _. [])))
  go zero None is = refl
  go (suc n) None is = sym (ap (λ q. change_to s aims q (changes_for n shares marks s)) is)
  go n (Some p) is = refl

-- what is done for a space that misses n, an assignment and the items being these
abbrev pub filled : ℕ → ProcNo → ℕ → List ℕ → ℕ → AssignView × List Item → AssignView × List Item
filled event proc n shares s x = carried_out event proc (changes_for n shares x.0.marks s x.0.aims) x

pub filled-suc : (event : ℕ) (proc : ProcNo) (n : ℕ) (shares : List ℕ) (s : ℕ) (x : AssignView × List Item)
    → filled event proc (suc n) shares s x ≡ filled event proc n shares s (filled event proc 1 shares s x)
filled-suc event proc n shares s x =
    let own = changes_for 1 shares x.0.marks s x.0.aims in
    ap (λ (cs : List Change). carried_out event proc cs x) (changes_for-suc n shares x.0.marks s x.0.aims)
    ∙ carried_out-append event proc own (changes_for n shares x.0.marks s (aims_after x.0.aims own)) x

-- what is done for n spaces from s on
abbrev pub filled_from : ℕ → ProcNo → ℕ → ℕ → List ℕ → AssignView × List Item → AssignView × List Item
filled_from event proc s n shares x = carried_out event proc (changes_from s n shares x.0.marks x.0.aims) x

pub filled_from-suc : (event : ℕ) (proc : ProcNo) (s n : ℕ) (shares : List ℕ) (x : AssignView × List Item)
    → filled_from event proc s (suc n) shares x ≡ filled_from event proc (s + 1) n shares (filled event proc (missing shares x.0.aims s) shares s x)
filled_from-suc event proc s n shares x =
    let own = changes_for (missing shares x.0.aims s) shares x.0.marks s x.0.aims in
    carried_out-append event proc own (changes_from (s + 1) n shares x.0.marks (aims_after x.0.aims own)) x

-- the record of an aim, and that of a raised line
abbrev pub aim_item : ℕ → ProcNo → ℕ → SpaceNo → Item
aim_item event proc p s = record { event = event; proc = proc; what = Aim (proc_no p) (Some s) }

abbrev pub line_item : ℕ → ProcNo → ℕ → Item
line_item event proc p = record { event = event; proc = proc; what = Line (proc_no p) }

-- one more aim, of a processor whose line this is
abbrev one_aim : ℕ → ProcNo → SpaceNo → ℕ → AssignView × List Item → Option ℕ → AssignView × List Item
one_aim event proc s p x line = (
  record x.0 { aims = set x.0.aims p (Some s); lines = set x.0.lines p (raised event line) },
  x.1 ++ items_at event proc (Aim (proc_no p) (Some s) ∷ (line_records p line ++ [])),
)

carried_out-one : (event : ℕ) (proc : ProcNo) (s : SpaceNo) (p : ℕ) (chosen : Option ℕ) (x : AssignView × List Item) → chosen ≡ Some p
    → carried_out event proc (change_to s.0 x.0.aims chosen (λ _. [])) x ≡ one_aim event proc s p x (line_at x.0.lines p)
carried_out-one event proc s p chosen x is = ap (λ q. carried_out event proc (change_to s.0 x.0.aims q (λ _. [])) x) is

-- one more aim raises a line that is low
pub one-aim-low : (event : ℕ) (proc : ProcNo) (s : SpaceNo) (p : ℕ) (chosen : Option ℕ) (old : AssignView) (items : List Item) → chosen ≡ Some p
    → is_some (line_at old.lines p) ≡ false
    → (record old { aims = set old.aims p (Some s); lines = set old.lines p (Some event) }, (items ++ aim_item event proc p s ∷ []) ++ line_item event proc p ∷ [])
    ≡ carried_out event proc (change_to s.0 old.aims chosen (λ _. [])) (old, items)
one-aim-low event proc s p chosen old items is low =
    ap (λ (xs : List Item). (record old { aims = set old.aims p (Some s); lines = set old.lines p (Some event) }, xs))
    (append_assoc items (aim_item event proc p s ∷ []) (line_item event proc p ∷ []))
    ∙ sym (carried_out-one event proc s p chosen (old, items) is ∙ ap (one_aim event proc s p (old, items)) (not_some-is (line_at old.lines p) low))

-- one more aim leaves a raised line as it is
pub one-aim-raised : (event : ℕ) (proc : ProcNo) (s : SpaceNo) (p : ℕ) (chosen : Option ℕ) (old : AssignView) (items : List Item) → chosen ≡ Some p
    → is_some (line_at old.lines p) ≡ true
    → (record old { aims = set old.aims p (Some s) }, items ++ aim_item event proc p s ∷ [])
    ≡ carried_out event proc (change_to s.0 old.aims chosen (λ _. [])) (old, items)
one-aim-raised event proc s p chosen old items is up = go (line_at old.lines p) refl up where
  go : (line : Option ℕ) → line_at old.lines p ≡ line → is_some line ≡ true
      → (record old { aims = set old.aims p (Some s) }, items ++ aim_item event proc p s ∷ [])
      ≡ carried_out event proc (change_to s.0 old.aims chosen (λ _. [])) (old, items)
  go None at raised = absurd (false≢true raised)
  go (Some earlier) at raised =
      ap (λ (ls : List (Option ℕ)). (record old { aims = set old.aims p (Some s); lines = ls }, items ++ aim_item event proc p s ∷ []))
      (sym (set-get_or old.lines p None) ∙ ap (set old.lines p) at)
      ∙ sym (carried_out-one event proc s p chosen (old, items) is ∙ ap (one_aim event proc s p (old, items)) at)
