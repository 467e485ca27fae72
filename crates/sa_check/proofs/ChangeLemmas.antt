-- Changes of aims that are made one after another.
use Rattle.std.proofs.Common.{◌≡◌, ℕ, suc, ◌+◌, ◌-◌, ◌<◌, List, [], ◌∷◌, ◌++◌, Bool, Option, Some, sym, ap, ◌∙◌, append_assoc, arith}
use Rattle.std.specs.Option.{option_to_list}
use Rattle.sa_base.specs.declared.number.SpaceNo.{SpaceNo}
use Rattle.sa_base.specs.declared.record.Record.{Record}
use Rattle.sa_assign.specs.Aims.{Change, aims_after, changes_for, change_to, choice, changes_from, missing}
use Rattle.sa_assign.proofs.ReaimLemmas.{aims_after-append}
use Rattle.sa_check.specs.Reaimed.{carried}

abbrev Made : Type 0
Made = List (Option SpaceNo) × List Change

pub carried-append : (xs ys : List Change) (x : Made) → carried (xs ++ ys) x ≡ carried ys (carried xs x)
carried-append xs ys x =
    let aims = aims_after-append x.0 xs ys in
    let cs = sym (append_assoc x.1 xs ys) in
    λ i. (aims i, cs i)

-- an aim is told, and the line after it, if there is one
pub and-line : (before first second told rest : List Record) (aim : Record) (line : Option Record) → first ≡ before ++ aim ∷ []
    → second ≡ first ++ option_to_list line → option_to_list line ≡ told → second ++ rest ≡ before ++ aim ∷ (told ++ rest)
and-line before first second told rest aim line is_first is_second is_told =
    ap (λ (xs : List Record). xs ++ rest) (is_second ∙ ap (λ (xs : List Record). xs ++ option_to_list line) is_first
    ∙ ap (λ (xs : List Record). (before ++ aim ∷ []) ++ xs) is_told)
    ∙ append_assoc (before ++ aim ∷ []) told rest ∙ append_assoc before (aim ∷ []) (told ++ rest)

-- one change for a space, where a processor was chosen
pub filled-some : (missing i : ℕ) (shares : List ℕ) (marks : List Bool) (s p : ℕ) (x y : Made) → i < missing → choice shares marks x.0 ≡ Some p
    → y ≡ carried (record { proc = p; space = s } ∷ []) x
    → carried (changes_for (missing - (i + 1)) shares marks s y.0) y ≡ carried (changes_for (missing - i) shares marks s x.0) x
filled-some missing i shares marks s p x y within chosen is =
    let c : Change = record { proc = p; space = s } in
    let left = missing - (i + 1) in
    let one_less : suc left ≡ missing - i = omega arith in
    let after = carried (c ∷ []) x in
    ap (λ (z : Made). carried (changes_for left shares marks s z.0) z) is
    ∙ sym (carried-append (c ∷ []) (changes_for left shares marks s after.0) x)
    ∙ sym (ap (λ q. carried (change_to s x.0 q (changes_for left shares marks s)) x) chosen)
    ∙ ap (λ k. carried (changes_for k shares marks s x.0) x) one_less

-- one space more was served
pub served : (spaces s : ℕ) (shares : List ℕ) (marks : List Bool) (x y : Made) → s < spaces
    → y ≡ carried (changes_for (missing shares x.0 s) shares marks s x.0) x
    → carried (changes_from (s + 1) (spaces - (s + 1)) shares marks y.0) y ≡ carried (changes_from s (spaces - s) shares marks x.0) x
served spaces s shares marks x y within is =
    let own = changes_for (missing shares x.0 s) shares marks s x.0 in
    let left = spaces - (s + 1) in
    let one_less : suc left ≡ spaces - s = omega arith in
    ap (λ (z : Made). carried (changes_from (s + 1) left shares marks z.0) z) is
    ∙ sym (carried-append own (changes_from (s + 1) left shares marks (aims_after x.0 own)) x)
    ∙ ap (λ k. carried (changes_from s k shares marks x.0) x) one_less
