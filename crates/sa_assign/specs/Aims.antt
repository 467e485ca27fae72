-- How aims are changed until each space has its share of them.
use Rattle.std.specs.Prelude.{ℕ, zero, suc, ◌+◌, ◌-◌, ◌==◌, nat_lt, Bool, false, ◌&&◌, if◌then◌else◌, is_none, List, [], ◌∷◌, ◌++◌, count_by, length, Option, Some, None, slice_index_or, slice_set}
use Rattle.std.specs.Option.{option_or}
use Rattle.sa_base.specs.declared.number.SpaceNo.{SpaceNo}
use Rattle.sa_share.specs.Share.{share_at}

-- the least number below n that passes a test
abbrev pub least_below : ℕ → (ℕ → Bool) → Option ℕ
least_below zero test = None
least_below (suc n) test = option_or (least_below n test) (if test n then Some n else None)

-- the greatest number below n that passes a test
abbrev pub greatest_below : ℕ → (ℕ → Bool) → Option ℕ
greatest_below zero test = None
greatest_below (suc n) test = if test n then Some n else greatest_below n test

-- the space that a processor is aimed at
abbrev pub aim_at : List (Option SpaceNo) → ℕ → Option SpaceNo
aim_at aims p = slice_index_or aims p None

-- the aim is this space
abbrev pub is_aim : ℕ → Option SpaceNo → Bool
is_aim s None = false
is_aim s (Some t) = t.0 == s

-- how many processors are aimed at a space
abbrev pub aimed : ℕ → List (Option SpaceNo) → ℕ
aimed s aims = count_by (is_aim s) aims

-- the aim is a space that more processors are aimed at than its share
abbrev pub is_surplus : List ℕ → List (Option SpaceNo) → Option SpaceNo → Bool
is_surplus shares aims None = false
is_surplus shares aims (Some t) = nat_lt (share_at shares t.0) (aimed t.0 aims)

-- the processor has no aim
abbrev pub has_no_aim : List (Option SpaceNo) → ℕ → Bool
has_no_aim aims p = is_none (aim_at aims p)

-- the processor is aimed at a space with more than its share
abbrev pub can_be_spared : List ℕ → List (Option SpaceNo) → ℕ → Bool
can_be_spared shares aims p = is_surplus shares aims (aim_at aims p)

-- the same, and the processor is marked idle
abbrev pub is_idle_and_spared : List ℕ → List Bool → List (Option SpaceNo) → ℕ → Bool
is_idle_and_spared shares marks aims p = slice_index_or marks p false && can_be_spared shares aims p

-- the processor for a space that misses one: the lowest-numbered without an aim, else the lowest-numbered
-- idle one of a space with more than its share, else the highest-numbered one of such a space
abbrev pub choice : List ℕ → List Bool → List (Option SpaceNo) → Option ℕ
choice shares marks aims =
    option_or (least_below (length aims) (has_no_aim aims))
    (option_or (least_below (length aims) (is_idle_and_spared shares marks aims))
    (greatest_below (length aims) (can_be_spared shares aims)))

-- a change of an aim: the processor is aimed at the space
pub record Change : Type 0 where
  pub proc : ℕ
  pub space : ℕ

-- a space by its number
abbrev pub space_no : ℕ → SpaceNo
space_no s = record { 0 = s }

-- the aims after a change
abbrev pub aims_with : List (Option SpaceNo) → Change → List (Option SpaceNo)
aims_with aims c = slice_set aims c.proc (Some (space_no c.space))

abbrev pub aims_after : List (Option SpaceNo) → List Change → List (Option SpaceNo)
aims_after aims [] = aims
aims_after aims (c ∷ cs) = aims_after (aims_with aims c) cs

-- the change for s by the processor that was chosen, and what follows it
abbrev pub change_to : ℕ → List (Option SpaceNo) → Option ℕ → (List (Option SpaceNo) → List Change) → List Change
change_to s aims None rest = []
change_to s aims (Some p) rest =
    let c : Change = record { proc = p; space = s } in
    c ∷ rest (aims_with aims c)

-- the changes for a space that misses that many
abbrev pub changes_for : ℕ → List ℕ → List Bool → ℕ → List (Option SpaceNo) → List Change
changes_for zero shares marks s aims = []
changes_for (suc more) shares marks s aims =
    change_to s aims (choice shares marks aims) (changes_for more shares marks s)

-- how many aims a space misses
abbrev pub missing : List ℕ → List (Option SpaceNo) → ℕ → ℕ
missing shares aims s = share_at shares s - aimed s aims

-- the changes for n spaces from s on, in the order of their numbers
abbrev pub changes_from : ℕ → ℕ → List ℕ → List Bool → List (Option SpaceNo) → List Change
changes_from s zero shares marks aims = []
changes_from s (suc spaces) shares marks aims =
    let own = changes_for (missing shares aims s) shares marks s aims in
    own ++ changes_from (s + 1) spaces shares marks (aims_after aims own)

-- the changes for all spaces
abbrev pub changes : ℕ → List ℕ → List Bool → List (Option SpaceNo) → List Change
changes spaces shares marks aims = changes_from 0 spaces shares marks aims
