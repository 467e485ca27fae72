-- A processor is found as long as a space misses one, and every space that has its share keeps it.
use Rattle.std.proofs.Common.{◌≡◌, ◌≢◌, ℕ, zero, suc, ◌+◌, ◌-◌, ◌<◌, ◌≤◌, Bool, true, false, cond, eqb, List, [], ◌∷◌, ◌++◌, length, set, Option, Some, None, refl, sym, ap, subst, ◌∙◌, arith, ◌⊎◌, inl, inr, sum, count_by, MatchOption}
use Rattle.std.proofs.lemmas.List.{length-set, get_or-set_same, get_or-set_other, get_or_past}
use Rattle.std.proofs.lemmas.List.Sums.{sum_by-cons, sum_by-set, sum_by-append}
use Rattle.std.proofs.lemmas.Bool.{cases_eq, cases_lt, cases_Bool, eqb-true, eq-eqb, ne_eqb, ltb-true, ltb-false, cond-true, cond-false}
use Rattle.sa_lemmas.proofs.Options.{none-is}
use Rattle.sa_base.specs.declared.number.SpaceNo.{SpaceNo}
use Rattle.sa_share.specs.Share.{share_at}
use Rattle.sa_assign.specs.Aims.{Change, space_no, is_aim, aim_at, aimed, has_no_aim, is_surplus, can_be_spared, choice, aims_with, aims_after, missing, change_to, changes_for, changes_from}
use Rattle.sa_assign.specs.AssignView.{AssignView}
use Rattle.sa_assign.specs.Reaim.{reaimed}
use Rattle.sa_assign.specs.Laws.{AreDue, AreInOrder, is_for}
use Rattle.sa_assign.proofs.ChoiceLemmas.{choice-passes, choice-none}
use Rattle.sa_assign.proofs.ReaimLemmas.{aims_after-append}

-- one for an aim that is this space
abbrev one_if : ℕ → Option SpaceNo → ℕ
one_if s o = cond (is_aim s o) 1 0

aimed-cons : (s : ℕ) (o : Option SpaceNo) (os : List (Option SpaceNo)) → aimed s (o ∷ os) ≡ one_if s o + aimed s os
aimed-cons s o os = sum_by-cons (one_if s) o os

aimed-set : (s : ℕ) (aims : List (Option SpaceNo)) (p : ℕ) (o : Option SpaceNo) → p < length aims
    → aimed s (set aims p o) + one_if s (aim_at aims p) ≡ aimed s aims + one_if s o
aimed-set s aims p o within = sum_by-set (one_if s) aims p o None within

one_if-same : (s : ℕ) → one_if s (Some (space_no s)) ≡ 1
one_if-same s = cond-true (eqb s s) 1 0 (eq-eqb s s refl)

one_if-other : (s t : ℕ) → t ≢ s → one_if s (Some (space_no t)) ≡ 0
one_if-other s t apart = cond-false (eqb t s) 1 0 (ne_eqb t s apart)

pub is_aim-true : (s : ℕ) (o : Option SpaceNo) → is_aim s o ≡ true → o ≡ Some (space_no s)
is_aim-true s None e = cc
is_aim-true s (Some t) e = ap (λ (n : ℕ). Some (space_no n)) (eqb-true t.0 s e)

-- a space that is aimed at has a processor
aimed-some : (s : ℕ) (aims : List (Option SpaceNo)) → 0 < aimed s aims → (p : ℕ) × (p < length aims) × (aim_at aims p ≡ Some (space_no s))
aimed-some s [] some = absurd (omega arith)
aimed-some s (o ∷ os) some = elim (cases_Bool (is_aim s o)) [
  | inl e ↦ (0, omega arith, is_aim-true s o e)
  | inr e ↦
      let none : one_if s o ≡ 0 = cond-false (is_aim s o) 1 0 e in
      let more = aimed-cons s o os in
      let later = aimed-some s os (omega arith) in
      let below = later.1 in
      (suc later.0, omega arith, later.2)
]

-- where each is aimed, and no space has more than its share, there are no more processors than the shares say
all-aimed : (aims : List (Option SpaceNo)) (shares : List ℕ) → ((p : ℕ) → p < length aims → has_no_aim aims p ≡ false)
    → ((s : ℕ) → aimed s aims ≤ share_at shares s) → length aims ≤ sum shares
all-aimed [] shares each few = omega arith
all-aimed (None ∷ os) shares each few = absurd (grind (arith, each 0 (omega arith)))
all-aimed (Some t ∷ os) shares each few =
    let own = few t.0 in
    let own_is = aimed-cons t.0 (Some t) os in
    let own_one = one_if-same t.0 in
    let some : 0 < share_at shares t.0 = omega arith in
    let inside : t.0 < length shares = elim (cases_lt t.0 (length shares)) [
      | inl below ↦ below
      | inr past ↦ let none = get_or_past shares t.0 0 past in absurd (omega arith)
    ] in
    let less = set shares t.0 (share_at shares t.0 - 1) in
    let total = sum_by-set (λ (n : ℕ). n) shares t.0 (share_at shares t.0 - 1) 0 inside in
    let others : (s : ℕ) → aimed s os ≤ share_at less s = λ s. elim (cases_eq s t.0) [
      | inl same ↦
          let here = get_or-set_same shares t.0 (share_at shares t.0 - 1) 0 inside in
          let bound : aimed t.0 os ≤ share_at less t.0 = omega arith in
          subst (λ (n : ℕ). aimed n os ≤ share_at less n) (sym same) bound
      | inr apart ↦
          let there = get_or-set_other shares t.0 s (share_at shares t.0 - 1) 0 apart in
          let whole = few s in
          let whole_is = aimed-cons s (Some t) os in
          omega arith
    ] in
    let rest = all-aimed os less (λ p below. each (suc p) (omega arith)) others in
    omega arith

-- a space that misses one gets a processor
choice-some : (shares : List ℕ) (marks : List Bool) (aims : List (Option SpaceNo)) (s : ℕ) → sum shares ≤ length aims → aimed s aims < share_at shares s
    → choice shares marks aims ≡ None → ⊥
choice-some shares marks aims s fits short none =
    let each : (p : ℕ) → p < length aims → (has_no_aim aims p ≡ false) × (can_be_spared shares aims p ≡ false) = choice-none shares marks aims none in
    let few : (t : ℕ) → aimed t aims ≤ share_at shares t = λ t. elim (cases_lt 0 (aimed t aims)) [
      | inr nobody ↦ omega arith
      | inl some ↦
          let found = aimed-some t aims some in
          ltb-false (share_at shares t) (aimed t aims) (sym (ap (λ o. is_surplus shares aims o) found.2) ∙ (each found.0 found.1).1)
    ] in
    let inside : s < length shares = elim (cases_lt s (length shares)) [
      | inl below ↦ below
      | inr past ↦ let nothing = get_or_past shares s 0 past in absurd (omega arith)
    ] in
    let less = set shares s (share_at shares s - 1) in
    let total = sum_by-set (λ (n : ℕ). n) shares s (share_at shares s - 1) 0 inside in
    let others : (t : ℕ) → aimed t aims ≤ share_at less t = λ t. elim (cases_eq t s) [
      | inl same ↦
          let here = get_or-set_same shares s (share_at shares s - 1) 0 inside in
          let bound : aimed s aims ≤ share_at less s = omega arith in
          subst (λ (n : ℕ). aimed n aims ≤ share_at less n) (sym same) bound
      | inr apart ↦
          let there = get_or-set_other shares s t (share_at shares s - 1) 0 apart in
          let whole = few t in
          omega arith
    ] in
    let all = all-aimed aims less (λ p below. (each p below).0) others in
    omega arith

-- what a space has of its aims while others are served: up to its share all, and above it at least its share
pub record Keeps (share before after : ℕ) : Type 0 where
  pub up_to_share : before ≤ share → after ≡ before
  pub above : share ≤ before → share ≤ after

Keeps-same : (share before after : ℕ) → after ≡ before → Keeps share before after
Keeps-same share before after same = record { up_to_share = λ _. same; above = λ le. omega arith }

Keeps-trans : (share before between after : ℕ) → Keeps share before between → Keeps share between after → Keeps share before after
Keeps-trans share before between after first second = record {
  up_to_share = λ le. let e = first.up_to_share le in let f = second.up_to_share (omega arith) in f ∙ e;
  above = λ le. second.above (first.above le);
}

-- a processor that is chosen has no aim, or one of a space with more than its share
abbrev IsSpared : List ℕ → List (Option SpaceNo) → Option SpaceNo → Type 0
IsSpared shares aims o = MatchOption o (Unit {0}) (λ t. share_at shares t.0 < aimed t.0 aims)

surplus-spared : (shares : List ℕ) (aims : List (Option SpaceNo)) (o : Option SpaceNo) → is_surplus shares aims o ≡ true → IsSpared shares aims o
surplus-spared shares aims None e = tt
surplus-spared shares aims (Some t) e = ltb-true (share_at shares t.0) (aimed t.0 aims) e

choice-spared : (shares : List ℕ) (marks : List Bool) (aims : List (Option SpaceNo)) (p : ℕ) → choice shares marks aims ≡ Some p
    → (p < length aims) × IsSpared shares aims (aim_at aims p)
choice-spared shares marks aims p chosen = elim (choice-passes shares marks aims p chosen) [
  | inl free ↦ (free.within, subst (IsSpared shares aims) (sym (none-is (aim_at aims p) free.passes)) tt)
  | inr spared ↦ (spared.within, surplus-spared shares aims (aim_at aims p) spared.passes)
]

-- what one more aim for s does to all spaces
record Served (shares : List ℕ) (s : ℕ) (aims after : List (Option SpaceNo)) : Type 0 where
  own : aimed s after ≡ aimed s aims + 1
  others : (t : ℕ) → t ≢ s → Keeps (share_at shares t) (aimed t aims) (aimed t after)

served : (shares : List ℕ) (s : ℕ) (aims : List (Option SpaceNo)) (p : ℕ) → aimed s aims < share_at shares s → p < length aims → (old : Option SpaceNo)
    → aim_at aims p ≡ old → IsSpared shares aims old → Served shares s aims (aims_with aims (record { proc = p; space = s }))
served shares s aims p short within None at spared =
    let after = set aims p (Some (space_no s)) in
    record {
      own =
          (let change = aimed-set s aims p (Some (space_no s)) within in
          let mine = one_if-same s in
          let gone : one_if s (aim_at aims p) ≡ 0 = ap (one_if s) at in omega arith);
      others = λ t apart.
          let change = aimed-set t aims p (Some (space_no s)) within in
          let other = one_if-other t s (λ e. apart (sym e)) in
          let gone : one_if t (aim_at aims p) ≡ 0 = ap (one_if t) at in
          Keeps-same (share_at shares t) (aimed t aims) (aimed t after) (omega arith);
    }
served shares s aims p short within (Some u) at spared =
    let after = set aims p (Some (space_no s)) in
    let not_own : u.0 ≢ s = λ e. (let more : share_at shares s < aimed s aims = subst (λ (n : ℕ). share_at shares n < aimed n aims) e spared in omega arith) in
    record {
      own =
          (let change = aimed-set s aims p (Some (space_no s)) within in
          let mine = one_if-same s in
          let gone : one_if s (aim_at aims p) ≡ 0 = ap (one_if s) at ∙ one_if-other s u.0 not_own in omega arith);
      others = λ t apart.
          let change = aimed-set t aims p (Some (space_no s)) within in
          let other = one_if-other t s (λ e. apart (sym e)) in
          elim (cases_eq u.0 t) [
            | inl same ↦
                let gone : one_if t (aim_at aims p) ≡ 1 = ap (one_if t) at ∙ ap (λ (n : ℕ). one_if t (Some (space_no n))) same ∙ one_if-same t in
                let more : share_at shares t < aimed t aims = subst (λ (n : ℕ). share_at shares n < aimed n aims) same spared in
                record { up_to_share = λ le. absurd (omega arith); above = λ le. omega arith }
            | inr differs ↦
                let gone : one_if t (aim_at aims p) ≡ 0 = ap (one_if t) at ∙ one_if-other t u.0 differs in
                Keeps-same (share_at shares t) (aimed t aims) (aimed t after) (omega arith)
          ];
    }

-- what n changes for s do
record Filled (shares : List ℕ) (marks : List Bool) (s n : ℕ) (aims : List (Option SpaceNo)) (cs : List Change) : Type 0 where
  due : AreDue shares marks aims cs
  own : aimed s (aims_after aims cs) ≡ aimed s aims + n
  others : (t : ℕ) → t ≢ s → Keeps (share_at shares t) (aimed t aims) (aimed t (aims_after aims cs))
  size : length (aims_after aims cs) ≡ length aims
  count : count_by (is_for s) cs ≡ n

is_for-same : (s p : ℕ) → cond {A = ℕ} (is_for s (record { proc = p; space = s })) 1 0 ≡ 1
is_for-same s p = cond-true (eqb s s) 1 0 (eq-eqb s s refl)

filled-more : (shares : List ℕ) (marks : List Bool) (s n : ℕ) (aims : List (Option SpaceNo)) (p : Option ℕ) → choice shares marks aims ≡ p
    → sum shares ≤ length aims → aimed s aims < share_at shares s
    → ((after : List (Option SpaceNo)) → length after ≡ length aims → aimed s after ≡ aimed s aims + 1
    → Filled shares marks s n after (changes_for n shares marks s after))
    → Filled shares marks s (suc n) aims (change_to s aims p (changes_for n shares marks s))
filled-more shares marks s n aims None chosen fits short again = absurd (choice-some shares marks aims s fits short chosen)
filled-more shares marks s n aims (Some p) chosen fits short again =
    let c : Change = record { proc = p; space = s } in
    let after = aims_with aims c in
    let spared = choice-spared shares marks aims p chosen in
    let one = served shares s aims p short spared.0 (aim_at aims p) refl spared.1 in
    let own = one.own in
    let size : length after ≡ length aims = length-set aims p (Some (space_no s)) in
    let rest = again after size own in
    let rest_own = rest.own in
    let rest_count = rest.count in
    let cs = changes_for n shares marks s after in
    let counted = sum_by-cons (λ (x : Change). cond {A = ℕ} (is_for s x) 1 0) c cs in
    let mine = is_for-same s p in
    record {
      due = (record { short = short; chosen = chosen; within = spared.0; spared = spared.1 }, rest.due);
      own = omega arith;
      others =
          λ t apart. Keeps-trans (share_at shares t) (aimed t aims) (aimed t after) (aimed t (aims_after after cs)) (one.others t apart) (rest.others t apart);
      size = rest.size ∙ size;
      count = omega arith;
    }

filled : (shares : List ℕ) (marks : List Bool) (s n : ℕ) (aims : List (Option SpaceNo)) → sum shares ≤ length aims
    → (0 < n → aimed s aims + n ≤ share_at shares s) → Filled shares marks s n aims (changes_for n shares marks s aims)
filled shares marks s zero aims fits short = record {
  due = tt;
  own = omega arith;
  others = λ t apart. Keeps-same (share_at shares t) (aimed t aims) (aimed t aims) refl;
  size = refl;
  count = refl;
}
filled shares marks s (suc n) aims fits short =
    let enough = short (omega arith) in
    filled-more shares marks s n aims (choice shares marks aims) refl fits (omega arith)
    (λ after size own. filled shares marks s n after (omega arith) (λ some. omega arith))

-- changes that are all for s
abbrev AreFor : ℕ → List Change → Type 0
AreFor s [] = Unit {0}
AreFor s (c ∷ cs) = (c.space ≡ s) × AreFor s cs

AreFor-change_to : (s : ℕ) (aims : List (Option SpaceNo)) (p : Option ℕ) (rest : List (Option SpaceNo) → List Change)
    → ((after : List (Option SpaceNo)) → AreFor s (rest after)) → AreFor s (change_to s aims p rest)
AreFor-change_to s aims None rest all = tt
AreFor-change_to s aims (Some p) rest all = (refl, all (aims_with aims (record { proc = p; space = s })))

AreFor-changes_for : (n : ℕ) (shares : List ℕ) (marks : List Bool) (s : ℕ) (aims : List (Option SpaceNo)) → AreFor s (changes_for n shares marks s aims)
AreFor-changes_for zero shares marks s aims = tt
AreFor-changes_for (suc n) shares marks s aims =
    AreFor-change_to s aims (choice shares marks aims) (changes_for n shares marks s) (AreFor-changes_for n shares marks s)

count_by-AreFor : (s t : ℕ) (cs : List Change) → AreFor s cs → t ≢ s → count_by (is_for t) cs ≡ 0
count_by-AreFor s t [] all apart = refl
count_by-AreFor s t (c ∷ cs) all apart =
    let counted = sum_by-cons (λ (x : Change). cond {A = ℕ} (is_for t x) 1 0) c cs in
    let other : cond {A = ℕ} (is_for t c) 1 0 ≡ 0 = cond-false (eqb c.space t) 1 0 (ne_eqb c.space t (λ e. apart (sym e ∙ all.0))) in
    let rest = count_by-AreFor s t cs all.1 apart in
    omega arith

AreInOrder-below : (s t : ℕ) (cs : List Change) → s ≤ t → AreInOrder t cs → AreInOrder s cs
AreInOrder-below s t [] le order = tt
AreInOrder-below s t (c ∷ cs) le order = (omega (arith, order.0), order.1)

AreInOrder-append : (s : ℕ) (xs ys : List Change) → AreFor s xs → AreInOrder (s + 1) ys → AreInOrder s (xs ++ ys)
AreInOrder-append s [] ys all order = AreInOrder-below s (s + 1) ys (omega arith) order
AreInOrder-append s (c ∷ xs) ys all order =
    (omega (arith, all.0), subst (λ (n : ℕ). AreInOrder n (xs ++ ys)) (sym all.0) (AreInOrder-append s xs ys all.1 order))

pub AreInOrder-changes_from : (s n : ℕ) (shares : List ℕ) (marks : List Bool) (aims : List (Option SpaceNo)) → AreInOrder s (changes_from s n shares marks aims)
AreInOrder-changes_from s zero shares marks aims = tt
AreInOrder-changes_from s (suc n) shares marks aims =
    let own = changes_for (missing shares aims s) shares marks s aims in
    AreInOrder-append s own (changes_from (s + 1) n shares marks (aims_after aims own)) (AreFor-changes_for (missing shares aims s) shares marks s aims)
    (AreInOrder-changes_from (s + 1) n shares marks (aims_after aims own))

AreDue-append : (shares : List ℕ) (marks : List Bool) (aims : List (Option SpaceNo)) (xs ys : List Change) → AreDue shares marks aims xs
    → AreDue shares marks (aims_after aims xs) ys → AreDue shares marks aims (xs ++ ys)
AreDue-append shares marks aims [] ys mine others = others
AreDue-append shares marks aims (x ∷ xs) ys mine others = (mine.0, AreDue-append shares marks (aims_with aims x) xs ys mine.1 others)

-- a space that is not among the n spaces from s on
abbrev IsApart : ℕ → ℕ → ℕ → Type 0
IsApart s n t = (t < s) ⊎ (s + n ≤ t)

-- what the changes for the n spaces from s on do
pub record AllFilled (shares : List ℕ) (marks : List Bool) (s n : ℕ) (aims after : List (Option SpaceNo)) (cs : List Change) : Type 0 where
  pub due : AreDue shares marks aims cs
  pub met : (t : ℕ) → s ≤ t → t < s + n → share_at shares t ≤ aimed t after
  pub others : (t : ℕ) → IsApart s n t → Keeps (share_at shares t) (aimed t aims) (aimed t after)
  pub count : (t : ℕ) → s ≤ t → t < s + n → count_by (is_for t) cs ≡ missing shares aims t
  pub none : (t : ℕ) → IsApart s n t → count_by (is_for t) cs ≡ 0

pub all-filled : (s n : ℕ) (shares : List ℕ) (marks : List Bool) (aims : List (Option SpaceNo)) → sum shares ≤ length aims
    → AllFilled shares marks s n aims (aims_after aims (changes_from s n shares marks aims)) (changes_from s n shares marks aims)
all-filled s zero shares marks aims fits = record {
  due = tt;
  met = λ t le less. absurd (omega arith);
  others = λ t apart. Keeps-same (share_at shares t) (aimed t aims) (aimed t aims) refl;
  count = λ t le less. absurd (omega arith);
  none = λ t apart. refl;
}
all-filled s (suc n) shares marks aims fits =
    let m = missing shares aims s in
    let own = changes_for m shares marks s aims in
    let between = aims_after aims own in
    let mine = filled shares marks s m aims fits (λ some. omega arith) in
    let mine_own = mine.own in
    let mine_count = mine.count in
    let size = mine.size in
    let rest = changes_from (s + 1) n shares marks between in
    let theirs = all-filled (s + 1) n shares marks between (omega arith) in
    let after = aims_after between rest in
    let all_own = AreFor-changes_for m shares marks s aims in
    let counts : (t : ℕ) → count_by (is_for t) (own ++ rest) ≡ count_by (is_for t) own + count_by (is_for t) rest =
    λ t. sum_by-append (λ (x : Change). cond {A = ℕ} (is_for t x) 1 0) own rest in
    let done : AllFilled shares marks s (suc n) aims after (own ++ rest) = record {
      due = AreDue-append shares marks aims own rest mine.due theirs.due;
      met = λ t le less. elim (cases_eq t s) [
        | inl same ↦ subst (λ (k : ℕ). share_at shares k ≤ aimed k after) (sym same) ((theirs.others s (inl (omega arith))).above (omega arith))
        | inr apart ↦ theirs.met t (omega arith) (omega arith)
      ];
      others = λ t apart. Keeps-trans (share_at shares t) (aimed t aims) (aimed t between) (aimed t after)
          (mine.others t (λ e. apart-itself apart e)) (theirs.others t (apart-more apart));
      count = λ t le less. elim (cases_eq t s) [
        | inl same ↦ subst (λ (k : ℕ). count_by (is_for k) (own ++ rest) ≡ missing shares aims k) (sym same)
            (let a = counts s in let b = theirs.none s (inl (omega arith)) in omega arith)
        | inr differs ↦
            let a = counts t in
            let b = count_by-AreFor s t own all_own differs in
            let c = theirs.count t (omega arith) (omega arith) in
            let keeps = mine.others t differs in
            elim (cases_lt (share_at shares t) (aimed t aims)) [
              | inl more ↦ let k = keeps.above (omega arith) in omega arith
              | inr fewer ↦ let k = keeps.up_to_share fewer in omega arith
            ]
      ];
      none = λ t apart.
          let a = counts t in
          let b = count_by-AreFor s t own all_own (λ e. apart-itself apart e) in
          let c = theirs.none t (apart-more apart) in omega arith;
    } in
    subst (λ (v : List (Option SpaceNo)). AllFilled shares marks s (suc n) aims v (own ++ rest)) (sym (aims_after-append aims own rest)) done
  where
    apart-itself : {t : ℕ} → IsApart s (suc n) t → t ≡ s → ⊥
    apart-itself (inl below) e = omega arith
    apart-itself (inr above) e = omega arith

    apart-more : {t : ℕ} → IsApart s (suc n) t → IsApart (s + 1) n t
    apart-more (inl below) = inl (omega arith)
    apart-more (inr above) = inr (omega arith)

-- a space keeps what it has up to its share
pub aimed-kept : (n s : ℕ) (shares : List ℕ) (marks : List Bool) (aims : List (Option SpaceNo)) → sum shares ≤ length aims → aimed s aims ≤ share_at shares s
    → aimed s aims ≤ aimed s (aims_after aims (changes_from 0 n shares marks aims))
aimed-kept n s shares marks aims fits le =
    let all = all-filled 0 n shares marks aims fits in
    elim (cases_lt s n) [
      | inl below ↦ let met = all.met s (omega arith) (omega arith) in omega arith
      | inr past ↦ let same = (all.others s (inr (omega arith))).up_to_share le in omega arith
    ]

-- an assignment whose aims were changed so gives each space its share
pub met-reaimed : (event spaces : ℕ) (shares : List ℕ) (old new : AssignView) → sum shares ≤ length old.aims → new ≡ reaimed event spaces shares old
    → (s : ℕ) → s < spaces → share_at shares s ≤ aimed s new.aims
met-reaimed event spaces shares old new fits is s below =
    let met : share_at shares s ≤ aimed s (reaimed event spaces shares old).aims =
    (all-filled 0 spaces shares old.marks old.aims fits).met s (omega arith) (omega arith) in
    subst (λ (a : AssignView). share_at shares s ≤ aimed s a.aims) (sym is) met

-- where each space has its share there is nothing to change
pub none-missing : (s n : ℕ) (shares : List ℕ) (marks : List Bool) (aims : List (Option SpaceNo)) → ((t : ℕ) → share_at shares t ≤ aimed t aims)
    → changes_from s n shares marks aims ≡ []
none-missing s zero shares marks aims covered = refl
none-missing s (suc n) shares marks aims covered =
    let none : missing shares aims s ≡ 0 = (let enough = covered s in omega arith) in
    ap (λ m. changes_for m shares marks s aims ++ changes_from (s + 1) n shares marks (aims_after aims (changes_for m shares marks s aims))) none
    ∙ none-missing (s + 1) n shares marks aims covered
