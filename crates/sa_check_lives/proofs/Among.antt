-- Each life that passes a test stays among the numbers beside the table.
use Rattle.std.proofs.Common.{◌≡◌, ℕ, refl, sym, ◌∙◌, ap, subst, inl, inr, true, false, Bool, List, Option, Some, None, ◌⊎◌, length, ◌==◌, append-nil, arith}
use Rattle.std.specs.Prelude.{Contains, [], ◌∷◌, ◌++◌, map, drop, Result, Ok, Err, OnOk, OnErr}
use Rattle.std.specs.Option.{option_map}
use Rattle.std.proofs.lemmas.Bool.{cases_eq}
use Rattle.std.proofs.lemmas.Bool.Decides.{nat_tests}
use Rattle.std.proofs.lemmas.Option.{same_Some, none-some}
use Rattle.sa_lemmas.specs.Function.{put}
use Rattle.sa_lemmas.proofs.FunctionUpdates.{put-at, put-other, put-same, put-self}
use Rattle.sa_base.specs.declared.number.ActNo.{ActNo}
use Rattle.sa_base.specs.declared.number.ThreadNo.{ThreadNo}
use Rattle.sa_lemmas.proofs.Options.{option_map_some}
use Rattle.sa_laws.specs.Life.{Life, Lock, some_lock, has_lock, change_first, readied, ran, with_hand, inherits, inherited, bereft}
use Rattle.sa_laws.specs.Record.{with_life, handed}
use Rattle.sa_check_lives.specs.declared.life.Lost.{Lost}
use Rattle.sa_check_lives.specs.declared.change.Change.{Change}
use Rattle.sa_check_lives.specs.declared.change.Change.TheVariants.{Ready, Run, Take, Free, Step, Arise}
use Rattle.sa_check_lives.specs.Change.{changed_by, adds_lock, enters}
use Rattle.sa_check_lives.specs.Table.{AreAmong, KeepsAll, KeepsOthers, KeepsUpped, KeepsUnless, IsThere, IsAddedTo, IsLost, is_inside}

-- where the numbers grow
pub among-more : (test : Life → Bool) (lives : ℕ → Option Life) (numbers more : List ℕ) → AreAmong test lives numbers → KeepsAll numbers more
    → AreAmong test lives more
among-more test lives numbers more old keeps = record { each = λ a life is passes. keeps.each a (old.each a life is passes) }

-- where one life changes, begins or ends
pub among-put : (test : Life → Bool) (lives : ℕ → Option Life) (numbers more : List ℕ) (a : ℕ) (w : Option Life)
    → AreAmong test lives numbers → KeepsOthers a numbers more → ((life : Life) → w ≡ Some life → test life ≡ true → Contains more a)
    → AreAmong test (put lives a w) more
among-put test lives numbers more a w old keeps here = record {
  each = λ k life is passes. elim (cases_eq k a) [
    | inl same ↦ subst (Contains more) (sym same) (here life (sym (put-at lives a k w same) ∙ is) passes)
    | inr apart ↦ keeps.each k apart (old.each k life (sym (put-other lives a k w apart) ∙ is) passes)
  ];
}

-- the locks of a life after a change
some-change : (f : Lock → Lock) (locks : List Lock) → some_lock (change_first f locks) ≡ some_lock locks
some-change f [] = refl
some-change f (lock ∷ locks) = refl

some-drop : (locks : List Lock) → some_lock (drop 1 locks) ≡ true → some_lock locks ≡ true
some-drop [] is = is
some-drop (lock ∷ locks) is = refl

some-append : (xs ys : List Lock) → some_lock (xs ++ map inherited ys) ≡ true → (some_lock xs ≡ true) ⊎ (some_lock ys ≡ true)
some-append [] [] is = inl is
some-append [] (y ∷ ys) is = inr refl
some-append (x ∷ xs) ys is = inl refl

-- a lock is there before, or the change adds it
pub lock-before : (change : Change) (life : Life) → has_lock (changed_by change life) ≡ true → (has_lock life ≡ true) ⊎ (adds_lock change ≡ true)
lock-before (Ready t) life is = inl (sym (some-change readied life.locks) ∙ is)
lock-before (Run t) life is = inl (sym (some-change (ran t) life.locks) ∙ is)
lock-before (Take lock) life is = inr refl
lock-before Free life is = inl (some-drop life.locks is)
lock-before _ life is = inl is

-- a life that is in was in before, or it enters
pub inside-before : (change : Change) (life : Life) → is_inside (changed_by change life) ≡ true → (is_inside life ≡ true) ⊎ (enters change ≡ true)
inside-before (Step x) life is = inr is
inside-before (Arise b) life is = inr is
inside-before _ life is = inl is

-- those with a lock after a change, and those that are in
pub holders-changed : (lives : ℕ → Option Life) (change : Change) (a : ActNo) (lost : Lost) (h0 h1 h2 : List ℕ)
    → AreAmong has_lock lives h0 → KeepsAll h0 h1 → IsThere (adds_lock change) a.0 h1
    → IsLost lost (with_life (changed_by change) (Some a) lives a.0) → KeepsOthers a.0 h1 h2 → KeepsUnless lost.lock a.0 h1 h2
    → AreAmong has_lock (with_life (changed_by change) (Some a) lives) h2
holders-changed lives change a lost h0 h1 h2 old grown there is others kept =
    let w = option_map (changed_by change) (lives a.0) in
    let more : AreAmong has_lock lives h1 = among-more has_lock lives h0 h1 old grown in
    among-put has_lock lives h1 h2 a.0 w more others (λ life new passes.
    let at : (x : Life) × (lives a.0 ≡ Some x) × (changed_by change x ≡ life) = option_map_some (changed_by change) (lives a.0) life new in
    kept.each (is.lock life (put-same lives a.0 w ∙ new) passes) (elim (lock-before change at.0 (ap has_lock at.2 ∙ passes)) [
      | inl before ↦ more.each a.0 at.0 at.1 before
      | inr adds ↦ there.each adds
    ]))

pub insiders-changed : (lives : ℕ → Option Life) (change : Change) (a : ActNo) (lost : Lost) (i0 i1 i2 : List ℕ)
    → AreAmong is_inside lives i0 → KeepsAll i0 i1 → IsThere (enters change) a.0 i1
    → IsLost lost (with_life (changed_by change) (Some a) lives a.0) → KeepsOthers a.0 i1 i2 → KeepsUnless lost.inside a.0 i1 i2
    → AreAmong is_inside (with_life (changed_by change) (Some a) lives) i2
insiders-changed lives change a lost i0 i1 i2 old grown there is others kept =
    let w = option_map (changed_by change) (lives a.0) in
    let more : AreAmong is_inside lives i1 = among-more is_inside lives i0 i1 old grown in
    among-put is_inside lives i1 i2 a.0 w more others (λ life new passes.
    let at : (x : Life) × (lives a.0 ≡ Some x) × (changed_by change x ≡ life) = option_map_some (changed_by change) (lives a.0) life new in
    kept.each (is.inside life (put-same lives a.0 w ∙ new) passes) (elim (inside-before change at.0 (ap is_inside at.2 ∙ passes)) [
      | inl before ↦ more.each a.0 at.0 at.1 before
      | inr here ↦ there.each here
    ]))

-- where a life loses what it has to that of the last up
keeps-self : (n : ℕ) (numbers : List ℕ) → KeepsOthers n numbers numbers
keeps-self n numbers = record { each = λ k apart there. there }

bereft-among : (test : Life → Bool) (a : ActNo) (lives : ℕ → Option Life) (numbers more : List ℕ)
    → ((life : Life) → test (bereft life) ≡ true → ⊥)
    → AreAmong test lives numbers → KeepsOthers a.0 numbers more → AreAmong test (with_life bereft (Some a) lives) more
bereft-among test a lives numbers more out old others =
    among-put test lives numbers more a.0 (option_map bereft (lives a.0)) old others
    (λ life new passes. let at : (x : Life) × (lives a.0 ≡ Some x) × (bereft x ≡ life) = option_map_some bereft (lives a.0) life new in
    absurd (out at.0 (ap test at.2 ∙ passes)))

handed-among : (test : Life → Bool) (upped : Option ActNo) (a : ActNo) (from : Life) (lives : ℕ → Option Life) (numbers more : List ℕ)
    → ((life : Life) → test (bereft life) ≡ true → ⊥)
    → AreAmong test lives numbers → KeepsOthers a.0 numbers more
    → ((life : Life) (to : ActNo) → upped ≡ Some to → test (inherits from life) ≡ true → (test life ≡ true) ⊎ Contains more to.0)
    → AreAmong test (handed upped a (Some from) lives) more
handed-among test None a from lives numbers more out old others gets = bereft-among test a lives numbers more out old others
handed-among test (Some to) a from lives numbers more out old others gets =
    let left = with_life bereft (Some a) lives in
    let first : AreAmong test left more = bereft-among test a lives numbers more out old others in
    among-put test left more more to.0 (option_map (inherits from) (left to.0)) first (keeps-self to.0 more)
    (λ life new passes.
    let at : (x : Life) × (left to.0 ≡ Some x) × (inherits from x ≡ life) = option_map_some (inherits from) (left to.0) life new in
    elim (gets at.0 to refl (ap test at.2 ∙ passes)) [
      | inl before ↦ first.each to.0 at.0 at.1 before
      | inr there ↦ there
    ])

pub holders-handed : (upped : Option ActNo) (a : ActNo) (from : Life) (lives : ℕ → Option Life) (h0 h1 h2 : List ℕ)
    → AreAmong has_lock lives h0 → KeepsAll h0 h1 → IsAddedTo upped (has_lock from) h1 → KeepsOthers a.0 h1 h2 → KeepsUpped upped h1 h2
    → AreAmong has_lock (handed upped a (Some from) lives) h2
holders-handed upped a from lives h0 h1 h2 old grown added others kept =
    handed-among has_lock upped a from lives h1 h2 (λ life passes. cc) (among-more has_lock lives h0 h1 old grown) others
    (λ life to up passes. elim (some-append life.locks from.locks passes) [
      | inl before ↦ inl before
      | inr has ↦ inr (kept.each to up (added.each to up has))
    ])

pub insiders-handed : (upped : Option ActNo) (a : ActNo) (from : Life) (lives : ℕ → Option Life) (i0 i1 : List ℕ)
    → AreAmong is_inside lives i0 → KeepsOthers a.0 i0 i1 → AreAmong is_inside (handed upped a (Some from) lives) i1
insiders-handed upped a from lives i0 i1 old others =
    handed-among is_inside upped a from lives i0 i1 (λ life passes. cc) old others (λ life to up passes. inl passes)

-- where a life begins that has fails lock and is not in, or one ends
pub among-begun : (test : Life → Bool) (lives : ℕ → Option Life) (numbers more : List ℕ) (a : ℕ) (life : Life)
    → AreAmong test lives numbers → KeepsOthers a numbers more → test life ≡ false → AreAmong test (put lives a (Some life)) more
among-begun test lives numbers more a life old others fails =
    among-put test lives numbers more a (Some life) old others
    (λ other is passes. let same = same_Some life other is in let bad : false ≡ true = sym fails ∙ ap test same ∙ passes in cc)

pub among-ended : (test : Life → Bool) (lives : ℕ → Option Life) (numbers more : List ℕ) (a : ℕ)
    → AreAmong test lives numbers → KeepsOthers a numbers more → AreAmong test (put lives a None) more
among-ended test lives numbers more a old others =
    among-put test lives numbers more a None old others (λ other is passes. absurd (none-some other is))

-- where a life's hand alone changes
pub among-roused : (test : Life → Bool) (lives : ℕ → Option Life) (threads : List ThreadNo) (a : ActNo) (numbers : List ℕ)
    → ((life : Life) → test (with_hand threads life) ≡ test life)
    → AreAmong test lives numbers → AreAmong test (with_life (with_hand threads) (Some a) lives) numbers
among-roused test lives threads a numbers same old =
    among-put test lives numbers numbers a.0 (option_map (with_hand threads) (lives a.0)) old (keeps-self a.0 numbers) (λ life new passes.
    let at : (x : Life) × (lives a.0 ≡ Some x) × (with_hand threads x ≡ life) = option_map_some (with_hand threads) (lives a.0) life new in
    old.each a.0 at.0 at.1 (sym (same at.0) ∙ ap test at.2 ∙ passes))

-- after a call that may have failed
pub among-after : {T E : Type 0} (result : Result T E) (test : Life → Bool) (numbers : List ℕ) (old changed new : ℕ → Option Life)
    → OnOk result (new ≡ changed) → OnErr result (new ≡ old) → AreAmong test old numbers → AreAmong test changed numbers → AreAmong test new numbers
among-after (Ok x) test numbers old changed new ok err before after = subst (λ lives. AreAmong test lives numbers) (sym ok) after
among-after (Err e) test numbers old changed new ok err before after = subst (λ lives. AreAmong test lives numbers) (sym err) before

-- where there is no life, none is missing
pub among-none : (test : Life → Bool) (lives : ℕ → Option Life) (numbers : List ℕ) → lives ≡ (λ a. None) → AreAmong test lives numbers
among-none test lives numbers none = record {
  each = λ a life is holds. absurd (none-some life (sym (ap (λ f. f a) none) ∙ is));
}

-- no thread joins a hand
hand-kept : (here : Option Life) → option_map (with_hand []) here ≡ here
hand-kept None = refl
hand-kept (Some life) = ap (λ (hand : List ThreadNo). Some (record life { hand = hand })) (append-nil life.hand)

pub roused-by-none : (lives : ℕ → Option Life) (a : ActNo) (threads : List ThreadNo) → (length threads == 0) ≡ true
    → lives ≡ with_life (with_hand threads) (Some a) lives
roused-by-none lives a [] none = sym (ap (put lives a.0) (hand-kept (lives a.0)) ∙ put-self lives a.0)
roused-by-none lives a (t ∷ ts) none = absurd (grind (arith, nat_tests))
