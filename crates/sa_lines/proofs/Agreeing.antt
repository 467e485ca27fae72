-- Each change keeps the agreement of a processor's words with what the keeper and the poller know.
use Rattle.std.proofs.Common.{◌≡◌, ◌≢◌, ℕ, ◌+◌, ◌<◌, ◌≤◌, ◌==◌, Bool, true, false, List, [], ◌∷◌, ◌++◌, length, slice_index, slice_index_or, slice_set, MatchBool, inl, inr, refl, sym, ◌∙◌, ap, subst, arith, Some, None}
use Rattle.std.proofs.lemmas.Bool.Decides.{nat_tests}
use Rattle.std.proofs.lemmas.List.{get_or-set_same, get_or-set_other}
use Rattle.std.proofs.lemmas.List.Elements.{Contains-append_left, Contains-push, All-push}
use Rattle.sa_base.specs.declared.limits.TheConstants.{MAX_EVENTS}
use Rattle.sa_lines.specs.declared.credit.Account.{Account}
use Rattle.sa_lines.specs.declared.view.Lane.{Lane}
use Rattle.sa_lines.specs.declared.view.Polled.{Polled}
use Rattle.sa_lines.specs.Credit.{applied}
use Rattle.sa_lines.specs.Words.{line_word, credit_word, IsLineOf, Agree, AgreeAt}
use Rattle.sa_lines.specs.Steps.{raised, lowered, granted, cleared, polled, taken, joined_with}

-- a later raise makes no value wrong
line_more : (events : List ℕ) (e n : ℕ) → IsLineOf events n → IsLineOf (events ++ e ∷ []) n
line_more events e n h = elim h [ inl z ↦ inl z | inr w ↦ inr (w.0, Contains-append_left events (e ∷ []) w.0 w.1, w.2) ]

pub agree_raised : (line credit e : ℕ) (l : Lane) (q : Polled) → Agree line credit l q → Agree (e + 1) credit (raised e l) q
agree_raised line credit e l q h = record {
  stored = refl;
  raised = inr (e, Contains-push l.raised e, refl);
  polled = λ k d lt. line_more l.raised e (slice_index_or q.read k d) (h.polled k d lt);
  balanced = h.balanced;
  counted = h.counted;
}

pub agree_lowered : (line credit : ℕ) (l : Lane) (q : Polled) → Agree line credit l q → Agree 0 credit (lowered l) q
agree_lowered line credit l q h = record {
  stored = refl;
  raised = inl refl;
  polled = h.polled;
  balanced = h.balanced;
  counted = h.counted;
}

pub agree_polled : (line credit : ℕ) (l : Lane) (q : Polled) → Agree line credit l q → Agree line credit l (polled line q)
agree_polled line credit l q h = record {
  stored = h.stored;
  raised = h.raised;
  polled = All-push (IsLineOf l.raised) q.read line h.polled (subst (IsLineOf l.raised) (sym h.stored) h.raised);
  balanced = h.balanced;
  counted = h.counted;
}

-- with nothing handed over the accounts are the same
pub same_account : (b : Bool) (credit : ℕ) (l : Lane) (a : Account) → l.handed ≡ None
    → MatchBool b (l.account ≡ a) ((l.handed ≡ Some credit) × (l.account ≡ applied credit a)) → l.account ≡ a
same_account true credit l a none_handed m = m
same_account false credit l a none_handed m = absurd (let z : None ≡ Some credit = sym none_handed ∙ m.0 in cc)

pub agree_granted : (line credit n : ℕ) (l : Lane) (q : Polled) → 0 < n → l.handed ≡ None → (applied n l.account).count ≤ MAX_EVENTS
    → Agree line credit l q → Agree line n (granted n l) q
agree_granted line credit n l q pos none_handed room h =
    let same = same_account (credit == 0) credit l q.account none_handed h.balanced in
    let test : (n == 0) ≡ false = grind (arith, nat_tests, pos) in record {
      stored = h.stored;
      raised = h.raised;
      polled = h.polled;
      balanced = rw test (refl, ap (applied n) same);
      counted = room;
    }

-- a number in the credit word was applied to the keeper's account
was_applied : (b : Bool) (n : ℕ) (l : Lane) (a : Account) → (n == 0) ≡ b → 0 < n
    → MatchBool b (l.account ≡ a) ((l.handed ≡ Some n) × (l.account ≡ applied n a)) → l.account ≡ applied n a
was_applied true n l a is pos m = absurd (let test : (n == 0) ≡ false = grind (arith, nat_tests, pos) in cc)
was_applied false n l a is pos m = m.1

pub agree_taken : (line n : ℕ) (l : Lane) (q : Polled) → 0 < n → Agree line n l q → Agree line 0 l (taken n q)
agree_taken line n l q pos h = record {
  stored = h.stored;
  raised = h.raised;
  polled = h.polled;
  balanced = was_applied (n == 0) n l q.account refl pos h.balanced;
  counted = h.counted;
}

pub room_taken : (line n : ℕ) (l : Lane) (q : Polled) → 0 < n → Agree line n l q → (applied n q.account).count ≤ MAX_EVENTS
room_taken line n l q pos h = subst (λ (a : Account). a.count ≤ MAX_EVENTS) (was_applied (n == 0) n l q.account refl pos h.balanced) h.counted

pub agree_cleared : (line credit : ℕ) (l : Lane) (q : Polled) → (credit == 0) ≡ true → Agree line credit l q → Agree line credit (cleared l) q
agree_cleared line credit l q is h = record {
  stored = h.stored;
  raised = h.raised;
  polled = h.polled;
  balanced = let f = h.balanced in rw is (rw is at f);
  counted = h.counted;
}

pub agree_joined : (line credit : ℕ) (own : Polled) (l : Lane) (q : Polled) → Agree line credit l q → Agree line credit (joined_with own l) q
agree_joined line credit own l q h = record {
  stored = h.stored;
  raised = h.raised;
  polled = h.polled;
  balanced = h.balanced;
  counted = h.counted;
}

module _ (words : List ℕ) (p x : ℕ) (l : Lane) (q : Polled) where
  -- a write to another word
  pub agree_away : (place : ℕ) → line_word p ≢ place → credit_word p ≢ place → AgreeAt words p l q → AgreeAt (slice_set words place x) p l q
  agree_away place nl nc h =
      let line = sym (get_or-set_other words place (line_word p) x 0 nl) in
      let credit = sym (get_or-set_other words place (credit_word p) x 0 nc) in
      subst (λ n. Agree n (slice_index (slice_set words place x) (credit_word p)) l q) line
      (subst (λ n. Agree (slice_index words (line_word p)) n l q) credit h)

  -- a write to the line word
  pub agree_line : credit_word p < length words → Agree x (slice_index words (credit_word p)) l q → AgreeAt (slice_set words (line_word p) x) p l q
  agree_line lt h =
      let line = sym (get_or-set_same words (line_word p) x 0 (omega arith)) in
      let credit = sym (get_or-set_other words (line_word p) (credit_word p) x 0 (λ e. omega arith)) in
      subst (λ n. Agree n (slice_index (slice_set words (line_word p) x) (credit_word p)) l q) line
      (subst (λ n. Agree x n l q) credit h)

  -- a write to the credit word
  pub agree_credit : credit_word p < length words → Agree (slice_index words (line_word p)) x l q → AgreeAt (slice_set words (credit_word p) x) p l q
  agree_credit lt h =
      let line = sym (get_or-set_other words (credit_word p) (line_word p) x 0 (λ e. omega arith)) in
      let credit = sym (get_or-set_same words (credit_word p) x 0 lt) in
      subst (λ n. Agree n (slice_index (slice_set words (credit_word p) x) (credit_word p)) l q) line
      (subst (λ n. Agree (slice_index words (line_word p)) n l q) credit h)
