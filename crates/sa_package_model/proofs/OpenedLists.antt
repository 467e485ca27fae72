-- The ready lists while a space is opened: thread 0 is made, and the lock of list 0 is taken.
use Rattle.std.proofs.Common.{◌≡◌, ℕ, ◌<◌, ◌≤◌, true, false, List, [], length, replicate, Some, ap, ◌∙◌, subst, sym, refl, arith}
use Rattle.std.proofs.lemmas.List.{length-replicate, length-set, get_or-set_same}
use Rattle.sa_base.specs.declared.limits.TheConstants.{MAX_THREADS}
use Rattle.sa_links.proofs.Counting.{count-replicate}
use Rattle.sa_lists.specs.declared.ranks.Ranks.{Ranks}
use Rattle.sa_lists.specs.ReadyView.{ReadyView, no_threads, with_made, with_lock, pushed, IsLocked, IsUnlisted}

-- the ready lists after each step
abbrev pub one_made : ℕ → Ranks → ReadyView
one_made n ranks = with_made (no_threads n ranks MAX_THREADS) 0 (Some 0)

abbrev pub one_locked : ℕ → Ranks → ReadyView
one_locked n ranks = with_lock (one_made n ranks) 0 true

abbrev pub one_pushed : ℕ → Ranks → ReadyView
one_pushed n ranks = pushed (one_locked n ranks) 0 0

module _ (n : ℕ) (ranks : Ranks) (some : 1 ≤ n) where
  count : 0 < length (no_threads n ranks MAX_THREADS).lists
  count = let none : List ℕ = [] in let size = length-replicate n none in omega arith

  pub made-list : (r : ReadyView) → r ≡ one_made n ranks → 0 < length r.lists
  made-list r is = subst (λ (x : ReadyView). 0 < length x.lists) (sym is) count

  pub locked-list : (r : ReadyView) → r ≡ one_locked n ranks → 0 < length r.lists
  locked-list r is = subst (λ (x : ReadyView). 0 < length x.lists) (sym is) count

  pub locked-threads : (r : ReadyView) → r ≡ one_locked n ranks → 0 < r.threads
  locked-threads r is = subst (λ (x : ReadyView). 0 < x.threads) (sym is) (omega arith)

  pub locked-held : (r : ReadyView) → r ≡ one_locked n ranks → IsLocked r 0
  locked-held r is =
      let size = length-replicate n false in
      subst (λ (x : ReadyView). IsLocked x 0) (sym is) (get_or-set_same (replicate n false) 0 true false (omega arith))

  pub locked-unlisted : (r : ReadyView) → r ≡ one_locked n ranks → IsUnlisted r 0
  locked-unlisted r is = subst (λ (x : ReadyView). IsUnlisted x 0) (sym is) (count-replicate 0 n)

  pub pushed-list : (r : ReadyView) → r ≡ one_pushed n ranks → 0 < length r.lists
  pushed-list r is =
      let none : List ℕ = [] in
      let size = ap (λ (x : ReadyView). length x.lists) is ∙ length-set (replicate n none) 0 _ ∙ length-replicate n none in omega arith

  pub pushed-held : (r : ReadyView) → r ≡ one_pushed n ranks → IsLocked r 0
  pushed-held r is = subst (λ (x : ReadyView). IsLocked x 0) (sym is) (locked-held (one_locked n ranks) refl)
