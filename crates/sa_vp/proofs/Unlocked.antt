-- A list is locked, changed and unlocked: no lock is held after it.
use Rattle.std.proofs.Common.{◌≡◌, ℕ, ◌<◌, true, false, List, ◌∷◌, length, set, replicate, Option, Some, None, refl, sym, ap, subst, ◌∙◌}
use Rattle.std.specs.Prelude.{IfSome}
use Rattle.std.specs.Option.{option_map}
use Rattle.std.proofs.lemmas.List.{length-set, set-get_or, set-set}
use Rattle.sa_base.specs.declared.number.ProcNo.{ProcNo}
use Rattle.sa_links.specs.Lists.{Lists, list_at, with_list}
use Rattle.sa_lists.specs.ReadyView.{ReadyView, list_of, with_lock, pushed, inserted, processor, sought}
use Rattle.sa_lists.specs.ReadyView as ready
use Rattle.sa_lists.proofs.Changes.{inserted_front}
use Rattle.sa_lists.proofs.Rounds.{sought-first}
use Rattle.sa_vp_model.specs.Turn.{is_some_list}
use Rattle.sa_vp.specs.Ready.{IsUnlocked}
use Rattle.sa_vp.proofs.Rounds.{open_is, unlocked}

-- what a caller sees of ready lists
abbrev pub seen : ReadyView → Lists
seen r = record { nodes = r.threads; lists = r.lists }

module _ (r : ReadyView) (free : IsUnlocked r) (l : ℕ) where
  -- with another list under the lock
  abbrev pub changed : List ℕ → ReadyView
  changed xs = with_lock (ready.with_list (with_lock r l true) l xs) l false

  back : set (set r.locked l true) l false ≡ r.locked
  back = set-set r.locked l true false ∙ ap (set r.locked l) (sym (unlocked r free l)) ∙ set-get_or r.locked l false

  pub unlocked-with : (xs : List ℕ) → IsUnlocked (changed xs)
  unlocked-with xs = record {
    locked = back ∙ free.locked ∙ ap (λ n. replicate n false) (sym (length-set r.lists l xs));
    ranks = free.ranks;
  }

  pub front : (t : ℕ) → inserted r.ranks t (list_of r l) ≡ t ∷ list_of r l
  front t = ap (λ ranks. inserted ranks t (list_of r l)) free.ranks ∙ inserted_front t (list_of r l)

  pub pushed-unlocked : (t : ℕ) (locked made new : ReadyView) → locked ≡ with_lock r l true → made ≡ pushed locked l t → new ≡ with_lock made l false
      → IsUnlocked new
  pushed-unlocked t locked made new first second third =
      subst IsUnlocked (sym (third ∙ ap (λ x. with_lock x l false) (second ∙ ap (λ x. pushed x l t) first))) (unlocked-with (inserted r.ranks t (list_of r l)))

  pub pushed-seen : (t : ℕ) (locked made new : ReadyView) (old : Lists) → seen r ≡ old → locked ≡ with_lock r l true → made ≡ pushed locked l t
      → new ≡ with_lock made l false
      → seen new ≡ with_list old l (t ∷ list_at old.lists l)
  pushed-seen t locked made new old is first second third =
      ap seen (third ∙ ap (λ x. with_lock x l false) (second ∙ ap (λ x. pushed x l t) first))
      ∙ ap (λ xs. with_list (seen r) l xs) (front t) ∙ ap (λ (c : Lists). with_list c l (t ∷ list_at c.lists l)) is

  pub taken-unlocked : (xs : List ℕ) (locked made new : ReadyView) → locked ≡ with_lock r l true → made ≡ ready.with_list locked l xs
      → new ≡ with_lock made l false → IsUnlocked new
  taken-unlocked xs locked made new first second third =
      subst IsUnlocked (sym (third ∙ ap (λ x. with_lock x l false) (second ∙ ap (λ x. ready.with_list x l xs) first))) (unlocked-with xs)

-- who is found is there, and has a thread
module _ (r : ReadyView) (free : IsUnlocked r) (old : Lists) (is : seen r ≡ old) (l : ProcNo) (within : l.0 < length old.lists) where
  here : l.0 < length r.lists
  here = subst (λ (c : Lists). l.0 < length c.lists) (sym is) within

  pub found-inside : (o : Option ProcNo) → o ≡ option_map processor (sought r l.0) → IfSome o (λ k. k.0 < length old.lists)
  found-inside o e = subst (λ q. IfSome q (λ k. k.0 < length old.lists)) (sym e) (go (sought r l.0) refl) where
    go : (q : Option ℕ) → sought r l.0 ≡ q → IfSome (option_map processor q) (λ k. k.0 < length old.lists)
    go None none = tt
    go (Some k) some = subst (λ (c : Lists). k < length c.lists) is (sought-first r l.0 k here some).inside

  pub found-some : (o : Option ProcNo) → o ≡ option_map processor (sought r l.0) → IfSome o (λ k. is_some_list (list_at old.lists k.0) ≡ true)
  found-some o e = subst (λ q. IfSome q (λ k. is_some_list (list_at old.lists k.0) ≡ true)) (sym e) (go (sought r l.0) refl) where
    go : (q : Option ℕ) → sought r l.0 ≡ q → IfSome (option_map processor q) (λ k. is_some_list (list_at old.lists k.0) ≡ true)
    go None none = tt
    go (Some k) some = ap (λ (c : Lists). is_some_list (list_at c.lists k)) (sym is) ∙ sym (open_is r free k) ∙ (sought-first r l.0 k here some).here
